-- The premises of the laws, computed on small graphs.
use Rattle.std.proofs.Common.{ℕ, ◌≡◌, ◌+◌, ◌*◌, ◌%◌, ◌≤◌, ◌<◌, ◌==◌, inl, inr, Bool, true, false, List, [], ◌∷◌, length, All, Some, leb, get_or, refl, sym, ◌∙◌, arith}
use Rattle.std.specs.List.{list_all, concat}
use Rattle.std.proofs.lemmas.Bool.{false≢true, true≢false, leb-true}
use Rattle.std.proofs.lemmas.List.Elements.{All-nil, All-weaker, All-from_recursion}
use Rattle.std.proofs.lemmas.List.Sums.{AllPass-from_list_all}
use Rattle.fb_graph.specs.Parity.{is_odd_count, is_in}
use Rattle.fb_graph.specs.Problem.{Problem, Flips, edge_at, no_edge, touches, crosses}
use Rattle.fb_graph.specs.Certificate.{AreDistinct, IsOddCut, IsPacking, load_of}
use Rattle.fb_graph.specs.Laws.{HasNoOddClosed}
use Rattle.fb_graph.specs.Dual.{Node, IsHeld, AreApart, AreUnderOne, all_cuts, cover_of, height_of, is_outer, no_node}
use Rattle.fb_graph.specs.declared.parts.Cut.{Cut}
use Rattle.fb_graph.proofs.ParitySums.{odd_agree, odd_none}
use Rattle.fb_graph.proofs.Sets.{is_in-All, rising-one}
use Rattle.fb_graph.proofs.Duality.{odd-crosses}
use Rattle.fb_graph.specs.Steps.{Roles, AreExclusive, gains, losses, MayStep, stepped_nodes}
use Rattle.fb_laws.specs.Lengths.{IsGreatestStep}
use Rattle.fb_graph.specs.Covers.{AreRoles, PassOuterOnly, HasNoObstacle, IsClear}
use Rattle.fb_graph.specs.Signed.{shifted_problem}
use Rattle.fb_graph.specs.Ends.{ends_in}
use Rattle.fb_laws.specs.Paths.{IsWhole}
use Rattle.fb_laws.specs.Blossoms.{IsInside}
use Rattle.fb_graph.specs.Singles.{AreSingles}
use Rattle.fb_witnesses.specs.InternalSamples.{cut, link, line, triangle, line_singles, line_nodes, line_roles, grown_nodes, grown_roles, corner_singles, corner_nodes, corner_roles}
use Rattle.fb_witnesses.specs.Witnesses.{StepWitness, DualWitness, CoverWitness, SignedWitness, LinkWitness, PathWitness, BlossomWitness, line_path}
use Rattle.fb_graph.proofs.SingleStates.{singles_are_dual}
use Rattle.fb_witnesses.proofs.ByCases.{fits_by_cases, below_by_cases}

-- a problem with a correction has no odd closed set, since no chosen edge crosses one
pub no_odd_closed_by : (p : Problem) (chosen : List ℕ) → All (λ k. k < length p.edges) chosen → Flips p chosen → HasNoOddClosed p
no_odd_closed_by p chosen within flips set closed =
    sym (odd-crosses p chosen set flips closed.distinct closed.real)
    ∙ (odd_agree (λ k. crosses set (edge_at p.edges k)) (λ k. false) chosen
    (λ i d less. closed.uncrossed (get_or chosen i d) no_edge (within i d less))
    ∙ odd_none chosen)

pub odd_cut : (p : Problem) (c : Cut) → AreDistinct c.vertices → list_all p.is_real c.vertices ≡ true
    → is_odd_count p.is_defect c.vertices ≡ true → IsOddCut p c
odd_cut p c distinct real odd =
    record { distinct = distinct; real = AllPass-from_list_all p.is_real c.vertices real; odd = odd }

pub may_by_cases : (p : Problem) (roles : Roles) (nodes : List Node) (k : ℕ)
    → list_all (λ e. leb (load_of (all_cuts nodes) e + k * gains roles nodes e) (e.weight + k * losses roles nodes e)) p.edges ≡ true
    → All (λ n. roles.is_minus n.name ≡ true → k ≤ n.top.value) nodes → MayStep p roles nodes k
may_by_cases p roles nodes k right tops = record {
  edges =
      All-weaker (λ e. leb (load_of (all_cuts nodes) e + k * gains roles nodes e) (e.weight + k * losses roles nodes e) ≡ true)
      (λ e. load_of (all_cuts nodes) e + k * gains roles nodes e ≤ e.weight + k * losses roles nodes e)
      (λ e. leb-true (load_of (all_cuts nodes) e + k * gains roles nodes e) (e.weight + k * losses roles nodes e)) p.edges
      (AllPass-from_list_all
      (λ e. leb (load_of (all_cuts nodes) e + k * gains roles nodes e) (e.weight + k * losses roles nodes e)) p.edges right);
  tops = tops;
}

-- three members, one after another
pub of_three : (P : ℕ → Type 0) (a b c : ℕ) → P a → P b → P c → (v : ℕ) → is_in (a ∷ b ∷ c ∷ []) v ≡ true → P v
of_three P a b c first second third = is_in-All P (a ∷ b ∷ c ∷ []) (All-from_recursion P (a ∷ b ∷ c ∷ []) (first, (second, (third, tt))))

pub of_one : (P : ℕ → Type 0) (a : ℕ) → P a → (v : ℕ) → is_in (a ∷ []) v ≡ true → P v
of_one P a first = is_in-All P (a ∷ []) (All-from_recursion P (a ∷ []) (first, tt))

line_flips : Flips (line (1 ∷ 2 ∷ 3 ∷ [])) (0 ∷ 2 ∷ [])
line_flips =
    of_three (λ v. is_odd_count (λ k. touches v (edge_at (line []).edges k)) (0 ∷ 2 ∷ []) ≡ is_in (1 ∷ 2 ∷ 3 ∷ []) v) 1 2 3 refl refl refl

line_exclusive : AreExclusive line_roles
line_exclusive name plus =
    is_in-All (λ n. is_in (1 ∷ []) n ≡ false) (0 ∷ 2 ∷ [])
    (All-from_recursion (λ n. is_in (1 ∷ []) n ≡ false) (0 ∷ 2 ∷ []) (refl, (refl, tt))) name plus

line_packing : IsPacking (line (1 ∷ 2 ∷ 3 ∷ [])) (all_cuts line_nodes)
line_packing = record {
  odd =
      All-from_recursion (IsOddCut (line (1 ∷ 2 ∷ 3 ∷ []))) (all_cuts line_nodes)
      (odd_cut _ _ (refl, tt) refl refl, (odd_cut _ _ (refl, tt) refl refl, (odd_cut _ _ (refl, tt) refl refl, tt)));
  fits = fits_by_cases (line (1 ∷ 2 ∷ 3 ∷ [])) (all_cuts line_nodes) refl;
}

line_allows : (k : ℕ) → k ≤ 2 → All (λ n. line_roles.is_minus n.name ≡ true → k ≤ n.top.value) line_nodes
line_allows k low =
    All-from_recursion (λ n. line_roles.is_minus n.name ≡ true → k ≤ n.top.value) line_nodes
    (λ e. absurd (false≢true e), (λ e. low, (λ e. absurd (false≢true e), tt)))

line_greatest : IsGreatestStep (line (1 ∷ 2 ∷ 3 ∷ [])) line_roles line_nodes 2
line_greatest = record {
  allowed = may_by_cases (line (1 ∷ 2 ∷ 3 ∷ [])) line_roles line_nodes 2 refl (line_allows 2 (omega arith));
  greatest = λ may. let h : 3 ≤ 2 = may.tops 1 no_node (omega arith) refl in absurd (omega arith);
}

pub step_witness : StepWitness
step_witness = (
  line_exclusive,
  line_packing,
  refl,
  refl,
  may_by_cases (line (1 ∷ 2 ∷ 3 ∷ [])) line_roles line_nodes 1 refl (line_allows 1 (omega arith)),
  may_by_cases (line (1 ∷ 2 ∷ 3 ∷ [])) line_roles (stepped_nodes line_roles 1 line_nodes) 1 refl
      (All-from_recursion (λ n. line_roles.is_minus n.name ≡ true → 1 ≤ n.top.value) (stepped_nodes line_roles 1 line_nodes)
      (λ e. absurd (false≢true e), (λ e. omega arith, (λ e. absurd (false≢true e), tt)))),
  line_greatest,
  (0, omega arith, refl),
  no_odd_closed_by (line (1 ∷ 2 ∷ 3 ∷ [])) (0 ∷ 2 ∷ []) (below_by_cases 4 (0 ∷ 2 ∷ []) refl) line_flips,
)

line_are_singles : AreSingles (line (1 ∷ 2 ∷ 3 ∷ [])) line_singles
line_are_singles = record {
  names = (refl, (refl, (refl, tt)));
  vertices = (refl, (refl, (refl, tt)));
  real = All-from_recursion (λ s. is_in (1 ∷ 2 ∷ 3 ∷ []) s.vertex ≡ true) line_singles (refl, (refl, (refl, tt)));
  packing = line_packing;
  held =
      All-from_recursion (IsHeld (line (1 ∷ 2 ∷ 3 ∷ []))) (all_cuts line_nodes)
      (inl refl, (inr (1, omega arith, refl), (inl refl, tt)));
  total = omega arith;
}

pub corners_are_singles : AreSingles triangle corner_singles
corners_are_singles = record {
  names = (refl, (refl, (refl, tt)));
  vertices = (refl, (refl, (refl, tt)));
  real = All-from_recursion (λ s. is_in (0 ∷ 1 ∷ 2 ∷ []) s.vertex ≡ true) corner_singles (refl, (refl, (refl, tt)));
  packing = record {
    odd =
        All-from_recursion (IsOddCut triangle) (all_cuts corner_nodes)
        (odd_cut _ _ (refl, tt) refl refl, (odd_cut _ _ (refl, tt) refl refl, (odd_cut _ _ (refl, tt) refl refl, tt)));
    fits = fits_by_cases triangle (all_cuts corner_nodes) refl;
  };
  held =
      All-from_recursion (IsHeld triangle) (all_cuts corner_nodes)
      (inr (0, omega arith, refl), (inr (0, omega arith, refl), (inr (1, omega arith, refl), tt)));
  total = omega arith;
}

pub outer_by_cases : (test : ℕ → Bool) (nodes : List Node)
    → All (λ n. is_outer nodes n.name ≡ true) nodes → PassOuterOnly test nodes
outer_by_cases test nodes outer i d less passing = outer i d less

line_are_roles : AreRoles line_roles line_nodes
line_are_roles = record {
  exclusive = line_exclusive;
  plus = outer_by_cases line_roles.is_plus line_nodes outer;
  minus = outer_by_cases line_roles.is_minus line_nodes outer;
}
  where
    outer : All (λ n. is_outer line_nodes n.name ≡ true) line_nodes
    outer = All-from_recursion (λ n. is_outer line_nodes n.name ≡ true) line_nodes (refl, (refl, (refl, tt)))

line_clear : HasNoObstacle (line (1 ∷ 2 ∷ 3 ∷ [])) line_roles line_nodes
line_clear = record {
  edges =
      All-from_recursion (λ e. ¬ AreUnderOne line_nodes e.first e.second → IsClear line_roles line_nodes e) (line []).edges (
        λ h. record { first = λ plus minus. omega arith; second = λ plus minus. omega arith },
        (
          λ h. record { first = λ plus minus. omega arith; second = λ plus minus. omega arith },
          (
            λ h. record { first = λ plus minus. absurd (false≢true plus); second = λ plus minus. absurd (true≢false minus) },
            (λ h. record { first = λ plus minus. omega arith; second = λ plus minus. omega arith }, tt),
          ),
        ),
      );
  layers = line_allows 1 (omega arith);
}

pub dual_witness : DualWitness
dual_witness = (
  line_are_singles,
  singles_are_dual (line (1 ∷ 2 ∷ 3 ∷ [])) line_singles line_are_singles,
  line_are_roles,
  λ d name leaf.
      of_three (λ v. cover_of line_nodes v ≡ Some name → line_roles.is_plus name ≡ true → height_of (all_cuts line_nodes) v % 2 ≡ 0)
      1 2 3 (λ cover plus. refl) (λ cover plus. refl) (λ cover plus. refl) d leaf,
  All-from_recursion (λ e. e.weight % 2 ≡ 0) (line []).edges (refl, (refl, (refl, (refl, tt)))),
  line_clear,
  refl,
  refl,
)

corner_are_roles : AreRoles corner_roles corner_nodes
corner_are_roles = record {
  exclusive = λ name plus. refl;
  plus = outer_by_cases corner_roles.is_plus corner_nodes outer;
  minus = outer_by_cases corner_roles.is_minus corner_nodes outer;
}
  where
    outer : All (λ n. is_outer corner_nodes n.name ≡ true) corner_nodes
    outer = All-from_recursion (λ n. is_outer corner_nodes n.name ≡ true) corner_nodes (refl, (refl, (refl, tt)))

grown_are_roles : AreRoles grown_roles grown_nodes
grown_are_roles = record {
  exclusive = λ name plus. refl;
  plus = outer_by_cases grown_roles.is_plus grown_nodes outer;
  minus = outer_by_cases grown_roles.is_minus grown_nodes outer;
}
  where
    outer : All (λ n. is_outer grown_nodes n.name ≡ true) grown_nodes
    outer = All-from_recursion (λ n. is_outer grown_nodes n.name ≡ true) grown_nodes (refl, tt)

two_corners : ¬ AreUnderOne corner_nodes 0 1
two_corners (name, first, second) = let a : Some 0 ≡ Some name = first in let b : Some 1 ≡ Some name = second in cc

pub cover_witness : CoverWitness
cover_witness = (
  singles_are_dual triangle corner_singles corners_are_singles,
  corner_are_roles,
  λ d name leaf.
      of_three (λ v. cover_of corner_nodes v ≡ Some name → corner_roles.is_plus name ≡ true → height_of (all_cuts corner_nodes) v % 2 ≡ 1)
      0 1 2 (λ cover plus. refl) (λ cover plus. refl) (λ cover plus. refl) d leaf,
  two_corners,
  refl,
  refl,
  λ i j d less below. absurd (omega arith),
  (refl, tt),
  grown_are_roles,
  (0, refl, refl),
  record { leads = (1, omega arith, inr (refl, refl), refl); balance = refl },
  refl,
)

signed_packing : IsPacking (shifted_problem (line (2 ∷ [])) (λ k. k == 1)) (cut 2 (1 ∷ []) ∷ [])
signed_packing = record {
  odd =
      All-from_recursion (IsOddCut (shifted_problem (line (2 ∷ [])) (λ k. k == 1))) (cut 2 (1 ∷ []) ∷ [])
      (odd_cut (shifted_problem (line (2 ∷ [])) (λ k. k == 1)) (cut 2 (1 ∷ [])) (refl, tt) refl refl, tt);
  fits = fits_by_cases (shifted_problem (line (2 ∷ [])) (λ k. k == 1)) (cut 2 (1 ∷ []) ∷ []) refl;
}

two_flips : Flips (line (2 ∷ [])) (0 ∷ 1 ∷ [])
two_flips =
    of_three (λ v. is_odd_count (λ k. touches v (edge_at (line []).edges k)) (0 ∷ 1 ∷ []) ≡ is_in (2 ∷ []) v) 1 2 3 refl refl refl

pub signed_witness : SignedWitness
signed_witness = (
  signed_packing,
  record {
    edge_set = record { rising = rising-one 0; within = below_by_cases 4 (0 ∷ []) refl };
    flips =
        of_three
        (λ v. is_odd_count (λ k. touches v (edge_at (line []).edges k)) (0 ∷ []) ≡ (shifted_problem (line (2 ∷ [])) (λ k. k == 1)).is_defect v)
        1 2 3 refl refl refl;
    weighs = refl;
  },
  refl,
  two_flips,
  (refl, (refl, tt)),
  no_odd_closed_by (line (2 ∷ [])) (0 ∷ 1 ∷ []) (below_by_cases 4 (0 ∷ 1 ∷ []) refl) two_flips,
)

pub link_witness : LinkWitness
link_witness = (
  record { leads = refl; balance = refl },
  record { leads = refl; balance = refl },
  inl (refl, refl),
  refl,
  refl,
  All-from_recursion (λ e. e.weight % 2 ≡ 0) triangle.edges (refl, (refl, (refl, (refl, tt)))),
  record { leads = refl; balance = refl },
  refl,
  refl,
  record { walk = (2, omega arith, inl (refl, refl), refl); tight = refl },
  record { walk = (3, omega arith, inl (refl, refl), refl); tight = refl },
  refl,
  refl,
)

pub whole_one : (set : List ℕ) (a : ℕ) → IsWhole set (a ∷ [])
whole_one set a = of_one (λ v. is_in set v ≡ is_in set a) a refl

pub path_witness : PathWitness
path_witness = (
  ((2, inl (refl, refl), refl), (3, inl (refl, refl), refl), tt),
  (
    whole_one (1 ∷ []) 1,
    All-from_recursion (λ b. IsWhole (1 ∷ []) b.minus × IsWhole (1 ∷ []) b.plus) line_path
        ((whole_one (1 ∷ []) 2, whole_one (1 ∷ []) 3), tt),
  ),
  inl (refl, refl),
  (whole_one (2 ∷ []) 1, All-nil (λ b. IsWhole (2 ∷ []) b.minus × IsWhole (2 ∷ []) b.plus)),
  inl (refl, refl),
  refl,
  whole_one (2 ∷ []) 2,
  inl (refl, refl),
  refl,
)

pub apart_ones : (a b : ℕ) → is_in (b ∷ []) a ≡ false → AreApart (a ∷ []) (b ∷ [])
apart_ones a b other = of_one (λ v. is_in (b ∷ []) v ≡ false) a other

pub blossom_witness : BlossomWitness
blossom_witness = (
  (
    All-from_recursion (AreApart (0 ∷ [])) ((1 ∷ []) ∷ (2 ∷ []) ∷ []) (apart_ones 0 1 refl, (apart_ones 0 2 refl, tt)),
    (
      All-from_recursion (AreApart (1 ∷ [])) ((2 ∷ []) ∷ []) (apart_ones 1 2 refl, tt),
      (All-nil (AreApart (2 ∷ [])), tt),
    ),
  ),
  All-from_recursion (IsInside (concat ((0 ∷ []) ∷ (1 ∷ []) ∷ (2 ∷ []) ∷ []))) (link 1 2 (1 ∷ []) ∷ []) ((refl, refl), tt),
  All-from_recursion (λ s. ends_in s (link 1 2 (1 ∷ []) ∷ link 0 3 (2 ∷ 3 ∷ []) ∷ []) ≡ 1) ((1 ∷ []) ∷ (2 ∷ []) ∷ [])
      (refl, (refl, tt)),
  ((2, inl (refl, refl), refl), tt),
  All-from_recursion (λ s. ends_in s (link 0 3 (2 ∷ 3 ∷ []) ∷ []) ≡ 0) ((1 ∷ []) ∷ (2 ∷ []) ∷ []) (refl, (refl, tt)),
  refl,
  (refl, (refl, (refl, tt))),
  (refl, tt),
)
