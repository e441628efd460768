-- The premises of the laws of parities and of parts, computed on small graphs.
use Rattle.std.proofs.Common.{ℕ, ◌≡◌, ◌≢◌, ◌+◌, ◌%◌, inl, inr, true, List, [], ◌∷◌, All, refl, sym, ◌∙◌, arith}
use Rattle.std.proofs.lemmas.Bool.{false≢true}
use Rattle.std.proofs.lemmas.List.Elements.{All-nil, All-from_recursion}
use Rattle.std.proofs.lemmas.List.Sorted.{IsPermutation-refl}
use Rattle.fb_graph.specs.Parity.{is_in}
use Rattle.fb_graph.specs.Problem.{Problem, edge_at}
use Rattle.fb_graph.specs.Certificate.{IsOddCut}
use Rattle.fb_graph.specs.Laws.{Link, has_real_end}
use Rattle.fb_graph.specs.Dual.{Node, IsHeld, all_cuts, leaves, height_of, is_outer}
use Rattle.fb_graph.proofs.Sets.{is_in-All}
use Rattle.fb_graph.specs.Counts.{as_count}
use Rattle.fb_graph.specs.Ends.{ends_in}
use Rattle.fb_graph.specs.Links.{IsTightLink}
use Rattle.fb_laws.specs.Fusion.{IsLinkOf}
use Rattle.fb_laws.specs.Parities.{HaveOneParity}
use Rattle.fb_graph.specs.Singles.{AreSingles}
use Rattle.fb_laws.specs.Works.{AreMatchedLinks, IsMatching, outer_sets}
use Rattle.fb_laws.specs.Opening.{EndsAtDefects}
use Rattle.fb_witnesses.specs.InternalSamples.{link, line, corner_nodes, bare_singles, young_singles, young_nodes, pair_singles, pair_nodes, pair_roles}
use Rattle.fb_witnesses.specs.Witnesses.{ParityWitness, WorkWitness}
use Rattle.fb_laws.proofs.HalvesKept.{work_begins}
use Rattle.fb_witnesses.proofs.SampleStates.{odd_cut, of_three, outer_by_cases}
use Rattle.fb_graph.proofs.SingleStates.{singles_are_dual}
use Rattle.fb_witnesses.proofs.ByCases.{fits_by_cases}

pub corner_height : (d : ℕ) → is_in (leaves corner_nodes) d ≡ true → height_of (all_cuts corner_nodes) d % 2 ≡ 1
corner_height = of_three (λ d. height_of (all_cuts corner_nodes) d % 2 ≡ 1) 0 1 2 refl refl refl

pub parity_witness : ParityWitness
parity_witness = (
  λ d e name leaf among cover covered. corner_height d leaf ∙ sym (corner_height e among),
  λ d name leaf cover named. corner_height d leaf,
  refl,
  record { walk = (1, omega arith, inl (refl, refl), refl); tight = refl },
  λ n plus. inl plus,
  record { minus = λ n. refl; plus = λ n none. absurd (false≢true none) },
  refl,
  refl,
)

-- two members, one after another
pub of_two : (P : ℕ → Type 0) (a b : ℕ) → P a → P b → (v : ℕ) → is_in (a ∷ b ∷ []) v ≡ true → P v
of_two P a b first second = is_in-All P (a ∷ b ∷ []) (All-from_recursion P (a ∷ b ∷ []) (first, (second, tt)))

pair_are_singles : AreSingles (line (1 ∷ 2 ∷ [])) pair_singles
pair_are_singles = record {
  names = (refl, (refl, tt));
  vertices = (refl, (refl, tt));
  real = All-from_recursion (λ s. is_in (1 ∷ 2 ∷ 3 ∷ []) s.vertex ≡ true) pair_singles (refl, (refl, tt));
  packing = record {
    odd =
        All-from_recursion (IsOddCut (line (1 ∷ 2 ∷ []))) (all_cuts pair_nodes)
        (odd_cut _ _ (refl, tt) refl refl, (odd_cut _ _ (refl, tt) refl refl, tt));
    fits = fits_by_cases (line (1 ∷ 2 ∷ [])) (all_cuts pair_nodes) refl;
  };
  held =
      All-from_recursion (IsHeld (line (1 ∷ 2 ∷ []))) (all_cuts pair_nodes)
      (inr (0, omega arith, refl), (inr (1, omega arith, refl), tt));
  total = omega arith;
}

young_are_singles : AreSingles (line (1 ∷ 2 ∷ [])) young_singles
young_are_singles = record {
  names = (refl, (refl, tt));
  vertices = (refl, (refl, tt));
  real = All-from_recursion (λ s. is_in (1 ∷ 2 ∷ 3 ∷ []) s.vertex ≡ true) young_singles (refl, (refl, tt));
  packing = record {
    odd =
        All-from_recursion (IsOddCut (line (1 ∷ 2 ∷ []))) (all_cuts young_nodes)
        (odd_cut _ _ (refl, tt) refl refl, (odd_cut _ _ (refl, tt) refl refl, tt));
    fits = fits_by_cases (line (1 ∷ 2 ∷ [])) (all_cuts young_nodes) refl;
  };
  held =
      All-from_recursion (IsHeld (line (1 ∷ 2 ∷ []))) (all_cuts young_nodes)
      (inr (0, omega arith, refl), (inr (1, omega arith, refl), tt));
  total = omega arith;
}

pub some_walk : (k : ℕ) (ks : List ℕ) → (k ∷ ks) ≢ []
some_walk k ks e = cc

AtDefects : Link → Type 0
AtDefects l =
    (is_in (1 ∷ 2 ∷ 3 ∷ []) l.from ≡ true → is_in (1 ∷ 2 ∷ []) l.from ≡ true)
    × (is_in (1 ∷ 2 ∷ 3 ∷ []) l.to ≡ true → is_in (1 ∷ 2 ∷ []) l.to ≡ true)

pub no_links : (p : Problem) (nodes : List Node) → AreMatchedLinks p nodes []
no_links p nodes = record {
  tight = All-nil (IsTightLink p (all_cuts nodes));
  own = All-nil (IsLinkOf p);
  at_defects = All-nil (EndsAtDefects p (leaves nodes));
}

to_boundary : AreMatchedLinks (line (1 ∷ 2 ∷ [])) pair_nodes (link 1 0 (0 ∷ []) ∷ [])
unfolding AtDefects
to_boundary = record {
  tight =
      All-from_recursion (IsTightLink (line (1 ∷ 2 ∷ [])) (all_cuts pair_nodes)) (link 1 0 (0 ∷ []) ∷ [])
      (record { walk = (0, omega arith, inr (refl, refl), refl); tight = refl }, tt);
  own =
      All-from_recursion (IsLinkOf (line (1 ∷ 2 ∷ []))) (link 1 0 (0 ∷ []) ∷ []) (
        record {
          walk = (0, omega arith, inr (refl, refl), refl);
          moves = some_walk 0 [];
          real =
              All-from_recursion (λ k. has_real_end (line (1 ∷ 2 ∷ [])) (edge_at (line []).edges k) ≡ true) (0 ∷ []) (refl, tt);
        },
        tt,
      );
  at_defects = All-from_recursion AtDefects (link 1 0 (0 ∷ []) ∷ []) ((λ h. refl, λ h. absurd (false≢true h)), tt);
}

one_another : AreMatchedLinks (line (1 ∷ 2 ∷ [])) pair_nodes (link 2 1 (1 ∷ []) ∷ [])
unfolding AtDefects
one_another = record {
  tight =
      All-from_recursion (IsTightLink (line (1 ∷ 2 ∷ [])) (all_cuts pair_nodes)) (link 2 1 (1 ∷ []) ∷ [])
      (record { walk = (1, omega arith, inr (refl, refl), refl); tight = refl }, tt);
  own =
      All-from_recursion (IsLinkOf (line (1 ∷ 2 ∷ []))) (link 2 1 (1 ∷ []) ∷ []) (
        record {
          walk = (1, omega arith, inr (refl, refl), refl);
          moves = some_walk 1 [];
          real =
              All-from_recursion (λ k. has_real_end (line (1 ∷ 2 ∷ [])) (edge_at (line []).edges k) ≡ true) (1 ∷ []) (refl, tt);
        },
        tt,
      );
  at_defects = All-from_recursion AtDefects (link 2 1 (1 ∷ []) ∷ []) ((λ h. refl, λ h. refl), tt);
}

pub one_height : (nodes : List Node) (r : ℕ) → ((d : ℕ) → is_in (leaves nodes) d ≡ true → height_of (all_cuts nodes) d % 2 ≡ r)
    → HaveOneParity nodes
one_height nodes r each d e name leaf among cover covered = each d leaf ∙ sym (each e among)

pair_matching : (links : List Link) (unmatched : List ℕ) → AreMatchedLinks (line (1 ∷ 2 ∷ [])) pair_nodes links
    → ends_in (1 ∷ []) links + as_count (is_in unmatched 0) ≡ 1 → ends_in (2 ∷ []) links + as_count (is_in unmatched 1) ≡ 1
    → IsMatching (line (1 ∷ 2 ∷ [])) pair_nodes links unmatched
pair_matching links unmatched are first second = record {
  dual = singles_are_dual (line (1 ∷ 2 ∷ [])) pair_singles pair_are_singles;
  defects = λ v real. refl;
  links_are = are;
  matched =
      All-from_recursion
      (λ n. is_outer pair_nodes n.name ≡ true → ends_in n.top.vertices links + as_count (is_in unmatched n.name) ≡ 1) pair_nodes
      (λ outer. first, (λ outer. second, tt));
  one_parity = one_height pair_nodes 0 (of_two (λ d. height_of (all_cuts pair_nodes) d % 2 ≡ 0) 1 2 refl refl);
}

pub work_witness : WorkWitness
work_witness = (
  work_begins (line (1 ∷ 2 ∷ [])) bare_singles (refl, (refl, tt)) (refl, (refl, tt))
      (All-from_recursion (λ s. is_in (1 ∷ 2 ∷ 3 ∷ []) s.vertex ≡ true) bare_singles (refl, (refl, tt)))
      (All-from_recursion (λ s. s.value ≡ 0) bare_singles (refl, (refl, tt))) (λ v real. refl),
  record {
    exclusive = λ name plus. refl;
    plus = outer_by_cases pair_roles.is_plus young_nodes young_outer;
    minus = outer_by_cases pair_roles.is_minus young_nodes young_outer;
  },
  record {
    dual = singles_are_dual (line (1 ∷ 2 ∷ [])) young_singles young_are_singles;
    defects = λ v real. refl;
    links_are = no_links (line (1 ∷ 2 ∷ [])) young_nodes;
    matched =
        All-from_recursion
        (λ n. is_outer young_nodes n.name ≡ true → ends_in n.top.vertices [] + as_count (is_in (0 ∷ 1 ∷ []) n.name) ≡ 1) young_nodes
        (λ outer. refl, (λ outer. refl, tt));
    one_parity = one_height young_nodes 1 (of_two (λ d. height_of (all_cuts young_nodes) d % 2 ≡ 1) 1 2 refl refl);
  },
  singles_are_dual (line (1 ∷ 2 ∷ [])) pair_singles pair_are_singles,
  pair_matching [] (0 ∷ 1 ∷ []) (no_links (line (1 ∷ 2 ∷ [])) pair_nodes) refl refl,
  pair_matching (link 1 0 (0 ∷ []) ∷ []) (1 ∷ []) to_boundary refl refl,
  pair_matching (link 2 1 (1 ∷ []) ∷ []) [] one_another refl refl,
  to_boundary,
  one_another,
  (0, omega arith, refl, refl, refl),
  (1, omega arith, refl, refl, refl),
  (IsPermutation-refl (outer_sets pair_nodes), IsPermutation-refl (link 2 1 (1 ∷ []) ∷ [])),
)
  where
    young_outer : All (λ n. is_outer young_nodes n.name ≡ true) young_nodes
    young_outer = All-from_recursion (λ n. is_outer young_nodes n.name ≡ true) young_nodes (refl, (refl, tt))
