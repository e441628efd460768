-- Blossoms opened, on small graphs.
use Rattle.std.proofs.Common.{ℕ, ◌≡◌, ◌+◌, ◌%◌, inl, inr, true, false, [], ◌∷◌, Some, refl, sym, ap, arith}
use Rattle.std.proofs.lemmas.Bool.{false≢true}
use Rattle.std.proofs.lemmas.List.Elements.{All-from_recursion}
use Rattle.std.proofs.lemmas.List.Sorted.{IsPermutation-refl, IsPermutation-append_comm}
use Rattle.fb_graph.specs.Parity.{is_in}
use Rattle.fb_graph.specs.Certificate.{IsOddCut}
use Rattle.fb_graph.specs.Dual.{IsHeld, all_cuts, height_of, is_live, is_outer, cover_of}
use Rattle.fb_graph.proofs.Sets.{is_in-All}
use Rattle.fb_graph.specs.Counts.{as_count}
use Rattle.fb_graph.specs.Ends.{ends_in}
use Rattle.fb_graph.specs.Moves.{MayJoin, joined_nodes}
use Rattle.fb_graph.specs.Nests.{IsNest}
use Rattle.fb_witnesses.specs.NestWitnesses.{blossom_nodes, blossom_roles}
use Rattle.fb_witnesses.specs.InternalSamples.{cut, link, triangle}
use Rattle.fb_laws.specs.SearchOpenings.{IsOpenedTree, IsSplit}
use Rattle.fb_laws.specs.Searches.{IsSearch}
use Rattle.fb_graph.specs.SourceWalks.{HaveWalks}
use Rattle.fb_graph.specs.Singles.{AreSingles}
use Rattle.fb_graph.specs.Steps.{stepped_nodes}
use Rattle.fb_witnesses.specs.TreeWitnesses.{SplittingWitness, LevelWitness, two_tailed_triangle, two_tailed_singles, two_tailed_nodes, closed_branch, opened_branches}
use Rattle.fb_laws.specs.Works.{IsMatching}
use Rattle.fb_graph.proofs.BeginningNests.{singles_are_nest}
use Rattle.fb_graph.proofs.JoinedNests.{nest_joined}
use Rattle.fb_witnesses.proofs.SampleLevels.{opening_witness}
use Rattle.fb_witnesses.proofs.SampleNests.{grown_blossom}
use Rattle.fb_witnesses.proofs.SampleParts.{of_two, one_height}
use Rattle.fb_witnesses.proofs.SampleStates.{odd_cut, of_three}
use Rattle.fb_witnesses.proofs.SampleTrees.{one_link, one_search}
use Rattle.fb_laws.proofs.SearchStates.{links_joined}
use Rattle.fb_graph.proofs.SourceWalks.{walks_begin, walks_joined}
use Rattle.fb_graph.proofs.SingleStates.{singles_are_dual}
use Rattle.fb_graph.proofs.TightLinks.{empty_layer_loads, empty_layer_heights}
use Rattle.fb_witnesses.proofs.ByCases.{fits_by_cases}

two_tailed_are_singles : AreSingles two_tailed_triangle two_tailed_singles
two_tailed_are_singles = record {
  names = (refl, (refl, (refl, (refl, (refl, tt)))));
  vertices = (refl, (refl, (refl, (refl, (refl, tt)))));
  real = All-from_recursion (λ s. two_tailed_triangle.is_real s.vertex ≡ true) two_tailed_singles
      (refl, (refl, (refl, (refl, (refl, tt)))));
  packing = record {
    odd =
        All-from_recursion (IsOddCut two_tailed_triangle) (all_cuts two_tailed_nodes) (
          odd_cut _ _ (refl, tt) refl refl,
          (
            odd_cut _ _ (refl, tt) refl refl,
            (
              odd_cut _ _ (refl, tt) refl refl,
              (odd_cut _ _ (refl, tt) refl refl, (odd_cut _ _ (refl, tt) refl refl, tt)),
            ),
          ),
        );
    fits = fits_by_cases two_tailed_triangle (all_cuts two_tailed_nodes) refl;
  };
  held =
      All-from_recursion (IsHeld two_tailed_triangle) (all_cuts two_tailed_nodes) (
        inr (0, omega arith, refl),
        (
          inr (0, omega arith, refl),
          (inr (1, omega arith, refl), (inr (3, omega arith, refl), (inr (4, omega arith, refl), tt))),
        ),
      );
  total = omega arith;
}

two_tailed_nest : IsNest two_tailed_triangle two_tailed_nodes
two_tailed_nest =
    singles_are_nest two_tailed_triangle two_tailed_singles (refl, (refl, (refl, (refl, (refl, tt)))))
    (singles_are_dual two_tailed_triangle two_tailed_singles two_tailed_are_singles)

may_close : MayJoin two_tailed_nodes 5 (0 ∷ 1 ∷ 2 ∷ [])
may_close = record {
  many = record { three = omega arith; odd = refl; distinct = (refl, (refl, (refl, tt))) };
  live = All-from_recursion (λ c. is_live two_tailed_nodes c ≡ true) (0 ∷ 1 ∷ 2 ∷ []) (refl, (refl, (refl, tt)));
  outer = All-from_recursion (λ c. is_outer two_tailed_nodes c ≡ true) (0 ∷ 1 ∷ 2 ∷ []) (refl, (refl, (refl, tt)));
  fresh = refl;
}

-- the corners joined
pub closed_nest : IsNest two_tailed_triangle (joined_nodes 5 (0 ∷ 1 ∷ 2 ∷ []) two_tailed_nodes)
closed_nest = nest_joined two_tailed_triangle two_tailed_nodes 5 (0 ∷ 1 ∷ 2 ∷ []) may_close two_tailed_nest

pub closed_walks : HaveWalks two_tailed_triangle (joined_nodes 5 (0 ∷ 1 ∷ 2 ∷ []) two_tailed_nodes)
closed_walks =
    walks_joined two_tailed_triangle two_tailed_nodes 5 (0 ∷ 1 ∷ 2 ∷ []) may_close two_tailed_nest (walks_begin two_tailed_triangle two_tailed_singles)

-- five members, one after another
of_five : (P : ℕ → Type 0) (a b c d e : ℕ) → P a → P b → P c → P d → P e → (v : ℕ)
    → is_in (a ∷ b ∷ c ∷ d ∷ e ∷ []) v ≡ true → P v
of_five P a b c d e first second third fourth fifth =
    is_in-All P (a ∷ b ∷ c ∷ d ∷ e ∷ [])
    (All-from_recursion P (a ∷ b ∷ c ∷ d ∷ e ∷ []) (first, (second, (third, (fourth, (fifth, tt))))))

closed_search : IsSearch two_tailed_triangle (joined_nodes 5 (0 ∷ 1 ∷ 2 ∷ []) two_tailed_nodes) (closed_branch ∷ []) [] (4 ∷ []) 4 0
closed_search =
    one_search two_tailed_triangle (joined_nodes 5 (0 ∷ 1 ∷ 2 ∷ []) two_tailed_nodes) (closed_branch ∷ []) [] 4 0 closed_nest.dual
    (λ v real. refl)
    (one_link two_tailed_triangle (joined_nodes 5 (0 ∷ 1 ∷ 2 ∷ []) two_tailed_nodes) 2 3 3 []
    (3, omega arith, inl (refl, refl), refl) refl refl (λ h. refl) (λ h. refl))
    (All-from_recursion
    (λ n. is_outer (joined_nodes 5 (0 ∷ 1 ∷ 2 ∷ []) two_tailed_nodes) n.name ≡ true
    → ends_in n.top.vertices (link 2 3 (3 ∷ []) ∷ []) + as_count (is_in (4 ∷ []) n.name) ≡ 1)
    (joined_nodes 5 (0 ∷ 1 ∷ 2 ∷ []) two_tailed_nodes) (
      λ h. absurd (false≢true h),
      (
        λ h. absurd (false≢true h),
        (λ h. absurd (false≢true h), (λ h. refl, (λ h. refl, (λ h. refl, tt)))),
      ),
    ))
    (of_five (λ d. height_of (all_cuts (joined_nodes 5 (0 ∷ 1 ∷ 2 ∷ []) two_tailed_nodes)) d % 2
    ≡ 0) 0 1 2 3 4 refl refl refl refl refl) (4, refl, refl)
    (refl, (refl, (refl, tt))) (refl, inl (refl, refl), inl (refl, refl), tt)
    (one_link two_tailed_triangle (joined_nodes 5 (0 ∷ 1 ∷ 2 ∷ []) two_tailed_nodes) 4 0 4 []
    (0, omega arith, inr (refl, refl), refl) refl refl (λ h. refl) (λ h. refl))

-- a blossom without value taken away: its three corners lie under themselves
two_tailed_split : IsSplit (joined_nodes 5 (0 ∷ 1 ∷ 2 ∷ []) two_tailed_nodes) two_tailed_nodes 5 (2 ∷ 0 ∷ 1 ∷ [])
two_tailed_split = record {
  defects = refl;
  loads = λ e. sym (empty_layer_loads (all_cuts two_tailed_nodes) [] (cut 0 (0 ∷ 1 ∷ 2 ∷ [])) e refl);
  heights = λ v. sym (empty_layer_heights (all_cuts two_tailed_nodes) [] (cut 0 (0 ∷ 1 ∷ 2 ∷ [])) v refl);
  outside = λ d n leaf.
      of_five
      (λ x. cover_of (joined_nodes 5 (0 ∷ 1 ∷ 2 ∷ []) two_tailed_nodes) x ≡ Some n → (n ≡ 5 → ⊥)
      → (cover_of two_tailed_nodes x ≡ Some n) × (is_in (2 ∷ 0 ∷ 1 ∷ []) n ≡ false))
      0 1 2 3 4 (λ cover other. absurd (other (under 5 n cover))) (λ cover other. absurd (other (under 5 n cover)))
      (λ cover other. absurd (other (under 5 n cover)))
      (λ cover other. (cover, ap (is_in (2 ∷ 0 ∷ 1 ∷ [])) (under 3 n cover)))
      (λ cover other. (cover, ap (is_in (2 ∷ 0 ∷ 1 ∷ [])) (under 4 n cover))) d leaf;
  inside =
      of_five
      (λ d. cover_of (joined_nodes 5 (0 ∷ 1 ∷ 2 ∷ []) two_tailed_nodes) d ≡ Some 5
      → (n : ℕ) × (cover_of two_tailed_nodes d ≡ Some n) × (is_in (2 ∷ 0 ∷ 1 ∷ []) n ≡ true))
      0 1 2 3 4 (λ cover. (0, refl, refl)) (λ cover. (1, refl, refl)) (λ cover. (2, refl, refl))
      (λ cover. absurd (not_five 3 cover (λ e. cc)))
      (λ cover. absurd (not_five 4 cover (λ e. cc)));
}
  where
    under : (m n : ℕ) → Some m ≡ Some n → n ≡ m
    under m n e = cc

    not_five : (m : ℕ) → Some m ≡ Some 5 → (5 ≡ m → ⊥) → ⊥
    not_five m e other = other (under m 5 e)

two_tailed_opened : IsOpenedTree two_tailed_triangle
    (joined_nodes 5 (0 ∷ 1 ∷ 2 ∷ []) two_tailed_nodes) two_tailed_nodes [] [] opened_branches closed_branch 2 (0 ∷ 1 ∷ [])
    (link 0 1 (0 ∷ []) ∷ []) [] [] (4 ∷ []) 4
two_tailed_opened = record {
  split = two_tailed_split;
  distinct = (refl, (refl, (refl, tt)));
  pairs = (inl (refl, refl), tt);
  new = one_link two_tailed_triangle two_tailed_nodes 0 1 0 [] (1, omega arith, inl (refl, refl), refl) refl refl (λ h. refl)
      (λ h. refl);
  kept_is = (2, refl, refl);
  one_kept = refl;
  closed =
      is_in-All (λ n. is_in (4 ∷ []) n ≡ false) (5 ∷ 2 ∷ 0 ∷ 1 ∷ [])
      (All-from_recursion (λ n. is_in (4 ∷ []) n ≡ false) (5 ∷ 2 ∷ 0 ∷ 1 ∷ []) (refl, (refl, (refl, (refl, tt)))));
  links = IsPermutation-append_comm (link 0 1 (0 ∷ []) ∷ []) (link 2 3 (3 ∷ []) ∷ []);
  names = (refl, (refl, (refl, (refl, (refl, tt)))));
  old =
      of_five (λ n. is_in (2 ∷ 0 ∷ 1 ∷ []) n ≡ false → is_in (5 ∷ 3 ∷ 4 ∷ []) n ≡ true) 2 3 0 1 4
      (λ h. absurd (false≢true (sym h))) (λ h. refl)
      (λ h. absurd (false≢true (sym h))) (λ h. absurd (false≢true (sym h))) (λ h. refl);
  joined = (refl, inl (refl, refl), inl (refl, refl), (refl, inl (refl, refl), inl (refl, refl), tt));
  grown =
      links_joined two_tailed_triangle two_tailed_nodes (link 1 2 (1 ∷ []) ∷ []) (link 4 0 (4 ∷ []) ∷ [])
      (one_link two_tailed_triangle two_tailed_nodes 1 2 1 [] (2, omega arith, inl (refl, refl), refl) refl refl (λ h. refl) (λ h. refl))
      (one_link two_tailed_triangle two_tailed_nodes 4 0 4 [] (0, omega arith, inr (refl, refl), refl) refl refl (λ h. refl)
      (λ h. refl));
}

pub splitting_witness : SplittingWitness
splitting_witness = (
  closed_search,
  two_tailed_opened,
  two_tailed_nest.dual,
  refl,
  of_two (λ n. is_in (3 ∷ 1 ∷ 4 ∷ []) n ≡ true) 3 4 refl refl,
)

solved_triangle : IsMatching triangle (stepped_nodes blossom_roles 9 blossom_nodes) (link 2 3 (3 ∷ []) ∷ []) []
solved_triangle = record {
  dual = grown_blossom.dual;
  defects = λ v real. refl;
  links_are =
      one_link triangle (stepped_nodes blossom_roles 9 blossom_nodes) 2 3 3 []
      (3, omega arith, inl (refl, refl), refl) refl refl (λ h. refl)
      (λ h. absurd (false≢true h));
  matched =
      All-from_recursion
      (λ n. is_outer (stepped_nodes blossom_roles 9 blossom_nodes) n.name ≡ true
      → ends_in n.top.vertices (link 2 3 (3 ∷ []) ∷ []) + as_count (is_in [] n.name) ≡ 1)
      (stepped_nodes blossom_roles 9 blossom_nodes)
      (λ h. absurd (false≢true h), (λ h. absurd (false≢true h), (λ h. absurd (false≢true h), (λ h. refl, tt))));
  one_parity =
      one_height (stepped_nodes blossom_roles 9 blossom_nodes) 0
      (of_three (λ d. height_of (all_cuts (stepped_nodes blossom_roles 9 blossom_nodes)) d % 2 ≡ 0) 0 1 2 refl refl refl);
}

pub level_witness : LevelWitness
level_witness = (
  solved_triangle,
  (
    IsPermutation-refl ((0 ∷ 1 ∷ 2 ∷ []) ∷ []),
    opening_witness.3,
    refl,
    (
      IsPermutation-refl ((2 ∷ []) ∷ (0 ∷ []) ∷ (1 ∷ []) ∷ []),
      IsPermutation-refl (link 0 1 (0 ∷ []) ∷ link 2 3 (3 ∷ []) ∷ []),
    ),
  ),
)
