-- A triangle of defects as a blossom in a search, and a cycle closed on a line.
use Rattle.std.proofs.Common.{ℕ, ◌≡◌, ◌+◌, ◌%◌, ◌≤◌, ◌<◌, inl, inr, true, false, List, [], ◌∷◌, ◌++◌, All, refl, arith}
use Rattle.std.proofs.lemmas.Bool.{false≢true}
use Rattle.std.proofs.lemmas.List.Elements.{All-from_recursion}
use Rattle.std.proofs.lemmas.List.Sorted.{IsPermutation-refl}
use Rattle.fb_graph.specs.Parity.{is_in}
use Rattle.fb_graph.specs.Problem.{edge_at}
use Rattle.fb_graph.specs.Components.{Leads}
use Rattle.fb_graph.specs.Laws.{Link, IsTight, has_real_end}
use Rattle.fb_graph.specs.Limits.{IsEdge, IsWithinLimits}
use Rattle.fb_graph.specs.Dual.{Node, IsCrossed, all_cuts, leaves, is_empty, is_live, is_outer, height_of}
use Rattle.fb_graph.proofs.Sets.{is_in-All}
use Rattle.fb_graph.specs.Counts.{as_count}
use Rattle.fb_graph.specs.Steps.{Roles}
use Rattle.fb_graph.specs.Covers.{AreRoles}
use Rattle.fb_graph.specs.Ends.{ends_in}
use Rattle.fb_laws.specs.Fusion.{IsLinkOf}
use Rattle.fb_graph.specs.Links.{IsTightLink}
use Rattle.fb_graph.specs.Singles.{nodes_of}
use Rattle.fb_graph.specs.Nests.{IsNest}
use Rattle.fb_graph.specs.Moves.{MayJoin, MaySplit}
use Rattle.fb_witnesses.specs.InternalSamples.{link}
use Rattle.fb_laws.specs.Works.{AreMatchedLinks, IsMatching}
use Rattle.fb_laws.specs.Searches.{IsSearch}
use Rattle.fb_witnesses.specs.CycleWitnesses.{ClosedWitness, OpenedWitness, kite, kite_singles, kite_leaves, kite_blossom, kite_branch, corner_links}
use Rattle.fb_graph.proofs.BeginningNests.{nest_begins}
use Rattle.fb_graph.proofs.JoinedNests.{nest_joined}
use Rattle.fb_witnesses.proofs.SampleParts.{one_height, some_walk}
use Rattle.fb_witnesses.proofs.SampleSearches.{search_witness}
use Rattle.fb_witnesses.proofs.SampleStates.{may_by_cases, outer_by_cases, of_three}
use Rattle.fb_laws.proofs.SearchStates.{links_joined}
use Rattle.fb_graph.proofs.SteppedNests.{nest_stepped}

pub closed_witness : ClosedWitness
closed_witness = (
  search_witness.1,
  (refl, (refl, (refl, tt))),
  refl,
  refl,
  record { first = refl; second = refl; parted = tt },
  inl (refl, refl),
  refl,
)

of_five : (P : ℕ → Type 0) → P 0 → P 1 → P 2 → P 3 → P 4 → (v : ℕ) → is_in (0 ∷ 1 ∷ 2 ∷ 3 ∷ 4 ∷ []) v ≡ true → P v
of_five P a b c d e =
    is_in-All P (0 ∷ 1 ∷ 2 ∷ 3 ∷ 4 ∷ []) (All-from_recursion P (0 ∷ 1 ∷ 2 ∷ 3 ∷ 4 ∷ []) (a, (b, (c, (d, (e, tt))))))

kite_limits : IsWithinLimits kite
kite_limits = record {
  vertices = omega arith;
  edges = omega arith;
  each_edge = All-from_recursion (IsEdge 6) kite.edges (
    record { first = omega arith; second = omega arith; loopless = λ e. omega (arith, e); even = refl; light = omega arith },
    (
      record { first = omega arith; second = omega arith; loopless = λ e. omega (arith, e); even = refl; light = omega arith },
      (
        record { first = omega arith; second = omega arith; loopless = λ e. omega (arith, e); even = refl; light = omega arith },
        (
          record { first = omega arith; second = omega arith; loopless = λ e. omega (arith, e); even = refl; light = omega arith },
          (
            record { first = omega arith; second = omega arith; loopless = λ e. omega (arith, e); even = refl; light = omega arith },
            (
              record { first = omega arith; second = omega arith; loopless = λ e. omega (arith, e); even = refl; light = omega arith },
              tt,
            ),
          ),
        ),
      ),
    ),
  );
  real_below = of_five (λ v. v < 6) (omega arith) (omega arith) (omega arith) (omega arith) (omega arith);
}

-- all five grow by 1
abbrev growing : Roles
growing = record { is_plus = is_in (0 ∷ 1 ∷ 2 ∷ 3 ∷ 4 ∷ []); is_minus = is_in [] }

abbrev seeds : List Node
seeds = nodes_of (kite_singles 0)

growing_are : AreRoles growing seeds
growing_are = record {
  exclusive = λ n plus. refl;
  plus = outer_by_cases growing.is_plus seeds outer;
  minus = outer_by_cases growing.is_minus seeds outer;
}
  where
    outer : All (λ n. is_outer seeds n.name ≡ true) seeds
    outer = All-from_recursion (λ n. is_outer seeds n.name ≡ true) seeds (refl, (refl, (refl, (refl, (refl, tt)))))

seeds_nest : IsNest kite seeds
seeds_nest =
    nest_begins kite (kite_singles 0) (refl, (refl, (refl, (refl, (refl, tt))))) (refl, (refl, (refl, (refl, (refl, tt)))))
    (All-from_recursion (λ s. kite.is_real s.vertex ≡ true) (kite_singles 0) (refl, (refl, (refl, (refl, (refl, tt))))))
    (All-from_recursion (λ s. s.value ≡ 0) (kite_singles 0) (refl, (refl, (refl, (refl, (refl, tt))))))

leaves_nest : IsNest kite kite_leaves
leaves_nest =
    nest_stepped kite growing seeds 1 kite_limits growing_are
    (All-from_recursion (λ n. growing.is_plus n.name ≡ true → IsCrossed kite n.top.vertices) seeds (
      λ h. (0, omega arith, refl),
      (λ h. (0, omega arith, refl), (λ h. (1, omega arith, refl), (λ h. (3, omega arith, refl), (λ h. (4, omega arith, refl), tt)))),
    ))
    (may_by_cases kite growing seeds 1 refl
    (All-from_recursion (λ n. growing.is_minus n.name ≡ true → 1 ≤ n.top.value) seeds (
      λ h. absurd (false≢true h),
      (λ h. absurd (false≢true h), (λ h. absurd (false≢true h), (λ h. absurd (false≢true h), (λ h. absurd (false≢true h), tt)))),
    )))
    seeds_nest

may_join : MayJoin kite_leaves 5 (0 ∷ 1 ∷ 2 ∷ [])
may_join = record {
  many = record { three = omega arith; odd = refl; distinct = (refl, (refl, (refl, tt))) };
  live = All-from_recursion (λ c. is_live kite_leaves c ≡ true) (0 ∷ 1 ∷ 2 ∷ []) (refl, (refl, (refl, tt)));
  outer = All-from_recursion (λ c. is_outer kite_leaves c ≡ true) (0 ∷ 1 ∷ 2 ∷ []) (refl, (refl, (refl, tt)));
  fresh = refl;
}

kite_nest : IsNest kite (kite_leaves ++ kite_blossom ∷ [])
kite_nest = nest_joined kite kite_leaves 5 (0 ∷ 1 ∷ 2 ∷ []) may_join leaves_nest

may_split : MaySplit (kite_leaves ++ kite_blossom ∷ []) 5
may_split = record {
  live = refl;
  outer = refl;
  bare = All-from_recursion (λ n. n.name ≡ 5 → (is_empty n.children ≡ false) × (n.below ≡ []) × (n.top.value ≡ 0)) (kite_leaves ++ kite_blossom ∷ []) (
    λ e. absurd (omega (arith, e)),
    (
      λ e. absurd (omega (arith, e)),
      (
        λ e. absurd (omega (arith, e)),
        (λ e. absurd (omega (arith, e)), (λ e. absurd (omega (arith, e)), (λ e. (refl, refl, refl), tt))),
      ),
    ),
  );
}

AtDefects : Link → Type 0
AtDefects l =
    (is_in (0 ∷ 1 ∷ 2 ∷ 3 ∷ 4 ∷ []) l.from ≡ true → is_in (0 ∷ 1 ∷ 2 ∷ 3 ∷ 4 ∷ []) l.from ≡ true)
    × (is_in (0 ∷ 1 ∷ 2 ∷ 3 ∷ 4 ∷ []) l.to ≡ true → is_in (0 ∷ 1 ∷ 2 ∷ 3 ∷ 4 ∷ []) l.to ≡ true)

-- a link over one edge
over_edge : (u v k : ℕ) → k < 6 → Leads (edge_at kite.edges k) u v → IsTight kite (all_cuts (kite_leaves ++ kite_blossom ∷ [])) (link u v (k ∷ []))
    → has_real_end kite (edge_at kite.edges k) ≡ true → AreMatchedLinks kite (kite_leaves ++ kite_blossom ∷ []) (link u v (k ∷ []) ∷ [])
unfolding AtDefects
over_edge u v k less leads tight real = record {
  tight =
      All-from_recursion (IsTightLink kite (all_cuts (kite_leaves ++ kite_blossom ∷ []))) (link u v (k ∷ []) ∷ [])
      (record { walk = (v, less, leads, refl); tight = tight }, tt);
  own =
      All-from_recursion (IsLinkOf kite) (link u v (k ∷ []) ∷ []) (
        record {
          walk = (v, less, leads, refl);
          moves = some_walk k [];
          real = All-from_recursion (λ j. has_real_end kite (edge_at kite.edges j) ≡ true) (k ∷ []) (real, tt);
        },
        tt,
      );
  at_defects = All-from_recursion AtDefects (link u v (k ∷ []) ∷ []) ((λ h. h, λ h. h), tt);
}

matched_link : AreMatchedLinks kite (kite_leaves ++ kite_blossom ∷ []) (link 1 4 (4 ∷ []) ∷ [])
matched_link = over_edge 1 4 4 (omega arith) (inl (refl, refl)) refl refl

tree_link : AreMatchedLinks kite (kite_leaves ++ kite_blossom ∷ []) (link 3 0 (3 ∷ []) ∷ [])
tree_link = over_edge 3 0 3 (omega arith) (inr (refl, refl)) refl refl

cycle_links : AreMatchedLinks kite (kite_leaves ++ kite_blossom ∷ []) corner_links
cycle_links =
    links_joined kite (kite_leaves ++ kite_blossom ∷ []) (link 0 1 (0 ∷ []) ∷ []) (link 1 2 (1 ∷ []) ∷ link 2 0 (2 ∷ []) ∷ [])
    (over_edge 0 1 0 (omega arith) (inl (refl, refl)) refl refl)
    (links_joined kite (kite_leaves ++ kite_blossom ∷ []) (link 1 2 (1 ∷ []) ∷ []) (link 2 0 (2 ∷ []) ∷ [])
    (over_edge 1 2 1 (omega arith) (inl (refl, refl)) refl refl) (over_edge 2 0 2 (omega arith) (inr (refl, refl)) refl refl))

heights : (d : ℕ) → is_in (leaves (kite_leaves ++ kite_blossom ∷ [])) d ≡ true → height_of (all_cuts (kite_leaves ++ kite_blossom ∷ [])) d % 2 ≡ 1
heights = of_five (λ d. height_of (all_cuts (kite_leaves ++ kite_blossom ∷ [])) d % 2 ≡ 1) refl refl refl refl refl

kite_matching : IsMatching kite (kite_leaves ++ kite_blossom ∷ []) (link 1 4 (4 ∷ []) ∷ []) (3 ∷ [])
kite_matching = record {
  dual = kite_nest.dual;
  defects = λ v real. refl;
  links_are = matched_link;
  matched =
      All-from_recursion
      (λ n. is_outer (kite_leaves ++ kite_blossom ∷ []) n.name ≡ true
      → ends_in n.top.vertices (link 1 4 (4 ∷ []) ∷ []) + as_count (is_in (3 ∷ []) n.name) ≡ 1) (kite_leaves ++ kite_blossom ∷ []) (
        λ outer. absurd (false≢true outer),
        (
          λ outer. absurd (false≢true outer),
          (λ outer. absurd (false≢true outer), (λ outer. refl, (λ outer. refl, (λ outer. refl, tt)))),
        ),
      );
  one_parity = one_height (kite_leaves ++ kite_blossom ∷ []) 1 heights;
}

kite_search : IsSearch kite (kite_leaves ++ kite_blossom ∷ []) (kite_branch ∷ []) [] (3 ∷ []) 3 1
kite_search = record {
  matching = kite_matching;
  root_is = (3, refl, refl);
  open_root = refl;
  names = (refl, (refl, (refl, tt)));
  joined = (refl, inl (refl, refl), inl (refl, refl), tt);
  grown = tree_link;
  parity = λ d name leaf cover among. heights d leaf;
}

pub opened_witness : OpenedWitness
opened_witness = (
  kite_nest,
  may_split,
  kite_search,
  IsPermutation-refl (0 ∷ 1 ∷ 2 ∷ []),
  (inl (refl, refl), (inl (refl, refl), (inl (refl, refl), tt))),
  cycle_links,
  of_three (λ n. is_in (3 ∷ []) n ≡ false) 0 1 2 refl refl refl,
  refl,
  inl (refl, refl),
  refl,
  inl (refl, refl),
)
