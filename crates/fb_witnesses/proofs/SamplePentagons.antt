-- A run of moves on a pentagon of defects, and two ends of a line.
use Rattle.std.proofs.Common.{ℕ, ◌≡◌, ◌≢◌, ◌+◌, ◌%◌, ◌<◌, ◌⊎◌, inl, inr, true, false, List, [], ◌∷◌, length, All, refl, sym, ◌∙◌, arith}
use Rattle.std.proofs.lemmas.Bool.{both_ways, cases_Bool, false_from_ne_true}
use Rattle.std.proofs.lemmas.List.Elements.{All-from_recursion, All-nil}
use Rattle.std.proofs.lemmas.List.Sorted.{IsPermutation-append_comm, IsPermutation-refl}
use Rattle.fb_graph.specs.Parity.{is_in}
use Rattle.fb_graph.specs.Problem.{Problem, edge_at, weight_of}
use Rattle.fb_graph.specs.Certificate.{IsOddCut, load_of}
use Rattle.fb_graph.specs.Components.{Leads}
use Rattle.fb_graph.specs.Laws.{ends_of, has_real_end}
use Rattle.fb_graph.specs.Dual.{Node, IsDual, IsHeld, all_cuts, height_of, is_empty, is_live, is_outer, leaves}
use Rattle.fb_graph.specs.Counts.{as_count}
use Rattle.fb_graph.specs.Ends.{ends_in}
use Rattle.fb_graph.specs.Links.{IsTightLink, AreEven}
use Rattle.fb_graph.specs.Moves.{MaySplit, blossom, split_nodes}
use Rattle.fb_graph.specs.Nests.{child_sets}
use Rattle.fb_graph.specs.Singles.{AreSingles}
use Rattle.fb_graph.proofs.Among.{among_right}
use Rattle.fb_graph.proofs.BeginningNests.{singles_are_nest}
use Rattle.fb_graph.proofs.Sets.{is_in-All}
use Rattle.fb_graph.proofs.SourceWalks.{walks_begin}
use Rattle.fb_graph.proofs.SingleStates.{singles_are_dual}
use Rattle.fb_laws.specs.Fusion.{IsLinkOf}
use Rattle.fb_laws.specs.OpenedCycles.{IsOpenedCycle}
use Rattle.fb_laws.specs.PartStates.{IsRing, IsPartState, IsSearchState, PartState}
use Rattle.fb_witnesses.specs.MatchWitnesses.{one_branch}
use Rattle.fb_witnesses.specs.InternalSamples.{link}
use Rattle.fb_laws.specs.StateBlossoms.{MayClose, joined_state}
use Rattle.fb_laws.specs.StateMoves.{search_from}
use Rattle.fb_witnesses.specs.StateWitnesses.{ClosedStateWitness, OpenedStateWitness, pentagon, pentagon_singles, pentagon_leaves, blossom_pair, first_branch, second_branch, two_branches, blossom_branch, inner_blossom, pentagon_links, pentagon_way, pentagon_couples}
use Rattle.fb_laws.specs.TreeCycles.{ArePaths}
use Rattle.fb_laws.specs.Trees.{Connects}
use Rattle.fb_laws.specs.Works.{AreMatchedLinks}
use Rattle.fb_laws.specs.Opening.{EndsAtDefects}
use Rattle.fb_witnesses.proofs.SampleParts.{one_height}
use Rattle.fb_witnesses.proofs.SampleStates.{odd_cut}
use Rattle.fb_laws.proofs.SearchStates.{links_joined}
use Rattle.fb_laws.proofs.SplitStates.{is_split}
use Rattle.fb_laws.proofs.StateBlossoms.{state_closed}
use Rattle.fb_laws.proofs.StateMoves.{search_from_root, state_attached, state_met}
use Rattle.fb_laws.proofs.UnmatchedNames.{outer_begin}
use Rattle.fb_witnesses.proofs.ByCases.{fits_by_cases}

-- a link over one edge
pub one_link : (p : Problem) (nodes : List Node) (u v k : ℕ) → k < length p.edges → Leads (edge_at p.edges k) u v
    → weight_of p (k ∷ []) ≡ load_of (all_cuts nodes) (ends_of (link u v (k ∷ [])))
    → has_real_end p (edge_at p.edges k) ≡ true → is_in (leaves nodes) u ≡ true → is_in (leaves nodes) v ≡ true
    → AreMatchedLinks p nodes (link u v (k ∷ []) ∷ [])
one_link p nodes u v k less leads tight real first second = record {
  tight =
      All-from_recursion (IsTightLink p (all_cuts nodes)) (link u v (k ∷ []) ∷ [])
      (record { walk = (v, less, leads, refl); tight = tight }, tt);
  own =
      All-from_recursion (IsLinkOf p) (link u v (k ∷ []) ∷ []) (
        record {
          walk = (v, less, leads, refl);
          moves = λ e. some k e;
          real = All-from_recursion (λ j. has_real_end p (edge_at p.edges j) ≡ true) (k ∷ []) (real, tt);
        },
        tt,
      );
  at_defects =
      All-from_recursion
      (EndsAtDefects p (leaves nodes))
      (link u v (k ∷ []) ∷ []) ((λ h. first, λ h. second), tt);
}
  where
    some : (j : ℕ) → (j ∷ []) ≢ []
    some j e = cc

pub of_seven : (P : ℕ → Type 0) → P 0 → P 1 → P 2 → P 3 → P 4 → P 5 → P 6 → (v : ℕ)
    → is_in (0 ∷ 1 ∷ 2 ∷ 3 ∷ 4 ∷ 5 ∷ 6 ∷ []) v ≡ true → P v
of_seven P a b c d e f g =
    is_in-All P (0 ∷ 1 ∷ 2 ∷ 3 ∷ 4 ∷ 5 ∷ 6 ∷ [])
    (All-from_recursion P (0 ∷ 1 ∷ 2 ∷ 3 ∷ 4 ∷ 5 ∷ 6 ∷ []) (a, (b, (c, (d, (e, (f, (g, tt))))))))

pentagon_are : AreSingles pentagon pentagon_singles
pentagon_are = record {
  names = (refl, (refl, (refl, (refl, (refl, (refl, (refl, tt)))))));
  vertices = (refl, (refl, (refl, (refl, (refl, (refl, (refl, tt)))))));
  real =
      All-from_recursion (λ s. pentagon.is_real s.vertex ≡ true) pentagon_singles
      (refl, (refl, (refl, (refl, (refl, (refl, (refl, tt)))))));
  packing = record {
    odd =
        All-from_recursion (IsOddCut pentagon) (all_cuts pentagon_leaves) (
          odd_cut _ _ (refl, tt) refl refl,
          (
            odd_cut _ _ (refl, tt) refl refl,
            (
              odd_cut _ _ (refl, tt) refl refl,
              (
                odd_cut _ _ (refl, tt) refl refl,
                (odd_cut _ _ (refl, tt) refl refl, (odd_cut _ _ (refl, tt) refl refl, (odd_cut _ _ (refl, tt) refl refl, tt))),
              ),
            ),
          ),
        );
    fits = fits_by_cases pentagon (all_cuts pentagon_leaves) refl;
  };
  held =
      All-from_recursion (IsHeld pentagon) (all_cuts pentagon_leaves) (
        inr (0, omega arith, refl),
        (
          inr (0, omega arith, refl),
          (
            inr (1, omega arith, refl),
            (inr (2, omega arith, refl), (inr (3, omega arith, refl), (inr (5, omega arith, refl), (inr (6, omega arith, refl), tt)))),
          ),
        ),
      );
  total = omega arith;
}

even_height : (d : ℕ) → is_in (leaves pentagon_leaves) d ≡ true → height_of (all_cuts pentagon_leaves) d % 2 ≡ 0
even_height = of_seven (λ d. height_of (all_cuts pentagon_leaves) d % 2 ≡ 0) refl refl refl refl refl refl refl

pentagon_dual : IsDual pentagon pentagon_leaves
pentagon_dual = singles_are_dual pentagon pentagon_singles pentagon_are

-- all unmatched
abbrev pub start : PartState
start = record { nodes = pentagon_leaves; cycles = λ n. []; matches = []; unmatched = 0 ∷ 1 ∷ 2 ∷ 3 ∷ 4 ∷ 5 ∷ 6 ∷ [] }

pub start_state : IsPartState pentagon start
start_state = record {
  work = record {
    nest = singles_are_nest pentagon pentagon_singles pentagon_are.vertices pentagon_dual;
    work = record {
      matching = record {
        dual = pentagon_dual;
        defects = λ v real. refl;
        links_are = none;
        matched =
            All-from_recursion
            (λ n. is_outer pentagon_leaves n.name ≡ true
            → ends_in n.top.vertices [] + as_count (is_in (0 ∷ 1 ∷ 2 ∷ 3 ∷ 4 ∷ 5 ∷ 6 ∷ []) n.name) ≡ 1)
            pentagon_leaves (λ o. refl, (λ o. refl, (λ o. refl, (λ o. refl, (λ o. refl, (λ o. refl, (λ o. refl, tt)))))));
        one_parity = one_height pentagon_leaves 0 even_height;
      };
      even = λ d name leaf cover among. even_height d leaf;
    };
    walks = walks_begin pentagon pentagon_singles;
    outer = outer_begin pentagon_singles;
  };
  cycles = record {
    rings =
        All-from_recursion (λ n. IsRing (child_sets pentagon_leaves n) []) pentagon_leaves (tt, (tt, (tt, (tt, (tt, (tt, (tt, tt)))))));
    links = none;
  };
  names = record {
    live = of_seven (λ n. is_live pentagon_leaves n ≡ true) refl refl refl refl refl refl refl;
    distinct = pentagon_are.names;
  };
}
  where
    none : AreMatchedLinks pentagon pentagon_leaves []
    none = record {
      tight = All-nil (IsTightLink pentagon (all_cuts pentagon_leaves));
      own = All-nil (IsLinkOf pentagon);
      at_defects =
          All-nil
          (EndsAtDefects pentagon (leaves pentagon_leaves));
    }

even_edges : AreEven pentagon
even_edges =
    All-from_recursion (λ e. e.weight % 2 ≡ 0) pentagon.edges (refl, (refl, (refl, (refl, (refl, (refl, (refl, (refl, tt))))))))

-- the corners 0 and 1 matched, then 2 and 3
abbrev first_pair : PartState
first_pair = record {
  nodes = pentagon_leaves;
  cycles = λ n. [];
  matches = link 0 1 (0 ∷ []) ∷ [];
  unmatched = 2 ∷ 3 ∷ 4 ∷ 5 ∷ 6 ∷ [];
}

first_state : IsPartState pentagon first_pair
first_state =
    (state_met pentagon (search_from 0 start) 0 1 (link 0 1 (0 ∷ []))
    (record { plus = refl; tight = one_link pentagon pentagon_leaves 0 1 0 (omega arith) (inl (refl, refl)) refl refl refl refl })
    (inl (refl, refl)) refl (λ e. omega (arith, e)) (search_from_root pentagon start 0 start_state refl)).state

abbrev second_pair : PartState
second_pair = record {
  nodes = pentagon_leaves;
  cycles = λ n. [];
  matches = link 2 3 (2 ∷ []) ∷ link 0 1 (0 ∷ []) ∷ [];
  unmatched = 4 ∷ 5 ∷ 6 ∷ [];
}

second_state : IsPartState pentagon second_pair
second_state =
    (state_met pentagon (search_from 2 first_pair) 2 3 (link 2 3 (2 ∷ []))
    (record { plus = refl; tight = one_link pentagon pentagon_leaves 2 3 2 (omega arith) (inl (refl, refl)) refl refl refl refl })
    (inl (refl, refl)) refl (λ e. omega (arith, e)) (search_from_root pentagon first_pair 2 first_state refl)).state

-- corner 4 absorbs the first pair
pub branch_state : IsSearchState pentagon one_branch
branch_state =
    state_attached pentagon (search_from 4 second_pair) first_branch (link 2 3 (2 ∷ []) ∷ []) even_edges
    (record {
      links = IsPermutation-append_comm (link 2 3 (2 ∷ []) ∷ []) (link 0 1 (0 ∷ []) ∷ []);
      parent = refl;
      tree = inl (refl, refl);
      matched = inl (refl, refl);
      tight = one_link pentagon pentagon_leaves 4 0 4 (omega arith) (inl (refl, refl)) refl refl refl refl;
    })
    (search_from_root pentagon second_pair 4 second_state refl)

-- and the second one
branches_state : IsSearchState pentagon two_branches
branches_state =
    state_attached pentagon one_branch second_branch [] even_edges
    (record {
      links = IsPermutation-refl (link 2 3 (2 ∷ []) ∷ []);
      parent = refl;
      tree = inl (refl, refl);
      matched = inr (refl, refl);
      tight = one_link pentagon pentagon_leaves 4 3 3 (omega arith) (inr (refl, refl)) refl refl refl refl;
    })
    branch_state

may_close : MayClose pentagon two_branches 7 1 2 (link 1 2 (1 ∷ []))
may_close = record {
  first = refl;
  second = refl;
  differ = λ e. omega (arith, e);
  connects = inl (refl, refl);
  tight = one_link pentagon pentagon_leaves 1 2 1 (omega arith) (inl (refl, refl)) refl refl refl refl;
  fresh = refl;
}

both_paths : ArePaths two_branches.tree 1 2 [] (first_branch ∷ []) (second_branch ∷ [])
both_paths = record { first = refl; second = refl; parted = λ e. omega (arith, e) }

pub closed_witness : ClosedStateWitness
closed_witness = (may_close, both_paths, branches_state)

pub pair_state : IsPartState pentagon blossom_pair
pair_state =
    (state_met pentagon (joined_state 7 (4 ∷ 0 ∷ 1 ∷ 2 ∷ 3 ∷ []) pentagon_links two_branches) 7 5 (link 0 5 (5 ∷ []))
    (record { plus = refl; tight = one_link pentagon inner_blossom.nodes 0 5 5 (omega arith) (inl (refl, refl)) refl refl refl refl })
    (inl (refl, refl)) refl (λ e. omega (arith, e))
    (state_closed pentagon two_branches 7 1 2 (link 1 2 (1 ∷ [])) [] (first_branch ∷ []) (second_branch ∷ []) may_close both_paths
    branches_state)).state

-- and absorbed by the last one
pub blossom_state : IsSearchState pentagon inner_blossom
blossom_state =
    state_attached pentagon (search_from 6 blossom_pair) blossom_branch [] even_edges
    (record {
      links = IsPermutation-refl (link 0 5 (5 ∷ []) ∷ []);
      parent = refl;
      tree = inl (refl, refl);
      matched = inl (refl, refl);
      tight = one_link pentagon inner_blossom.nodes 6 2 6 (omega arith) (inr (refl, refl)) refl refl refl refl;
    })
    (search_from_root pentagon blossom_pair 6 pair_state refl)

may_split : MaySplit inner_blossom.nodes 7
may_split = record {
  live = refl;
  outer = refl;
  bare = All-from_recursion Bare inner_blossom.nodes (
    λ e. absurd (omega (arith, e)),
    (
      λ e. absurd (omega (arith, e)),
      (
        λ e. absurd (omega (arith, e)),
        (λ e. absurd (omega (arith, e)), (λ e. absurd (omega (arith, e)), (λ e. absurd (omega (arith, e)), (λ e. absurd (omega (arith, e)), (λ e. (refl, refl, refl), tt))))),
      ),
    ),
  );
}
  where
    Bare : Node → Type 0
    Bare n = n.name ≡ 7 → (is_empty n.children ≡ false) × (n.below ≡ []) × (n.top.value ≡ 0)

-- lists with the same members
same_members : (xs ys : List ℕ) → All (λ x. is_in ys x ≡ true) xs → All (λ y. is_in xs y ≡ true) ys → (n : ℕ) → is_in xs n ≡ is_in ys n
same_members xs ys there back n = step (cases_Bool (is_in xs n))
  where
    step : (is_in xs n ≡ true) ⊎ (is_in xs n ≡ false) → is_in xs n ≡ is_in ys n
    step (inl h) = h ∙ sym (is_in-All (λ x. is_in ys x ≡ true) xs there n h)
    step (inr h) =
        h
        ∙ sym
        (false_from_ne_true (is_in ys n)
        (λ k. both_ways (is_in xs n) h (is_in-All (λ y. is_in xs y ≡ true) ys back n k)))

opened_cycle : IsOpenedCycle pentagon inner_blossom.nodes (split_nodes 7 inner_blossom.nodes) blossom_branch 2 pentagon_way pentagon_couples inner_blossom.unmatched
opened_cycle = record {
  split =
      is_split pentagon inner_blossom.nodes (blossom 7 (4 ∷ 0 ∷ 1 ∷ 2 ∷ 3 ∷ []) pentagon_leaves) (0 ∷ 2 ∷ 1 ∷ 4 ∷ 3 ∷ [])
      (among_right pentagon_leaves (blossom 7 (4 ∷ 0 ∷ 1 ∷ 2 ∷ 3 ∷ []) pentagon_leaves ∷ [])
      (blossom 7 (4 ∷ 0 ∷ 1 ∷ 2 ∷ 3 ∷ []) pentagon_leaves) (inl refl))
      may_split blossom_state.search.nest
      (same_members (0 ∷ 2 ∷ 1 ∷ 4 ∷ 3 ∷ []) (4 ∷ 0 ∷ 1 ∷ 2 ∷ 3 ∷ [])
      (All-from_recursion (λ x. is_in (4 ∷ 0 ∷ 1 ∷ 2 ∷ 3 ∷ []) x ≡ true) (0 ∷ 2 ∷ 1 ∷ 4 ∷ 3 ∷ []) (refl, (refl, (refl, (refl, (refl, tt))))))
      (All-from_recursion (λ x. is_in (0 ∷ 2 ∷ 1 ∷ 4 ∷ 3 ∷ []) x ≡ true) (4 ∷ 0 ∷ 1 ∷ 2 ∷ 3 ∷ []) (refl, (refl, (refl, (refl, (refl, tt)))))));
  distinct = (refl, (refl, (refl, (refl, (refl, tt)))));
  above = inl (refl, refl);
  below = inl (refl, refl);
  passed = (inr (refl, refl), inr (refl, refl), tt);
  coupled =
      All-from_recursion (λ c. Connects (split_nodes 7 inner_blossom.nodes) c.link c.first c.second) pentagon_couples
      (inl (refl, refl), tt);
  links =
      links_joined pentagon inner_blossom.nodes (link 1 2 (1 ∷ []) ∷ []) (link 0 1 (0 ∷ []) ∷ link 4 3 (3 ∷ []) ∷ [])
      (one_link pentagon inner_blossom.nodes 1 2 1 (omega arith) (inl (refl, refl)) refl refl refl refl)
      (links_joined pentagon inner_blossom.nodes (link 0 1 (0 ∷ []) ∷ []) (link 4 3 (3 ∷ []) ∷ [])
      (one_link pentagon inner_blossom.nodes 0 1 0 (omega arith) (inl (refl, refl)) refl refl refl refl)
      (one_link pentagon inner_blossom.nodes 4 3 3 (omega arith) (inr (refl, refl)) refl refl refl refl));
  closed =
      is_in-All (λ n. is_in (6 ∷ []) n ≡ false) (0 ∷ 2 ∷ 1 ∷ 4 ∷ 3 ∷ [])
      (All-from_recursion (λ n. is_in (6 ∷ []) n ≡ false) (0 ∷ 2 ∷ 1 ∷ 4 ∷ 3 ∷ []) (refl, (refl, (refl, (refl, (refl, tt))))));
}

pub opened_witness : OpenedStateWitness
opened_witness = (may_split, opened_cycle, blossom_state)
