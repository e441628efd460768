-- A blossom formed in one of several trees keeps the whole state.
use Rattle.std.proofs.Common.{ℕ, ◌≡◌, ◌⊎◌, ◌≤◌, inl, inr, Bool, true, false, List, [], ◌∷◌, ◌++◌, map, length, Some, refl, sym, ap, ◌∙◌, subst, arith}
use Rattle.std.proofs.lemmas.Bool.{both_ways, cases_Bool, false_from_ne_true}
use Rattle.std.proofs.lemmas.List.{map-append}
use Rattle.fb_graph.specs.Parity.{is_in}
use Rattle.fb_graph.specs.Problem.{Problem}
use Rattle.fb_graph.specs.Laws.{Link}
use Rattle.fb_graph.specs.Dual.{IsDual, Node, is_live, is_outer, top_at}
use Rattle.fb_graph.specs.Moves.{MayJoin, joined_nodes}
use Rattle.fb_graph.specs.Nests.{IsNest}
use Rattle.fb_graph.proofs.Booleans.{same_bool}
use Rattle.fb_graph.proofs.Floods.{is_in-right}
use Rattle.fb_graph.proofs.JoinedNests.{nest_joined}
use Rattle.fb_graph.proofs.Members.{is_in-map}
use Rattle.fb_graph.proofs.OddLabels.{member_of_map}
use Rattle.fb_graph.proofs.Sets.{is_in-head, is_in-tail}
use Rattle.fb_graph.proofs.SourceWalks.{walks_joined}
use Rattle.fb_laws.specs.Forests.{AnyTree, IsForest, forest_names, forest_paired, forest_roots}
use Rattle.fb_laws.specs.ForestBlossoms.{ForestCycleCounted, ForestStateClosed, ForestStateJoined, ForestStateRounded}
use Rattle.fb_laws.specs.ForestStates.{IsForestState, among_trees, tree_of}
use Rattle.fb_laws.specs.Forming.{Child, blossom_of, names_of}
use Rattle.fb_laws.specs.PartStates.{SearchState}
use Rattle.fb_laws.specs.SearchBlossoms.{IsJoining, child_at, joined_tree, renamed_name}
use Rattle.fb_laws.specs.Searches.{IsSearch}
use Rattle.fb_laws.specs.StateBlossoms.{joined_state}
use Rattle.fb_laws.specs.TreeCycles.{cycle_links, cycle_nodes, last_plus}
use Rattle.fb_laws.specs.Trees.{paired_links, tree_names}
use Rattle.fb_laws.proofs.ForestEnds.{root_in_names}
use Rattle.fb_laws.proofs.ForestStates.{AreTrees, AreWaiting, forest_put, forest_tree, names_first, root_not_waiting, tree_apart, trees_beside, waiting_beside}
use Rattle.fb_laws.proofs.ForestSteps.{name_set}
use Rattle.fb_laws.proofs.JoinedSearches.{cover_formed, covered_before, leaves_formed, links_formed, new_name, search_joined, sums_formed}
use Rattle.fb_laws.proofs.JoinedTrees.{names_kept, new_in, new_out}
use Rattle.fb_laws.proofs.LinkNumbers.{cycle_in_search}
use Rattle.fb_laws.proofs.MoveBridges.{blossom_named, joining_allowed}
use Rattle.fb_laws.proofs.OpenedBlossoms.{same_permuted}
use Rattle.fb_laws.proofs.RenamedNames.{renamed_new}
use Rattle.fb_laws.proofs.RingLinks.{ring_of_linked}
use Rattle.fb_laws.proofs.SearchStates.{links_left, links_right}
use Rattle.fb_laws.proofs.StateBlossoms.{child_in_tree, ring_joining, ring_linked, ring_some, ring_tight, cycles_joined, joined_gone, joined_kept, joined_names, joined_renaming, rounded_joining, rounded_linked, rounded_tight}
use Rattle.fb_laws.proofs.TreeCycles.{names_at}
use Rattle.fb_laws.proofs.TreesBeside.{AreKept, trees_kept}
use Rattle.fb_laws.proofs.UnmatchedNames.{outer_joined}
use Rattle.fb_laws.proofs.WaitingNodes.{parity_kept, waiting_apart, waiting_live}

-- lists with the same members still have them after a change of all names
same_renamed : (f : ℕ → ℕ) (xs ys : List ℕ) → ((n : ℕ) → is_in xs n ≡ is_in ys n) → (n : ℕ) → is_in (map f xs) n ≡ is_in (map f ys) n
same_renamed f xs ys same n =
    same_bool (is_in (map f xs) n) (is_in (map f ys) n)
    (λ h. let (x, here, gives) = member_of_map f xs n h in ap (is_in (map f ys)) (sym gives) ∙ is_in-map f ys x (sym (same x) ∙ here))
    (λ h. let (y, here, gives) = member_of_map f ys n h in ap (is_in (map f xs)) (sym gives) ∙ is_in-map f xs y (same y ∙ here))

-- names of which none is joined stay
names_unchanged : (joins : ℕ → Bool) (name : ℕ) (ns : List ℕ) → ((n : ℕ) → is_in ns n ≡ true → joins n ≡ false)
    → map (renamed_name joins name) ns ≡ ns
names_unchanged joins name [] out = refl
names_unchanged joins name (n ∷ ns) out =
    ap (λ m. m ∷ map (renamed_name joins name) ns) (new_out joins name n n n (out n (is_in-head n ns)))
    ∙ ap (λ l. n ∷ l) (names_unchanged joins name ns (λ m within. out m (is_in-tail n ns m within)))

-- a name in a tree beside one is among those of all trees
pub beside_within : (before after : List AnyTree) (t : AnyTree) (n : ℕ) → is_in (forest_names (before ++ after)) n ≡ true
    → is_in (forest_names (before ++ t ∷ after)) n ≡ true
beside_within before after t n within =
    sym
    (same_permuted (forest_names (before ++ t ∷ after)) (tree_names t.root t.branches ++ forest_names (before ++ after))
    (names_first before after t) n)
    ∙ is_in-right (tree_names t.root t.branches) (forest_names (before ++ after)) n within

module _ (p : Problem) (before after : List AnyTree) (waiting : List ℕ) (s : SearchState) (name : ℕ) (base : Child) (others : List Child)
    (joining : IsJoining s.nodes s.tree s.root name base others) (some : 1 ≤ length others) (fresh : is_live s.nodes name ≡ false)
    (state : IsForestState p (among_trees before after waiting s)) where
  abbrev joins : ℕ → Bool
  joins = is_in (names_of (base ∷ others))

  abbrev Formed : List Node
  Formed = s.nodes ++ blossom_of name (base ∷ others) ∷ []

  abbrev Beside : List AnyTree
  Beside = before ++ after

  pub tree_search : IsSearch p s.nodes s.tree (forest_paired (before ++ after) ++ s.rest) s.unmatched s.root s.parity
  tree_search = forest_tree p s.nodes before after (tree_of s) s.rest s.unmatched waiting s.parity state.forest

  may : MayJoin s.nodes name (names_of (base ∷ others))
  may = joining_allowed s.nodes s.tree s.root name base others joining some fresh

  nest : IsNest p (joined_nodes name (names_of (base ∷ others)) s.nodes)
  nest = nest_joined p s.nodes name (names_of (base ∷ others)) may state.nest

  pub named : s.nodes ++ blossom_of name (base ∷ others) ∷ [] ≡ joined_nodes name (names_of (base ∷ others)) s.nodes
  named = ap (λ b. s.nodes ++ b ∷ []) (blossom_named s.nodes name (base ∷ others) state.nest.dual.names joining.nodes_are)

  pub formed_dual : IsDual p (s.nodes ++ blossom_of name (base ∷ others) ∷ [])
  formed_dual = subst (IsDual p) (sym named) nest.dual

  pub not_joined : (n : ℕ) → is_in (forest_names (before ++ after)) n ≡ true → is_in (names_of (base ∷ others)) n ≡ false
  not_joined n within =
      false_from_ne_true (is_in (names_of (base ∷ others)) n)
      (λ child.
      both_ways (is_in (forest_names (before ++ after)) n)
      (tree_apart p s.nodes before after (tree_of s) s.rest s.unmatched waiting s.parity state.forest n
      (child_in_tree s.root s.tree (base ∷ others) joining.in_tree n child)) within)

  -- a node that waits isn't joined either
  waiting_out : (n : ℕ) → is_in waiting n ≡ true → is_in (names_of (base ∷ others)) n ≡ false
  waiting_out n waits =
      false_from_ne_true (is_in (names_of (base ∷ others)) n)
      (λ child.
      both_ways (is_in (tree_names s.root s.tree) n) (waiting_apart p before after waiting s state n waits)
      (child_in_tree s.root s.tree (base ∷ others) joining.in_tree n child))

  waiting_old : (n : ℕ) → is_in waiting n ≡ true → n ≡ name → ⊥
  waiting_old n waits new =
      both_ways (is_live s.nodes n) (ap (is_live s.nodes) new ∙ fresh)
      (waiting_live p (among_trees before after waiting s) state n waits)

  not_new : (n : ℕ) → is_in (forest_names (before ++ after)) n ≡ true → n ≡ name → ⊥
  not_new n within =
      new_name p s.nodes name base others joining.nodes_are state.nest.dual formed_dual joining.fresh n (top_at s.nodes n)
      (name_set p s.nodes (before ++ tree_of s ∷ after) s.rest s.unmatched waiting s.parity state.forest n
      (beside_within before after (tree_of s) n within))

  -- nodes that aren't joined stay
  kept : (names : ℕ → Bool) → ((n : ℕ) → names n ≡ true → is_in (names_of (base ∷ others)) n ≡ false)
      → ((n : ℕ) → names n ≡ true → n ≡ name → ⊥) → AreKept p s.nodes (s.nodes ++ blossom_of name (base ∷ others) ∷ []) names
  kept names unjoined old = record {
    defects = leaves_formed p s.nodes name base others joining.nodes_are state.nest.dual formed_dual joining.fresh;
    heights = λ v. sums_formed p s.nodes name base others joining.nodes_are state.nest.dual formed_dual joining.fresh (λ set. is_in set v);
    under = λ d n leaf within cover.
        cover_formed p s.nodes name base others joining.nodes_are state.nest.dual formed_dual joining.fresh d n cover
        ∙ ap Some (new_out joins name base.name s.root n (unjoined n within));
    back = λ d n leaf within cover.
        let (m, is, same) =
        covered_before p s.nodes name base others joining.nodes_are state.nest.dual formed_dual joining.fresh d n leaf cover in
        is ∙ ap Some (by n m within same (cases_Bool (is_in (names_of (base ∷ others)) m)));
    links = links_formed p s.nodes name base others joining.nodes_are state.nest.dual formed_dual joining.fresh;
  }
    where
      by : (n m : ℕ) → names n ≡ true → n ≡ renamed_name (is_in (names_of (base ∷ others))) name m
          → (is_in (names_of (base ∷ others)) m ≡ true) ⊎ (is_in (names_of (base ∷ others)) m ≡ false) → m ≡ n
      by n m within same (inl child) = absurd (old n within (same ∙ new_in joins name base.name s.root m child))
      by n m within same (inr out) = sym (same ∙ new_out joins name base.name s.root m out)

  beside : AreTrees p (s.nodes ++ blossom_of name (base ∷ others) ∷ []) (before ++ after) s.parity
  beside =
      trees_kept p s.nodes (s.nodes ++ blossom_of name (base ∷ others) ∷ []) (before ++ after) s.parity
      (kept (is_in (forest_names (before ++ after))) not_joined not_new) state.nest.dual
      (links_left p s.nodes (forest_paired (before ++ after)) s.rest
      (links_right p s.nodes (paired_links s.tree) (forest_paired (before ++ after) ++ s.rest) tree_search.matching.links_are))
      (trees_beside p s.nodes before after (tree_of s) s.rest s.unmatched waiting s.parity state.forest)

  joined_search : IsSearch p (s.nodes ++ blossom_of name (base ∷ others) ∷ [])
      (joined_tree (is_in (names_of (base ∷ others))) name s.tree) (forest_paired (before ++ after) ++ s.rest)
      (map (renamed_name (is_in (names_of (base ∷ others))) name) s.unmatched)
      (renamed_name (is_in (names_of (base ∷ others))) name s.root) s.parity
  joined_search =
      search_joined p s.nodes s.tree (forest_paired (before ++ after) ++ s.rest) s.unmatched
      (map (renamed_name (is_in (names_of (base ∷ others))) name) s.unmatched) s.root s.parity name base others joining formed_dual
      (renamed_new joins name base.name s.unmatched
      (joined_renaming p s.nodes s.tree (forest_paired Beside ++ s.rest) s.unmatched s.root s.parity name base others joining some
      fresh state.names tree_search))
      (joined_kept p s.nodes s.tree (forest_paired Beside ++ s.rest) s.unmatched s.root s.parity name base others joining some fresh
      state.names tree_search)
      tree_search

  abbrev joined_one : AnyTree
  joined_one =
      record {
        root = renamed_name (is_in (names_of (base ∷ others))) name s.root;
        branches = joined_tree (is_in (names_of (base ∷ others))) name s.tree;
      }

  -- what is in the joined tree is in no other one
  apart : (n : ℕ) → is_in (tree_names joined_one.root joined_one.branches) n ≡ true → is_in (forest_names (before ++ after)) n ≡ false
  apart n among = by (names_kept joins name base.name s.root s.tree joining.branches n among)
    where
      by : (is_in (tree_names s.root s.tree) n ≡ true) × (is_in (names_of (base ∷ others)) n ≡ false)
          ⊎ (n ≡ name) × (is_in (tree_names s.root s.tree) base.name ≡ true) → is_in (forest_names (before ++ after)) n ≡ false
      by (inl (there, out)) =
          tree_apart p s.nodes before after (tree_of s) s.rest s.unmatched waiting s.parity state.forest n there
      by (inr (new, there)) =
          false_from_ne_true (is_in (forest_names (before ++ after)) n) (λ within. not_new n within new)

  -- what waits stays as it was
  still_waiting : AreWaiting (s.nodes ++ blossom_of name (base ∷ others) ∷ []) (before ++ after) waiting
  still_waiting = record {
    apart = (waiting_beside p s.nodes before after (tree_of s) s.rest s.unmatched waiting s.parity state.forest).apart;
    even =
        parity_kept p s.nodes (s.nodes ++ blossom_of name (base ∷ others) ∷ []) (is_in waiting) 0
        (kept (is_in waiting) waiting_out waiting_old) state.forest.even;
  }

  -- the root of the joined tree doesn't wait
  grows : is_in waiting (renamed_name (is_in (names_of (base ∷ others))) name s.root) ≡ false
  grows = by (cases_Bool (is_in (names_of (base ∷ others)) s.root))
    where
      by : (is_in (names_of (base ∷ others)) s.root ≡ true) ⊎ (is_in (names_of (base ∷ others)) s.root ≡ false)
          → is_in waiting (renamed_name (is_in (names_of (base ∷ others))) name s.root) ≡ false
      by (inl child) =
          ap (is_in waiting) (new_in joins name base.name s.root s.root child)
          ∙ false_from_ne_true (is_in waiting name) (λ waits. waiting_old name waits refl)
      by (inr out) =
          ap (is_in waiting) (new_out joins name base.name s.root s.root out)
          ∙ root_not_waiting p s.nodes before after (tree_of s) s.rest s.unmatched waiting s.parity state.forest

  -- the roots under their new names
  roots_are : (bs : List AnyTree) → ((n : ℕ) → is_in (forest_roots (bs ++ after)) n ≡ true → is_in (names_of (base ∷ others)) n ≡ false)
      → map (renamed_name (is_in (names_of (base ∷ others))) name) (forest_roots (bs ++ tree_of s ∷ after))
      ≡ forest_roots (bs ++ joined_one ∷ after)
  roots_are [] out = ap (λ l. joined_one.root ∷ l) (names_unchanged joins name (forest_roots after) out)
  roots_are (b ∷ bs) out =
      ap (λ m. m ∷ map (renamed_name joins name) (forest_roots (bs ++ tree_of s ∷ after)))
      (new_out joins name base.name s.root b.root (out b.root (is_in-head b.root (forest_roots (bs ++ after)))))
      ∙ ap (λ l. b.root ∷ l) (roots_are bs (λ n within. out n (is_in-tail b.root (forest_roots (bs ++ after)) n within)))

  roots : (n : ℕ) → is_in (map (renamed_name (is_in (names_of (base ∷ others))) name) s.unmatched) n
      ≡ is_in (forest_roots (before ++ joined_one ∷ after) ++ waiting) n
  roots n =
      same_renamed (renamed_name joins name) s.unmatched (forest_roots (before ++ tree_of s ∷ after) ++ waiting) state.forest.roots n
      ∙ ap (λ l. is_in l n)
      (map-append (renamed_name joins name) (forest_roots (before ++ tree_of s ∷ after)) waiting
      ∙ (ap (λ l. l ++ map (renamed_name joins name) waiting)
      (roots_are before (λ m within. not_joined m (root_in_names (before ++ after) m within)))
      ∙ ap (λ l. forest_roots (before ++ joined_one ∷ after) ++ l) (names_unchanged joins name waiting waiting_out)))

  joined_forest : IsForest p (joined_nodes name (names_of (base ∷ others)) s.nodes) (before ++ joined_one ∷ after) s.rest
      (map (renamed_name (is_in (names_of (base ∷ others))) name) s.unmatched) waiting s.parity
  joined_forest =
      subst
      (λ ns. IsForest p ns (before ++ joined_one ∷ after) s.rest (map (renamed_name joins name) s.unmatched) waiting s.parity) named
      (forest_put p Formed before after joined_one s.rest (map (renamed_name joins name) s.unmatched) waiting s.parity beside
      still_waiting grows joined_search apart roots)

pub forest_state_joined : ForestStateJoined
forest_state_joined p before after waiting s name base others links joining some fresh linked tight state = record {
  nest = nest p before after waiting s name base others joining some fresh state;
  forest = joined_forest p before after waiting s name base others joining some fresh state;
  walks =
      walks_joined p s.nodes name (names_of (base ∷ others))
      (joining_allowed s.nodes s.tree s.root name base others joining some fresh) state.nest state.walks;
  outer =
      outer_joined s.nodes name (names_of (base ∷ others)) s.unmatched
      (map (renamed_name (is_in (names_of (base ∷ others))) name) s.unmatched)
      (subst (λ ns. is_outer ns name ≡ true) (named p before after waiting s name base others joining some fresh state) joining.fresh)
      (joined_gone p s.nodes s.tree (forest_paired (before ++ after) ++ s.rest) s.unmatched s.root s.parity name base others joining
      some fresh state.names (tree_search p before after waiting s name base others joining some fresh state))
      (joined_kept p s.nodes s.tree (forest_paired (before ++ after) ++ s.rest) s.unmatched s.root s.parity name base others joining
      some fresh state.names (tree_search p before after waiting s name base others joining some fresh state))
      state.outer;
  cycles =
      cycles_joined p s.nodes s.cycles name base.name (names_of others) links state.nest fresh
      (joining_allowed s.nodes s.tree s.root name base others joining some fresh).live
      (ring_of_linked s.nodes base.name (names_of others) links state.nest.dual.names linked) tight state.cycles;
  names =
      joined_names p s.nodes s.tree (forest_paired (before ++ after) ++ s.rest) s.unmatched s.root s.parity name base others joining
      some fresh state.names (tree_search p before after waiting s name base others joining some fresh state);
  waiting = state.waiting;
}

pub forest_state_closed : ForestStateClosed
forest_state_closed p before after waiting s name a b closing shared up down may paths state =
    let search = forest_tree p s.nodes before after (tree_of s) s.rest s.unmatched waiting s.parity state.forest in
    let rest : List Link = forest_paired (before ++ after) ++ s.rest in
    subst
    (λ names.
    IsForestState p
    (among_trees before after waiting (joined_state name (last_plus s.root shared ∷ names) (cycle_links up closing down) s)))
    (names_at s.nodes (cycle_nodes up down))
    (forest_state_joined p before after waiting s name (child_at s.nodes (last_plus s.root shared))
    (map (child_at s.nodes) (cycle_nodes up down)) (cycle_links up closing down)
    (ring_joining p s name a b closing shared up down may paths rest state.nest search)
    (ring_some p s name a b closing shared up down may paths rest state.nest search) may.fresh
    (ring_linked p s name a b closing shared up down may paths rest state.nest search)
    (ring_tight p s name a b closing shared up down may paths rest state.nest search) state)

pub forest_state_rounded : ForestStateRounded
forest_state_rounded p before after waiting s name newer older e closing tree_is closes tight fresh state =
    let search = forest_tree p s.nodes before after (tree_of s) s.rest s.unmatched waiting s.parity state.forest in
    let rest : List Link = forest_paired (before ++ after) ++ s.rest in
    forest_state_joined p before after waiting s name (child_at s.nodes e.parent)
    (child_at s.nodes e.minus ∷ child_at s.nodes e.plus ∷ []) (e.tree ∷ e.matched ∷ closing ∷ [])
    (rounded_joining p s name newer older e closing tree_is closes tight fresh rest state.nest search) (omega arith) fresh
    (rounded_linked p s name newer older e closing tree_is closes tight fresh rest state.nest search)
    (rounded_tight p s name newer older e closing tree_is closes tight fresh rest state.nest search) state

pub forest_cycle_counted : ForestCycleCounted
forest_cycle_counted p before after waiting s name a b closing shared up down may paths state =
    cycle_in_search p s name a b closing shared up down may paths (forest_paired (before ++ after) ++ s.rest) state.nest
    (forest_tree p s.nodes before after (tree_of s) s.rest s.unmatched waiting s.parity state.forest)
