-- A blossom formed in the tree of a half-solved part keeps the whole state.
use Rattle.std.proofs.Common.{ℕ, ◌≡◌, ◌≤◌, ◌==◌, ◌⊎◌, inl, inr, not, cond, Bool, true, false, List, [], ◌∷◌, ◌++◌, map, length, All, refl, sym, ap, ◌∙◌, subst, arith, append-nil, if◌then◌else◌}
use Rattle.std.proofs.lemmas.Bool.{both_ways, cases_Bool, eq-eqb, eqb-true, false_from_ne_true, not_from_false, and_from}
use Rattle.std.proofs.lemmas.List.{length-map}
use Rattle.std.proofs.lemmas.List.Elements.{All-nil, All-cons, All-append, All-map}
use Rattle.std.proofs.lemmas.List.Concat.{flat_map-append}
use Rattle.fb_graph.specs.Parity.{is_in}
use Rattle.fb_graph.specs.Problem.{Problem}
use Rattle.fb_graph.specs.Certificate.{load_of}
use Rattle.fb_graph.specs.Laws.{Link}
use Rattle.fb_graph.specs.Dual.{Node, all_cuts, is_empty, is_live, is_outer, leaves, top_at}
use Rattle.fb_graph.specs.Moves.{blossom, joined_nodes}
use Rattle.fb_graph.specs.Nests.{IsNest, child_sets}
use Rattle.fb_graph.proofs.Among.{IsAmong, All_among, among_All, among_either, among_left, among_live, among_outer, among_right, live_among, outer_among, top_left}
use Rattle.fb_graph.proofs.AppendedNodes.{cuts_merged, leaves_merged}
use Rattle.fb_graph.proofs.Forests.{absent_outer}
use Rattle.fb_graph.proofs.NestParts.{map_agree}
use Rattle.fb_graph.proofs.Sets.{All-from_is_in, is_in-All, is_in-cases, is_in-filter, is_in-head}
use Rattle.fb_graph.proofs.TightLinks.{empty_layer_loads}
use Rattle.fb_laws.specs.Forming.{Child, blossom_of, names_of}
use Rattle.fb_laws.specs.PartStates.{IsRing, AreCycles, AreLiveNames, IsSearchState, SearchState, all_cycle_links, links_at}
use Rattle.fb_laws.specs.SearchBlossoms.{IsJoining, child_at, renamed_name}
use Rattle.fb_laws.specs.Searches.{IsSearch}
use Rattle.fb_laws.specs.StateBlossoms.{MayClose, StateJoined, StateClosed, StateRounded, joined_state, with_cycle}
use Rattle.fb_laws.specs.TreeCycles.{AreLinked, ArePaths, cycle_links, cycle_nodes, last_plus}
use Rattle.fb_laws.specs.Trees.{Entry, Connects, grown_links, paired_links, tree_names}
use Rattle.fb_laws.specs.Works.{AreMatchedLinks}
use Rattle.fb_laws.proofs.CycleMoves.{links_kept, rings_over}
use Rattle.fb_laws.proofs.JoinedThree.{three_joining}
use Rattle.fb_laws.proofs.MoveBridges.{joining_allowed}
use Rattle.fb_laws.proofs.NestedStates.{nested_joined}
use Rattle.fb_laws.proofs.RenamedNames.{IsRenaming, renamed_distinct, renamed_gone, renamed_new, renamed_other}
use Rattle.fb_laws.proofs.RingLinks.{cycle_link_in, linked_live, links_among, ring_of_linked}
use Rattle.fb_laws.proofs.SearchStates.{links_joined, unmatched_outside, links_left}
use Rattle.fb_laws.proofs.TreeCycles.{cycle_joining, cycle_linked, cycle_many, names_at}
use Rattle.fb_laws.proofs.TreePaths.{path_among, tree_connects}
use Rattle.fb_graph.proofs.Floods.{is_in-left, is_in-right}

other_cycle : (name n : ℕ) (links : List Link) (cycles : ℕ → List Link) → (n ≡ name → ⊥)
    → with_cycle name links cycles n ≡ cycles n
other_cycle name n links cycles other =
    ap (λ b. cond b links (cycles n)) (false_from_ne_true (n == name) (λ same. other (eqb-true n name same)))

-- the links of nodes that have not the blossom's name
links_agree : (name : ℕ) (links : List Link) (cycles : ℕ → List Link) (nodes : List Node)
    → ((n : Node) → IsAmong n nodes → n.name ≡ name → ⊥)
    → all_cycle_links nodes (with_cycle name links cycles) ≡ all_cycle_links nodes cycles
links_agree name links cycles [] other = refl
links_agree name links cycles (n ∷ ns) other =
    ap (λ l. l ++ all_cycle_links ns (with_cycle name links cycles))
    (ap (λ l. if is_empty n.children then [] else l) (other_cycle name n.name links cycles (other n (inl refl))))
    ∙ ap (λ l. links_at cycles n ++ l) (links_agree name links cycles ns (λ m a. other m (inr a)))

module _ (p : Problem) (nodes : List Node) (cycles : ℕ → List Link) (name first : ℕ) (names : List ℕ) (links : List Link) (nest : IsNest p nodes) (fresh : is_live nodes name ≡ false) (live : All (λ c. is_live nodes c ≡ true) (first ∷ names)) where
  no_blossom : (n : Node) → IsAmong n nodes → n.name ≡ name → ⊥
  no_blossom n a same = both_ways (is_live nodes name) fresh (among_live nodes n name a same)

  joined_links : (some : List Link) → AreMatchedLinks p nodes some → AreMatchedLinks p (joined_nodes name (first ∷ names) nodes) some
  joined_links some are =
      links_kept p nodes (joined_nodes name (first ∷ names) nodes) some
      (leaves_merged nodes (blossom name (first ∷ names) nodes ∷ []) ∙ append-nil (leaves nodes))
      (λ e.
      ap (λ cuts. load_of cuts e) (cuts_merged nodes (blossom name (first ∷ names) nodes ∷ []))
      ∙ (empty_layer_loads (all_cuts nodes) [] (blossom name (first ∷ names) nodes).top e refl
      ∙ ap (λ cuts. load_of cuts e) (append-nil (all_cuts nodes))))
      are

  old_rings : All (λ n. IsRing (child_sets nodes n) (cycles n.name)) nodes
      → All (λ n. IsRing (child_sets (joined_nodes name (first ∷ names) nodes) n) (with_cycle name links cycles n.name)) nodes
  old_rings rings =
      rings_over nodes (joined_nodes name (first ∷ names) nodes) nodes (with_cycle name links cycles)
      (λ n a c child.
      top_left nodes (blossom name (first ∷ names) nodes ∷ []) c
      (is_in-All (λ x. is_live nodes x ≡ true) n.children
      (All_among (λ m. All (λ x. is_live nodes x ≡ true) m.children) nodes nest.forest.live n a) c child))
      (among_All (λ n. IsRing (child_sets nodes n) (with_cycle name links cycles n.name)) nodes
      (λ n a.
      subst (IsRing (child_sets nodes n)) (sym (other_cycle name n.name links cycles (no_blossom n a)))
      (All_among (λ m. IsRing (child_sets nodes m) (cycles m.name)) nodes rings n a)))

  new_ring : IsRing (map (top_at nodes) (first ∷ names)) links
      → IsRing (child_sets (joined_nodes name (first ∷ names) nodes) (blossom name (first ∷ names) nodes)) (with_cycle name links cycles name)
  new_ring ring =
      subst (IsRing (map (top_at (joined_nodes name (first ∷ names) nodes)) (first ∷ names)))
      (sym (ap (λ b. cond b links (cycles name)) (eq-eqb name name refl)))
      (subst (λ sets. IsRing sets links)
      (sym
      (map_agree (top_at (joined_nodes name (first ∷ names) nodes)) (top_at nodes) (first ∷ names)
      (All-from_is_in (λ c. top_at (joined_nodes name (first ∷ names) nodes) c ≡ top_at nodes c) (first ∷ names)
      (λ c within.
      top_left nodes (blossom name (first ∷ names) nodes ∷ []) c
      (is_in-All (λ x. is_live nodes x ≡ true) (first ∷ names) live c within)))))
      ring)

  pub cycles_joined : IsRing (map (top_at nodes) (first ∷ names)) links → AreMatchedLinks p nodes links → AreCycles p nodes cycles
      → AreCycles p (joined_nodes name (first ∷ names) nodes) (with_cycle name links cycles)
  cycles_joined ring tight old = record {
    rings =
        All-append
        (λ n. IsRing (child_sets (joined_nodes name (first ∷ names) nodes) n) (with_cycle name links cycles n.name)) nodes
        (blossom name (first ∷ names) nodes ∷ []) (old_rings old.rings)
        (All-cons
        (λ n. IsRing (child_sets (joined_nodes name (first ∷ names) nodes) n) (with_cycle name links cycles n.name))
        (blossom name (first ∷ names) nodes) [] (new_ring ring)
        (All-nil (λ (n : Node). IsRing (child_sets (joined_nodes name (first ∷ names) nodes) n) (with_cycle name links cycles n.name))));
    links =
        subst (AreMatchedLinks p (joined_nodes name (first ∷ names) nodes)) (sym same)
        (links_joined p (joined_nodes name (first ∷ names) nodes) (all_cycle_links nodes cycles) links
        (joined_links (all_cycle_links nodes cycles) old.links) (joined_links links tight));
  }
    where
      same : all_cycle_links (joined_nodes name (first ∷ names) nodes) (with_cycle name links cycles) ≡ all_cycle_links nodes cycles ++ links
      same =
          flat_map-append (links_at (with_cycle name links cycles)) nodes (blossom name (first ∷ names) nodes ∷ [])
          ∙ (ap (λ l. l ++ (with_cycle name links cycles name ++ [])) (links_agree name links cycles nodes no_blossom)
          ∙ ap (λ l. all_cycle_links nodes cycles ++ l)
          (append-nil (with_cycle name links cycles name) ∙ ap (λ b. cond b links (cycles name)) (eq-eqb name name refl)))

-- an unmatched node of the tree is its root
pub open_is_root : (p : Problem) (nodes : List Node) (tree : List Entry) (rest : List Link) (unmatched : List ℕ) (root r : ℕ)
    → IsSearch p nodes tree rest unmatched root r → (n : ℕ) → is_in (tree_names root tree) n ≡ true → is_in unmatched n ≡ true
    → n ≡ root
open_is_root p nodes tree rest unmatched root r search n within open_ = step (n == root) refl
  where
    step : (b : Bool) → (n == root) ≡ b → n ≡ root
    step true e = eqb-true n root e
    step false e =
        absurd
        (both_ways (is_in (tree_names root tree) n)
        (unmatched_outside p nodes tree rest unmatched root r search n
        (is_in-filter (λ m. not (m == root)) unmatched n
        ∙ and_from (is_in unmatched n) (not (n == root)) open_ (not_from_false (n == root) e)))
        within)

pub unmatched_is_root : (p : Problem) (s : SearchState) → IsSearchState p s → (n : ℕ) → is_in (tree_names s.root s.tree) n ≡ true
    → is_in s.unmatched n ≡ true → n ≡ s.root
unmatched_is_root p s state = open_is_root p s.nodes s.tree s.rest s.unmatched s.root s.parity state.search.search

pub child_in_tree : (root : ℕ) (tree : List Entry) (children : List Child) → All (λ c. is_in (tree_names root tree) c.name ≡ true) children
    → (n : ℕ) → is_in (names_of children) n ≡ true → is_in (tree_names root tree) n ≡ true
child_in_tree root tree children are n within =
    is_in-All (λ m. is_in (tree_names root tree) m ≡ true) (names_of children)
    (All-map (λ m. is_in (tree_names root tree) m ≡ true) (λ c. c.name) children are) n within

-- the unmatched names after branches of a tree are joined
module _ (p : Problem) (nodes : List Node) (tree : List Entry) (rest : List Link) (unmatched : List ℕ) (root r name : ℕ)
    (base : Child) (others : List Child) (joining : IsJoining nodes tree root name base others) (some : 1 ≤ length others)
    (fresh : is_live nodes name ≡ false) (names : AreLiveNames nodes unmatched) (search : IsSearch p nodes tree rest unmatched root r) where
  abbrev joins : ℕ → Bool
  joins = is_in (names_of (base ∷ others))

  pub child_not_new : (n : ℕ) → is_in (names_of (base ∷ others)) n ≡ true → n ≡ name → ⊥
  child_not_new n within same =
      both_ways (is_live nodes name) fresh
      (ap (is_live nodes) (sym same)
      ∙ is_in-All (λ x. is_live nodes x ≡ true) (names_of (base ∷ others))
      (joining_allowed nodes tree root name base others joining some fresh).live n within)

  pub joined_renaming : IsRenaming (is_in (names_of (base ∷ others))) name base.name unmatched
  joined_renaming = record {
    fresh =
        false_from_ne_true (is_in unmatched name)
        (λ open_. both_ways (is_live nodes name) fresh (names.live name open_));
    base_in = is_in-head base.name (names_of others);
    alone = λ n open_ within.
        let root_is : n ≡ root =
        open_is_root p nodes tree rest unmatched root r search n (child_in_tree root tree (base ∷ others) joining.in_tree n within)
        open_ in
        root_is ∙ joining.branches.roots (ap joins (sym root_is) ∙ within);
  }

  pub joined_gone : (n : ℕ) → is_in (names_of (base ∷ others)) n ≡ true
      → is_in (map (renamed_name (is_in (names_of (base ∷ others))) name) unmatched) n ≡ false
  joined_gone n within = renamed_gone joins name n unmatched within (child_not_new n within)

  pub joined_kept : (n : ℕ) → is_in (names_of (base ∷ others)) n ≡ false → (n ≡ name → ⊥)
      → is_in (map (renamed_name (is_in (names_of (base ∷ others))) name) unmatched) n ≡ is_in unmatched n
  joined_kept n out other = renamed_other joins name n unmatched out other

  abbrev blossom_is : Node
  blossom_is = blossom name (names_of (base ∷ others)) nodes

  still_live : (n : ℕ) → is_in (map (renamed_name joins name) unmatched) n ≡ true → ((n == name) ≡ true) ⊎ ((n == name) ≡ false)
      → (joins n ≡ true) ⊎ (joins n ≡ false) → is_live (joined_nodes name (names_of (base ∷ others)) nodes) n ≡ true
  still_live n within (inl same) which =
      among_live (joined_nodes name (names_of (base ∷ others)) nodes) blossom_is n
      (among_right nodes (blossom_is ∷ []) blossom_is (inl refl)) (sym (eqb-true n name same))
  still_live n within (inr other) (inl here) =
      absurd (both_ways (is_in (map (renamed_name joins name) unmatched) n) (joined_gone n here) within)
  still_live n within (inr other) (inr out) =
      let open_ : is_in unmatched n ≡ true =
      sym (joined_kept n out (λ same. both_ways (n == name) other (eq-eqb n name same))) ∙ within in
      let (m, a, named) = live_among nodes n (names.live n open_) in
      among_live (joined_nodes name (names_of (base ∷ others)) nodes) m n (among_left nodes (blossom_is ∷ []) m a) named

  pub joined_names : AreLiveNames (joined_nodes name (names_of (base ∷ others)) nodes)
      (map (renamed_name (is_in (names_of (base ∷ others))) name) unmatched)
  joined_names = record {
    live = λ n within. still_live n within (cases_Bool (n == name)) (cases_Bool (joins n));
    distinct = renamed_distinct joins name base.name unmatched joined_renaming names.distinct;
  }

pub state_joined : StateJoined
state_joined p s name base others links joining some fresh linked tight state = record {
  search =
      nested_joined p s.nodes s.tree s.rest s.unmatched (map (renamed_name joins_ name) s.unmatched) s.root s.parity name base others
      joining some fresh (renamed_new joins_ name base.name s.unmatched is)
      (joined_gone p s.nodes s.tree s.rest s.unmatched s.root s.parity name base others joining some fresh state.names search)
      (joined_kept p s.nodes s.tree s.rest s.unmatched s.root s.parity name base others joining some fresh state.names search)
      state.search;
  cycles =
      cycles_joined p s.nodes s.cycles name base.name (names_of others) links state.search.nest fresh
      (joining_allowed s.nodes s.tree s.root name base others joining some fresh).live
      (ring_of_linked s.nodes base.name (names_of others) links state.search.nest.dual.names linked) tight state.cycles;
  names = joined_names p s.nodes s.tree s.rest s.unmatched s.root s.parity name base others joining some fresh state.names search;
}
  where
    joins_ : ℕ → Bool
    joins_ = is_in (names_of (base ∷ others))

    search : IsSearch p s.nodes s.tree s.rest s.unmatched s.root s.parity
    search = state.search.search

    is : IsRenaming (is_in (names_of (base ∷ others))) name base.name s.unmatched
    is = joined_renaming p s.nodes s.tree s.rest s.unmatched s.root s.parity name base others joining some fresh state.names search

-- the further node is outer where its name is new and its children are nodes
fresh_outer : (p : Problem) (nodes : List Node) (b : Node) → IsNest p nodes → is_live nodes b.name ≡ false
    → ((n : ℕ) → is_in b.children n ≡ true → is_live nodes n ≡ true) → is_outer (nodes ++ b ∷ []) b.name ≡ true
fresh_outer p nodes b nest fresh live =
    among_outer (nodes ++ b ∷ []) b.name (λ q a. step q (among_either nodes (b ∷ []) q a))
  where
    step : (q : Node) → IsAmong q nodes ⊎ IsAmong q (b ∷ []) → is_in q.children b.name ≡ false
    step q (inl a) = outer_among nodes b.name (absent_outer nodes nest.forest b.name fresh) q a
    step q (inr (inl same)) =
        ap (λ x. is_in x.children b.name) (sym same)
        ∙ false_from_ne_true (is_in b.children b.name) (λ child. both_ways (is_live nodes b.name) fresh (live b.name child))
    step q (inr (inr none)) = absurd none

module _ (p : Problem) (s : SearchState) (name a b : ℕ) (closing : Link) (shared up down : List Entry) (may : MayClose p s name a b closing)
    (paths : ArePaths s.tree a b shared up down) (rest : List Link) (nest : IsNest p s.nodes)
    (search : IsSearch p s.nodes s.tree rest s.unmatched s.root s.parity) where
  abbrev first : ℕ
  first = last_plus s.root shared

  ring_names : names_of (map (child_at s.nodes) (cycle_nodes up down)) ≡ cycle_nodes up down
  ring_names = names_at s.nodes (cycle_nodes up down)

  ring_round : AreLinked s.nodes (last_plus s.root shared) (cycle_nodes up down ++ last_plus s.root shared ∷ []) (cycle_links up closing down)
  ring_round =
      cycle_linked p s.nodes s.tree rest s.unmatched s.root s.parity a b shared up down closing search may.first
      may.second paths may.connects

  ring_live : (n : ℕ) → is_in (names_of (child_at s.nodes (last_plus s.root shared) ∷ map (child_at s.nodes) (cycle_nodes up down))) n ≡ true
      → is_live s.nodes n ≡ true
  ring_live n within =
      linked_live s.nodes first (cycle_nodes up down ++ first ∷ []) (cycle_links up closing down) ring_round n
      (either (is_in-cases first (cycle_nodes up down) n (subst (λ names. is_in (first ∷ names) n ≡ true) ring_names within)))
    where
      either : (first ≡ n) ⊎ (is_in (cycle_nodes up down) n ≡ true) → is_in (cycle_nodes up down ++ first ∷ []) n ≡ true
      either (inl here) =
          is_in-right (cycle_nodes up down) (first ∷ []) n (subst (λ m. is_in (first ∷ []) m ≡ true) here (is_in-head first []))
      either (inr there) = is_in-left (cycle_nodes up down) (first ∷ []) n there

  pub ring_joining : IsJoining s.nodes s.tree s.root name (child_at s.nodes (last_plus s.root shared)) (map (child_at s.nodes) (cycle_nodes up down))
  ring_joining =
      cycle_joining p s.nodes s.tree rest s.unmatched s.root s.parity name a b shared up down search may.first
      may.second paths
      (fresh_outer p s.nodes
      (blossom_of name (child_at s.nodes first ∷ map (child_at s.nodes) (cycle_nodes up down))) nest may.fresh ring_live)

  pub ring_some : 1 ≤ length (map (child_at s.nodes) (cycle_nodes up down))
  ring_some =
      let many =
      cycle_many p s.nodes s.tree rest s.unmatched s.root s.parity a b shared up down search may.first may.second
      paths may.differ in
      let three = many.three in
      omega (arith, three, length-map (cycle_nodes up down) (child_at s.nodes))

  pub ring_tight : AreMatchedLinks p s.nodes (cycle_links up closing down)
  ring_tight =
      links_among p s.nodes (cycle_links up closing down) ((closing ∷ []) ++ (grown_links s.tree ++ paired_links s.tree))
      (cycle_link_in s.tree up down closing
      (λ e h. path_among s.tree a e (subst (IsAmong e) (sym paths.first) (among_right shared up e h)))
      (λ e h. path_among s.tree b e (subst (IsAmong e) (sym paths.second) (among_right shared down e h))))
      (links_joined p s.nodes (closing ∷ []) (grown_links s.tree ++ paired_links s.tree) may.tight
      (links_joined p s.nodes (grown_links s.tree) (paired_links s.tree) search.grown
      (links_left p s.nodes (paired_links s.tree) rest search.matching.links_are)))

  pub ring_linked : AreLinked s.nodes (last_plus s.root shared)
      (names_of (map (child_at s.nodes) (cycle_nodes up down)) ++ last_plus s.root shared ∷ []) (cycle_links up closing down)
  ring_linked =
      subst (λ names. AreLinked s.nodes first (names ++ first ∷ []) (cycle_links up closing down)) (sym ring_names) ring_round

-- for the tree of a search
module _ (p : Problem) (s : SearchState) (name a b : ℕ) (closing : Link) (shared up down : List Entry) (may : MayClose p s name a b closing)
    (paths : ArePaths s.tree a b shared up down) (state : IsSearchState p s) where
  pub closed_names : names_of (map (child_at s.nodes) (cycle_nodes up down)) ≡ cycle_nodes up down
  closed_names = names_at s.nodes (cycle_nodes up down)

  pub closed_joining : IsJoining s.nodes s.tree s.root name (child_at s.nodes (last_plus s.root shared)) (map (child_at s.nodes) (cycle_nodes up down))
  closed_joining = ring_joining p s name a b closing shared up down may paths s.rest state.search.nest state.search.search

  pub closed_some : 1 ≤ length (map (child_at s.nodes) (cycle_nodes up down))
  closed_some = ring_some p s name a b closing shared up down may paths s.rest state.search.nest state.search.search

pub state_closed : StateClosed
state_closed p s name a b closing shared up down may paths state =
    subst
    (λ names. IsSearchState p (joined_state name (last_plus s.root shared ∷ names) (cycle_links up closing down) s))
    (closed_names p s name a b closing shared up down may paths state)
    (state_joined p s name (child_at s.nodes (last_plus s.root shared)) (map (child_at s.nodes) (cycle_nodes up down))
    (cycle_links up closing down) (closed_joining p s name a b closing shared up down may paths state)
    (closed_some p s name a b closing shared up down may paths state) may.fresh
    (ring_linked p s name a b closing shared up down may paths s.rest state.search.nest state.search.search)
    (ring_tight p s name a b closing shared up down may paths s.rest state.search.nest state.search.search) state)

module _ (p : Problem) (s : SearchState) (name : ℕ) (newer older : List Entry) (e : Entry) (closing : Link)
    (tree_is : s.tree ≡ newer ++ e ∷ older) (closes : Connects s.nodes closing e.plus e.parent)
    (tight : AreMatchedLinks p s.nodes (closing ∷ [])) (fresh : is_live s.nodes name ≡ false) (rest : List Link)
    (nest : IsNest p s.nodes) (search : IsSearch p s.nodes s.tree rest s.unmatched s.root s.parity) where
  within : IsAmong e s.tree
  within = subst (IsAmong e) (sym tree_is) (among_right newer (e ∷ older) e (inl refl))

  pub rounded_linked : AreLinked s.nodes e.parent (e.minus ∷ e.plus ∷ e.parent ∷ []) (e.tree ∷ e.matched ∷ closing ∷ [])
  rounded_linked =
      let both = tree_connects s.nodes s.root s.tree search.joined e within in
      (both.0, (both.1, (closes, tt)))

  rounded_live : (n : ℕ) → is_in (e.parent ∷ e.minus ∷ e.plus ∷ []) n ≡ true → is_live s.nodes n ≡ true
  rounded_live n h =
      linked_live s.nodes e.parent (e.minus ∷ e.plus ∷ e.parent ∷ []) (e.tree ∷ e.matched ∷ closing ∷ []) rounded_linked n
      (either (is_in-cases e.parent (e.minus ∷ e.plus ∷ []) n h))
    where
      either : (e.parent ≡ n) ⊎ (is_in (e.minus ∷ e.plus ∷ []) n ≡ true) → is_in ((e.minus ∷ e.plus ∷ []) ++ e.parent ∷ []) n ≡ true
      either (inl here) =
          is_in-right (e.minus ∷ e.plus ∷ []) (e.parent ∷ []) n (subst (λ m. is_in (e.parent ∷ []) m ≡ true) here (is_in-head e.parent []))
      either (inr there) = is_in-left (e.minus ∷ e.plus ∷ []) (e.parent ∷ []) n there

  pub rounded_joining : IsJoining s.nodes s.tree s.root name (child_at s.nodes e.parent) (child_at s.nodes e.minus ∷ child_at s.nodes e.plus ∷ [])
  rounded_joining =
      subst
      (λ t. IsJoining s.nodes t s.root name (child_at s.nodes e.parent) (child_at s.nodes e.minus ∷ child_at s.nodes e.plus ∷ []))
      (sym tree_is)
      (three_joining p s.nodes newer older e rest s.unmatched s.root s.parity name
      (subst (λ t. IsSearch p s.nodes t rest s.unmatched s.root s.parity) tree_is search)
      (fresh_outer p s.nodes
      (blossom_of name (child_at s.nodes e.parent ∷ child_at s.nodes e.minus ∷ child_at s.nodes e.plus ∷ [])) nest
      fresh rounded_live))

  pub rounded_tight : AreMatchedLinks p s.nodes (e.tree ∷ e.matched ∷ closing ∷ [])
  rounded_tight =
      links_among p s.nodes (cycle_links (e ∷ []) closing []) ((closing ∷ []) ++ (grown_links s.tree ++ paired_links s.tree))
      (cycle_link_in s.tree (e ∷ []) [] closing (λ f h. only f h) (λ f h. absurd h))
      (links_joined p s.nodes (closing ∷ []) (grown_links s.tree ++ paired_links s.tree) tight
      (links_joined p s.nodes (grown_links s.tree) (paired_links s.tree) search.grown
      (links_left p s.nodes (paired_links s.tree) rest search.matching.links_are)))
    where
      only : (f : Entry) → IsAmong f (e ∷ []) → IsAmong f s.tree
      only f (inl here) = subst (λ x. IsAmong x s.tree) here within
      only f (inr none) = absurd none

pub state_rounded : StateRounded
state_rounded p s name newer older e closing tree_is closes tight fresh state =
    state_joined p s name (child_at s.nodes e.parent) (child_at s.nodes e.minus ∷ child_at s.nodes e.plus ∷ [])
    (e.tree ∷ e.matched ∷ closing ∷ [])
    (rounded_joining p s name newer older e closing tree_is closes tight fresh s.rest state.search.nest state.search.search)
    (omega arith) fresh
    (rounded_linked p s name newer older e closing tree_is closes tight fresh s.rest state.search.nest state.search.search)
    (rounded_tight p s name newer older e closing tree_is closes tight fresh s.rest state.search.nest state.search.search) state
