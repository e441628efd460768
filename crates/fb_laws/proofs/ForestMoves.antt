-- The moves of several trees in a half-solved part keep the whole state.
use Rattle.std.proofs.Common.{ℕ, ◌≡◌, ◌==◌, not, true, List, [], ◌∷◌, ◌++◌, All, refl, sym, ◌∙◌, subst, append_assoc, arith}
use Rattle.std.proofs.lemmas.List.Sorted.{IsPermutation-middle, IsPermutation-refl}
use Rattle.fb_graph.specs.Parity.{is_in}
use Rattle.fb_graph.specs.Problem.{Problem}
use Rattle.fb_graph.specs.Laws.{Link, HasNoOddClosed}
use Rattle.fb_graph.specs.Alike.{AreAlike}
use Rattle.fb_graph.specs.Covers.{AreRoles}
use Rattle.fb_graph.specs.Dual.{IsCrossed, IsDual, Node, taller_node}
use Rattle.fb_graph.specs.Moves.{absorbed_nodes, uncovered_nodes, without_top}
use Rattle.fb_graph.specs.Nests.{IsNest}
use Rattle.fb_graph.specs.Steps.{Roles, stepped_node, stepped_nodes}
use Rattle.fb_graph.proofs.Among.{among_All}
use Rattle.fb_graph.proofs.ClosedSets.{edge_leaves}
use Rattle.fb_graph.proofs.LoweredNests.{nest_uncovered}
use Rattle.fb_graph.proofs.MappedNodes.{mapped_live}
use Rattle.fb_graph.proofs.NestParts.{top_is_odd}
use Rattle.fb_graph.proofs.RaisedNests.{nest_absorbed}
use Rattle.fb_graph.proofs.Sets.{is_in-head}
use Rattle.fb_graph.proofs.SourceWalks.{walks_absorbed, walks_stepped, walks_uncovered}
use Rattle.fb_graph.proofs.StepTurns.{top_stepped}
use Rattle.fb_graph.proofs.SteppedNests.{nest_stepped}
use Rattle.fb_laws.specs.Forests.{AnyTree, IsForest, forest_names, forest_paired, forest_roles}
use Rattle.fb_laws.specs.ForestMoves.{ForestStateAbsorbed, ForestStateAttached, ForestStateEnded, ForestStateMet, ForestStateReleased, ForestStateStepped, ForestStateUncovered, ForestStateWoken, IsFewer, ended_forest}
use Rattle.fb_laws.specs.ForestStates.{IsForestState, among_trees, tree_of}
use Rattle.fb_laws.specs.PartStates.{SearchState, all_cycle_links}
use Rattle.fb_laws.specs.Trees.{branches_beside, grown_links, paired_links, path_to}
use Rattle.fb_laws.specs.Works.{HasDefects, names_without}
use Rattle.fb_laws.proofs.CycleLinks.{cycles_under_one}
use Rattle.fb_laws.proofs.CycleMoves.{cycles_mapped, links_stepped, names_kept}
use Rattle.fb_laws.proofs.ForestEnds.{forest_ended, forest_first, forest_met, forest_released}
use Rattle.fb_laws.proofs.ForestParts.{forest_permuted}
use Rattle.fb_laws.proofs.ForestStates.{forest_attached, forest_tree}
use Rattle.fb_laws.proofs.ForestSteps.{forest_roles_are, forest_stepped}
use Rattle.fb_laws.proofs.ForestWakes.{forest_woken}
use Rattle.fb_laws.proofs.HalvesKept.{odd_of_part}
use Rattle.fb_laws.proofs.LayeredSearches.{matching_alike, parity_alike}
use Rattle.fb_laws.proofs.NestedStates.{outer_without}
use Rattle.fb_laws.proofs.OpenedBlossoms.{distinct_permuted, same_permuted}
use Rattle.fb_laws.proofs.SearchStates.{links_left}
use Rattle.fb_laws.proofs.StateMoves.{absorbed_alike, absorbing_outer, changed_cycles, changed_names, fewer_without, filter-le, uncovered_alike, without_names}
use Rattle.fb_laws.proofs.TreesBeside.{kept_alike, trees_kept}
use Rattle.fb_laws.proofs.UnmatchedNames.{outer_absorbed, outer_stepped, outer_uncovered}
use Rattle.fb_laws.proofs.WaitingNodes.{waiting_outer}

-- an edge leaves the set of each node
crossed : (p : Problem) (roles : Roles) (nodes : List Node) → HasNoOddClosed p → IsNest p nodes → HasDefects p nodes
    → All (λ n. roles.is_plus n.name ≡ true → IsCrossed p n.top.vertices) nodes
crossed p roles nodes no_odd nest defects =
    among_All (λ n. roles.is_plus n.name ≡ true → IsCrossed p n.top.vertices) nodes
    (λ n a plus. edge_leaves p n.top no_odd (odd_of_part p nodes n.top defects (top_is_odd p nodes nest n a)))

pub forest_state_stepped : ForestStateStepped
forest_state_stepped p s k limits no_odd may state = record {
  nest = nest;
  forest = forest_stepped p s.nodes s.trees s.rest s.unmatched s.waiting s.parity k may.tops nest.dual state.forest;
  walks = walks_stepped p roles s.nodes k are may.tops state.nest state.walks;
  outer = outer_stepped roles s.nodes k s.unmatched state.outer;
  cycles =
      cycles_mapped p (stepped_node roles k) s.nodes s.cycles (λ n. refl) (λ n. refl)
      (λ c inner. top_stepped roles k c s.nodes)
      (links_stepped p roles s.nodes k (all_cycle_links s.nodes s.cycles) state.nest.dual are may.tops
      (cycles_under_one p s.nodes s.cycles state.nest state.cycles.rings) state.cycles.links)
      state.cycles;
  names =
      names_kept s.nodes (stepped_nodes roles k s.nodes) s.unmatched
      (λ n live. mapped_live (stepped_node roles k) (λ m. refl) s.nodes n ∙ live) state.names;
  waiting = state.waiting;
}
  where
    roles : Roles
    roles = forest_roles s.trees

    are : AreRoles (forest_roles s.trees) s.nodes
    are = forest_roles_are p s.nodes s.trees s.rest s.unmatched s.waiting s.parity state.forest

    nest : IsNest p (stepped_nodes (forest_roles s.trees) k s.nodes)
    nest =
        nest_stepped p (forest_roles s.trees) s.nodes k limits are
        (crossed p (forest_roles s.trees) s.nodes no_odd state.nest state.forest.matching.defects) may state.nest

-- a forest in nodes that are alike
forest_alike : (p : Problem) (nodes others : List Node) (trees : List AnyTree) (rest : List Link) (unmatched waiting : List ℕ) (r : ℕ)
    → AreAlike nodes others → IsDual p others → IsForest p nodes trees rest unmatched waiting r
    → IsForest p others trees rest unmatched waiting r
forest_alike p nodes others trees rest unmatched waiting r alike dual state =
    let are =
    trees_kept p nodes others trees r
    (kept_alike p nodes others (is_in (forest_names trees)) alike state.matching.dual dual) state.matching.dual
    (links_left p nodes (forest_paired trees) rest state.matching.links_are)
    (record { outer = state.outer; names = state.names; joined = state.joined; grown = state.grown; parity = state.parity }) in
    record {
      matching =
          matching_alike p nodes others alike state.matching.dual dual (forest_paired trees ++ rest) unmatched state.matching;
      outer = are.outer;
      roots = state.roots;
      apart = state.apart;
      even = parity_alike p nodes others alike state.matching.dual dual (is_in waiting) 0 state.even;
      names = are.names;
      joined = are.joined;
      grown = are.grown;
      parity = are.parity;
    }

pub forest_state_absorbed : ForestStateAbsorbed
forest_state_absorbed p s name k u v even may state =
    let nest = nest_absorbed p s.nodes name k u v even may state.nest in
    let alike = absorbed_alike p s.nodes name k u v state.nest may in
    record {
      nest = nest;
      forest =
          forest_alike p s.nodes (absorbed_nodes name v s.nodes) s.trees s.rest s.unmatched s.waiting s.parity alike nest.dual
          state.forest;
      walks = walks_absorbed p s.nodes name k u v may state.nest state.walks;
      outer = outer_absorbed s.nodes name v s.unmatched state.outer;
      cycles =
          changed_cycles s.nodes name (taller_node v) (λ n. refl) p s.cycles (λ n. refl)
          (absorbing_outer p s.nodes name k u v may) alike state.cycles;
      names = changed_names s.nodes name (taller_node v) (λ n. refl) s.unmatched state.names;
      waiting = state.waiting;
    }

pub forest_state_uncovered : ForestStateUncovered
forest_state_uncovered p s name may state =
    let nest = nest_uncovered p s.nodes name may state.nest in
    let alike = uncovered_alike p s.nodes name state.nest may in
    record {
      nest = nest;
      forest =
          forest_alike p s.nodes (uncovered_nodes name s.nodes) s.trees s.rest s.unmatched s.waiting s.parity alike nest.dual
          state.forest;
      walks = walks_uncovered p s.nodes name may state.nest state.walks;
      outer = outer_uncovered s.nodes name s.unmatched state.outer;
      cycles =
          changed_cycles s.nodes name without_top (λ n. refl) p s.cycles (λ n. refl) may.outer alike state.cycles;
      names = changed_names s.nodes name without_top (λ n. refl) s.unmatched state.names;
      waiting = state.waiting;
    }

pub forest_state_attached : ForestStateAttached
forest_state_attached p before after waiting s e rest even may state = record {
  nest = state.nest;
  forest =
      forest_attached p s.nodes before after (tree_of s) e rest s.unmatched waiting s.parity even
      (forest_permuted p s.nodes (before ++ tree_of s ∷ after) (before ++ tree_of s ∷ after) s.rest (e.matched ∷ rest)
      s.unmatched s.unmatched waiting s.parity (IsPermutation-refl (before ++ tree_of s ∷ after)) may.links (λ n. refl) state.forest)
      may.parent may.tree may.matched may.tight;
  walks = state.walks;
  outer = state.outer;
  cycles = state.cycles;
  names = state.names;
  waiting = state.waiting;
}

-- the root of one of the trees is unmatched
root_open : (p : Problem) (before after : List AnyTree) (waiting : List ℕ) (s : SearchState)
    → IsForestState p (among_trees before after waiting s) → is_in s.unmatched s.root ≡ true
root_open p before after waiting s state =
    (forest_tree p s.nodes before after (tree_of s) s.rest s.unmatched waiting s.parity state.forest).open_root

-- one tree dissolved
dissolved : (p : Problem) (before after : List AnyTree) (waiting : List ℕ) (s : SearchState) (name : ℕ) (out : Link) (rest : List Link)
    → IsForest p s.nodes (before ++ after)
    ((grown_links (path_to s.tree name) ++ out ∷ paired_links (branches_beside s.tree name)) ++ rest)
    (names_without s.root s.unmatched) waiting s.parity → IsForestState p (among_trees before after waiting s)
    → IsFewer p (among_trees before after waiting s) (ended_forest before after waiting name out rest s)
dissolved p before after waiting s name out rest forest state = record {
  state = record {
    nest = state.nest;
    forest =
        subst (λ l. IsForest p s.nodes (before ++ after) l (names_without s.root s.unmatched) waiting s.parity)
        (append_assoc (grown_links (path_to s.tree name)) (out ∷ paired_links (branches_beside s.tree name)) rest) forest;
    walks = state.walks;
    outer = outer_without s.nodes s.root s.unmatched state.outer;
    cycles = state.cycles;
    names = without_names s.nodes s.root s.unmatched state.names;
    waiting = state.waiting;
  };
  fewer = fewer_without s.root s.unmatched (root_open p before after waiting s state);
}

pub forest_state_ended : ForestStateEnded
forest_state_ended p before after waiting s name out v leaves_tree leaves_node boundary state =
    dissolved p before after waiting s name out s.rest
    (forest_ended p s.nodes (tree_of s) (before ++ after) s.rest s.unmatched waiting s.parity name out v
    (forest_first p s.nodes before after (tree_of s) s.rest s.unmatched waiting s.parity state.forest) leaves_tree.plus
    leaves_tree.tight leaves_node boundary)
    state

pub forest_state_released : ForestStateReleased
forest_state_released p before after waiting s name other out old rest b leaves_tree connects moved away boundary state =
    dissolved p before after waiting s name out rest
    (forest_released p s.nodes (tree_of s) (before ++ after) old rest s.unmatched waiting s.parity name other out b
    (forest_permuted p s.nodes (before ++ tree_of s ∷ after) (tree_of s ∷ (before ++ after)) s.rest (old ∷ rest) s.unmatched
    s.unmatched waiting s.parity (IsPermutation-middle before (tree_of s) after) moved (λ n. refl) state.forest)
    leaves_tree.plus leaves_tree.tight connects away boundary)
    state

pub forest_state_met : ForestStateMet
forest_state_met p s t u others a b out moved at_a at_b tight connects state = record {
  state = record {
    nest = state.nest;
    forest =
        forest_met p s.nodes t u others s.rest s.unmatched s.waiting s.parity a b out first at_a at_b tight connects;
    walks = state.walks;
    outer =
        outer_without s.nodes t.root (names_without u.root s.unmatched)
        (outer_without s.nodes u.root s.unmatched state.outer);
    cycles = state.cycles;
    names =
        without_names s.nodes t.root (names_without u.root s.unmatched)
        (without_names s.nodes u.root s.unmatched state.names);
    waiting = state.waiting;
  };
  fewer =
      let h = filter-le (λ n. not (n == t.root)) (names_without u.root s.unmatched) in
      let g = fewer_without u.root s.unmatched open_root in
      omega (arith, h, g);
}
  where
    first : IsForest p s.nodes (t ∷ u ∷ others) s.rest s.unmatched s.waiting s.parity
    first =
        forest_permuted p s.nodes s.trees (t ∷ u ∷ others) s.rest s.rest s.unmatched s.unmatched s.waiting s.parity moved
        (IsPermutation-refl s.rest) (λ n. refl) state.forest

    open_root : is_in s.unmatched u.root ≡ true
    open_root = (forest_tree p s.nodes (t ∷ []) others u s.rest s.unmatched s.waiting s.parity first).open_root

pub forest_state_woken : ForestStateWoken
forest_state_woken p s others a name out even moved plus tight connects state = record {
  nest = state.nest;
  forest =
      forest_woken p s.nodes s.trees s.rest s.unmatched s.waiting others s.parity a name out even state.forest moved state.waiting
      (waiting_outer p s state name waits) plus tight connects;
  walks = state.walks;
  outer = state.outer;
  cycles = state.cycles;
  names = state.names;
  waiting = (distinct_permuted s.waiting (name ∷ others) moved state.waiting).1;
}
  where
    waits : is_in s.waiting name ≡ true
    waits = sym (same_permuted s.waiting (name ∷ others) moved name) ∙ is_in-head name others
