-- A single defect that is matched at once leaves a part in which it is matched, as a search does.
use Rattle.std.proofs.Common.{ℕ, ◌≡◌, ◌≢◌, ◌+◌, ◌≤◌, ◌<◌, inl, inr, Bool, true, false, List, [], ◌∷◌, ◌++◌, length, Some, refl, sym, ap, ◌∙◌, subst, arith, if◌then◌else◌}
use Rattle.std.specs.Prelude.{IsSome}
use Rattle.std.specs.List.Sorted.{IsPermutation}
use Rattle.std.proofs.lemmas.Bool.{false≢true}
use Rattle.fb_graph.specs.Certificate.{AreDistinct, load_of}
use Rattle.fb_graph.specs.Components.{Leads}
use Rattle.fb_graph.specs.Covers.{is_covered_by, passes}
use Rattle.fb_graph.specs.Dual.{AreUnderOne, IsDual, Node, all_cuts, cover_of}
use Rattle.fb_graph.specs.Limits.{IsWithinLimits}
use Rattle.fb_graph.specs.Parity.{is_in}
use Rattle.fb_graph.specs.Problem.{Problem, edge_at, no_edge, touches}
use Rattle.fb_graph.specs.Steps.{MayStep, stepped_nodes}
use Rattle.fb_graph.proofs.StepHeights.{cover_stepped}
use Rattle.fb_links.specs.declared.walk.Step.{Step}
use Rattle.fb_links.specs.Table.{Adds}
use Rattle.fb_obstacles.specs.Obstacles.{residue_of}
use Rattle.fb_trees.proofs.Names.{root_plus}
use Rattle.fb_trees.specs.Rooted.{bare}
use Rattle.fb_plan.specs.declared.scope.NodeScope.{NodeScope}
use Rattle.fb_plan.specs.Scopes.{scope_graph}
use Rattle.fb_half.specs.Values.{IsScopeOf}
use Rattle.fb_half.specs.Matchings.{matched_names}
use Rattle.fb_half.specs.Parts.{IsPart, PartValue, problem_in}
use Rattle.fb_obstacles.specs.InternalSingles.{HasRoom}
use Rattle.fb_search.specs.InternalNear.{IsNearBoundary, alone}
use Rattle.fb_trees.specs.TreesOver.{IsTreeOver}
use Rattle.fb_search.specs.InternalTightEdges.{LeadsOut}
use Rattle.fb_trees.specs.InternalMetWalks.{IsOut, IsOutWalk}
use Rattle.fb_search.specs.InternalSearching.{stepped_by}
use Rattle.fb_search.specs.Progress.{IsSearched}
use Rattle.fb_search.specs.InternalSearching.{IsSearching, SearchValue, roles_in}
use Rattle.fb_search.proofs.BegunSearches.{kept_limits, touches_first, touches_second}
use Rattle.fb_search.proofs.EndedParts.{part_after}
use Rattle.fb_search.proofs.EndedWays.{boundary_match}
use Rattle.fb_search.proofs.KeptNodes.{beside_stepped}
use Rattle.fb_search.proofs.NearGrowth.{bears_residue, covered_alone, load_grown, may_grow}
use Rattle.fb_search.proofs.NearParts.{bare_search, grown, searching_bare}
use Rattle.fb_search.proofs.ScopeWalks.{out_bare, out_scoped, scoped}
use Rattle.fb_search.proofs.SearchRoles.{tree_over}
use Rattle.fb_search.proofs.SteppedSearches.{searching_stepped, step_in_scope, tree_in_scope}
use Rattle.fb_search.proofs.TreeEnds.{boundary_apart, boundary_ended, leads_out}
use Rattle.fb_search.proofs.AttachedBranches.{plus_role}
use Rattle.fb_links.proofs.MovedLinks.{Table}

-- an edge touches the end from which it leads, and the end to which it leads
pub touches_from : (p : Problem) (k u v : ℕ) → IsWithinLimits p → k < length p.edges → Leads (edge_at p.edges k) u v
    → touches u (edge_at p.edges k) ≡ true
touches_from p k u v limits less (inl (first, second)) =
    ap (λ x. touches x (edge_at p.edges k)) (sym first) ∙ touches_first p k limits less
touches_from p k u v limits less (inr (second, first)) =
    ap (λ x. touches x (edge_at p.edges k)) (sym second) ∙ touches_second p k limits less

pub leads_apart : (p : Problem) (k u v : ℕ) → IsWithinLimits p → k < length p.edges → Leads (edge_at p.edges k) u v → u ≢ v
leads_apart p k u v limits less (inl (first, second)) same =
    (limits.each_edge k no_edge less).loopless (first ∙ (same ∙ sym second))
leads_apart p k u v limits less (inr (second, first)) same =
    (limits.each_edge k no_edge less).loopless (first ∙ (sym same ∙ sym second))

-- an edge whose ends are under different outer nodes has its residue as slack
pub slack : (p : Problem) (nodes : List Node) (k u v n : ℕ) → IsDual p nodes → k < length p.edges
    → Leads (edge_at p.edges k) u v → ((name : ℕ) → cover_of nodes u ≡ Some name → cover_of nodes v ≡ Some name → ⊥)
    → n ≡ residue_of nodes (edge_at p.edges k)
    → load_of (all_cuts nodes) (edge_at p.edges k) + n ≡ (edge_at p.edges k).weight
slack p nodes k u v n dual less leads apart is =
    omega (arith, dual.loads (edge_at p.edges k) (by leads), dual.packing.fits k no_edge less, is)
  where
    by : Leads (edge_at p.edges k) u v → AreUnderOne nodes (edge_at p.edges k).first (edge_at p.edges k).second → ⊥
    by (inl (first, second)) (name, one, other) =
        apart name (ap (cover_of nodes) (sym first) ∙ one) (ap (cover_of nodes) (sym second) ∙ other)
    by (inr (second, first)) (name, one, other) =
        apart name (ap (cover_of nodes) (sym second) ∙ other) (ap (cover_of nodes) (sym first) ∙ one)

-- the edges at a vertex bear its growth
pub bears_growth : (p : Problem) (nodes : List Node) (v far between room : ℕ) → IsDual p nodes
    → HasRoom p.edges nodes v far between room → (j : ℕ) → j < length p.edges → touches v (edge_at p.edges j) ≡ true
    → load_of (all_cuts nodes) (edge_at p.edges j) + (if touches far (edge_at p.edges j) then between else room)
    ≤ (edge_at p.edges j).weight
bears_growth p nodes v far between room dual has j less at =
    bears_residue p nodes j (if touches far (edge_at p.edges j) then between else room) dual less (has j less at)

-- what the scope of the part's node keeps
pub limits_scoped : (part : PartValue) (s t : NodeScope) → t ≡ s → IsScopeOf s part → IsWithinLimits (scoped t)
    → IsWithinLimits (problem_in part)
limits_scoped part s t same own limits =
    kept_limits part (scope_graph t) t.plan.now t.node (ap scope_graph same ∙ own.graph)
    (ap (λ x. x.plan.now) same ∙ own.plan) (ap (λ x. x.node) same ∙ own.node) limits

-- a search of a part that has stepped, and then ended
pub searched_after : (w : SearchValue) (k : ℕ) (after : PartValue) → IsSearching w
    → IsSearched w.tree.root (stepped_by k w).part after → IsSearched w.tree.root w.part after
searched_after w k after are is = record {
  part = record { job = is.part.job; slot = is.part.slot; node = is.part.node };
  others = is.others;
  kept = λ n left. is.kept n left ∙ beside_stepped w k are n (is.others n left);
  fewer = is.fewer;
  few = is.few;
}

-- the root of a tree that is the root alone
pub root_over : (root v : ℕ) (part : PartValue) (k : ℕ) → cover_of part.nodes v ≡ Some root
    → cover_of (stepped_by k (bare_search root part)).part.nodes v ≡ Some root
root_over root v part k covered = cover_stepped (alone root) part.nodes k v ∙ covered

-- The root is over the vertex, and plus.
pub root_is_plus : (root v : ℕ) (part : PartValue) (k : ℕ) → cover_of part.nodes v ≡ Some root
    → is_covered_by (roles_in (stepped_by k (bare_search root part))).is_plus (stepped_nodes (alone root) k part.nodes) v ≡ true
root_is_plus root v part k covered =
    ap (passes (roles_in (stepped_by k (bare_search root part))).is_plus) (root_over root v part k covered)
    ∙ plus_role (bare_search root part).tree root (root_plus root [])

same_either : (b : Bool) (l k n : ℕ) → l + (if b then k else k) ≤ n → l + k ≤ n
same_either true l k n h = h
same_either false l k n h = h

-- the root is matched to the boundary
module _ (part : PartValue) (root edge k : ℕ) (are : IsPart part) (limits : IsWithinLimits (problem_in part))
    (within : is_in part.matching.unmatched root ≡ true) (near : IsNearBoundary (problem_in part) part.nodes root edge k) where
  dual : IsDual (problem_in part) part.nodes
  dual = are.state.work.nest.dual

  covered : cover_of part.nodes near.inner ≡ Some root
  covered =
      covered_alone (problem_in part) part.nodes root near.inner dual near.top (are.state.names.live root within)
      (are.state.work.outer root within)

  not_under : (name : ℕ) → cover_of part.nodes near.inner ≡ Some name → cover_of part.nodes near.outer ≡ Some name → ⊥
  not_under name one other =
      false≢true (sym near.boundary ∙ dual.real near.outer (subst IsSome (sym other) refl))

  pub boundary_may : MayStep (problem_in part) (alone root) part.nodes k
  boundary_may =
      may_grow (problem_in part) part.nodes root near.inner dual near.top k
      (λ j less at. same_either (touches near.outer (edge_at (problem_in part).edges j)) _ k _
      (bears_growth (problem_in part) part.nodes near.inner near.outer k k dual near.room j less at))

  pub boundary_search : IsSearching (stepped_by k (bare_search root part))
  boundary_search = searching_stepped (bare_search root part) k (searching_bare root part are within) limits boundary_may

  pub boundary_leads : LeadsOut (stepped_by k (bare_search root part)) edge root
  boundary_leads = record {
    inner = near.inner;
    outer = near.outer;
    obstacle = record {
      edge = record {
        within = near.within;
        leads = near.leads;
        tight = load_grown (problem_in part) part.nodes root near.inner dual near.top k (edge_at (problem_in part).edges edge)
            ∙ (ap (λ b. load_of (all_cuts part.nodes) (edge_at (problem_in part).edges edge) + (if b then k else 0))
            (touches_from (problem_in part) edge near.inner near.outer limits near.within near.leads)
            ∙ slack (problem_in part) part.nodes edge near.inner near.outer k dual near.within near.leads not_under near.residue);
        plus = root_is_plus root near.inner part k covered;
      };
      real = near.boundary;
    };
    covered = root_over root near.inner part k covered;
  }

  -- the walk that the code makes over the scope
  module _ (s : NodeScope) (own : IsScopeOf s part) where
    still_own : IsScopeOf s (grown root k part)
    still_own = record { graph = own.graph; plan = own.plan; node = own.node }

    pub boundary_out : (a v : ℕ) × IsOut (scoped s) (grown root k part).nodes edge a v
    boundary_out = (
      root,
      boundary_leads.outer,
      out_bare (grown root k part) s still_own edge root boundary_leads.outer
          (leads_out (stepped_by k (bare_search root part)) edge root boundary_leads),
    )

    pub boundary_walk : (walk : List Step)
        → ((a v : ℕ) → IsOut (scoped s) (grown root k part).nodes edge a v → IsOutWalk (scoped s) (grown root k part).nodes a v walk)
        → IsOutWalk (problem_in part) (grown root k part).nodes root boundary_leads.outer walk
    boundary_walk walk walks =
        out_scoped (grown root k part) s still_own edge root boundary_leads.outer walk
        (leads_out (stepped_by k (bare_search root part)) edge root boundary_leads) walks

    pub boundary_tree : IsTreeOver (scoped s) (bare root) part.nodes
    boundary_tree =
        tree_in_scope (bare_search root part) (scope_graph s) s.plan.now s.node own.graph
        (tree_over (bare_search root part) (searching_bare root part are within))

    pub boundary_step : MayStep (scoped s) (alone root) part.nodes k
    boundary_step =
        step_in_scope (bare_search root part) (scope_graph s) s.plan.now s.node k (alone root) own.graph boundary_may

  -- no name is listed twice, and a part is left
  module _ (link : ℕ) (unmatched : List ℕ) (moved : IsPermutation part.matching.unmatched (root ∷ unmatched)) where
    pub boundary_listed : AreDistinct ((unmatched ++ matched_names part.matching.matches)
        ++ matched_names (boundary_match link root ∷ []))
    boundary_listed =
        boundary_apart (stepped_by k (bare_search root part)) edge root link unmatched boundary_search boundary_leads moved

    pub boundary_matched : (walk : List Step) (new : Table)
        → IsOutWalk (problem_in part) (grown root k part).nodes root boundary_leads.outer walk → Adds part.links new link walk
        → IsPart (part_after (stepped_by k (bare_search root part)) root new unmatched part.matching.matches (boundary_match link root))
        × IsSearched root part
        (part_after (stepped_by k (bare_search root part)) root new unmatched part.matching.matches (boundary_match link root))
    boundary_matched walk new is adds =
        let (state, searched) =
        boundary_ended (stepped_by k (bare_search root part)) edge root link unmatched boundary_search boundary_leads moved walk
        new new is adds (λ n. refl) in
        (state, searched_after (bare_search root part) k _ (searching_bare root part are within) searched)
