-- A plan of a graph is one of the graph with the weights of any shot: it depends on the ends of edges alone.
use Rattle.std.proofs.Common.{ℕ, ◌<◌, ◌≤◌, ◌≡◌, true, false, List, length, get_or, All, filter, refl, sym, ap, ◌∙◌, subst, Option, None, arith}
use Rattle.std.proofs.lemmas.Bool.{and_parts, ltb-true}
use Rattle.std.proofs.lemmas.List.Elements.{All-from_get_or}
use Rattle.std.specs.List.{range_with_len}
use Rattle.fb_graph.specs.Problem.{edge_at, no_edge, touches}
use Rattle.fb_graph.specs.Limits.{DecodingGraph, ShotValue, IsGraph, IsShot, IsWithinLimits, no_shot}
use Rattle.fb_graph.specs.ShotGraphs.{changed_edges, shot_graph}
use Rattle.fb_graph.specs.Signs.{shifted_shot}
use Rattle.fb_graph.specs.declared.parts.Edge.{Edge}
use Rattle.fb_graph.proofs.ShiftedShots.{shot_graph_is_graph}
use Rattle.fb_graph.proofs.ShotGraphs.{first_changed, second_changed, length_changed, same_first_odd, touches_changed}
use Rattle.fb_graph.proofs.ShiftedRows.{same_shifted_odd}
use Rattle.fb_plan.proofs.SubProblems.{node_has_no_odd_closed}
use Rattle.fb_plan.specs.Laws.{PlanOfShotGraph, ShotHasNoOddClosed}
use Rattle.fb_plan.specs.Plans.{PlanTree, IsPlan, are_unrelated, goes_across, owner_of, problem_at}

same_across : (t : PlanTree) (e f : Edge) → e.first ≡ f.first → e.second ≡ f.second → goes_across t e ≡ goes_across t f
same_across t e f first second = λ i. are_unrelated t (owner_of t (first i)) (owner_of t (second i))

pub shot_plan : PlanOfShotGraph
shot_plan g t shot plan = record {
  tree = plan.tree;
  count = plan.count;
  owned = plan.owned;
  owners = plan.owners;
  edges = All-from_get_or (λ e. goes_across t e ≡ false) (changed_edges shot.changes g.edges) no_edge (λ k less.
      same_across t (edge_at (changed_edges shot.changes g.edges) k) (edge_at g.edges k)
      (first_changed shot.changes g.edges k) (second_changed shot.changes g.edges k)
      ∙ plan.edges k no_edge (omega (arith, less, length_changed shot.changes g.edges)));
}

pub shot_even : ShotHasNoOddClosed
shot_even g t n shot graph fits none =
    node_has_no_odd_closed (shot_graph g shot) t n (shifted_shot g shot)
    ((same_shifted_odd g shot None graph fits).0 ((same_first_odd g shot None).0 none))

-- a scope over the weights of a shot keeps the limits
pub scope_limits : (g : DecodingGraph) (t : PlanTree) (n : ℕ) (shot : ShotValue) → IsGraph g → IsShot g shot
    → IsWithinLimits (problem_at (shot_graph g shot) t n no_shot)
scope_limits g t n shot graph fits =
    let is = (shot_graph_is_graph g shot graph fits).0 in
    record {
      vertices = is.vertices;
      edges = is.edges;
      each_edge = is.each_edge;
      real_below = λ v real. ltb-true v g.vertices (and_parts _ _ (and_parts _ _ real).0).0;
    }

-- and has the same edges at each vertex
pub touches_by_shot : (g : DecodingGraph) (shot : ShotValue) (v : ℕ)
    → filter (λ k. touches v (edge_at g.edges k)) (range_with_len 0 (length g.edges))
    ≡ filter (λ k. touches v (edge_at (shot_graph g shot).edges k)) (range_with_len 0 (length (shot_graph g shot).edges))
touches_by_shot g shot v = sym ((λ i. filter (λ k. touches_changed shot.changes g.edges v k i)
    (range_with_len 0 (length_changed shot.changes g.edges i))))
