-- The scope that a job makes of a slot is that of the parts of the slot.
use Rattle.std.proofs.Common.{ℕ, ◌≡◌, get_or, sym, ◌∙◌}
use Rattle.fb_graph.specs.Limits.{no_shot}
use Rattle.fb_graph.specs.ShotGraphs.{shot_graph}
use Rattle.fb_plan.specs.Plans.{JobValue}
use Rattle.fb_plan.specs.Scopes.{scope_graph}
use Rattle.fb_plan.specs.declared.scope.NodeScope.{NodeScope}
use Rattle.fb_half.specs.Parts.{PartValue, graph_in}

-- the graph with the weights of the slot's shot
pub scope_graph_is : (scope : NodeScope) (w : PartValue) (j : JobValue) (s : ℕ) → w.job ≡ j → s ≡ w.slot
    → scope.graph.now ≡ j.graph → scope.shot.now ≡ get_or j.shots s no_shot → scope_graph scope ≡ graph_in w
scope_graph_is scope w j s job slot graph shot =
    (λ i. shot_graph (graph i) (shot i)) ∙ (λ i. shot_graph (sym job i).graph (get_or (sym job i).shots (slot i) no_shot))

-- two parts of one slot have the same one
pub graphs_alike : (v w : PartValue) → v.job ≡ w.job → v.slot ≡ w.slot → graph_in v ≡ graph_in w
graphs_alike v w job slot = λ i. shot_graph (job i).graph (get_or (job i).shots (slot i) no_shot)
