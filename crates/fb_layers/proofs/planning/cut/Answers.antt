use Rattle.std.proofs.Common.{◌∙◌, subst, sym}
use Rattle.fb_plan.specs.Plans.{IsPlan}
use Rattle.fb_layers.specs.PlanByLayers.{IsPlanByLayers}
use Rattle.fb_layers.proofs.Planned.{cut_is}
use Rattle.fb_layers.proofs.planning.cut.Goals as goal

pub plan_of_nodes-requires-clause-few : goal.plan_of_nodes-requires-clause-few
plan_of_nodes-requires-clause-few c =
    (cut_is c.args.graph.now c.round_count-rounds.result c.from-units.result c.args.units c.deref-3.result.now c.in_ok-nodes.nodes.items
    c.deref-4.result.now c.args.layers.now c.from-units.ensures (c.deref-3.ensures.value ∙ c.in_ok-fusions.ensures) c.deref-4.ensures.value
    c.round_count-rounds.ensures c.requires.some c.requires.limit c.requires.enough c.requires.layering c.in_ok-nodes.ensures.len
    c.in_ok-nodes.ensures.each).few

pub plan_of_nodes-requires-clause-nodes : goal.plan_of_nodes-requires-clause-nodes
plan_of_nodes-requires-clause-nodes c =
    (cut_is c.args.graph.now c.round_count-rounds.result c.from-units.result c.args.units c.deref-3.result.now c.in_ok-nodes.nodes.items
    c.deref-4.result.now c.args.layers.now c.from-units.ensures (c.deref-3.ensures.value ∙ c.in_ok-fusions.ensures) c.deref-4.ensures.value
    c.round_count-rounds.ensures c.requires.some c.requires.limit c.requires.enough c.requires.layering c.in_ok-nodes.ensures.len
    c.in_ok-nodes.ensures.each).nodes_are

pub plan_of_nodes-requires-clause-valid : goal.plan_of_nodes-requires-clause-valid
plan_of_nodes-requires-clause-valid c =
    (cut_is c.args.graph.now c.round_count-rounds.result c.from-units.result c.args.units c.deref-3.result.now c.in_ok-nodes.nodes.items
    c.deref-4.result.now c.args.layers.now c.from-units.ensures (c.deref-3.ensures.value ∙ c.in_ok-fusions.ensures) c.deref-4.ensures.value
    c.round_count-rounds.ensures c.requires.some c.requires.limit c.requires.enough c.requires.layering c.in_ok-nodes.ensures.len
    c.in_ok-nodes.ensures.each).valid

pub returns-clause-plan : goal.returns-clause-plan
returns-clause-plan c =
    subst (IsPlanByLayers c.args.graph.now c.args.units) (sym c.in_ok-plan.ensures)
    (cut_is c.args.graph.now c.round_count-rounds.result c.from-units.result c.args.units c.deref-3.result.now c.in_ok-nodes.nodes.items
    c.deref-4.result.now c.args.layers.now c.from-units.ensures (c.deref-3.ensures.value ∙ c.in_ok-fusions.ensures) c.deref-4.ensures.value
    c.round_count-rounds.ensures c.requires.some c.requires.limit c.requires.enough c.requires.layering c.in_ok-nodes.ensures.len
    c.in_ok-nodes.ensures.each).plan

pub returns-clause-valid : goal.returns-clause-valid
returns-clause-valid c =
    subst (IsPlan c.args.graph.now) (sym c.in_ok-plan.ensures)
    (cut_is c.args.graph.now c.round_count-rounds.result c.from-units.result c.args.units c.deref-3.result.now c.in_ok-nodes.nodes.items
    c.deref-4.result.now c.args.layers.now c.from-units.ensures (c.deref-3.ensures.value ∙ c.in_ok-fusions.ensures) c.deref-4.ensures.value
    c.round_count-rounds.ensures c.requires.some c.requires.limit c.requires.enough c.requires.layering c.in_ok-nodes.ensures.len
    c.in_ok-nodes.ensures.each).valid
