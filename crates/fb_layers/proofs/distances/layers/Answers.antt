use Rattle.std.proofs.Common.{◌≤◌, ◌∙◌, length, subst, sym, arith}
use Rattle.fb_layers.specs.Layers.{AreLayers, height_of}
use Rattle.fb_layers.proofs.Planned.{height_bound}
use Rattle.fb_layers.proofs.Searching.{layers_found, length-order, real_below}
use Rattle.fb_layers.proofs.distances.layers.Goals as goal

pub returns-clause-layers : goal.returns-clause-layers
returns-clause-layers c =
    subst (AreLayers c.args.graph.now) (sym (c.new-2.ensures ∙ c.into_layers.ensures))
    (layers_found c.args.graph.now c.loop-v.search c.loop-v.invariant.searched
    (λ u less real. c.loop-v.invariant.passed u (omega arith) real) (real_below c.args.graph.now))

pub returns-clause-height : goal.returns-clause-height
returns-clause-height c =
    let few : length c.loop-v.search.order ≤ c.args.graph.now.vertices =
    length-order c.args.graph.now c.loop-v.search (length c.loop-v.search.order) c.loop-v.invariant.searched in
    subst (λ ls. height_of ls ≤ c.args.graph.now.vertices) (sym (c.new-2.ensures ∙ c.into_layers.ensures))
    (height_bound c.loop-v.search.layers c.args.graph.now.vertices
    (λ v k at. omega (arith, few, c.loop-v.invariant.searched.low v k at)))
