use Rattle.std.proofs.Common.{◌≡◌, ◌∙◌, Ok, map}
use Rattle.fb_plan.specs.Rules.{plan_from}
use Rattle.fb_layers.specs.InternalCovers.{tree_by_nodes}
use Rattle.fb_layers.proofs.Covers.{cover_of_ranges}
use Rattle.fb_layers.proofs.ranges.plan_of_nodes.Goals as goal

pub unreachable-requires : goal.unreachable-requires
unreachable-requires c =
    let made = cover_of_ranges c.args.graph.now c.args.fusions.now c.args.nodes.now c.args.layers.now c.fill.new.self c.requires.count
    c.requires.valid (c.in_ok-fill.ensures.units ∙ c.in_ok-ranges.ensures.units)
    (c.in_ok-fill.ensures.seams ∙ c.in_ok-ranges.ensures.seams) (c.in_ok-fill.ensures.joins ∙ c.in_ok-ranges.ensures.joins)
    c.in_ok-fill.ensures.hold in
    let built : plan_from c.args.graph.now (map (λ u. u.items) c.ranges-2.inside.units.items) c.ranges-2.inside.joins.items
    ≡ Ok (tree_by_nodes c.args.fusions.now c.args.nodes.now c.args.layers.now) =
    rw (← c.ranges-2.view_is) at made in
    cc (rw (c.deref.ensures.value, c.deref-2.ensures.value) at (c.in-Err.ensures.err c.in_default.not-NoMemory), built)

pub returns-in-Ok : goal.returns-in-Ok
returns-in-Ok c =
    let made = cover_of_ranges c.args.graph.now c.args.fusions.now c.args.nodes.now c.args.layers.now c.fill.new.self c.requires.count
    c.requires.valid (c.in_ok-fill.ensures.units ∙ c.in_ok-ranges.ensures.units)
    (c.in_ok-fill.ensures.seams ∙ c.in_ok-ranges.ensures.seams) (c.in_ok-fill.ensures.joins ∙ c.in_ok-ranges.ensures.joins)
    c.in_ok-fill.ensures.hold in
    let built : plan_from c.args.graph.now (map (λ u. u.items) c.ranges-2.inside.units.items) c.ranges-2.inside.joins.items
    ≡ Ok (tree_by_nodes c.args.fusions.now c.args.nodes.now c.args.layers.now) =
    rw (← c.ranges-2.view_is) at made in
    cc (rw (c.deref.ensures.value, c.deref-2.ensures.value) at c.in-Ok.ensures.ok, built)
