use Rattle.std.proofs.Common.{◌-◌, take, ◌∙◌, ap}
use Rattle.fb_blossoms.proofs.Turns.{way_ends, way_goes_on, way_leg, way_shorter}
use Rattle.fb_blossoms.proofs.legs.even_path.Goals as goal

pub go-requires-clause-leg : goal.go-requires-clause-leg
go-requires-clause-leg c =
    way_leg c.args.nest.now.links.now c.args.nest.now.blossoms.now c.args.node c.args.a c.args.b c.loop-leg.todo.items c.pop.new.self.items c.in-Some.leg c.loop-leg.path.items
    c.loop-leg.invariant c.in-Some.ensures.items

pub loop-leg-smaller : goal.loop-leg-smaller
loop-leg-smaller c =
    way_shorter c.args.nest.now.links.now c.args.nest.now.blossoms.now c.loop-leg.todo.items c.pop.new.self.items c.go.new.todo.items c.in-Some.leg c.loop-leg.path.items c.go.new.path.items
    c.in-Some.ensures.items c.in_ok-go.ensures

pub loop-leg-preserved : goal.loop-leg-preserved
loop-leg-preserved c =
    way_goes_on c.args.nest.now.links.now c.args.nest.now.blossoms.now c.args.node c.args.a c.args.b c.loop-leg.todo.items c.pop.new.self.items c.go.new.todo.items c.in-Some.leg
    c.loop-leg.path.items c.go.new.path.items c.loop-leg.invariant c.in-Some.ensures.items c.in_ok-go.ensures

pub returns : goal.returns
returns c =
    way_ends c.args.nest.now.links.now c.args.nest.now.blossoms.now c.args.node c.args.a c.args.b c.loop-leg.todo.items c.pop.new.self.items c.loop-leg.path.items c.loop-leg.invariant
    c.in_default.ensures.items
    (c.in_default.ensures.rest ∙ ap (λ n. take (n - 1) c.loop-leg.todo.items) c.in_default.ensures.cases.0)
