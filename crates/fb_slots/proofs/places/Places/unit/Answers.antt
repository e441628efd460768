use Rattle.std.proofs.Common.{◌+◌, ◌*◌, ◌/◌, ◌%◌}
use Rattle.fb_slots.proofs.places.Places.unit.Goals as goal

pub returns-clause-place : goal.returns-clause-place
returns-clause-place g c =
    let kept = c.args.self.now.kept in
    λ i. c.args.number / kept.units_are i * kept.nodes_are i + c.args.number % kept.units_are i
