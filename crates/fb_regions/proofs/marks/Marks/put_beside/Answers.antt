use Rattle.std.proofs.Common.{◌<◌, ◌∙◌, length, ap, refl, sym, subst, arith}
use Rattle.fb_regions.specs.InternalNodes.{marks_in}
use Rattle.fb_regions.specs.InternalTables.{HasRoomFor}
use Rattle.fb_regions.proofs.MarksIn.{has_room, length-marks, marks_entered, room_entered}
use Rattle.fb_regions.proofs.marks.Marks.put_beside.Goals as goal

pub enter-requires : goal.enter-requires
enter-requires c =
    let below : c.args.v < length (marks_in c.self.inside.vertices c.self.inside.table) = rw (← c.self.view_is) at c.requires.below in
    let room = has_room c.self.inside.vertices c.self.inside.table c.args.other c.self.invariant c.keeps.ensures.within (rw (← c.self.view_is) at c.requires.other) in
    omega (arith, below, length-marks c.self.inside.vertices c.self.inside.table, room)

pub returns : goal.returns
returns c =
    rw (← c.self.view_is)
    (ap (marks_in c.self.inside.vertices) c.enter.ensures
    ∙ marks_entered c.self.inside.vertices c.self.inside.table c.self.inside.table c.args.v c.args.mark (λ k. refl) c.keeps.ensures.values)

pub invariant_of-self : goal.invariant_of-self
invariant_of-self c =
    let room = has_room c.self.inside.vertices c.self.inside.table c.args.other c.self.invariant c.keeps.ensures.within (rw (← c.self.view_is) at c.requires.other) in
    subst (HasRoomFor c.self.inside.vertices) (sym c.enter.ensures)
    (room_entered c.self.inside.vertices c.self.inside.table c.args.v c.args.mark room)
