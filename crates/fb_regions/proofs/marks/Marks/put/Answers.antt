use Rattle.std.proofs.Common.{◌<◌, ◌∙◌, length, ap, sym, subst, arith}
use Rattle.fb_regions.specs.InternalNodes.{marks_in}
use Rattle.fb_regions.specs.InternalTables.{HasRoomFor}
use Rattle.fb_regions.proofs.MarksIn.{length-marks, marks_entered, room_entered}
use Rattle.fb_regions.proofs.marks.Marks.put.Goals as goal

pub enter-requires : goal.enter-requires
enter-requires c =
    let below : c.args.v < length (marks_in c.self.inside.vertices c.self.inside.table) = rw (← c.self.view_is) at c.requires in
    omega (arith, below, length-marks c.self.inside.vertices c.self.inside.table, c.in_ok-make_room.ensures.room)

pub returns-clause-ok : goal.returns-clause-ok
returns-clause-ok c =
    rw (← c.self.view_is)
    (ap (marks_in c.self.inside.vertices) c.enter.ensures
    ∙ marks_entered c.self.inside.vertices c.self.inside.table _ c.args.v c.args.mark c.make_room.ensures.values c.keeps-2.ensures.values)

pub invariant_of-self-2 : goal.invariant_of-self-2
invariant_of-self-2 c =
    subst (HasRoomFor c.self.inside.vertices) (sym c.enter.ensures)
    (room_entered c.self.inside.vertices _ c.args.v c.args.mark c.in_ok-make_room.ensures.room)
