use Rattle.std.proofs.Common.{ℕ, ◌<◌, length, Option, subst}
use Rattle.std.proofs.lemmas.List.{length-set}
use Rattle.fb_resolve.proofs.Marking.{IsGoingUp, fewer_unmarked, going_on}
use Rattle.fb_resolve.proofs.marks.mark_up.Goals as goal

pub bounds-marks-name : goal.bounds-marks-name
bounds-marks-name c = c.loop-next.invariant.0 c.in-Some.name (c.loop-next.invariant.1.live c.in-Some.name c.in-Some.is)

pub bounds-marks-name-in-Some : goal.bounds-marks-name-in-Some
bounds-marks-name-in-Some c = c.loop-next.invariant.0 c.in-Some.name (c.loop-next.invariant.1.live c.in-Some.name c.in-Some.is)

pub loop-next-smaller : goal.loop-next-smaller
loop-next-smaller c =
    fewer_unmarked c.loop-next.marks c.in-Some.name
    (c.loop-next.invariant.0 c.in-Some.name (c.loop-next.invariant.1.live c.in-Some.name c.in-Some.is)) c.if-marks-name.false

pub loop-next-preserved : goal.loop-next-preserved
loop-next-preserved c =
    let below : c.in-Some.name < length c.loop-next.marks =
    c.loop-next.invariant.0 c.in-Some.name (c.loop-next.invariant.1.live c.in-Some.name c.in-Some.is) in
    let P : Option ℕ → Type 0 = IsGoingUp c.args.blossoms.now c.args.marks.now c.loop-next.marks c.args.node in (
      λ x live. rw length-set (c.loop-next.invariant.0 x live),
      going_on _ _ _ _ c.in-Some.name c.parent-next.result c.keeps.ensures (subst P c.in-Some.is c.loop-next.invariant.1) below c.if-marks-name.false c.parent-next.ensures,
    )
