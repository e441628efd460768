use Rattle.std.proofs.Common.{◌≤◌, ◌<◌, length, take, subst, All, ◌∙◌, arith}
use Rattle.std.proofs.lemmas.List.{take_all}
use Rattle.std.proofs.lemmas.List.Elements.{All-more, All-weaker}
use Rattle.fb_trees.specs.InternalPlaces.{IsWithin}
use Rattle.fb_trees.proofs.places.make_room_for_all.Goals as goal

pub loop-branch-preserved : goal.loop-branch-preserved
loop-branch-preserved c =
    let longer : length c.loop-branch.places.items ≤ length c.make_room.new.places.items = c.make_room.ensures.longer in (
      λ name. c.in_ok-make_room.ensures.same name ∙ c.loop-branch.invariant.0 name,
      All-more (IsWithin (length c.make_room.new.places.items)) c.args.branches.now c.loop-branch.branch-index _ c.loop-branch-test.true
          (All-weaker (IsWithin (length c.loop-branch.places.items)) (IsWithin (length c.make_room.new.places.items))
          (λ b within.
          let minus : b.minus < length c.loop-branch.places.items = within.minus in
          let plus : b.plus < length c.loop-branch.places.items = within.plus in
          record { minus = omega arith; plus = omega arith })
          (take c.loop-branch.branch-index c.args.branches.now) c.loop-branch.invariant.1)
          c.in_ok-make_room.ensures.room,
    )

pub returns-clause-room : goal.returns-clause-room
returns-clause-room c =
    subst (All (IsWithin (length c.loop-branch.places.items)))
    (take_all c.loop-branch.branch-index c.args.branches.now c.loop-branch-test.false) c.loop-branch.invariant.1
