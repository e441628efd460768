use Rattle.std.proofs.Common.{◌==◌, if◌then◌else◌, option_map, sym, ◌∙◌, ap}
use Rattle.fb_blossoms.specs.Links.{step_at}
use Rattle.fb_blossoms.specs.InternalForest.{with_parent}
use Rattle.fb_blossoms.proofs.Seats.{seated_next}
use Rattle.fb_blossoms.proofs.forest.put_under.Goals as goal

pub loop-place-preserved : goal.loop-place-preserved
loop-place-preserved c = (
  λ x.
      c.put_one_under.ensures.slots x
      ∙ (ap (λ o. if (step_at c.args.cycle.now c.loop-place.place).node == x then option_map (with_parent c.args.parent c.loop-place.place) o else o) (c.loop-place.invariant.0 x)
      ∙ sym (seated_next c.args.cycle.now c.loop-place.place c.args.parent x _ c.loop-place-test.true)),
  λ h. c.put_one_under.ensures.room (c.loop-place.invariant.1 h),
  c.put_one_under.ensures.key ∙ c.loop-place.invariant.2,
)
