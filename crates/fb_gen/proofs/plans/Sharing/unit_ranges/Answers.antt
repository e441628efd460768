use Rattle.std.proofs.Common.{ℕ, Vec, Global, [], ◌∷◌, ◌∙◌, ap}
use Rattle.fb_gen.specs.TimePlan.{unit_range}
use Rattle.fb_gen.proofs.Rounds.{pushed_more}
use Rattle.fb_gen.proofs.plans.Sharing.unit_ranges.Goals as goal

pub loop-j-preserved : goal.loop-j-preserved
loop-j-preserved c =
    pushed_more {X = Vec (ℕ × ℕ) Global} (λ ranges. ranges.items)
    (λ j. unit_range c.args.self.distance c.args.self.rounds c.args.self.units j ∷ []) c.loop-j.j c.loop-j.found.items
    c.push.new.self.items c.in_ok-ranges.ranges c.in_ok-push.ensures.items c.loop-j.invariant
    (c.in_ok-ranges.ensures ∙ ap (λ range. range ∷ []) c.unit_range-range.ensures)
