use Rattle.std.proofs.Common.{sym}
use Rattle.fb_graph.proofs.BuildSteps.{range_more}
use Rattle.fb_gen.proofs.drawing.real_flagged.Goals as goal

pub loop-v-preserved : goal.loop-v-preserved
loop-v-preserved c =
    rw (c.in_ok-push_if.ensures.ok, c.loop-v.invariant, c.is_real_flagged-is_wanted.ensures) (sym (range_more _ c.loop-v.v))
