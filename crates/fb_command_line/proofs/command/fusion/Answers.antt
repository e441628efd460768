use Rattle.std.proofs.lemmas.Result.{IfOk-weaker}
use Rattle.fb_command_line.specs.Command.{check_app, decode_app, fusion_app, plan_app, predict_app, sample_app}
use Rattle.fb_command_line.proofs.command.fusion.Goals as goal

pub returns : goal.returns
unfolding fusion_app
returns c =
    let bare = IfOk-weaker c.program.result _ _ (λ r made. made.shape) c.program.ensures in
    let decodes = c.with_command-program.ensures _ decode_app bare c.decode.ensures in
    let checks = c.with_command-program-2.ensures _ check_app decodes c.check.ensures in
    let samples = c.with_command-program-3.ensures _ sample_app checks c.sample.ensures in
    let plans = c.with_command-program-4.ensures _ plan_app samples c.planning.ensures in
    c.with_command.ensures _ predict_app plans c.predicting.ensures
