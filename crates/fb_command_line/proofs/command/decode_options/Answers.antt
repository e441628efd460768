use Rattle.std.proofs.Common.{subst, sym}
use Rattle.std.proofs.lemmas.Result.{IfOk-weaker}
use Rattle.fb_command_line.specs.Command.{decode_app}
use Rattle.fb_command_line.specs.InternalCommands.{AreOptions}
use Rattle.fb_command_line.proofs.command.decode_options.Goals as goal

pub returns : goal.returns
returns c = IfOk-weaker c.list_of.result _ _
    (λ options same. subst (AreOptions decode_app.top.rules) (sym same)
    (c.graph.ensures, (c.shots.ensures, (c.format.ensures, (c.plan.ensures, (c.workers.ensures, (c.window.ensures, (c.trace.ensures, tt))))))))
    c.list_of.ensures
