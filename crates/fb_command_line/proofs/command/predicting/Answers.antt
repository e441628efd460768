use Rattle.std.proofs.Common.{codes}
use Rattle.clap.specs.Words.{new_app}
use Rattle.fb_command_line.specs.Command.{predict_app}
use Rattle.fb_command_line.proofs.Builders.{with_all_options}
use Rattle.fb_command_line.proofs.command.predicting.Goals as goal

pub returns : goal.returns
returns c =
    with_all_options c.args-2.result predict_app.top.rules c.in_ok-options.options.items c.command-command.result (new_app (codes "predict"))
    c.in_ok-options.ensures c.command-command.ensures c.args-2.ensures
