use Rattle.std.proofs.Common.{◌∙◌, ap₂, sym}
use Rattle.std.proofs.lemmas.Result.{IfOk-weaker}
use Rattle.std.specs.Option.{option_zip}
use Rattle.fb_command_line.proofs.Builders.{both_made, with_command}
use Rattle.fb_command_line.proofs.command.with_command.Goals as goal

pub returns : goal.returns
returns c whole app program command =
    let made = both_made c.args.program c.args.command c.in-Some.program c.in-Some.command
    (sym (c.zip.ensures ∙ ap₂ option_zip c.ok.ensures.value c.ok-2.ensures.value) ∙ c.in-Some.is) in
    IfOk-weaker c.subcommand.result _ _
    (λ r added. with_command c.in-Some.program r c.in-Some.command whole app (rw made.0 at program) (rw made.1 at command) added) c.subcommand.ensures
