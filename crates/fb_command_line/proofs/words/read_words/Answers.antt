use Rattle.std.proofs.lemmas.Result.{IfOk-weaker}
use Rattle.clap.specs.Words.{subcommand_rows_of}
use Rattle.fb_request.specs.PlainRequests.{plain_request}
use Rattle.fb_command_line.proofs.Numbers.{request_in_ranges}
use Rattle.fb_command_line.proofs.words.read_words.Goals as goal

pub returns-in-Ok-clause-ranges : goal.returns-in-Ok-clause-ranges
returns-in-Ok-clause-ranges c =
    IfOk-weaker c.read_request.result _ _
    (λ e same. request_in_ranges (subcommand_rows_of c.in-Ok.matches) (plain_request e) c.in-Ok.ensures.options same)
    c.read_request.ensures.request
