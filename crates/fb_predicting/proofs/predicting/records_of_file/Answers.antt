use Rattle.std.proofs.Common.{◌<◌, length}
use Rattle.std.proofs.lemmas.Result.{err_from_is_err_and}
use Rattle.fb_files.proofs.Lists.{refused_as_too_long}
use Rattle.fb_files.proofs.Reported.{too_long}
use Rattle.fb_files.specs.Judging.{IsNoReport}
use Rattle.fb_predicting.proofs.predicting.records_of_file.Goals as goal
use Rattle.fb_verify.specs.Reports.{most_bytes}

pub returns-in_err-text-clause-refused : goal.returns-in_err-text-clause-refused
returns-in_err-text-clause-refused g c =
    let exit = err_from_is_err_and c.from_residual.result c.from_residual.ensures.1 in
    rw (exit.1, exit.2)
    (refused_as_too_long (g.F.Files.named c.args.files.now) c.args.name.now (λ text. most_bytes < length text) IsNoReport _ too_long c.in_err-text.field-0.0
    c.in_err-text.ensures.refused)
