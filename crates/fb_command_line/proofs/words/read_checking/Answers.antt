use Rattle.std.proofs.Common.{refl, sym}
use Rattle.fb_command_line.proofs.RefusedFormats.{refused_with}
use Rattle.fb_command_line.proofs.words.read_checking.Goals as goal

pub returns-in-Ok-clause-request : goal.returns-in-Ok-clause-request
returns-in-Ok-clause-request c =
    rw (
      sym c.option-graph.ensures,
      sym c.option-shots.ensures,
      sym c.option-report.ensures,
      sym c.option.ensures,
      c.in-Ok.ensures.format,
    ) refl

pub returns-in-Err-clause-fault : goal.returns-in-Err-clause-fault
returns-in-Err-clause-fault c =
    rw (sym c.option-graph.ensures, sym c.option-shots.ensures, sym c.option-report.ensures, sym c.option.ensures)
    (refused_with _ _ c.in-Err.fault c.in-Err.ensures.fault)
