use Rattle.std.proofs.Common.{◌^◌, arith, codes}
use Rattle.clap.specs.Words.{found_of, rows_of}
use Rattle.fb_request.specs.Ranges as ranges
use Rattle.fb_command_line.proofs.Numbers.{below_if_given}
use Rattle.fb_command_line.proofs.words.window.Goals as goal

pub number-requires : goal.number-requires
number-requires c =
    below_if_given (codes "window") ranges.windows (rows_of (found_of c.args.options.now)) (2 ^ 32) (omega arith) c.requires
