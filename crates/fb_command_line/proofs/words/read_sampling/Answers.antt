use Rattle.std.proofs.Common.{◌^◌, arith, codes}
use Rattle.clap.specs.Words.{found_of, rows_of}
use Rattle.fb_request.specs.Ranges as ranges
use Rattle.fb_command_line.proofs.Numbers.{below_of_given}
use Rattle.fb_command_line.proofs.words.read_sampling.Goals as goal

pub number-requires : goal.number-requires
number-requires c =
    below_of_given (codes "distance") ranges.distances (rows_of (found_of c.args.options.now)) (2 ^ 32) (omega arith) c.requires.distance

pub number-requires-2 : goal.number-requires-2
number-requires-2 c =
    below_of_given (codes "rounds") ranges.rounds (rows_of (found_of c.args.options.now)) (2 ^ 32) (omega arith) c.requires.rounds

pub number-requires-3 : goal.number-requires-3
number-requires-3 c =
    below_of_given (codes "units") ranges.units (rows_of (found_of c.args.options.now)) (2 ^ 32) (omega arith) c.requires.units

pub number-requires-4 : goal.number-requires-4
number-requires-4 c =
    below_of_given (codes "rate") ranges.rates (rows_of (found_of c.args.options.now)) (2 ^ 32) (omega arith) c.requires.rate

pub long_number-requires : goal.long_number-requires
long_number-requires c =
    below_of_given (codes "start") ranges.starts (rows_of (found_of c.args.options.now)) (2 ^ 64) (omega arith) c.requires.start

pub number-requires-5 : goal.number-requires-5
number-requires-5 c =
    below_of_given (codes "shots") ranges.shots (rows_of (found_of c.args.options.now)) (2 ^ 32) (omega arith) c.requires.shots
