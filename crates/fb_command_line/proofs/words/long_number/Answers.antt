use Rattle.std.specs.Str.Parse.{ParsesUnsigned, ExplainsUnsignedError, HasUnsignedDigitsIfOk}
use Rattle.clap.specs.Words.{found_of}
use Rattle.fb_command_line.proofs.Numbers.{number_read}
use Rattle.fb_command_line.proofs.words.long_number.Goals as goal

pub returns : goal.returns
returns c =
    number_read _ (λ word r. ParsesUnsigned 64 10 word r × ExplainsUnsignedError 10 word r × HasUnsignedDigitsIfOk word r) 64
    (found_of c.args.options.now) c.args.name.now c.get_one.result (λ word x read. read.0) c.get_one.ensures.none c.get_one.ensures.value
    c.requires
