use Rattle.std.proofs.Common.{codes}
use Rattle.clap.specs.Words.{found_of}
use Rattle.fb_command_line.proofs.Numbers.{flag_read}
use Rattle.fb_command_line.proofs.words.trace.Goals as goal

pub returns : goal.returns
returns c =
    flag_read (found_of c.args.options.now) (codes "trace") c.get_flag.result c.get_flag.ensures.none c.get_flag.ensures.value
    c.get_flag.ensures.other c.requires.trace
