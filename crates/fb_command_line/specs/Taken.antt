use Rattle.std.specs.Prelude.{Bool, List}
use Rattle.clap.specs.Words.{Text, takes}
use Rattle.fb_command_line.specs.Command.{fusion_app}

-- whether clap takes the words as a command of `fusion` and its options
abbrev pub is_taken : List Text → Bool
is_taken words = takes fusion_app words
