-- What clap has seen to of the options of words that it took. Only proofs need this.
use Rattle.std.specs.Prelude.{◌≡◌, ◌⊎◌, ◌<◌, ℕ, List, Option, Some, None, IfSome, IsSomeAnd, bytes_eq, codes, true, ⊤}
use Rattle.std.specs.Str.Parse.{IsNumeral, without_leading_plus}
use Rattle.clap.specs.Words.{IsUnsignedIn, Row, Text, one_of}
use Rattle.fb_request.specs.Ranges.{Range}
use Rattle.fb_request.specs.Ranges as ranges
use Rattle.fb_command_line.specs.Words.{number_in}

-- the word is a number in the range
abbrev pub WritesWithin : Range → Text → Type 0
WritesWithin range word = IsUnsignedIn range.low range.high word

-- the word is a number below the bound
abbrev pub WritesBelow : ℕ → Text → Type 0
WritesBelow bound word = IsNumeral 10 (without_leading_plus word) × (number_in word < bound)

-- the option is given, with a number in the range
abbrev pub HasNumber : Text → Range → List Row → Type 0
HasNumber name range options = IsSomeAnd (one_of name options) (WritesWithin range)

-- the same, if the option is given
abbrev pub HasNumberIfGiven : Text → Range → List Row → Type 0
HasNumberIfGiven name range options = IfSome (one_of name options) (WritesWithin range)

-- the options of `decode` that aren't names
pub record HasDecodeOptions (options : List Row) : Type 0 where
  pub workers : HasNumberIfGiven (codes "workers") ranges.workers options
  pub window : HasNumberIfGiven (codes "window") ranges.windows options
  pub trace : IfSome (one_of (codes "trace") options) (λ word. (word ≡ codes "true") ⊎ (word ≡ codes "false"))

-- the options of `sample`
pub record HasSampleOptions (options : List Row) : Type 0 where
  pub distance : HasNumber (codes "distance") ranges.distances options
  pub rounds : HasNumber (codes "rounds") ranges.rounds options
  pub units : HasNumber (codes "units") ranges.units options
  pub rate : HasNumber (codes "rate") ranges.rates options
  pub start : HasNumber (codes "start") ranges.starts options
  pub shots : HasNumber (codes "shots") ranges.shots options
  pub workers : HasNumberIfGiven (codes "workers") ranges.workers options
  pub window : HasNumberIfGiven (codes "window") ranges.windows options

-- the options of `plan`
pub record HasPlanOptions (options : List Row) : Type 0 where
  pub units : HasNumber (codes "units") ranges.units options

-- the options of a command
abbrev pub HasOptions : Option (Text × List Row) → Type 0
HasOptions None = ⊤
HasOptions (Some command) = (bytes_eq command.0 (codes "decode") ≡ true → HasDecodeOptions command.1)
    × (bytes_eq command.0 (codes "sample") ≡ true → HasSampleOptions command.1)
    × (bytes_eq command.0 (codes "plan") ≡ true → HasPlanOptions command.1)
