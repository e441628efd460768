-- What the words of a command line ask for.
use Rattle.std.specs.Prelude.{◌||◌, ℕ, Bool, false, List, [], ◌∷◌, codes, bytes_eq, count_by, nat_lt, option_map, unwrap_or, if◌then◌else◌, Option, Some, None, Result, Ok, Err}
use Rattle.std.specs.Option.{option_map_or}
use Rattle.std.specs.Str.Parse.{digits_value, without_leading_plus}
use Rattle.clap.specs.Kinds.{Kinds}
use Rattle.clap.specs.Words.{Row, Text, fault_of, first_of, one_of, subcommand_of}
use Rattle.fb_command_line.specs.Command.{fusion_app}
use Rattle.fb_request.specs.Requests.{Planning, Request, Sampling, check, decode, plan, predict, sample}
use Rattle.fb_request.specs.declared.coding.Coding.{Coding}
use Rattle.fb_request.specs.declared.coding.Coding.TheVariants as coding
use Rattle.fb_request.specs.declared.format.Format.{Format}
use Rattle.fb_request.specs.declared.format.Format.TheVariants.{Text01, B8, Dets, Hits, R8, Json}
use Rattle.fb_request.specs.declared.usage.UsageKind.{UsageKind}
use Rattle.fb_request.specs.declared.usage.UsageKind.TheVariants as usage

-- the format that a word names
abbrev pub format_of : Text → Option Format
format_of word =
    if bytes_eq word (codes "01") then Some Text01
    else (if bytes_eq word (codes "b8") then Some B8
    else (if bytes_eq word (codes "dets") then Some Dets
    else (if bytes_eq word (codes "hits") then Some Hits
    else (if bytes_eq word (codes "r8") then Some R8
    else (if bytes_eq word (codes "json") then Some Json else None)))))

-- the format of bits that a word names
abbrev pub coding_of : Text → Option Coding
coding_of word =
    if bytes_eq word (codes "01") then Some coding.Text01
    else (if bytes_eq word (codes "b8") then Some coding.B8
    else (if bytes_eq word (codes "dets") then Some coding.Dets
    else (if bytes_eq word (codes "hits") then Some coding.Hits
    else (if bytes_eq word (codes "r8") then Some coding.R8 else None))))

-- the name of standard input
abbrev pub is_standard_input : Text → Bool
is_standard_input name = bytes_eq name (codes "-")

-- more than one of the names is that of standard input
abbrev pub has_two_inputs : List Text → Bool
has_two_inputs names = nat_lt 1 (count_by is_standard_input names)

-- the format, if it is one and at most one of these inputs is standard input
abbrev pub accepted_format : {F : Type 0} → Option F → List Text → Result F UsageKind
accepted_format None names = Err usage.Format
accepted_format (Some format) names = if has_two_inputs names then Err usage.TwoInputs else Ok format

-- the request of a format that is accepted
abbrev pub request_with : {F : Type 0} → Result F UsageKind → (F → Request) → Result Request UsageKind
request_with (Ok format) request = Ok (request format)
request_with (Err kind) request = Err kind

-- the value of an option; empty if there is none, as may be of the plan alone
abbrev pub option_of : Text → List Row → Text
option_of name options = unwrap_or (first_of name options) []

-- the number that a word writes: of its decimal digits, after a plus if it begins with one
abbrev pub number_in : Text → ℕ
number_in word = digits_value 10 (without_leading_plus word)

-- the number of an option, if the option is given
abbrev pub number_of : Text → List Row → Option ℕ
number_of name options = option_map number_in (one_of name options)

-- the number of an option that has to be given
abbrev pub given_number : Text → List Row → ℕ
given_number name options = unwrap_or (number_of name options) 0

abbrev pub workers_of : List Row → ℕ
workers_of options = unwrap_or (number_of (codes "workers") options) 1

abbrev pub window_of : List Row → ℕ
window_of options = unwrap_or (number_of (codes "window") options) 1

-- whether a trace is asked for; clap gives an option without a value the word `true` if it is given, and else `false`
abbrev pub trace_of : List Row → Bool
trace_of options = option_map_or (λ word. bytes_eq word (codes "true")) (one_of (codes "trace") options) false

-- the request of `decode` with these options
abbrev pub decoding_of : List Row → Result Request UsageKind
decoding_of options =
    let graph = option_of (codes "graph") options in
    let plan = option_of (codes "plan") options in
    let shots = option_of (codes "shots") options in
    request_with (accepted_format (format_of (option_of (codes "format") options)) (graph ∷ plan ∷ shots ∷ []))
    (λ format. decode (record {
      graph = graph;
      plan = first_of (codes "plan") options;
      shots = shots;
      format = format;
      workers = workers_of options;
      window = window_of options;
      trace = trace_of options;
    }))

-- the request of `check` with these options
abbrev pub checking_of : List Row → Result Request UsageKind
checking_of options =
    let graph = option_of (codes "graph") options in
    let shots = option_of (codes "shots") options in
    let report = option_of (codes "report") options in
    request_with (accepted_format (format_of (option_of (codes "format") options)) (graph ∷ shots ∷ report ∷ []))
    (λ format. check (record { graph = graph; shots = shots; format = format; report = report }))

-- the request of `sample` with these options
abbrev pub sampling_of : List Row → Sampling
sampling_of options = record {
  distance = given_number (codes "distance") options;
  rounds = given_number (codes "rounds") options;
  units = given_number (codes "units") options;
  rate = given_number (codes "rate") options;
  start = given_number (codes "start") options;
  shots = given_number (codes "shots") options;
  workers = workers_of options;
  window = window_of options;
}

-- the request of `plan` with these options
abbrev pub planning_of : List Row → Planning
planning_of options = record { graph = option_of (codes "graph") options; units = given_number (codes "units") options }

-- the request of `predict` with these options
abbrev pub predicting_of : List Row → Result Request UsageKind
predicting_of options =
    let graph = option_of (codes "graph") options in
    let observables = option_of (codes "observables") options in
    let report = option_of (codes "report") options in
    request_with (accepted_format (coding_of (option_of (codes "to") options)) (graph ∷ observables ∷ report ∷ []))
    (λ to. predict (record { graph = graph; observables = observables; report = report; to = to }))

abbrev pub is_command_name : Text → Bool
is_command_name name =
    bytes_eq name (codes "decode") || (bytes_eq name (codes "check")
    || (bytes_eq name (codes "sample") || (bytes_eq name (codes "plan") || bytes_eq name (codes "predict"))))

-- a command was named
abbrev pub is_command : Option (Text × List Row) → Bool
is_command None = false
is_command (Some command) = is_command_name command.0

-- the request of a command with its options; words that clap takes name one of these
abbrev pub command_request : Option (Text × List Row) → Result Request UsageKind
command_request None = Err usage.Parse
command_request (Some command) =
    if bytes_eq command.0 (codes "decode") then decoding_of command.1
    else (if bytes_eq command.0 (codes "check") then checking_of command.1
    else (if bytes_eq command.0 (codes "sample") then Ok (sample (sampling_of command.1))
    else (if bytes_eq command.0 (codes "plan") then Ok (plan (planning_of command.1))
    else (if bytes_eq command.0 (codes "predict") then predicting_of command.1 else Err usage.Parse))))

-- the request of a command, if clap finds no fault in the words
abbrev pub request_unless : Kinds → Option (Text × List Row) → Result Request UsageKind
request_unless [] command = command_request command
request_unless (fault ∷ faults) command = Err usage.Parse

-- What the words ask for, or what is wrong with them, whichever is first: clap doesn't take them, or they ask it for
-- help or the version; `--format` is none of the six, or `--to` none of the five; more than one name is that of standard input.
abbrev pub request_of : List Text → Result Request UsageKind
request_of words = request_unless (fault_of fusion_app words) (subcommand_of fusion_app words)
