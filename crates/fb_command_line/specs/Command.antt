-- The command line of `fusion`, as clap takes it.
use Rattle.std.specs.Prelude.{true, Some, codes}
use Rattle.clap.specs.Words.{App, Rule, Text, new_app, new_rule, with_rule, with_subcommand}
use Rattle.clap.specs.declared.builder.ArgAction.TheVariants.{Set, SetTrue}
use Rattle.clap.specs.declared.builder.value_parser.ValueParser.TheVariants.{Unsigned}
use Rattle.fb_request.specs.Ranges.{Range, distances, rates, rounds, shots, starts, units, windows, workers}

-- an option that may be given, once, as `--name value`
abbrev pub free_rule : Text → Rule
free_rule name = record (new_rule name) { long = Some name; value_names = 1; action = Some Set }

-- an option that has to be given, once
abbrev pub option_rule : Text → Rule
option_rule name = record (free_rule name) { required = true }

-- an option whose value is a number in a range; clap reads decimal digits, which a plus may precede
abbrev pub number_rule : Text → Range → Rule
number_rule name range = record (free_rule name) { parser = Some (Unsigned range.low range.high) }

-- the same, and it has to be given
abbrev pub required_number_rule : Text → Range → Rule
required_number_rule name range = record (number_rule name range) { required = true }

-- an option without a value that may be given, once, as `--name`
abbrev pub flag_rule : Text → Rule
flag_rule name = record (new_rule name) { long = Some name; action = Some SetTrue }

-- the options for the graph, the shots and the form of the shots
abbrev pub with_inputs : App → App
with_inputs app =
    with_rule (with_rule (with_rule app
    (option_rule (codes "graph"))) (option_rule (codes "shots"))) (option_rule (codes "format"))

-- the options for how many workers there are, and how many shots are solved at once
abbrev pub with_sizes : App → App
with_sizes app = with_rule (with_rule app (number_rule (codes "workers") workers)) (number_rule (codes "window") windows)

abbrev pub decode_app : App
decode_app = with_rule (with_sizes (with_rule (with_inputs (new_app (codes "decode"))) (free_rule (codes "plan"))))
    (flag_rule (codes "trace"))

abbrev pub check_app : App
check_app = with_rule (with_inputs (new_app (codes "check"))) (option_rule (codes "report"))

-- the options for a lattice and its plan
abbrev pub with_lattice : App → App
with_lattice app =
    with_rule (with_rule (with_rule app
    (required_number_rule (codes "distance") distances)) (required_number_rule (codes "rounds") rounds))
    (required_number_rule (codes "units") units)

-- the options for the shots that are drawn
abbrev pub with_draws : App → App
with_draws app =
    with_rule (with_rule (with_rule app
    (required_number_rule (codes "rate") rates)) (required_number_rule (codes "start") starts))
    (required_number_rule (codes "shots") shots)

abbrev pub sample_app : App
sample_app = with_sizes (with_draws (with_lattice (new_app (codes "sample"))))

abbrev pub plan_app : App
plan_app = with_rule (with_rule (new_app (codes "plan")) (option_rule (codes "graph")))
    (required_number_rule (codes "units") units)

abbrev pub predict_app : App
predict_app =
    with_rule (with_rule (with_rule (with_rule (new_app (codes "predict"))
    (option_rule (codes "graph"))) (option_rule (codes "observables"))) (option_rule (codes "report")))
    (option_rule (codes "to"))

abbrev pub plain_app : App
plain_app =
    with_subcommand (with_subcommand (with_subcommand (with_subcommand (with_subcommand (new_app (codes "fusion"))
    decode_app.top) check_app.top) sample_app.top) plan_app.top) predict_app.top

-- the whole command line: one command, and its options
unfoldable pub fusion_app : App
fusion_app = record plain_app { top = record plain_app.top { has_version = true; subcommand_required = true } }
