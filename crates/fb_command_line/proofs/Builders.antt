-- What a step of building a command of clap adds to it.
use Rattle.std.proofs.Common.{◌≡◌, ◌∙◌, ap, ap₂, List, [], ◌∷◌, Some, option_map, Result, Ok, Err, sym}
use Rattle.std.proofs.lemmas.Result.{IfOk-weaker}
use Rattle.std.specs.Option.{option_zip}
use Rattle.std.specs.Prelude.{◌||◌, IfOk}
use Rattle.std.specs.Result.{result_ok}
use Rattle.clap.specs.Words.{AddsArg, AddsInTurn, AddsSubcommand, App, Rule, app_of, with_rule, with_subcommand}
use Rattle.clap.specs.declared.builder.arg.Arg.{Arg}
use Rattle.clap.specs.declared.builder.command.Command.{Command}
use Rattle.fb_command_line.specs.InternalCommands.{AreOptions, IsCommand, IsOption}

-- one more option
with_option : (old new : Command) (option : Arg) (rule : Rule) (app : App) → IsOption rule option → AddsArg old option new
    → IsCommand app old → IsCommand (with_rule app rule) new
with_option old new option rule app is added command = record {
  shape = added.shape is.local ∙ ap₂ with_rule command.shape is.meaning;
  local = added.globals ∙ ap₂ ◌||◌ command.local is.local;
}

-- a command with more options
abbrev with_rules : App → List Rule → App
with_rules app [] = app
with_rules app (rule ∷ rules) = with_rules (with_rule app rule) rules

with_options : (rules : List Rule) (options : List Arg) (old new : Command) (app : App) → AreOptions rules options
    → AddsInTurn AddsArg old options new → IsCommand app old → IsCommand (with_rules app rules) new
with_options [] [] old new app are added command = rw (sym added) command
with_options [] (option ∷ options) old new app are added command = absurd are
with_options (rule ∷ rules) [] old new app are added command = absurd are
with_options (rule ∷ rules) (option ∷ options) old new app are added command =
    with_options rules options added.0 new (with_rule app rule) are.1 added.2
    (with_option old added.0 option rule app are.0 added.1 command)

-- a command with all its options
pub with_all_options : {E : Type 0} (result : Result Command E) (rules : List Rule) (options : List Arg) (old : Command)
    (app : App) → AreOptions rules options → IsCommand app old → IfOk result (AddsInTurn AddsArg old options)
    → IfOk result (IsCommand (with_rules app rules))
with_all_options result rules options old app are command added =
    IfOk-weaker result _ _ (λ new adds. with_options rules options old new app are adds command) added

-- both were made
pub both_made : {A B E : Type 0} (first : Result A E) (second : Result B E) (a : A) (b : B)
    → option_zip (result_ok first) (result_ok second) ≡ Some (a, b) → (first ≡ Ok a) × (second ≡ Ok b)
both_made (Ok x) (Ok y) a b made =
    let firsts : Some x ≡ Some a = ap (option_map (λ pair. pair.0)) made in
    let seconds : Some y ≡ Some b = ap (option_map (λ pair. pair.1)) made in
    (cc, cc)
both_made (Ok x) (Err e) a b made = cc
both_made (Err e) second a b made = cc

-- one more command
pub with_command : (old new command : Command) (whole app : App) → app_of old ≡ whole → IsCommand app command
    → AddsSubcommand old command new → app_of new ≡ with_subcommand whole app.top
with_command old new command whole app is one added = added.shape one.local ∙ ap₂ with_subcommand is (ap (λ (a : App). a.top) one.shape)
