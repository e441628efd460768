-- The commands of clap as the code builds them up. Only proofs need this.
use Rattle.std.specs.Prelude.{◌≡◌, List, [], ◌∷◌, codes, false, true, ⊤}
use Rattle.clap.specs.Words.{App, Rule, app_of, new_app, rule_of}
use Rattle.clap.specs.declared.builder.arg.Arg.{Arg}
use Rattle.clap.specs.declared.builder.command.Command.{Command}
use Rattle.clap.specs.declared.builder.command.Command.TheViews.{out-Command}

-- the command is this one, and no option of it holds for other commands too
pub record IsCommand (app : App) (command : Command) : Type 0 where
  pub shape : app_of command ≡ app
  pub local : (out-Command command).has_globals ≡ false

-- the option has this rule, and holds for its own command alone
pub record IsOption (rule : Rule) (option : Arg) : Type 0 where
  pub meaning : rule_of option ≡ rule
  pub local : option.global ≡ false

-- the options have these rules, in this order
abbrev pub AreOptions : List Rule → List Arg → Type 0
AreOptions [] [] = ⊤
AreOptions [] (option ∷ options) = ⊥
AreOptions (rule ∷ rules) [] = ⊥
AreOptions (rule ∷ rules) (option ∷ options) = IsOption rule option × AreOptions rules options

-- the command line without its commands
abbrev pub bare_app : App
bare_app = record (new_app (codes "fusion")) {
  top = record (new_app (codes "fusion")).top {
    has_version = true;
    subcommand_required = true;
  };
}
