use Rattle.std.proofs.Common.{◌∙◌, [], ap, refl, unwrap_or}
use Rattle.clap.specs.Words.{found_of}
use Rattle.clap.proofs.WalkLemmas.{first_value-rows}
use Rattle.fb_command_line.proofs.TextOptions.{text_or}
use Rattle.fb_command_line.proofs.words.option.Goals as goal

pub returns : goal.returns
returns c = ap (λ s. s.now) c.unwrap_or.ensures ∙ text_or (λ s. s.now) c.get_str.result _ refl
    ∙ ap (λ o. unwrap_or o []) (c.get_str.ensures ∙ first_value-rows (found_of c.args.options.now) c.args.name.now)
