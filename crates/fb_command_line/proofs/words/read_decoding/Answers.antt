use Rattle.std.proofs.Common.{◌∙◌, ap, refl, sym, codes, [], unwrap_or}
use Rattle.clap.specs.Words.{found_of}
use Rattle.clap.proofs.WalkLemmas.{first_value-rows}
use Rattle.fb_command_line.proofs.RefusedFormats.{refused_with}
use Rattle.fb_command_line.proofs.TextOptions.{text_or}
use Rattle.fb_command_line.proofs.words.read_decoding.Goals as goal

pub returns-in-Ok-clause-request : goal.returns-in-Ok-clause-request
returns-in-Ok-clause-request c =
    let plan = c.get_str-plan.ensures ∙ first_value-rows (found_of c.args.options.now) (codes "plan") in
    let name = ap (λ s. s.now) c.unwrap_or.ensures ∙ text_or (λ s. s.now) c.get_str-plan.result _ refl ∙ ap (λ o. unwrap_or o []) plan in
    rw (
      sym c.option-graph.ensures,
      sym c.option-shots.ensures,
      sym c.option.ensures,
      sym name,
      sym plan,
      sym c.workers.ensures,
      sym c.window.ensures,
      sym c.trace.ensures,
      c.in-Ok.ensures.format,
    ) refl

pub returns-in-Err-clause-fault : goal.returns-in-Err-clause-fault
returns-in-Err-clause-fault c =
    let plan = c.get_str-plan.ensures ∙ first_value-rows (found_of c.args.options.now) (codes "plan") in
    let name = ap (λ s. s.now) c.unwrap_or.ensures ∙ text_or (λ s. s.now) c.get_str-plan.result _ refl ∙ ap (λ o. unwrap_or o []) plan in
    rw (sym c.option-graph.ensures, sym c.option-shots.ensures, sym c.option.ensures, sym name)
    (refused_with _ _ c.in-Err.fault c.in-Err.ensures.fault)
