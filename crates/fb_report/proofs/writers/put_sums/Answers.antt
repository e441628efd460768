use Rattle.std.proofs.Common.{◌∙◌, ap, sym, subst}
use Rattle.std.specs.Fmt.{signed_decimal}
use Rattle.std.proofs.lemmas.Int.{to_z-of_z}
use Rattle.std.proofs.lemmas.Result.{on_err_weaker}
use Rattle.fb_ports.specs.Causes.{AppendsPrefix}
use Rattle.fb_report.proofs.Lines.{sums-parts}
use Rattle.fb_report.proofs.writers.put_sums.Goals as goal

pub returns-clause-prefix : goal.returns-clause-prefix
returns-clause-prefix g c =
    let base = c.as_bytes-base.ensures.value ∙ c.format.ensures.text ∙ ap signed_decimal (to_z-of_z _ _ c.ranges.base) in
    let weight = c.as_bytes-weight.ensures.value ∙ c.format-2.ensures.text ∙ ap signed_decimal (to_z-of_z _ _ c.ranges.weight) in
    on_err_weaker c.put_parts.result
    (λ p. subst (AppendsPrefix _ _) (sym (sums-parts c.args.base c.args.weight)) p)
    (rw (base, weight) at c.put_parts.ensures.prefix)
