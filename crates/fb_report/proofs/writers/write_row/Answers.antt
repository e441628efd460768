use mir.Syntax.{w128}
use mir.Val.{SFits}
use Rattle.std.proofs.Common.{sym, subst, rules}
use Rattle.std.proofs.KnownBytes.{Appends-trans}
use Rattle.std.proofs.lemmas.Int.{to_z-of_z}
use Rattle.std.proofs.lemmas.Result.{on_ok_weaker, on_err_weaker}
use Rattle.fb_ports.specs.Causes.{Appends, AppendsPrefix}
use Rattle.fb_ports.proofs.Onward.{prefix_second, prefix_first}
use Rattle.fb_report.specs.Texts.{row_text}
use Rattle.fb_report.proofs.Lines.{row_text-best}
use Rattle.fb_report.proofs.writers.write_row.Goals as goal

pub returns-in_default-clause-prefix : goal.returns-in_default-clause-prefix
returns-in_default-clause-prefix g c = rw c.in-Best.is
    (subst (AppendsPrefix _ _) (sym (row_text-best c.args.shot c.in-Best.edges c.in-Best.base c.in-Best.weight c.in-Best.cuts))
    (prefix_first _ _ _ _ (rw c.as_slice.ensures at c.in_default.ensures.prefix)))

pub returns-in-Ok-clause-all : goal.returns-in-Ok-clause-all
returns-in-Ok-clause-all g c =
    let base : SFits w128 c.in-Best.base = search rules in
    let weight : SFits w128 c.in-Best.weight = search rules in
    rw c.in-Best.is
    (on_ok_weaker c.put_certificate.result
    (λ p. subst (Appends _ _) (sym (row_text-best c.args.shot c.in-Best.edges c.in-Best.base c.in-Best.weight c.in-Best.cuts))
    (Appends-trans _ _ _ _ _ (rw c.as_slice.ensures at c.in-Ok.ensures.all) p))
    (rw (to_z-of_z _ _ base, to_z-of_z _ _ weight) at c.put_certificate.ensures.all))

pub returns-in-Ok-clause-prefix : goal.returns-in-Ok-clause-prefix
returns-in-Ok-clause-prefix g c =
    let base : SFits w128 c.in-Best.base = search rules in
    let weight : SFits w128 c.in-Best.weight = search rules in
    rw c.in-Best.is
    (on_err_weaker c.put_certificate.result
    (λ p. subst (AppendsPrefix _ _) (sym (row_text-best c.args.shot c.in-Best.edges c.in-Best.base c.in-Best.weight c.in-Best.cuts))
    (prefix_second _ _ _ _ _ (rw c.as_slice.ensures at c.in-Ok.ensures.all) p))
    (rw (to_z-of_z _ _ base, to_z-of_z _ _ weight) at c.put_certificate.ensures.prefix))
