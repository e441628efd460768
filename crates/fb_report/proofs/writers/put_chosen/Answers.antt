use Rattle.std.proofs.Common.{sym, subst}
use Rattle.std.proofs.lemmas.Result.{on_err_weaker}
use Rattle.fb_ports.specs.Causes.{AppendsPrefix}
use Rattle.fb_ports.proofs.Onward.{prefix_second, prefix_first}
use Rattle.fb_report.proofs.Lines.{opening, chosen-parts}
use Rattle.fb_report.proofs.writers.put_chosen.Goals as goal

pub returns-in_default-clause-prefix : goal.returns-in_default-clause-prefix
returns-in_default-clause-prefix g c = subst (AppendsPrefix _ _) (sym (chosen-parts c.args.shot c.args.edges.now))
    (prefix_first _ _ (opening c.args.shot) _ (rw c.from.ensures at c.in_default.ensures.prefix))

pub returns-clause-prefix : goal.returns-clause-prefix
returns-clause-prefix g c = on_err_weaker c.put_line_end.result
    (λ p. subst (AppendsPrefix _ _) (sym (chosen-parts c.args.shot c.args.edges.now))
    (prefix_second _ _ _ (opening c.args.shot) _ (rw c.from.ensures at c.in-Ok.ensures.all) p))
    c.put_line_end.ensures.prefix
