use Rattle.std.proofs.Common.{refl, sym, subst}
use Rattle.std.proofs.lemmas.Result.{on_err_weaker}
use Rattle.fb_ports.specs.Causes.{AppendsPrefix}
use Rattle.fb_ports.proofs.Onward.{prefix_first}
use Rattle.fb_report.proofs.Lines.{cut_opening, cut_line-parts, vertices_prefix}
use Rattle.fb_report.proofs.pieces.put_cut.Goals as goal

pub returns-in_default-clause-prefix : goal.returns-in_default-clause-prefix
returns-in_default-clause-prefix g c = subst (AppendsPrefix _ _) (sym (cut_line-parts (record { value = c.args.value; vertices = c.args.vertices.now })))
    (prefix_first _ _ (cut_opening c.args.value) _ c.in_default.ensures.prefix)

pub returns-clause-prefix : goal.returns-clause-prefix
returns-clause-prefix g c = on_err_weaker c.put_line_end.result
    (vertices_prefix _ _ _ (record { value = c.args.value; vertices = c.args.vertices.now }) _ refl c.in-Ok.ensures.all) c.put_line_end.ensures.prefix
