use Rattle.std.proofs.Common.{◌++◌, map}
use Rattle.std.proofs.lemmas.Int.{to_z-of_z}
use Rattle.std.proofs.lemmas.Result.{on_err_weaker}
use Rattle.fb_ports.specs.Causes.{concat}
use Rattle.fb_ports.proofs.Onward.{prefix_second, prefix_first}
use Rattle.fb_report.specs.Texts.{base_line, cut_line, weight_line}
use Rattle.fb_report.proofs.writers.put_certificate.Goals as goal

pub returns-in_default-clause-prefix : goal.returns-in_default-clause-prefix
returns-in_default-clause-prefix g c =
    prefix_first _ _ (base_line c.args.base ++ weight_line c.args.weight) (concat (map cut_line c.args.cuts.now))
    (rw (to_z-of_z _ _ c.ranges.base, to_z-of_z _ _ c.ranges.weight) at c.in_default.ensures.prefix)

pub returns-clause-prefix : goal.returns-clause-prefix
returns-clause-prefix g c = on_err_weaker c.put_cuts.result
    (prefix_second _ _ _ (base_line c.args.base ++ weight_line c.args.weight) (concat (map cut_line c.args.cuts.now))
    (rw (to_z-of_z _ _ c.ranges.base, to_z-of_z _ _ c.ranges.weight) at c.in-Ok.ensures.all))
    c.put_cuts.ensures.prefix
