use Rattle.fb_verify.proofs.KeptRows.{ok_positive, ok_few}
use Rattle.fb_verify.proofs.report_text.read_report.Goals as goal

pub returns-clause-values : goal.returns-clause-values
returns-clause-values c = ok_positive c.args.bytes.now c.read_text.result c.read_text.ensures.ok

pub returns-clause-count : goal.returns-clause-count
returns-clause-count c = ok_few c.args.bytes.now c.read_text.result c.read_text.ensures.ok
