use Rattle.std.proofs.Common.{sym}
use Rattle.std.proofs.lemmas.List.{drop-drop}
use Rattle.fb_records.proofs.pending.Pending.take_off.Goals as goal

pub returns : goal.returns
returns c = rw (← c.self.view_is) (sym (drop-drop c.args.count c.self.inside.used c.self.inside.bytes.items))
