use Rattle.std.proofs.Common.{refl}
use Rattle.fb_records.proofs.record_reader.RecordReader.finish.Goals as goal

pub returns : goal.returns
returns g c = rw (← c.self.view_is) refl
