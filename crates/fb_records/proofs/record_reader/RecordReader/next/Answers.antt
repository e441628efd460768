use Rattle.std.proofs.Common.{arith}
use Rattle.std.proofs.lemmas.Grind.{common_steps}
use Rattle.fb_records.proofs.record_reader.RecordReader.next.Goals as goal

pub advance-requires : goal.advance-requires
advance-requires g c = grind (arith, common_steps)
