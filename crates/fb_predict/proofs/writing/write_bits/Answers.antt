use Rattle.fb_predict.proofs.Flips.{unset_bits}
use Rattle.fb_predict.proofs.writing.write_bits.Goals as goal

pub observe-requires-clause-unset : goal.observe-requires-clause-unset
observe-requires-clause-unset g c = unset_bits 1024
