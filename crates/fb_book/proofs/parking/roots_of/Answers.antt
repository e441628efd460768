use Rattle.std.proofs.Common.{arith}
use Rattle.std.proofs.lemmas.Grind.{common_steps, elements}
use Rattle.fb_book.proofs.parking.roots_of.Goals as goal

pub take_out-piece-requires-clause-place : goal.take_out-piece-requires-clause-place
take_out-piece-requires-clause-place g c = grind (arith, common_steps)

pub loop-slot-preserved : goal.loop-slot-preserved
loop-slot-preserved g c = grind (arith, elements)
