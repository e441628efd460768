use Rattle.std.proofs.Common.{refl}
use Rattle.fb_book.proofs.moves.place_of.Goals as goal

pub returns : goal.returns
returns c = refl
