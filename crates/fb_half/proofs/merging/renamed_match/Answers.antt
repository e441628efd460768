use Rattle.std.proofs.Common.{refl}
use Rattle.fb_half.proofs.merging.renamed_match.Goals as goal

pub returns : goal.returns
returns c = rw (c.of.ensures, c.of-2.ensures, c.of_option.ensures) refl
