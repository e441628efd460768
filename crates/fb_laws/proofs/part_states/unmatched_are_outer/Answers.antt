use Rattle.fb_laws.proofs.PartStates.{unmatched_outer}
use Rattle.fb_laws.proofs.part_states.unmatched_are_outer.Goals as goal

pub returns : goal.returns
returns c = unmatched_outer
