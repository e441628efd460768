use Rattle.fb_witnesses.proofs.SampleShots.{odd_shot_witness, shot_witness}
use Rattle.fb_witnesses.proofs.SampleSignedRoots.{signed_root_witness}
use Rattle.fb_witnesses.proofs.shot_instances.shot_witness.Goals as goal

pub returns-clause-best : goal.returns-clause-best
returns-clause-best c = shot_witness

pub returns-clause-odd : goal.returns-clause-odd
returns-clause-odd c = odd_shot_witness

pub returns-clause-root : goal.returns-clause-root
returns-clause-root c = signed_root_witness
