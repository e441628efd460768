use Rattle.fb_witnesses.proofs.SampleFours.{beside_witness, match_witness}
use Rattle.fb_witnesses.proofs.link_instances.match_witness.Goals as goal

pub returns-clause-all : goal.returns-clause-all
returns-clause-all c = match_witness

pub returns-clause-beside : goal.returns-clause-beside
returns-clause-beside c = beside_witness
