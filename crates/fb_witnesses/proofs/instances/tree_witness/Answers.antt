use Rattle.fb_witnesses.proofs.SampleOpenings.{level_witness, splitting_witness}
use Rattle.fb_witnesses.proofs.SampleTrees.{joining_witness, layer_witness}
use Rattle.fb_witnesses.proofs.instances.tree_witness.Goals as goal

pub returns-clause-layers : goal.returns-clause-layers
returns-clause-layers c = layer_witness

pub returns-clause-joining : goal.returns-clause-joining
returns-clause-joining c = joining_witness

pub returns-clause-splitting : goal.returns-clause-splitting
returns-clause-splitting c = splitting_witness

pub returns-clause-levels : goal.returns-clause-levels
returns-clause-levels c = level_witness
