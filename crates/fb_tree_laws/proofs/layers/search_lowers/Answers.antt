use Rattle.fb_laws.proofs.LoweredParts.{free_lowers, attach_lowers, absorb_lowers, uncover_lowers}
use Rattle.fb_tree_laws.proofs.layers.search_lowers.Goals as goal

pub returns-clause-free : goal.returns-clause-free
returns-clause-free c = free_lowers

pub returns-clause-attached : goal.returns-clause-attached
returns-clause-attached c = attach_lowers

pub returns-clause-absorbed : goal.returns-clause-absorbed
returns-clause-absorbed c = absorb_lowers

pub returns-clause-uncovered : goal.returns-clause-uncovered
returns-clause-uncovered c = uncover_lowers
