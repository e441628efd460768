use Rattle.fb_witnesses.proofs.SampleOpenedParts.{nested_example, part_witness, ring_example}
use Rattle.fb_witnesses.proofs.examples.opening_examples.Goals as goal

pub returns-clause-part : goal.returns-clause-part
returns-clause-part c = part_witness

pub returns-clause-nested : goal.returns-clause-nested
returns-clause-nested c = nested_example

pub returns-clause-ring : goal.returns-clause-ring
returns-clause-ring c = ring_example
