use Rattle.fb_witnesses.proofs.SampleSearches.{search_witness}
use Rattle.fb_witnesses.proofs.examples.search_witness.Goals as goal

pub returns : goal.returns
returns c = search_witness
