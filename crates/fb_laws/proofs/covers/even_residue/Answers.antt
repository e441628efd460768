use Rattle.fb_graph.proofs.Crossings.{even_residue}
use Rattle.fb_laws.proofs.covers.even_residue.Goals as goal

pub returns : goal.returns
returns c = even_residue
