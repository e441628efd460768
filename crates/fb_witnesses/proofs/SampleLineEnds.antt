-- The whole states of two ends of a line, before they are fused.
use Rattle.std.proofs.Common.{ℕ, List, [], ◌∷◌}
use Rattle.std.proofs.lemmas.Bool.{false≢true}
use Rattle.std.proofs.lemmas.List.Elements.{All-from_recursion}
use Rattle.fb_graph.specs.Problem.{Problem}
use Rattle.fb_graph.specs.Laws.{Link}
use Rattle.fb_graph.specs.Nests.{child_sets}
use Rattle.fb_graph.specs.Singles.{nodes_of}
use Rattle.fb_laws.specs.NestedSearches.{IsNestedWork}
use Rattle.fb_laws.specs.PartStates.{IsRing, IsPartState}
use Rattle.fb_witnesses.specs.InternalSamples.{line_part, single}
use Rattle.fb_witnesses.specs.StateWitnesses.{FusedStateWitness, left_end, right_end}
use Rattle.fb_witnesses.proofs.SampleFusions.{fused_witness}
use Rattle.fb_witnesses.proofs.SampleParts.{no_links}
use Rattle.fb_witnesses.proofs.SampleSeamStates.{seam_witness}

-- one node, matched
one_end : (p : Problem) (name v : ℕ) (links : List Link) → IsNestedWork p (nodes_of (single name v 2 ∷ [])) links []
    → IsPartState p (record { nodes = nodes_of (single name v 2 ∷ []); cycles = λ n. []; matches = links; unmatched = [] })
one_end p name v links work = record {
  work = work;
  cycles = record {
    rings =
        All-from_recursion (λ n. IsRing (child_sets (nodes_of (single name v 2 ∷ [])) n) []) (nodes_of (single name v 2 ∷ []))
        (tt, tt);
    links = no_links p (nodes_of (single name v 2 ∷ []));
  };
  names = record { live = λ n within. absurd (false≢true within); distinct = tt };
}

pub fused_state_witness : FusedStateWitness
fused_state_witness = (
  fused_witness.7,
  seam_witness.0.parts,
  seam_witness.0.names,
  seam_witness.1,
  seam_witness.2,
  seam_witness.3,
  one_end (line_part (3 ∷ [])) 0 3 right_end.matches fused_witness.4,
  one_end (line_part (1 ∷ [])) 1 1 left_end.matches fused_witness.5,
)
