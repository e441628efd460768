-- A node for a second defect of the line, beside one that has absorbed a neighbour.
use Rattle.std.proofs.Common.{◌≡◌, [], ◌∷◌, refl}
use Rattle.std.proofs.lemmas.Bool.{false≢true}
use Rattle.fb_graph.specs.Parity.{is_in}
use Rattle.fb_graph.specs.Nests.{IsNest}
use Rattle.fb_graph.specs.NewLeaves.{MayAddLeaf}
use Rattle.fb_graph.specs.SourceWalks.{HaveWalks}
use Rattle.fb_graph.proofs.NewLeaves.{nest_leaf_added, walks_leaf_added}
use Rattle.fb_laws.proofs.ExchangedDefects.{dual_exchanged, nest_exchanged, walks_exchanged}
use Rattle.fb_witnesses.specs.LeafWitnesses.{ExchangedWitness, LeafWitness, second_line, with_leaf}
use Rattle.fb_witnesses.specs.NestWitnesses.{wider_nodes}
use Rattle.fb_witnesses.specs.InternalSamples.{line}
use Rattle.fb_witnesses.proofs.SampleNests.{wider_nest, wider_walks}
use Rattle.fb_witnesses.proofs.SampleStates.{of_three}

may_add : MayAddLeaf (line (2 ∷ [])) wider_nodes 4 1
may_add = record { fresh = refl; real = refl; uncovered = refl }

leaf_nest : IsNest (line (2 ∷ [])) with_leaf
leaf_nest = nest_leaf_added (line (2 ∷ [])) wider_nodes 4 1 may_add wider_nest

leaf_walks : HaveWalks (line (2 ∷ [])) with_leaf
leaf_walks = walks_leaf_added (line (2 ∷ [])) wider_nodes 4 1 may_add wider_nest wider_walks

pub leaf_witness : LeafWitness
leaf_witness = (may_add, wider_nest, wider_walks, leaf_nest, leaf_walks, refl, refl, refl)

pub exchanged_witness : ExchangedWitness
exchanged_witness = (
  leaf_nest.dual,
  (dual_exchanged (line (2 ∷ [])) with_leaf (1 ∷ 2 ∷ [])).0 leaf_nest.dual,
  leaf_nest,
  (nest_exchanged (line (2 ∷ [])) with_leaf (1 ∷ 2 ∷ [])).0 leaf_nest,
  leaf_walks,
  (walks_exchanged (line (2 ∷ [])) with_leaf (1 ∷ 2 ∷ [])).0 leaf_walks,
  of_three (λ v. second_line.is_defect v ≡ is_in (2 ∷ 1 ∷ []) v) 1 2 3 refl refl refl,
  λ same. false≢true (same 1 refl),
)
