-- The premises of the laws on the end of a search, computed.
use Rattle.std.proofs.Common.{◌<◌, inl, inr, [], ◌∷◌, refl, arith, le_refl}
use Rattle.std.proofs.lemmas.List.Elements.{All-from_recursion}
use Rattle.fb_graph.specs.Certificate.{AreDistinct}
use Rattle.fb_witnesses.specs.InternalSamples.{cut}
use Rattle.fb_witnesses.specs.Witnesses.{EndWitness}

pub end_witness : EndWitness
end_witness = (
  inr (le_refl 1, inl (omega arith)),
  All-from_recursion (λ x. x < 6) (1 ∷ 4 ∷ 2 ∷ []) (omega arith, (omega arith, (omega arith, tt))),
  refl,
  refl,
  refl,
  ((3, refl), ((1, refl), (tt, tt))),
  All-from_recursion (λ c. AreDistinct c.vertices) (cut 2 (2 ∷ []) ∷ cut 2 (2 ∷ 3 ∷ []) ∷ cut 0 (2 ∷ 3 ∷ 1 ∷ []) ∷ [])
      ((refl, tt), ((refl, (refl, tt)), ((refl, (refl, (refl, tt))), tt))),
)
