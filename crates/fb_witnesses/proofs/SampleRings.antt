-- The pentagon's blossom opened along its ring.
use Rattle.std.proofs.Common.{◌≡◌, inl, [], refl, arith}
use Rattle.std.proofs.lemmas.List.Elements.{All-from_recursion}
use Rattle.fb_witnesses.specs.RingWitnesses.{RingWitness, corners}
use Rattle.fb_laws.specs.StateRings.{MayOpenAlong}
use Rattle.fb_witnesses.specs.StateWitnesses.{blossom_branch, inner_blossom}
use Rattle.fb_witnesses.proofs.SamplePentagons.{opened_witness}

may_open : MayOpenAlong inner_blossom [] [] blossom_branch corners 3 3
may_open = record {
  tree = refl;
  may_split = opened_witness.0;
  children_are =
      All-from_recursion (λ n. n.name ≡ 7 → n.children ≡ corners) inner_blossom.nodes (
        λ e. absurd (omega (arith, e)),
        (
          λ e. absurd (omega (arith, e)),
          (
            λ e. absurd (omega (arith, e)),
            (
              λ e. absurd (omega (arith, e)),
              (
                λ e. absurd (omega (arith, e)),
                (λ e. absurd (omega (arith, e)), (λ e. absurd (omega (arith, e)), (λ e. refl, tt))),
              ),
            ),
          ),
        ),
      );
  place_below = omega arith;
  steps_below = omega arith;
  above = inl (refl, refl);
  below = inl (refl, refl);
}

pub ring_witness : RingWitness
ring_witness = (opened_witness.2, may_open, refl, refl)
