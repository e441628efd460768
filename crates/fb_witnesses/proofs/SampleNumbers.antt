-- Links by their steps and by their numbers.
use Rattle.std.proofs.Common.{◌≡◌, ◌≢◌, inl, true, List, [], ◌∷◌, All, refl, arith}
use Rattle.std.proofs.lemmas.List.Elements.{All-from_recursion}
use Rattle.fb_graph.specs.Parity.{is_in}
use Rattle.fb_graph.proofs.Sets.{is_in-All}
use Rattle.fb_laws.specs.LinkNumbers.{IsCycleJoined}
use Rattle.fb_laws.specs.StepLinks.{IsStepOf, PlainStep}
use Rattle.fb_laws.proofs.StepLinks.{steps_are_link}
use Rattle.fb_witnesses.specs.MetWitnesses.{met_line}
use Rattle.fb_witnesses.specs.NumberWitnesses.{MovedWitness, RingNumbersWitness, StepsWitness, first_numbered, numbered_tree, plain_parts, second_numbered, whole_steps}
use Rattle.fb_witnesses.specs.RingWitnesses.{corners}

some_step : (s : PlainStep) (ss : List PlainStep) → (s ∷ ss) ≢ []
some_step s ss e = cc

each_step : All (IsStepOf met_line plain_parts) whole_steps
each_step =
    All-from_recursion (IsStepOf met_line plain_parts) whole_steps (
      record { within = omega arith; leads = inl (refl, refl); real = refl },
      (
        record { within = omega arith; leads = inl (refl, refl); real = refl },
        (record { within = omega arith; leads = inl (refl, refl); real = refl }, tt),
      ),
    )

pub steps_witness : StepsWitness
steps_witness = (
  some_step _ _,
  some_step _ _,
  some_step _ _,
  (refl, (refl, (refl, refl))),
  each_step,
  record { from = λ s. refl; to = λ s. refl; edge = λ s. refl },
  refl,
  steps_are_link PlainStep met_line plain_parts whole_steps (some_step _ _) (refl, (refl, (refl, refl))) each_step,
  refl,
  refl,
)

cycle_joined : IsCycleJoined (is_in corners) numbered_tree (first_numbered ∷ []) (second_numbered ∷ [])
cycle_joined = record {
  nodes =
      is_in-All (λ n. is_in corners n ≡ true) (0 ∷ 1 ∷ 2 ∷ 3 ∷ [])
      (All-from_recursion (λ n. is_in corners n ≡ true) (0 ∷ 1 ∷ 2 ∷ 3 ∷ []) (refl, (refl, (refl, (refl, tt)))));
  distinct = (refl, (refl, (refl, (refl, tt))));
  branches = refl;
}

pub moved_witness : MovedWitness
moved_witness = (
  refl,
  refl,
  refl,
  record { first = refl; second = refl; parted = λ e. omega (arith, e) },
  cycle_joined,
  refl,
  refl,
  refl,
  refl,
)

pub ring_numbers_witness : RingNumbersWitness
ring_numbers_witness = (refl, refl, refl, omega arith, refl, refl, refl)
