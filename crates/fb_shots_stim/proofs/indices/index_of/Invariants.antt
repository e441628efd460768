use Rattle.std.proofs.Common.{◌≡◌, ◌≤◌, min, drop}
use Rattle.std.specs.Prelude.{option_map}
use Rattle.fb_shots_stim.specs.NamedDetectors.{number_from, index_of}
use Rattle.fb_shots_stim.proofs.indices.index_of.Given as goal

abbrev pub invariant-loop-c : goal.invariant-loop-c
invariant-loop-c l = (l.index ≤ l.limit)
    × (option_map (λ k. min k l.limit) (number_from l.index (drop l.c-index l.digits)) ≡ option_map (λ k. min k l.limit) (index_of l.digits))
