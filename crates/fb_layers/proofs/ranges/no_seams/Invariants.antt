use Rattle.std.proofs.Common.{ℕ, ◌≡◌, [], map, take, get_or}
use Rattle.fb_plan.specs.Rules.{joins_of, seams_of}
use Rattle.fb_layers.proofs.ranges.no_seams.Given as goal

abbrev pub invariant-loop-fusion : goal.invariant-loop-fusion
invariant-loop-fusion l =
    (joins_of l.joins.items ≡ map (λ f. (f.left, f.right)) (take l.fusion-index l.fusions))
    × ((k : ℕ) → get_or (seams_of l.joins.items) k [] ≡ [])
