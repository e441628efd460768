use Rattle.std.proofs.Common.{◌≡◌, take}
use Rattle.fb_layers.specs.Runs.{runs}
use Rattle.fb_plan_out.proofs.parts.runs_of.Given as goal

abbrev pub invariant-loop-vertex : goal.invariant-loop-vertex
invariant-loop-vertex l = l.ranges.items ≡ runs (take l.vertex-index l.vertices)
