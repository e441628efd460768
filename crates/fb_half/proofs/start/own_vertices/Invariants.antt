use Rattle.std.proofs.Common.{◌≡◌, take}
use Rattle.std.specs.List.{filter}
use Rattle.fb_plan.specs.Scopes.{scope_problem}
use Rattle.fb_half.proofs.start.own_vertices.Given as goal

abbrev pub invariant-loop-v : goal.invariant-loop-v
invariant-loop-v l =
    l.own ≡ filter (scope_problem l.scope).is_real (take l.v-index l.reached)
