use Rattle.std.proofs.Common.{sym, subst}
use Rattle.fb_graph.specs.Limits.{IsShot}
use Rattle.fb_crew.proofs.sorting.sort_out.Goals as goal

pub first_odd-vertex-requires : goal.first_odd-vertex-requires
first_odd-vertex-requires c =
    let is = subst (λ parts. IsShot parts.0.now c.index-shots-place.result) (sym c.loop-place.invariant.1)
    (subst (IsShot c.args.parts.now.0.now) (sym c.index-shots-place.is) (c.requires.shots c.loop-place.place _ c.loop-place-test.true)) in
    record { rising = is.rising; real = is.real }
