use Rattle.std.proofs.Common.{◌≡◌, ◌&&◌, not, get_or, filter, false}
use Rattle.std.specs.List.{range_with_len}
use Rattle.fb_graph.specs.Parity.{is_in}
use Rattle.fb_gen.proofs.drawing.real_flagged.Given as goal

abbrev pub invariant-loop-v : goal.invariant-loop-v
invariant-loop-v l =
    l.found ≡ filter (λ v. not (is_in l.graph.virtuals v) && get_or l.flags v false) (range_with_len 0 l.v)
