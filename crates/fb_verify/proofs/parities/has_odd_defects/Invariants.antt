use Rattle.std.proofs.Common.{◌≡◌, drop}
use Rattle.fb_graph.specs.Parity.{differ, is_in, is_odd_count}
use Rattle.fb_graph.specs.Signs.{shifted_defects}
use Rattle.fb_verify.proofs.parities.has_odd_defects.Given as goal

abbrev pub invariant-loop-vertex : goal.invariant-loop-vertex
invariant-loop-vertex l =
    is_odd_count (is_in (shifted_defects l.graph l.shot)) l.vertices
    ≡ differ l.odd (is_odd_count (is_in (shifted_defects l.graph l.shot)) (drop l.vertex-index l.vertices))
