use Rattle.std.proofs.Common.{ℕ, ◌<◌, length, set, get_or, ap, ◌∙◌, arith}
use Rattle.std.proofs.lemmas.Grind.{common_steps, elements}
use Rattle.std.proofs.lemmas.List.Edits.{map_over_more}
use Rattle.std.proofs.lemmas.List.{get_or_default}
use Rattle.fb_shots.proofs.mapping.put_vertices.Goals as goal
use Rattle.fb_graph.specs.Limits.{detectors_of}

pub loop-detector-preserved : goal.loop-detector-preserved
loop-detector-preserved c =
    let vertex : ℕ → ℕ = λ k. get_or (detectors_of c.args.graph.now) k 0 in
    let now = c.loop-detector.detectors in
    let i = c.loop-detector.detector-index in
    let within : i < length now = omega (arith, c.loop-detector.auto.detectors) in
    ap (λ (v : ℕ). set now i v) c.detector_vertex.ensures
    ∙ map_over_more vertex c.args.detectors.now now i (get_or now i 0) (omega (arith, c.loop-detector.auto.detectors)) c.loop-detector.invariant
    (get_or_default now i 0 (get_or now i 0) within)

pub detector_vertex-requires : goal.detector_vertex-requires
detector_vertex-requires c = grind (arith, elements)

pub returns : goal.returns
returns c = grind (arith, common_steps)
