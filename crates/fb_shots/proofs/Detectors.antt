-- The vertices of rising detectors are a shot.
use Rattle.std.proofs.Common.{◌≡◌, ℕ, ◌+◌, ◌<◌, true, not, nat_lt, List, length, map, get_or, All, subst, arith}
use Rattle.std.specs.List.{range_with_len}
use Rattle.std.specs.List.Sorted.{IsStrictlyIncreasing}
use Rattle.std.proofs.lemmas.Bool.{lt-ltb, and_from}
use Rattle.std.proofs.lemmas.List.{get_or-map, length-map}
use Rattle.std.proofs.lemmas.List.Elements.{All-map, filter_passes}
use Rattle.std.proofs.lemmas.List.Kept.{AllPairs-from_increasing}
use Rattle.fb_graph.specs.Limits.{DecodingGraph, IsShot, is_real_in, detectors_of}
use Rattle.fb_graph.specs.Parity.{is_in}
use Rattle.fb_graph.proofs.Ranges.{filter-range_below, filter-range_rises}
use Rattle.fb_graph.proofs.ShotGraphs.{plain_is_shot}
use Rattle.fb_shots.specs.Formats.{vertices_of, shot_of_detectors}

detectors_real : (g : DecodingGraph) → All (λ v. is_real_in g v ≡ true) (detectors_of g)
detectors_real g k d less =
    let v = get_or (detectors_of g) k d in
    and_from (nat_lt v g.vertices) (not (is_in g.virtuals v))
    (lt-ltb v g.vertices (filter-range_below (λ u. not (is_in g.virtuals u)) g.vertices k d less))
    (filter_passes (λ u. not (is_in g.virtuals u)) (range_with_len 0 g.vertices) k d less)

vertices_rise : (g : DecodingGraph) (detectors : List ℕ) → IsStrictlyIncreasing detectors
    → All (λ k. k < length (detectors_of g)) detectors → IsStrictlyIncreasing (vertices_of g detectors)
vertices_rise g detectors rising below k less =
    let vertex : ℕ → ℕ = λ i. get_or (detectors_of g) i 0 in
    let size : k + 1 < length detectors = subst (λ n. k + 1 < n) (length-map detectors vertex) less in
    let here : get_or (map vertex detectors) k 0 ≡ vertex (get_or detectors k 0) = get_or-map vertex detectors k 0 0 (omega arith) in
    let next : get_or (map vertex detectors) (k + 1) 0 ≡ vertex (get_or detectors (k + 1) 0) = get_or-map vertex detectors (k + 1) 0 0 size in
    let above : vertex (get_or detectors k 0) < vertex (get_or detectors (k + 1) 0) =
    AllPairs-from_increasing (detectors_of g) (filter-range_rises (λ u. not (is_in g.virtuals u)) g.vertices)
    (get_or detectors k 0) (get_or detectors (k + 1) 0) 0 (rising k size) (below (k + 1) 0 size) in
    omega arith

vertices_real : (g : DecodingGraph) (detectors : List ℕ) → All (λ k. k < length (detectors_of g)) detectors
    → All (λ v. is_real_in g v ≡ true) (vertices_of g detectors)
vertices_real g detectors below =
    All-map (λ v. is_real_in g v ≡ true) (λ i. get_or (detectors_of g) i 0) detectors
    (λ k d less. detectors_real g (get_or detectors k d) 0 (below k d less))

pub vertices_are_shot : (g : DecodingGraph) (detectors : List ℕ) → IsStrictlyIncreasing detectors
    → All (λ k. k < length (detectors_of g)) detectors → IsShot g (shot_of_detectors g detectors)
vertices_are_shot g detectors rising below =
    plain_is_shot g (vertices_of g detectors) (vertices_rise g detectors rising below) (vertices_real g detectors below)
