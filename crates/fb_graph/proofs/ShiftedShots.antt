-- The shot that is solved, over the graph with a shot's weights: its defects are the shifted ones.
use Rattle.std.proofs.Common.{ℕ, ◌<◌, ◌≡◌, Bool, true, not, nat_lt, filter, All, sym, ◌∙◌}
use Rattle.std.specs.List.{range_with_len}
use Rattle.std.specs.List.Sorted.{IsStrictlyIncreasing}
use Rattle.std.proofs.lemmas.Bool.{and_from, and_parts, lt-ltb}
use Rattle.std.proofs.lemmas.List.Kept.{IsStrictlyIncreasing-filter}
use Rattle.fb_graph.specs.Parity.{is_in}
use Rattle.fb_graph.specs.Limits.{DecodingGraph, detectors_of, is_real_in}
use Rattle.fb_graph.specs.Signs.{ShotGraphIsGraph, shifted_defects}
use Rattle.fb_graph.proofs.Ranges.{filter-range_rises}
use Rattle.fb_graph.proofs.Sets.{All-from_is_in, is_in-All, is_in-filter, range_below}
use Rattle.fb_graph.proofs.ShotGraphs.{plain_is_shot, shot_graph_is}

-- the detectors' vertices are just the real ones
pub detector_is_real : (g : DecodingGraph) (v : ℕ) → is_in (detectors_of g) v ≡ true → is_real_in g v ≡ true
detector_is_real g v within =
    let parts = and_parts (is_in (range_with_len 0 g.vertices) v) (not (is_in g.virtuals v))
    (sym (is_in-filter (λ u. not (is_in g.virtuals u)) (range_with_len 0 g.vertices) v) ∙ within) in
    and_from (nat_lt v g.vertices) (not (is_in g.virtuals v))
    (lt-ltb v g.vertices (is_in-All (λ u. u < g.vertices) (range_with_len 0 g.vertices) (range_below g.vertices) v parts.0)) parts.1

-- those that pass a test are real vertices that rise
pub kept_rise : (g : DecodingGraph) (test : ℕ → Bool) → IsStrictlyIncreasing (filter test (detectors_of g))
kept_rise g test =
    IsStrictlyIncreasing-filter test (detectors_of g) (filter-range_rises (λ v. not (is_in g.virtuals v)) g.vertices)

pub kept_are_real : (g : DecodingGraph) (test : ℕ → Bool) → All (λ v. is_real_in g v ≡ true) (filter test (detectors_of g))
kept_are_real g test =
    All-from_is_in (λ v. is_real_in g v ≡ true) (filter test (detectors_of g))
    (λ v within. detector_is_real g v (and_parts (is_in (detectors_of g) v) (test v)
    (sym (is_in-filter test (detectors_of g) v) ∙ within)).0)

pub shot_graph_is_graph : ShotGraphIsGraph
shot_graph_is_graph g shot graph is = (
  shot_graph_is g shot graph is,
  plain_is_shot _ (shifted_defects g shot) (kept_rise g _) (kept_are_real g _),
)
