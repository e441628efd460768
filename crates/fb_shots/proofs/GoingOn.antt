-- What is settled by a prefix stands before what all bytes hold, in each format.
use Rattle.std.proofs.Common.{length, map, ap, ◌∙◌}
use Rattle.std.proofs.lemmas.List.{map-append}
use Rattle.fb_graph.specs.Limits.{detectors_of}
use Rattle.fb_records.specs.Records.{Records, records_as}
use Rattle.fb_records.specs.Lines.{bare}
use Rattle.fb_records.proofs.RecordLemmas.{ending_judged, records_go_on, prefix_goes_on}
use Rattle.fb_shots_stim.specs.Text01.{line_01, begun_01}
use Rattle.fb_shots_stim.specs.TextDets.{line_dets, begun_dets}
use Rattle.fb_shots_stim.specs.TextHits.{line_hits, begun_hits}
use Rattle.fb_shots_stim.proofs.Lemmas01.{stays_01}
use Rattle.fb_shots_stim.proofs.LemmasB8.{goes_on_b8}
use Rattle.fb_shots_stim.proofs.LemmasDets.{stays_dets}
use Rattle.fb_shots_stim.proofs.LemmasHits.{stays_hits}
use Rattle.fb_shots_stim.proofs.FirstRuns.{goes_on_r8}
use Rattle.fb_shots_json.specs.TextJson.{line_json, begun_json}
use Rattle.fb_shots_json.proofs.TextLemmas.{stays_json}
use Rattle.fb_shots.specs.declared.answer.Kind.TheVariants as kind
use Rattle.fb_request.specs.declared.format.Format.TheVariants.{Text01, B8, Dets, Hits, R8, Json}
use Rattle.fb_shots.specs.Shots.{GoesOn}
use Rattle.fb_shots.specs.Formats.{shot_of_detectors, GoesOnAnywhere}

-- records go on in other terms as they do in their own
goes_on_as : {A B K L : Type 0} (shot_of : A → B) (say : K → L) (prefix all : Records A K) → GoesOn prefix all → GoesOn (records_as shot_of say prefix) (records_as shot_of say all)
goes_on_as shot_of say prefix all h = record {
  shots = (map shot_of h.shots.0, ap (map shot_of) h.shots.1 ∙ map-append shot_of prefix.shots h.shots.0);
  judged = λ why e. ending_judged say prefix.ending why e (λ kind is. ap (records_as shot_of say) (h.judged kind is));
}

pub goes_on_anywhere : GoesOnAnywhere
goes_on_anywhere Text01 g bytes more =
    let n = length (detectors_of g) in (
      goes_on_as (shot_of_detectors g) kind.Stim _ _ (records_go_on (bare (line_01 n)) (bare (begun_01 n)) (stays_01 n) bytes more),
      goes_on_as (shot_of_detectors g) kind.Stim _ _ (prefix_goes_on (bare (line_01 n)) (bare (begun_01 n)) (stays_01 n) bytes more),
    )
goes_on_anywhere B8 g bytes more =
    let on = goes_on_b8 (length (detectors_of g)) bytes more in (goes_on_as (shot_of_detectors g) kind.Stim _ _ on.0, goes_on_as (shot_of_detectors g) kind.Stim _ _ on.1)
goes_on_anywhere Dets g bytes more =
    let n = length (detectors_of g) in (
      goes_on_as (shot_of_detectors g) kind.Stim _ _ (records_go_on (bare (line_dets n)) (bare (begun_dets n)) (stays_dets n) bytes more),
      goes_on_as (shot_of_detectors g) kind.Stim _ _ (prefix_goes_on (bare (line_dets n)) (bare (begun_dets n)) (stays_dets n) bytes more),
    )
goes_on_anywhere Hits g bytes more =
    let n = length (detectors_of g) in (
      goes_on_as (shot_of_detectors g) kind.Stim _ _ (records_go_on (bare (line_hits n)) (bare (begun_hits n)) (stays_hits n) bytes more),
      goes_on_as (shot_of_detectors g) kind.Stim _ _ (prefix_goes_on (bare (line_hits n)) (bare (begun_hits n)) (stays_hits n) bytes more),
    )
goes_on_anywhere R8 g bytes more =
    let on = goes_on_r8 (length (detectors_of g)) bytes more in (goes_on_as (shot_of_detectors g) kind.Stim _ _ on.0, goes_on_as (shot_of_detectors g) kind.Stim _ _ on.1)
goes_on_anywhere Json g bytes more = (
  goes_on_as (λ shot. shot) kind.Json _ _ (records_go_on (line_json g) begun_json (stays_json g) bytes more),
  goes_on_as (λ shot. shot) kind.Json _ _ (prefix_goes_on (line_json g) begun_json (stays_json g) bytes more),
)
