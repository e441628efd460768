-- What bytes hold in each format, as shots of a graph's vertices.
use Rattle.std.specs.Prelude.{ℕ, List, ◌++◌, length, map, slice_index}
use Rattle.fb_graph.specs.Limits.{DecodingGraph, ShotValue, detectors_of, plain_shot}
use Rattle.fb_records.specs.Records.{Records, records_as}
use Rattle.fb_shots_stim.specs.declared.answer.Kind.{Kind as StimKind}
use Rattle.fb_shots_stim.specs.Text01.{records_01, prefix_01}
use Rattle.fb_shots_stim.specs.BlocksB8.{records_b8, prefix_b8}
use Rattle.fb_shots_stim.specs.TextDets.{records_dets, prefix_dets}
use Rattle.fb_shots_stim.specs.TextHits.{records_hits, prefix_hits}
use Rattle.fb_shots_stim.specs.RunsR8.{records_r8, prefix_r8}
use Rattle.fb_shots_json.specs.declared.answer.Kind.{Kind as JsonKind}
use Rattle.fb_shots_json.specs.TextJson.{records_json, prefix_json}
use Rattle.fb_request.specs.declared.format.Format.{Format}
use Rattle.fb_request.specs.declared.format.Format.TheVariants.{Text01, B8, Dets, Hits, R8, Json}
use Rattle.fb_shots.specs.declared.answer.Kind.TheVariants as kind
use Rattle.fb_shots.specs.Shots.{Shots, GoesOn}

-- the vertices of detectors: detector k is the k-th real vertex in rising order
abbrev pub vertices_of : DecodingGraph → List ℕ → List ℕ
vertices_of g detectors = map (λ k. slice_index (detectors_of g) k) detectors

-- the shot of detectors
abbrev pub shot_of_detectors : DecodingGraph → List ℕ → ShotValue
shot_of_detectors g detectors = plain_shot (vertices_of g detectors)

-- records of detectors, as shots
abbrev pub of_stim : DecodingGraph → Records (List ℕ) StimKind → Shots
of_stim g = records_as (shot_of_detectors g) kind.Stim

-- records of JSON lines, whose shots are those of the graph's vertices already
abbrev pub of_json : Records ShotValue JsonKind → Shots
of_json = records_as (λ shot. shot) kind.Json

-- what a whole input holds
abbrev pub records_of : Format → DecodingGraph → List ℕ → Shots
records_of Text01 g bytes = of_stim g (records_01 (length (detectors_of g)) bytes)
records_of B8 g bytes = of_stim g (records_b8 (length (detectors_of g)) bytes)
records_of Dets g bytes = of_stim g (records_dets (length (detectors_of g)) bytes)
records_of Hits g bytes = of_stim g (records_hits (length (detectors_of g)) bytes)
records_of R8 g bytes = of_stim g (records_r8 (length (detectors_of g)) bytes)
records_of Json g bytes = of_json (records_json g bytes)

-- what is settled by a prefix of an input
abbrev pub prefix_of : Format → DecodingGraph → List ℕ → Shots
prefix_of Text01 g bytes = of_stim g (prefix_01 (length (detectors_of g)) bytes)
prefix_of B8 g bytes = of_stim g (prefix_b8 (length (detectors_of g)) bytes)
prefix_of Dets g bytes = of_stim g (prefix_dets (length (detectors_of g)) bytes)
prefix_of Hits g bytes = of_stim g (prefix_hits (length (detectors_of g)) bytes)
prefix_of R8 g bytes = of_stim g (prefix_r8 (length (detectors_of g)) bytes)
prefix_of Json g bytes = of_json (prefix_json g bytes)

-- Some bytes may be cut in two anywhere: what the first part settles comes first in all that they hold.
abbrev pub GoesOnAnywhere : Type 0
GoesOnAnywhere =
    (format : Format) (g : DecodingGraph) (bytes more : List ℕ)
    → GoesOn (prefix_of format g bytes) (records_of format g (bytes ++ more))
    × GoesOn (prefix_of format g bytes) (prefix_of format g (bytes ++ more))
