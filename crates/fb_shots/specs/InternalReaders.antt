-- The readers of the formats, seen alike.
use Rattle.std.specs.Prelude.{◌≡◌, ℕ, Bool, List, length}
use Rattle.fb_graph.specs.Limits.{DecodingGraph, detectors_of}
use Rattle.fb_request.specs.declared.format.Format.{Format}
use Rattle.fb_request.specs.declared.format.Format.TheVariants as format
use Rattle.fb_shots.specs.declared.reader.FormatReader.{FormatReader}
use Rattle.fb_shots.specs.declared.reader.FormatReader.TheVariants.{Text01, B8, Dets, Hits, R8, Json}
use Rattle.fb_shots.specs.InternalSources.{Source}

abbrev pub format_of : FormatReader → Format
format_of (Text01 r) = format.Text01
format_of (B8 r) = format.B8
format_of (Dets r) = format.Dets
format_of (Hits r) = format.Hits
format_of (R8 r) = format.R8
format_of (Json r) = format.Json

abbrev pub rest_of : FormatReader → List ℕ
rest_of (Text01 r) = r.rest
rest_of (B8 r) = r.rest
rest_of (Dets r) = r.rest
rest_of (Hits r) = r.rest
rest_of (R8 r) = r.rest
rest_of (Json r) = r.rest

abbrev pub finished_of : FormatReader → Bool
finished_of (Text01 r) = r.finished
finished_of (B8 r) = r.finished
finished_of (Dets r) = r.finished
finished_of (Hits r) = r.finished
finished_of (R8 r) = r.finished
finished_of (Json r) = r.finished

abbrev pub source_of : DecodingGraph → FormatReader → Source
source_of g r = record { format = format_of r; graph = g; rest = rest_of r; finished = finished_of r }

-- a reader of shots of this graph
abbrev pub IsReaderOf : DecodingGraph → FormatReader → Type 0
IsReaderOf g (Text01 r) = r.subject ≡ length (detectors_of g)
IsReaderOf g (B8 r) = r.subject ≡ length (detectors_of g)
IsReaderOf g (Dets r) = r.subject ≡ length (detectors_of g)
IsReaderOf g (Hits r) = r.subject ≡ length (detectors_of g)
IsReaderOf g (R8 r) = r.subject ≡ length (detectors_of g)
IsReaderOf g (Json r) = r.subject ≡ g
