-- A stream of shots, and what it gives.
use Rattle.std.specs.Prelude.{ℕ, ◌+◌, ◌-◌, nat_le, Bool, false, if◌then◌else◌, List, [], ◌++◌, length, take, Option, Some, None}
use Rattle.fb_graph.specs.Limits.{DecodingGraph}
use Rattle.fb_request.specs.declared.format.Format.{Format}
use Rattle.fb_shots.specs.declared.answer.Kind.{Kind}
use Rattle.fb_shots.specs.declared.answer.Kind.TheVariants.{InputTooLong}
use Rattle.fb_shots.specs.Shots.{Ending, at_end, still_open, refused, Shots, only, capped_shots}
use Rattle.fb_shots.specs.Formats.{records_of, prefix_of}

-- the most bytes that are taken of a file: 2^62
abbrev pub most_bytes : ℕ
most_bytes = 4611686018427387904

-- an ending, if bytes follow that aren't taken
abbrev pub cut_ending : Ending → Ending
cut_ending at_end = at_end
cut_ending still_open = refused InputTooLong
cut_ending (refused kind) = refused kind

-- what is settled by bytes that others follow, which aren't taken
abbrev pub cut_off : Shots → Shots
cut_off r = record { shots = r.shots; ending = cut_ending r.ending }

-- what bytes hold of which at most `room` are taken
abbrev pub within_room : Format → DecodingGraph → ℕ → List ℕ → Shots
within_room format g room bytes =
    if nat_le (length bytes) room then records_of format g bytes else cut_off (prefix_of format g (take room bytes))

-- what bytes hold of which at most `room` are taken and at most `limit` shots are given
abbrev pub stream_of : Format → DecodingGraph → (limit room : ℕ) → List ℕ → Shots
stream_of format g limit room bytes = capped_shots limit (within_room format g room bytes)

-- A stream: `rest` are the bytes taken that no result has used, `finished` says that the file's end was seen,
-- `untaken` is how many bytes may still be taken, `given` and `limit` count shots, and `stopped` is what it has refused.
pub record Stream : Type 0 where
  pub format : Format
  pub graph : DecodingGraph
  pub rest : List ℕ
  pub finished : Bool
  pub untaken : ℕ
  pub given : ℕ
  pub limit : ℕ
  pub stopped : Option Kind

-- a stream before the first byte
abbrev pub fresh : Format → DecodingGraph → ℕ → Stream
fresh format g limit = record {
  format = format;
  graph = g;
  rest = [];
  finished = false;
  untaken = most_bytes;
  given = 0;
  limit = limit;
  stopped = None;
}

-- nothing but the refusal, if there is one
abbrev pub or_refusal : Option Kind → Shots → Shots
or_refusal None r = r
or_refusal (Some kind) r = only (refused kind)

-- what a stream gives whose file has these bytes left
abbrev pub follows : Stream → List ℕ → Shots
follows s left =
    or_refusal s.stopped
    (if s.finished then capped_shots (s.limit - s.given) (records_of s.format s.graph s.rest)
    else stream_of s.format s.graph (s.limit - s.given) (length s.rest + s.untaken) (s.rest ++ left))
