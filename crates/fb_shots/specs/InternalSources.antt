-- A reader of any format, and a stream by its reader.
use Rattle.std.specs.Prelude.{ℕ, Bool, List, ◌++◌, Option}
use Rattle.fb_graph.specs.Limits.{DecodingGraph}
use Rattle.fb_request.specs.declared.format.Format.{Format}
use Rattle.fb_shots.specs.declared.answer.Kind.{Kind}
use Rattle.fb_shots.specs.Streams.{Stream}

-- a reader: its format and its graph, the bytes fed that no result has used, and whether they are all
pub record Source : Type 0 where
  pub format : Format
  pub graph : DecodingGraph
  pub rest : List ℕ
  pub finished : Bool

-- a reader once this piece is fed
abbrev pub with_piece : Source → List ℕ → Source
with_piece source piece = record source { rest = source.rest ++ piece }

-- a stream by its reader and the bytes that were read and not fed yet
abbrev pub stream_by : Source → (unfed : List ℕ) → (untaken given limit : ℕ) → Option Kind → Stream
stream_by source unfed untaken given limit stopped = record {
  format = source.format;
  graph = source.graph;
  rest = source.rest ++ unfed;
  finished = source.finished;
  untaken = untaken;
  given = given;
  limit = limit;
  stopped = stopped;
}
