-- How far a reader of JSON lines has come in the bytes.
use Rattle.std.specs.Prelude.{◌≡◌, ℕ, ◌≤◌, Bool, false, List, length, take}
use Rattle.fb_graph.specs.Limits.{DecodingGraph}
use Rattle.fb_records.specs.Lines.{holds}
use Rattle.fb_records.specs.Steps.{part_of, Skips}
use Rattle.fb_shots_json.specs.TextJson.{is_blank, records_json, prefix_json, after_record}

-- Lines that are skipped came, and then a prefix of one line.
pub record IsAt (g : DecodingGraph) (skipped line : List ℕ) : Type 0 where
  pub skips : Skips (records_json g) (prefix_json g) after_record skipped
  pub one_line : holds 10 line ≡ false

-- how far a reader has come in the bytes: the start of the line, how much of it it has seen, and whether that is blank
pub record IsPlace (g : DecodingGraph) (bytes : List ℕ) (line seen : ℕ) (blank : Bool) : Type 0 where
  pub order : line ≤ seen
  pub within : seen ≤ length bytes
  pub parts : IsAt g (take line bytes) (part_of bytes line seen)
  pub blank_so_far : blank ≡ is_blank (part_of bytes line seen)
