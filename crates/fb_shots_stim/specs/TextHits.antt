-- The format `hits` of Stim's result formats: a line for each shot, the indices of the detectors that fired with a comma
-- between each two.
use Rattle.std.specs.Prelude.{ℕ, List, [], ◌∷◌, ◌++◌, Option, Some, None, Ok, Err}
use Rattle.fb_shots_stim.specs.declared.answer.Kind.{Kind}
use Rattle.fb_shots_stim.specs.declared.answer.Kind.TheVariants.{BadToken}
use Rattle.fb_records.specs.Records.{Ending, Records, Judged}
use Rattle.fb_records.specs.Lines.{whole_parts, last_part, bare, records_by_lines, prefix_by_lines}
use Rattle.fb_shots_stim.specs.NamedDetectors.{index_of, with_detector, shot_of, ending_of}

-- the parts of a line that a comma follows
abbrev pub ended_hits : List ℕ → List (List ℕ)
ended_hits line = whole_parts 44 line

-- the parts of a whole line; an empty line has none
abbrev pub hits_of : List ℕ → List (List ℕ)
hits_of [] = []
hits_of (b ∷ line) = ended_hits (b ∷ line) ++ last_part 44 (b ∷ line) ∷ []

-- the detectors that a record names so far
abbrev pub named_of : Option (List ℕ) → List ℕ
named_of None = []
named_of (Some named) = named

-- The detectors named so far, and the index of one more.
abbrev pub with_index : ℕ → List ℕ → Option ℕ → Judged (List ℕ) Kind
with_index n named None = Err BadToken
with_index n named (Some k) = with_detector n named k

-- The record so far, and one more part of it.
abbrev pub with_hit : ℕ → Option (List ℕ) → List ℕ → Judged (List ℕ) Kind
with_hit n so_far hit = with_index n (named_of so_far) (index_of hit)

abbrev pub with_hits : ℕ → Judged (List ℕ) Kind → List (List ℕ) → Judged (List ℕ) Kind
with_hits n (Err kind) hits = Err kind
with_hits n (Ok so_far) [] = Ok so_far
with_hits n (Ok so_far) (hit ∷ hits) = with_hits n (with_hit n so_far hit) hits

-- A line of hits, without the carriage return at its end.
abbrev pub line_hits : ℕ → List ℕ → Judged (List ℕ) Kind
line_hits n line = shot_of n (with_hits n (Ok (Some [])) (hits_of line))

-- the hits of a line that may go on, each judged once it has ended
abbrev pub begun_hits : ℕ → List ℕ → Ending Kind
begun_hits n line = ending_of (with_hits n (Ok (Some [])) (ended_hits line))

-- what a whole input holds
abbrev pub records_hits : ℕ → List ℕ → Records (List ℕ) Kind
records_hits n = records_by_lines (bare (line_hits n))

-- what is settled by a prefix of an input
abbrev pub prefix_hits : ℕ → List ℕ → Records (List ℕ) Kind
prefix_hits n = prefix_by_lines (bare (line_hits n)) (bare (begun_hits n))
