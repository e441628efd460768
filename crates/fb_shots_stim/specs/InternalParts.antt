-- Formats whose records are lines of parts, and how far a reader of one has come in the bytes.
use Rattle.std.specs.Prelude.{◌≡◌, ℕ, ◌<◌, ◌≤◌, nat_eq, ◌==◌, ◌||◌, Bool, true, false, List, [], ◌∷◌, length, take, if◌then◌else◌, slice_index_or, Option, Some, None, Ok, Err, All}
use Rattle.std.specs.List.{list_any, sum_by}
use Rattle.fb_shots_stim.specs.declared.answer.Kind.{Kind}
use Rattle.fb_records.specs.Records.{Ending, Records, Judged}
use Rattle.fb_records.specs.Lines.{holds, whole_parts, last_part, if_not_empty, bare, after_first, records_by_lines, prefix_by_lines}
use Rattle.fb_records.specs.Steps.{part_of, Skips}
use Rattle.fb_shots_stim.specs.declared.parts.Place.{Place}
use Rattle.fb_shots_stim.specs.NamedDetectors.{shot_of, ending_of}
use Rattle.fb_shots_stim.specs.TextDets.{with_words}
use Rattle.fb_shots_stim.specs.TextHits.{with_hit}

-- ---- lines of parts

-- What a format says of the parts of a line: the byte that ends a part, what the record so far is with a part that this
-- byte ends, and what the line is with its last part. A record so far is nothing, or the detectors that it names.
pub record PartRules : Type 0 where
  pub separator : ℕ
  pub with_part : ℕ → Option (List ℕ) → List ℕ → Judged (List ℕ) Kind
  pub with_last : ℕ → Option (List ℕ) → List ℕ → Judged (List ℕ) Kind

abbrev pub with_parts : PartRules → ℕ → Judged (List ℕ) Kind → List (List ℕ) → Judged (List ℕ) Kind
with_parts rules n (Err kind) parts = Err kind
with_parts rules n (Ok so_far) [] = Ok so_far
with_parts rules n (Ok so_far) (part ∷ parts) = with_parts rules n (rules.with_part n so_far part) parts

-- what a line is whose parts before the last come to this
abbrev pub with_last_part : PartRules → ℕ → Judged (List ℕ) Kind → List ℕ → Judged (List ℕ) Kind
with_last_part rules n (Err kind) part = Err kind
with_last_part rules n (Ok so_far) part = rules.with_last n so_far part

-- the parts of a line that have ended
abbrev pub ended_parts : PartRules → ℕ → List ℕ → Judged (List ℕ) Kind
ended_parts rules n line = with_parts rules n (Ok None) (whole_parts rules.separator line)

abbrev pub line_by_parts : PartRules → ℕ → List ℕ → Judged (List ℕ) Kind
line_by_parts rules n line = with_last_part rules n (ended_parts rules n line) (last_part rules.separator line)

abbrev pub begun_by_parts : PartRules → ℕ → List ℕ → Ending Kind
begun_by_parts rules n line = ending_of (ended_parts rules n line)

abbrev pub records_by_parts : PartRules → ℕ → List ℕ → Records (List ℕ) Kind
records_by_parts rules n = records_by_lines (bare (line_by_parts rules n))

abbrev pub prefix_by_parts : PartRules → ℕ → List ℕ → Records (List ℕ) Kind
prefix_by_parts rules n = prefix_by_lines (bare (line_by_parts rules n)) (bare (begun_by_parts rules n))

abbrev pub is_skipped : Judged (List ℕ) Kind → Bool
is_skipped (Ok None) = true
is_skipped (Ok (Some shot)) = false
is_skipped (Err kind) = false

-- what follows the first line that isn't skipped
abbrev pub after_by_parts : PartRules → ℕ → List ℕ → List ℕ
after_by_parts rules n = after_first (bare (λ line. is_skipped (line_by_parts rules n line)))

-- ---- the formats

-- In `dets` a part is a word, or empty, which counts for nothing.
abbrev pub dets_rules : PartRules
dets_rules = record {
  separator = 32;
  with_part = λ n so_far part. with_words n (Ok so_far) (if_not_empty part);
  with_last = λ n so_far part. shot_of n (with_words n (Ok so_far) (if_not_empty part));
}

-- Nothing in a line before its last part is an empty line, if that is empty too.
abbrev pub with_last_hit : ℕ → Option (List ℕ) → List ℕ → Judged (List ℕ) Kind
with_last_hit n None [] = shot_of n (Ok (Some []))
with_last_hit n None (b ∷ part) = shot_of n (with_hit n None (b ∷ part))
with_last_hit n (Some named) part = shot_of n (with_hit n (Some named) part)

abbrev pub hits_rules : PartRules
hits_rules = record { separator = 44; with_part = with_hit; with_last = with_last_hit }

-- ---- what a reader keeps

-- a record so far: nothing, or the detectors that it names
pub record RecordSoFar : Type 0 where
  pub detectors : ℕ
  pub named : Option (List ℕ)

-- how often a list has a number
abbrev pub times : ℕ → List ℕ → ℕ
times k xs = sum_by (λ x. if nat_eq k x then 1 else 0) xs

-- The marks are set of the detectors below n that are named. There are none before the first is named.
pub record IsMarked (n : ℕ) (marks : List Bool) (named : List ℕ) : Type 0 where
  pub size : 0 < length named → length marks ≡ n
  pub marked : (k : ℕ) → k < length marks → slice_index_or marks k false ≡ list_any (nat_eq k) named
  pub once : (k : ℕ) → times k named ≤ 1
  pub below : All (λ k. k < n) named

-- a byte that ends a part
abbrev pub is_part_end : ℕ → ℕ → Bool
is_part_end separator b = b == separator || b == 10

-- Lines that are skipped came, then parts of one line that have ended and made so_far, and then a prefix of a part. The
-- separator ends no line, and is no carriage return.
pub record IsAt (rules : PartRules) (n : ℕ) (skipped line part : List ℕ) (so_far : Option (List ℕ)) : Type 0 where
  pub in_lines : rules.separator == 10 ≡ false
  pub no_return : rules.separator == 13 ≡ false
  pub skips : Skips (records_by_parts rules n) (prefix_by_parts rules n) (after_by_parts rules n) skipped
  pub one_line : holds 10 line ≡ false
  pub ended : last_part rules.separator line ≡ []
  pub read : ended_parts rules n line ≡ Ok so_far
  pub in_line : holds 10 part ≡ false
  pub in_part : holds rules.separator part ≡ false

-- how far a reader has come in the bytes: the starts of the line and of the part, and how much of the part it has seen
pub record IsPlace (rules : PartRules) (now : RecordSoFar) (bytes : List ℕ) (line part seen : ℕ) : Type 0 where
  pub line_first : line ≤ part
  pub part_next : part ≤ seen
  pub within : seen ≤ length bytes
  pub parts : IsAt rules now.detectors (take line bytes) (part_of bytes line part) (part_of bytes part seen) now.named

abbrev pub start_place : Place
start_place = record { line = 0; part = 0; seen = 0 }

abbrev pub IsAtPlace : PartRules → RecordSoFar → List ℕ → Place → Type 0
IsAtPlace rules now bytes place = IsPlace rules now bytes place.line place.part place.seen
