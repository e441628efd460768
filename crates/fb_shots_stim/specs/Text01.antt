-- The format `01` of Stim's result formats: a line for each shot, a byte `0` or `1` for each detector.
use Rattle.std.specs.Prelude.{ℕ, ◌==◌, nat_lt, Bool, ◌||◌, List, length, take, if◌then◌else◌, Some, Ok, Err}
use Rattle.std.specs.List.{list_all}
use Rattle.fb_shots_stim.specs.declared.answer.Kind.{Kind}
use Rattle.fb_shots_stim.specs.declared.answer.Kind.TheVariants.{BadByte, ShortRecord, LongRecord}
use Rattle.fb_records.specs.Records.{Ending, still_open, refused, Records, Judged}
use Rattle.fb_records.specs.Lines.{bare, records_by_lines, prefix_by_lines}
use Rattle.fb_shots_stim.specs.Shots.{places_from}

-- the byte `0` or `1`
abbrev pub is_bit : ℕ → Bool
is_bit b = b == 48 || b == 49

abbrev pub is_one : ℕ → Bool
is_one b = b == 49

-- A line of n detectors, without the carriage return at its end. Its bytes are judged in order, and its end after them.
abbrev pub line_01 : ℕ → List ℕ → Judged (List ℕ) Kind
line_01 n line =
    if list_all is_bit (take n line)
    then (if nat_lt n (length line) then Err LongRecord else (if nat_lt (length line) n then Err ShortRecord else Ok (Some (places_from is_one 0 line))))
    else Err BadByte

-- the bytes of a line that may go on
abbrev pub begun_01 : ℕ → List ℕ → Ending Kind
begun_01 n line =
    if list_all is_bit (take n line)
    then (if nat_lt n (length line) then refused LongRecord else still_open)
    else refused BadByte

-- what a whole input holds
abbrev pub records_01 : ℕ → List ℕ → Records (List ℕ) Kind
records_01 n = records_by_lines (bare (line_01 n))

-- what is settled by a prefix of an input
abbrev pub prefix_01 : ℕ → List ℕ → Records (List ℕ) Kind
prefix_01 n = prefix_by_lines (bare (line_01 n)) (bare (begun_01 n))
