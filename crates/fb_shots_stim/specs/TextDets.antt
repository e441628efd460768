-- The format `dets` of Stim's result formats: a line for each shot, the word `shot` and a word for each detector that fired.
use Rattle.std.specs.Prelude.{ℕ, ◌==◌, Bool, true, false, List, [], ◌∷◌, ◌++◌, codes, if◌then◌else◌, Option, Some, None, Ok, Err}
use Rattle.std.specs.List.{flat_map}
use Rattle.std.specs.Str.{bytes_eq}
use Rattle.fb_shots_stim.specs.declared.answer.Kind.{Kind}
use Rattle.fb_shots_stim.specs.declared.answer.Kind.TheVariants.{BadToken, MeasurementToken}
use Rattle.fb_records.specs.Records.{Ending, Records, Judged}
use Rattle.fb_records.specs.Lines.{whole_parts, last_part, if_not_empty, bare, after_first, records_by_lines, prefix_by_lines}
use Rattle.fb_shots_stim.specs.NamedDetectors.{index_of, with_detector, shot_of, ending_of}

-- ---- words

-- the words that a space follows
abbrev pub ended_words : List ℕ → List (List ℕ)
ended_words line = flat_map if_not_empty (whole_parts 32 line)

-- the words of a whole line
abbrev pub words_of : List ℕ → List (List ℕ)
words_of line = flat_map if_not_empty (whole_parts 32 line ++ last_part 32 line ∷ [])

-- ---- a record, word by word

-- A letter with an index: a detector, an observable, which is ignored, or a measurement.
abbrev pub with_letter : ℕ → List ℕ → ℕ → Option ℕ → Judged (List ℕ) Kind
with_letter n named letter None = Err BadToken
with_letter n named letter (Some k) =
    if letter == 68 then with_detector n named k
    else (if letter == 76 then Ok (Some named)
    else (if letter == 77 then Err MeasurementToken else Err BadToken))

-- What a record is so far is nothing, or `shot` and the detectors that it names. This is a word of it.
abbrev pub with_word : ℕ → Option (List ℕ) → List ℕ → Judged (List ℕ) Kind
with_word n None word = if bytes_eq word (codes "shot") then Ok (Some []) else Err BadToken
with_word n (Some named) [] = Err BadToken
with_word n (Some named) (letter ∷ digits) = with_letter n named letter (index_of digits)

abbrev pub with_words : ℕ → Judged (List ℕ) Kind → List (List ℕ) → Judged (List ℕ) Kind
with_words n (Err kind) words = Err kind
with_words n (Ok so_far) [] = Ok so_far
with_words n (Ok so_far) (word ∷ words) = with_words n (with_word n so_far word) words

-- ---- a line

-- A line of words, without the carriage return at its end. One without a word is skipped.
abbrev pub line_dets : ℕ → List ℕ → Judged (List ℕ) Kind
line_dets n line = shot_of n (with_words n (Ok None) (words_of line))

-- the words of a line that may go on, each judged once it has ended
abbrev pub begun_dets : ℕ → List ℕ → Ending Kind
begun_dets n line = ending_of (with_words n (Ok None) (ended_words line))

-- what a whole input holds
abbrev pub records_dets : ℕ → List ℕ → Records (List ℕ) Kind
records_dets n = records_by_lines (bare (line_dets n))

-- what is settled by a prefix of an input
abbrev pub prefix_dets : ℕ → List ℕ → Records (List ℕ) Kind
prefix_dets n = prefix_by_lines (bare (line_dets n)) (bare (begun_dets n))

-- ---- what a result uses

abbrev pub is_nothing : List (List ℕ) → Bool
is_nothing [] = true
is_nothing (word ∷ words) = false

-- a line without a word
abbrev pub is_blank : List ℕ → Bool
is_blank line = is_nothing (words_of line)

-- what follows the first line that has a word
abbrev pub after_record : List ℕ → List ℕ
after_record = after_first (bare is_blank)
