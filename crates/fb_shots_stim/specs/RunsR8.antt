-- The format `r8` of Stim's result formats: for each shot, how many detectors didn't fire before each that did, and after
-- the last.
use Rattle.std.specs.Prelude.{ℕ, ◌+◌, ◌==◌, nat_lt, List, [], ◌∷◌, ◌++◌, if◌then◌else◌}
use Rattle.fb_shots_stim.specs.declared.answer.Kind.{Kind}
use Rattle.fb_shots_stim.specs.declared.answer.Kind.TheVariants.{ShortRecord, LongRecord}
use Rattle.fb_records.specs.Records.{Ending, at_end, still_open, refused, Records, only, with_first_shot}

-- What some bytes hold for n detectors, from a place in a record on. The detectors before the place that fired are those
-- named, and `ending` says how bytes end at a place. A byte is a number of detectors that didn't fire. After it comes one
-- that did, but after 255; after the last detector the record ends.
abbrev pub read_r8 : (n : ℕ) (ending : ℕ → Ending Kind) (place : ℕ) (named : List ℕ) → List ℕ → Records (List ℕ) Kind
read_r8 n ending place named [] = only (ending place)
read_r8 n ending place named (b ∷ bytes) =
    if nat_lt n (place + b) then only (refused LongRecord)
    else (if b == 255 then read_r8 n ending (place + b) named bytes
    else (if place + b == n then with_first_shot named (read_r8 n ending 0 [] bytes)
    else read_r8 n ending (place + b + 1) (named ++ (place + b) ∷ []) bytes))

-- An input ends well only where no record is begun.
abbrev pub end_r8 : ℕ → Ending Kind
end_r8 place = if place == 0 then at_end else refused ShortRecord

abbrev pub open_r8 : ℕ → Ending Kind
open_r8 place = still_open

-- what a whole input holds
abbrev pub records_r8 : ℕ → List ℕ → Records (List ℕ) Kind
records_r8 n bytes = read_r8 n end_r8 0 [] bytes

-- what is settled by a prefix of an input
abbrev pub prefix_r8 : ℕ → List ℕ → Records (List ℕ) Kind
prefix_r8 n bytes = read_r8 n open_r8 0 [] bytes

-- what follows the record of n detectors that some bytes end, from a place in it on
abbrev pub after_r8_from : ℕ → ℕ → List ℕ → List ℕ
after_r8_from n place [] = []
after_r8_from n place (b ∷ bytes) =
    if b == 255 then after_r8_from n (place + b) bytes
    else (if place + b == n then bytes else after_r8_from n (place + b + 1) bytes)

-- what follows the first record
abbrev pub after_r8 : ℕ → List ℕ → List ℕ
after_r8 n bytes = after_r8_from n 0 bytes
