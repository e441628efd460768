-- Shots by the detectors that their texts name: indices, and what a record so far comes to.
use Rattle.std.specs.Prelude.{ℕ, ◌+◌, ◌*◌, ◌-◌, nat_eq, nat_lt, nat_le, Bool, ◌&&◌, List, [], ◌∷◌, ◌++◌, filter, if◌then◌else◌, Option, Some, None, Ok, Err}
use Rattle.std.specs.List.{list_any, range_with_len}
use Rattle.fb_shots_stim.specs.declared.answer.Kind.{Kind}
use Rattle.fb_shots_stim.specs.declared.answer.Kind.TheVariants.{IndexOutOfRange, RepeatedIndex}
use Rattle.fb_records.specs.Records.{Ending, still_open, refused, Judged}

-- ---- indices

abbrev pub is_digit : ℕ → Bool
is_digit c = nat_le 48 c && nat_le c 57

-- the number that digits write, however many, behind those that write this one
abbrev pub number_from : ℕ → List ℕ → Option ℕ
number_from value [] = Some value
number_from value (c ∷ digits) = if is_digit c then number_from (value * 10 + (c - 48)) digits else None

-- one digit or more
abbrev pub index_of : List ℕ → Option ℕ
index_of [] = None
index_of (c ∷ digits) = number_from 0 (c ∷ digits)

-- ---- a record

-- The detectors named so far, and one more.
abbrev pub with_detector : ℕ → List ℕ → ℕ → Judged (List ℕ) Kind
with_detector n named k =
    if nat_lt k n then (if list_any (nat_eq k) named then Err RepeatedIndex else Ok (Some (named ++ k ∷ [])))
    else Err IndexOutOfRange

-- the detectors that are named, rising
abbrev pub rising : ℕ → List ℕ → List ℕ
rising n named = filter (λ k. list_any (nat_eq k) named) (range_with_len 0 n)

-- what a line is whose parts come to this: the shot of the detectors named, or nothing, or refused
abbrev pub shot_of : ℕ → Judged (List ℕ) Kind → Judged (List ℕ) Kind
shot_of n (Ok None) = Ok None
shot_of n (Ok (Some named)) = Ok (Some (rising n named))
shot_of n (Err kind) = Err kind

-- how an input ends in a line whose parts so far come to this
abbrev pub ending_of : Judged (List ℕ) Kind → Ending Kind
ending_of (Ok so_far) = still_open
ending_of (Err kind) = refused kind
