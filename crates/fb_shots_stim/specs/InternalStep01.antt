-- What a reader of `01` does where a line's leading bits end.
use Rattle.std.specs.Prelude.{ℕ, ◌+◌, ◌==◌, Bool, ◌&&◌, List, [], ◌∷◌, if◌then◌else◌}
use Rattle.fb_shots_stim.specs.declared.answer.Kind.TheVariants.{BadByte, ShortRecord, LongRecord}
use Rattle.fb_shots_stim.specs.declared.dense.Step.{Step}
use Rattle.fb_shots_stim.specs.declared.dense.Step.TheVariants.{Line, NotYet, End, Refused}

-- at the end of a line that has `good` bits before `ending` bytes
abbrev pub line_end_01 : ℕ → ℕ → ℕ → Step
line_end_01 n good ending = if good == n then Line (good + ending) else Refused ShortRecord

-- at any other byte
abbrev pub bad_01 : ℕ → ℕ → Step
bad_01 n good = if good == n then Refused LongRecord else Refused BadByte

abbrev pub step_01 : ℕ → Bool → ℕ → List ℕ → Step
step_01 n finished good [] = if finished then (if good == 0 then End else line_end_01 n good 0) else NotYet
step_01 n finished good (b ∷ []) =
    if b == 10 then line_end_01 n good 1
    else (if b == 13 then (if finished then line_end_01 n good 1 else NotYet) else bad_01 n good)
step_01 n finished good (b ∷ c ∷ bytes) =
    if b == 10 then line_end_01 n good 1
    else (if b == 13 && c == 10 then line_end_01 n good 2 else bad_01 n good)
