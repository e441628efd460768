-- The lines of an input, and what an input holds whose records are lines.
use Rattle.std.specs.Prelude.{◌≡◌, ℕ, zero, suc, ◌==◌, Bool, List, [], ◌∷◌, ◌++◌, if◌then◌else◌, Err}
use Rattle.std.specs.List.{list_any, prefix_len}
use Rattle.fb_records.specs.Records.{Ending, at_end, still_open, refused, Records, Judged, go_down}

-- whether the byte is one of the bytes
abbrev pub holds : ℕ → List ℕ → Bool
holds b bytes = list_any (λ c. c == b) bytes

-- the parts, the byte being put before the first of them
abbrev pub onto_first_part : ℕ → List (List ℕ) → List (List ℕ)
onto_first_part b [] = []
onto_first_part b (part ∷ parts) = (b ∷ part) ∷ parts

-- the parts that end by the separator, without it
abbrev pub whole_parts : ℕ → List ℕ → List (List ℕ)
whole_parts separator [] = []
whole_parts separator (b ∷ bytes) =
    if b == separator then [] ∷ whole_parts separator bytes else onto_first_part b (whole_parts separator bytes)

-- what follows the last separator
abbrev pub last_part : ℕ → List ℕ → List ℕ
last_part separator [] = []
last_part separator (b ∷ bytes) = if holds separator (b ∷ bytes) then last_part separator bytes else b ∷ bytes

-- a part that counts if it isn't empty
abbrev pub if_not_empty : List ℕ → List (List ℕ)
if_not_empty [] = []
if_not_empty (b ∷ bytes) = (b ∷ bytes) ∷ []

-- without one carriage return at the end
abbrev pub without_return : List ℕ → List ℕ
without_return [] = []
without_return (b ∷ []) = if b == 13 then [] else b ∷ []
without_return (b ∷ c ∷ bytes) = b ∷ without_return (c ∷ bytes)

-- what is said of a line without the carriage return at its end
abbrev pub bare : {R : Type 0} → (List ℕ → R) → List ℕ → R
bare say line = say (without_return line)

-- the lines of a whole input, without their newlines: the last one may lack its own
abbrev pub lines_of : List ℕ → List (List ℕ)
lines_of bytes = whole_parts 10 bytes ++ if_not_empty (last_part 10 bytes)

-- what follows the first newline, or nothing if there is none
abbrev pub after_line : List ℕ → List ℕ
after_line [] = []
after_line (b ∷ bytes) = if b == 10 then bytes else after_line bytes

-- what follows the first `count` lines
abbrev pub after_lines : ℕ → List ℕ → List ℕ
after_lines zero bytes = bytes
after_lines (suc count) bytes = after_lines count (after_line bytes)

-- what follows the first line that isn't blank
abbrev pub after_first : (List ℕ → Bool) → List ℕ → List ℕ
after_first is_blank bytes = after_lines (suc (prefix_len is_blank (lines_of bytes))) bytes

-- What a whole input holds whose lines are judged by `judge`.
abbrev pub records_by_lines : {A K : Type 0} → (List ℕ → Judged A K) → List ℕ → Records A K
records_by_lines judge bytes = go_down judge (lines_of bytes) at_end

-- What is settled by a prefix of an input: its whole lines are judged by `judge`, and the line that may go on by `begun`.
abbrev pub prefix_by_lines : {A K : Type 0} → (List ℕ → Judged A K) → (List ℕ → Ending K) → List ℕ → Records A K
prefix_by_lines judge begun bytes = go_down judge (whole_parts 10 bytes) (begun (last_part 10 bytes))

-- What is refused of a line that may go on is refused of that line, however it goes on.
pub record Stays {A K : Type 0} (judge : List ℕ → Judged A K) (begun : List ℕ → Ending K) : Type 0 where
  pub nothing : begun [] ≡ still_open
  pub line : (part more : List ℕ) (kind : K) → begun part ≡ refused kind → judge (part ++ more) ≡ Err kind
  pub part : (part more : List ℕ) (kind : K) → begun part ≡ refused kind → begun (part ++ more) ≡ refused kind
