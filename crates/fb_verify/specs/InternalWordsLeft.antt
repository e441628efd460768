-- Words of a line that are left to read.
use Rattle.std.specs.Prelude.{ℕ, Bool, true, false, List, [], ◌∷◌, ◌++◌, Option, Some, None}
use Rattle.fb_verify.specs.Reports.{words_of}

-- the words of what is left of a line, if something is left
abbrev pub words_left : Option (List ℕ) → List (List ℕ)
words_left None = []
words_left (Some text) = words_of text

abbrev pub has_no_word : List (List ℕ) → Bool
has_no_word [] = true
has_no_word (w ∷ ws) = false

-- the numbers so far onto those that follow
abbrev pub onto_all : List ℕ → Option (List ℕ) → Option (List ℕ)
onto_all numbers None = None
onto_all numbers (Some more) = Some (numbers ++ more)
