-- Ranges of vertices: the maximal runs of consecutive numbers in a rising list.
use Rattle.std.specs.Prelude.{ℕ, ◌+◌, ◌==◌, ◌&&◌, nat_le, nat_lt, Bool, if◌then◌else◌, List, [], ◌∷◌, fold}

-- ranges with one more vertex, which is above all before it: it goes on the last range, or begins one
abbrev pub add_vertex : List (ℕ × ℕ) → ℕ → List (ℕ × ℕ)
add_vertex [] v = (v, v + 1) ∷ []
add_vertex (last ∷ []) v = if last.1 == v then (last.0, v + 1) ∷ [] else last ∷ (v, v + 1) ∷ []
add_vertex (first ∷ next ∷ ranges) v = first ∷ add_vertex (next ∷ ranges) v

-- the maximal runs of consecutive numbers, each up to and without its end
abbrev pub runs : List ℕ → List (ℕ × ℕ)
runs vertices = fold add_vertex [] vertices

-- the range holds the number
abbrev pub is_held : ℕ → ℕ × ℕ → Bool
is_held v range = nat_le range.0 v && nat_lt v range.1
