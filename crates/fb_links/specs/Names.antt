-- Numbers that are replaced by others.
use Rattle.std.specs.Prelude.{ℕ, ◌==◌, if◌then◌else◌, List, [], ◌∷◌}

-- the number beside this one in the list; the number itself if the list does not have it
abbrev pub name_by : List (ℕ × ℕ) → ℕ → ℕ
name_by [] a = a
name_by (p ∷ ps) a = if p.0 == a then p.1 else name_by ps a
