-- The growths at which edges may become tight, or minus nodes empty.
use Rattle.std.specs.Prelude.{ℕ, ◌≡◌, ◌==◌, ◌<◌, ◌&&◌, Bool, true, List, get_or, length}
use Rattle.std.specs.List.{list_any}
use Rattle.std.specs.Ordering.{nat_cmp, ordering_then}
use Rattle.std.specs.declared.cmp.Ordering.{Ordering}
use Rattle.fb_obstacles.specs.declared.queue.Due.{Due}

-- by growth, then in the order in which they came
abbrev pub due_order : Due → Due → Ordering
due_order a b =
    ordering_then (nat_cmp a.growth b.growth) (ordering_then (nat_cmp a.came b.came) (nat_cmp a.number b.number))

-- whether the number is due at this growth
abbrev pub is_due : List Due → ℕ → ℕ → Bool
is_due items growth number = list_any (λ d. (d.growth == growth) && (d.number == number)) items

abbrev pub no_due : Due
no_due = record { growth = 0; came = 0; number = 0 }

-- the due time is the first
abbrev pub IsFirst : List Due → Due → Type 0
IsFirst items first = (0 < length items) × (get_or items 0 first ≡ first)

-- all other numbers are due still
abbrev pub KeepsOthers : ℕ → List Due → List Due → Type 0
KeepsOthers number old new = (v k : ℕ) → (k ≡ number → ⊥) → is_due old v k ≡ true → is_due new v k ≡ true
