-- Tests: when two say the same, and what they count.
use Rattle.std.proofs.Common.{◌≡◌, ◌||◌, Bool, true, false, refl, sym, ◌≤◌, arith, ap, ℕ, cond, ◌+◌}
use Rattle.fb_graph.specs.Counts.{as_count}
use Rattle.fb_graph.specs.Parity.{differ}

-- where each of two tests follows from the other, they are one
pub same_bool : (a b : Bool) → (a ≡ true → b ≡ true) → (b ≡ true → a ≡ true) → a ≡ b
same_bool true b there back = sym (there refl)
same_bool false true there back = back refl
same_bool false false there back = refl

-- where the second fails
pub or_nothing : (a b : Bool) → b ≡ false → (a || b) ≡ a
or_nothing true b e = refl
or_nothing false b e = e

pub as_count-le : (b : Bool) → as_count b ≤ 1
as_count-le true = omega arith
as_count-le false = omega arith

pub as_count-mono : (a b : Bool) → (a ≡ true → b ≡ true) → as_count a ≤ as_count b
as_count-mono true b h = let e : as_count b ≡ 1 = ap as_count (h refl) in omega arith
as_count-mono false b h = omega arith

pub cond-le : (b : Bool) (n : ℕ) → cond b n 0 ≤ n
cond-le true n = omega arith
cond-le false n = omega arith

pub cond-differ : (a b : Bool) (x : ℕ) → (a ≡ true → b ≡ true → ⊥) → cond (differ a b) x 0 ≡ cond a x 0 + cond b x 0
cond-differ true true x h = absurd (h refl refl)
cond-differ true false x h = omega arith
cond-differ false true x h = omega arith
cond-differ false false x h = refl
