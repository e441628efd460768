-- Why a search ends: parts that are counted, read one after another, of which each step lowers one and raises none
-- before it.
use Rattle.std.specs.Prelude.{ℕ, ◌≡◌, ◌+◌, ◌*◌, ◌≤◌, ◌<◌, ◌⊎◌, Bool, true, false, List, [], ◌∷◌, length, All, count_by}
use Rattle.fb_graph.specs.Parity.{is_in}

-- the bound to the power of the list's length
abbrev pub scale_of : ℕ → List ℕ → ℕ
scale_of bound [] = 1
scale_of bound (x ∷ xs) = bound * scale_of bound xs

-- the parts as digits to the base of the bound, the first one highest
abbrev pub rank_of : ℕ → List ℕ → ℕ
rank_of bound [] = 0
rank_of bound (x ∷ xs) = x * scale_of bound xs + rank_of bound xs

-- some part is less, and none before it is more
abbrev pub IsLower : List ℕ → List ℕ → Type 0
IsLower [] ys = ⊥
IsLower (x ∷ xs) [] = ⊥
IsLower (x ∷ xs) (y ∷ ys) = (x < y) ⊎ ((x ≤ y) × IsLower xs ys)

-- As long as the parts stay below a bound, one number falls with them, which a loop can use as its measure.
abbrev pub RankFalls : Type 0
RankFalls = (bound : ℕ) (parts before : List ℕ) → length parts ≡ length before → All (λ x. x < bound) parts
    → IsLower parts before → rank_of bound parts < rank_of bound before

-- Fewer pass a test that is narrower, if one of the list no longer passes: so fewer defects are outside the tree's plus
-- nodes once a further node is plus.
abbrev pub CountFalls : Type 0
CountFalls = (test before : ℕ → Bool) (xs : List ℕ) (x : ℕ) → ((y : ℕ) → test y ≡ true → before y ≡ true)
    → is_in xs x ≡ true → test x ≡ false → before x ≡ true → count_by test xs < count_by before xs
