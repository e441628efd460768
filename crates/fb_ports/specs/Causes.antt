-- What calls on the outside say of their faults, of the names that they ask for, and of the bytes that they move.
--
-- A port counts its faults. Its other meanings are `None` if it doesn't report them, and then a clause claims nothing of
-- them.
use Rattle.std.specs.Prelude.{◌≡◌, ℕ, ◌+◌, ◌-◌, ◌^◌, ◌<◌, ◌≤◌, min, List, [], ◌∷◌, ◌++◌, Option, None, Some, IsSome, Result, MatchResult, OnErr, ⊤, length, drop}
pub use Rattle.std.specs.List.{concat}
pub use Rattle.std.specs.Io.{ReadsAtMost, WritesAtMost}
pub use Rattle.std.specs.Io.KnownBytes.{Appends, Consumes, Keeps, IsAtEnd, ReadConsumes, WriteAppends}

-- the count of faults rose, or is at the end of its range, 2^64 - 1, where it stays
abbrev pub Rose : ℕ → ℕ → Type 0
Rose before now = min (before + 1) (2 ^ 64 - 1) ≤ now

-- a call that is Ok leaves the count of faults as it was; a call that failed raised it, and it never falls
abbrev pub HasCause : {T E : Type 0} → ℕ → ℕ → Result T E → Type 0
HasCause before now r = MatchResult r (λ _. now ≡ before) (λ _. Rose before now × (before ≤ now))

-- the count of faults rose if a fault ended the call, is as it was if none did, and never falls
abbrev pub CountsFault : Type 0 → ℕ → ℕ → Type 0
CountsFault IsFault before now = (IsFault → Rose before now) × (before ≤ now) × ((IsFault → ⊥) → now ≡ before)

-- a list that is known has gained x at its end; one that isn't stays unknown
abbrev pub GainsIfKnown : {X : Type 0} → Option (List X) → Option (List X) → X → Type 0
GainsIfKnown None new x = new ≡ None
GainsIfKnown (Some xs) new x = new ≡ Some (xs ++ x ∷ [])

-- a list that is known has fewer than n entries
abbrev pub HasRoom : {X : Type 0} → Option (List X) → ℕ → Type 0
HasRoom None n = ⊤
HasRoom (Some xs) n = length xs < n

-- a list that is known is empty
abbrev pub IsEmptyIfKnown : {X : Type 0} → Option (List X) → Type 0
IsEmptyIfKnown None = ⊤
IsEmptyIfKnown (Some xs) = xs ≡ []

-- opening a file by its name: Ok makes the named bytes those that are left, and the name is that of a file;
-- after a failure nothing is left. `named` is the bytes by name, if known
abbrev pub Opens : {T E : Type 0} → Option (List ℕ → Option (List ℕ)) → Option (List ℕ) → List ℕ → Result T E → Type 0
Opens None left name r = OnErr r (IsAtEnd left)
Opens (Some named) left name r = MatchResult r (λ _. (left ≡ named name) × IsSome (named name)) (λ _. left ≡ Some [])

-- what a failed write of `bs` in several parts has appended: a prefix of `bs`
abbrev pub AppendsPrefix : Option (List ℕ) → Option (List ℕ) → List ℕ → Type 0
AppendsPrefix old new bs = (prefix rest : List ℕ) × (bs ≡ prefix ++ rest) × Appends old new prefix

-- bytes that are known have lost at most n from their start, and nothing else
abbrev pub ConsumesAtMost : Option (List ℕ) → Option (List ℕ) → ℕ → Type 0
ConsumesAtMost None new n = ⊤
ConsumesAtMost (Some xs) None n = ⊥
ConsumesAtMost (Some xs) (Some ys) n = (length xs ≤ length ys + n) × (ys ≡ drop (length xs - length ys) xs)
