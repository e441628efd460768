-- What the readers of formats say of their steps: how far they have come in the bytes, and why a step is refused.
use Rattle.std.specs.Prelude.{◌≡◌, ℕ, ◌-◌, Bool, List, ◌++◌, take, drop}
use Rattle.fb_records.specs.declared.answer.Next.{Next}
use Rattle.fb_records.specs.declared.answer.Next.TheVariants as next
use Rattle.fb_records.specs.declared.answer.Stop.{Stop}
use Rattle.fb_records.specs.declared.answer.Stop.TheVariants as stop
use Rattle.fb_records.specs.declared.answer.Found.{Found}
use Rattle.fb_records.specs.declared.answer.Found.TheVariants.{Shot, NotYet, End}
use Rattle.fb_records.specs.Records.{Records, Reader}
use Rattle.fb_records.specs.Answers.{Answers}

-- how many bytes are used by what is found
abbrev pub used_of : {A : Type 0} → Found A → ℕ
used_of (Shot shot used) = used
used_of NotYet = 0
used_of End = 0

-- what a reader returns if this is found
abbrev pub answer_at : {A K : Type 0} → Found A → Next A K
answer_at (Shot shot used) = next.Shot shot
answer_at NotYet = next.NotYet
answer_at End = next.End

-- if a shot is found, the fact of it
abbrev pub IfFound : {A : Type 0} → (A → Type 0) → Found A → Type 0
IfFound P (Shot shot used) = P shot
IfFound P NotYet = Unit {0}
IfFound P End = Unit {0}

-- the result for a rest, and what it leaves
abbrev pub AnswersRest : {A K C : Type 0} → (records prefix : C → List ℕ → Records A K) → (C → List ℕ → List ℕ)
    → C → List ℕ → Bool → List ℕ → Next A K → Type 0
AnswersRest {A} {K} {C} records prefix after subject rest finished left answer =
    let old : Reader C = record { subject = subject; rest = rest; finished = finished } in
    Answers records prefix (after subject) old (record old { rest = left }) answer

-- the part of some bytes from one place up to another
abbrev pub part_of : List ℕ → ℕ → ℕ → List ℕ
part_of bytes from to = take (to - from) (drop from bytes)

-- if the step is refused, the fact of the kind
abbrev pub IfRefused : {K : Type 0} → (K → Type 0) → Stop K → Type 0
IfRefused P stop.NoMemory = Unit {0}
IfRefused P (stop.Refused kind) = P kind

-- These bytes are skipped, whatever follows.
pub record Skips {A K : Type 0} (records prefix : List ℕ → Records A K) (after : List ℕ → List ℕ) (skipped : List ℕ)
    : Type 0 where
  pub whole : (more : List ℕ) → records (skipped ++ more) ≡ records more
  pub so_far : (more : List ℕ) → prefix (skipped ++ more) ≡ prefix more
  pub left : (more : List ℕ) → after (skipped ++ more) ≡ after more
