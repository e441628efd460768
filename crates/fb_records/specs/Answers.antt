-- What an answer of a reader says of the bytes that it was fed.
use Rattle.std.specs.Prelude.{◌≡◌, ℕ, ◌<◌, length, true, false, List, [], ◌∷◌, ◌++◌, if◌then◌else◌}
use Rattle.fb_records.specs.declared.answer.Next.{Next}
use Rattle.fb_records.specs.declared.answer.Next.TheVariants.{Shot, NotYet, End, Refused}
use Rattle.fb_records.specs.Records.{Ending, at_end, still_open, refused, Records, only, with_first_shot, GoesOn, Reader}

-- the answer that the first of what was read gives
abbrev pub first_answer : {A K : Type 0} → List A → Ending K → Next A K
first_answer (shot ∷ shots) ending = Shot shot
first_answer [] at_end = End
first_answer [] still_open = NotYet
first_answer [] (refused kind) = Refused kind

abbrev pub answer_of : {A K : Type 0} → Records A K → Next A K
answer_of r = first_answer r.shots r.ending

-- what is read of a reader's rest: bytes that are all, or that may go on
abbrev pub reading : {A K C : Type 0} → (records prefix : C → List ℕ → Records A K) → Reader C → Records A K
reading records prefix r = if r.finished then records r.subject r.rest else prefix r.subject r.rest

-- The shot is the first record of the old rest, and the new rest holds all others, whatever is fed later.
pub record Gives {A K C : Type 0} (records prefix : List ℕ → Records A K) (old new : Reader C) (shot : A) : Type 0 where
  pub shorter : length new.rest < length old.rest
  pub now : records old.rest ≡ with_first_shot shot (records new.rest)
  pub so_far : old.finished ≡ false → prefix old.rest ≡ with_first_shot shot (prefix new.rest)
  pub later : old.finished ≡ false → (more : List ℕ)
      → records (old.rest ++ more) ≡ with_first_shot shot (records (new.rest ++ more))
  pub onward : old.finished ≡ false → (more : List ℕ)
      → prefix (old.rest ++ more) ≡ with_first_shot shot (prefix (new.rest ++ more))

-- The rest begins by what is refused, whatever is fed later.
pub record Refuses {A K C : Type 0} (records prefix : List ℕ → Records A K) (old : Reader C) (kind : K) : Type 0 where
  pub now : records old.rest ≡ only (refused kind)
  pub so_far : old.finished ≡ false → prefix old.rest ≡ only (refused kind)
  pub later : old.finished ≡ false → (more : List ℕ) → records (old.rest ++ more) ≡ only (refused kind)

-- an answer, what it says of the rest, and what it leaves of it
abbrev pub Answers : {A K C : Type 0} → (records prefix : C → List ℕ → Records A K) → (List ℕ → List ℕ)
    → Reader C → Reader C → Next A K → Type 0
Answers records prefix after old new (Shot shot) =
    Gives (records old.subject) (prefix old.subject) old new shot × (new ≡ record old { rest = after old.rest })
Answers records prefix after old new NotYet =
    (old.finished ≡ false) × (prefix old.subject old.rest ≡ only still_open) × (new ≡ old)
Answers records prefix after old new End =
    (old.finished ≡ true) × (records old.subject old.rest ≡ only at_end) × (new ≡ old)
Answers records prefix after old new (Refused kind) =
    Refuses (records old.subject) (prefix old.subject) old kind × (new ≡ old)

-- if the answer is a shot, the fact of it
abbrev pub IfShot : {A K : Type 0} → (A → Type 0) → Next A K → Type 0
IfShot P (Shot shot) = P shot
IfShot P NotYet = Unit {0}
IfShot P End = Unit {0}
IfShot P (Refused kind) = Unit {0}

-- Some bytes may be cut in two anywhere: what the first part settles comes first in all that they hold.
abbrev pub GoesOnAnywhere : {A K C : Type 0} → (records prefix : C → List ℕ → Records A K) → Type 0
GoesOnAnywhere {A} {K} {C} records prefix =
    (c : C) (bytes more : List ℕ) → GoesOn (prefix c bytes) (records c (bytes ++ more))
    × GoesOn (prefix c bytes) (prefix c (bytes ++ more))

-- These bytes begin by the shot and go on by those left, whatever follows.
abbrev pub IsLeft : {A K : Type 0} → (records prefix : List ℕ → Records A K) → (bytes : List ℕ) → A → (left : List ℕ) → Type 0
IsLeft records prefix bytes shot left =
    (prefix bytes ≡ with_first_shot shot (prefix left))
    × ((more : List ℕ) → records (bytes ++ more) ≡ with_first_shot shot (records (left ++ more)))
    × ((more : List ℕ) → prefix (bytes ++ more) ≡ with_first_shot shot (prefix (left ++ more)))

-- Without the bytes of its first record an input gives the same without its first shot.
abbrev pub FirstRecordLeaves : {A K C : Type 0} → (records prefix : C → List ℕ → Records A K) → (C → List ℕ → List ℕ)
    → Type 0
FirstRecordLeaves {A} {K} {C} records prefix after =
    (c : C) (bytes : List ℕ) (shot : A) (shots : List A) → (prefix c bytes).shots ≡ shot ∷ shots
    → IsLeft (records c) (prefix c) bytes shot (after c bytes)
