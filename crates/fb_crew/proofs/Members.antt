-- Members of a crew that are seated, and taken apart, one by one.
use Rattle.std.proofs.Common.{ℕ, ◌≡◌, ◌+◌, ◌<◌, List, [], ◌∷◌, ◌++◌, length, sym, ap, subst, ◌∙◌, arith}
use Rattle.std.specs.List.{All}
use Rattle.std.specs.Prelude.{Result, Ok, Err, IfOk, MatchResult}
use Rattle.std.proofs.lemmas.List.Elements.{All-append, All-cons, All-head, All-nil, All-tail}
use Rattle.atomic_table.specs.Seated.{TableId}
use Rattle.fb_graph.proofs.Nodes.{All-below, All-top}
use Rattle.fb_book.specs.declared.entries.Entry.{Entry}
use Rattle.fb_hands.specs.Gates.{HasPassed}
use Rattle.fb_slots.specs.Seats.{SeatValue, ends_in, entries_in}
use Rattle.fb_slots.proofs.Gathering.{entries_last}
use Rattle.fb_crew.specs.InternalSeats.{IsEnded}

module _ {S : Type 0} (P : S → Type 0) where
  pub popped : (old new : List S) (x : S) → old ≡ new ++ x ∷ [] → All P old → All P new × P x
  popped old new x is all = let h = subst (All P) is all in (All-below P new x h, All-top P new x h)

  pub pushed : (old new : List S) (x : S) → new ≡ old ++ x ∷ [] → All P old → P x → All P new
  pushed old new x is all here = subst (All P) (sym is) (All-append P old (x ∷ []) all (All-cons P x [] here (All-nil P)))

-- the entries of one seat more
pub entries_more : (seats more : List SeatValue) (s : SeatValue) (es list all : List Entry) → more ≡ seats ++ s ∷ [] → es ≡ entries_in seats
    → list ≡ s.entries → all ≡ es ++ list → all ≡ entries_in more
entries_more seats more s es list all is before mine both =
    both ∙ ((λ i. before i ++ mine i) ∙ (sym (entries_last seats s) ∙ ap entries_in (sym is)))

-- of seats that have ended, one has found no unit left
pub some_end : (board : TableId) (passed : ℕ → ℕ → ℕ → Type 0) (seats : List SeatValue) → All (IsEnded board passed) seats → 0 < length seats → 0 < ends_in seats
some_end board passed [] all some = absurd (omega (arith, some))
some_end board passed (s ∷ ss) all some = let e = (All-head (IsEnded board passed) s ss all).ended in omega (arith, e)

-- all that they gave has passed
pub all_came : (board : TableId) (passed : ℕ → ℕ → ℕ → Type 0) (seats : List SeatValue) → All (IsEnded board passed) seats
    → All (HasPassed passed) (entries_in seats)
all_came board passed [] all = All-nil (HasPassed passed)
all_came board passed (s ∷ ss) all =
    All-append (HasPassed passed) s.entries (entries_in ss) (All-head (IsEnded board passed) s ss all).came
    (all_came board passed ss (All-tail (IsEnded board passed) s ss all))

-- how many there are with one more
pub counted : {A B E : Type 0} (size : A → ℕ) (others : B → ℕ) (r : Result A E) (o : Result B E) (n all : ℕ) → all ≡ n + 1
    → MatchResult o (λ b. IfOk r (λ a. size a ≡ others b + 1)) (λ e. r ≡ Err e) → IfOk o (λ b. others b ≡ n) → IfOk r (λ a. size a ≡ all)
counted size others (Ok a) (Ok b) n all is more known = more ∙ (ap (λ (x : ℕ). x + 1) known ∙ sym is)
counted size others (Ok a) (Err e) n all is never known = absurd (let bad : ⊥ = cc in bad)
counted size others (Err e) o n all is more known = tt
