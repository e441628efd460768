-- What an entry does to the statuses.
use Rattle.std.proofs.Common.{ℕ, ◌≡◌, ◌<◌, ◌≤◌, ◌==◌, Bool, true, false, not, Option, Some, None, List, length, set, ◌⊎◌, inl, inr, refl, sym, ap, ◌∙◌, arith}
use Rattle.std.proofs.lemmas.Bool.{eqb-true, eqb-false, eq-eqb, false≢true, cases_lt, and_parts, or_left, or_right, not-true, or_from}
use Rattle.std.proofs.lemmas.List.{get_or-set_same, get_or-set_other, get_or_past, length-set}
use Rattle.std.specs.List.{list_any}
use Rattle.fb_book.specs.declared.entries.EntryKind.TheVariants.{Took}
use Rattle.fb_book.specs.declared.entries.Status.{Status}
use Rattle.fb_book.specs.declared.entries.Status.TheVariants.{Idle, Held, Given, Used, Left as Lost}
use Rattle.fb_book.specs.Machine.{Kids, is_child, status_at, is_idle, is_held_by, is_given, is_used, is_left, are_given, can_take, is_permitted, with_used, after}

-- the status at j, old and new, where that at i became s
pub data IsSetAt (i : ℕ) (s : Status) (j : ℕ) (old new : Status) : Type 0 where
  here : i ≡ j → new ≡ s → IsSetAt i s j old new
  there : (i == j) ≡ false → new ≡ old → IsSetAt i s j old new

-- the same where the item at i, of these children, was taken
pub data IsTakenAt (children : Option (ℕ × ℕ)) (i w j : ℕ) (old new : Status) : Type 0 where
  taken : i ≡ j → new ≡ Held w → IsTakenAt children i w j old new
  used : (i == j) ≡ false → is_child children j ≡ true → new ≡ Used → IsTakenAt children i w j old new
  same : (i == j) ≡ false → is_child children j ≡ false → new ≡ old → IsTakenAt children i w j old new

pub within : (st : List Status) (k : ℕ) → is_used (status_at st k) ≡ false → k < length st
within st k h = step (cases_lt k (length st))
  where
    step : (k < length st) ⊎ (length st ≤ k) → k < length st
    step (inl less) = less
    step (inr more) = absurd (false≢true (sym h ∙ ap is_used (get_or_past st k Used more)))

pub set_at : (st : List Status) (i : ℕ) (s : Status) (j : ℕ) → i < length st
    → IsSetAt i s j (status_at st j) (status_at (set st i s) j)
set_at st i s j less = step (i == j) refl
  where
    step : (b : Bool) → (i == j) ≡ b → IsSetAt i s j (status_at st j) (status_at (set st i s) j)
    step true e =
        here (eqb-true i j e) (ap (status_at (set st i s)) (sym (eqb-true i j e)) ∙ get_or-set_same st i s Used less)
    step false e = there e (get_or-set_other st i j s Used (λ same. eqb-false i j e (sym same)))

pub set_used_at : (st : List Status) (i j : ℕ) → IsSetAt i Used j (status_at st j) (status_at (set st i Used) j)
set_used_at st i j = step (i == j) refl (cases_lt i (length st))
  where
    step : (b : Bool) → (i == j) ≡ b → (i < length st) ⊎ (length st ≤ i)
        → IsSetAt i Used j (status_at st j) (status_at (set st i Used) j)
    step b e (inl less) = set_at st i Used j less
    step true e (inr more) =
        let same : i ≡ j = eqb-true i j e in
        let size : length (set st i Used) ≡ length st = length-set st i Used in
        here same (get_or_past (set st i Used) j Used (omega arith))
    step false e (inr more) = there e (get_or-set_other st i j Used Used (λ same. eqb-false i j e (sym same)))

-- what becomes of j where the children of an item are used
pub data IsUsedAt (children : Option (ℕ × ℕ)) (j : ℕ) (old new : Status) : Type 0 where
  used : is_child children j ≡ true → new ≡ Used → IsUsedAt children j old new
  same : is_child children j ≡ false → new ≡ old → IsUsedAt children j old new

pub used_at : (children : Option (ℕ × ℕ)) (st : List Status) (j : ℕ)
    → IsUsedAt children j (status_at st j) (status_at (with_used children st) j)
used_at None st j = same refl refl
used_at (Some (a, b)) st j = step (set_used_at (set st a Used) b j) (set_used_at st a j)
  where
    last : Status
    last = status_at (set (set st a Used) b Used) j

    step : IsSetAt b Used j (status_at (set st a Used) j) last
        → IsSetAt a Used j (status_at st j) (status_at (set st a Used) j)
        → IsUsedAt (Some (a, b)) j (status_at st j) last
    step (here e f) other = used (or_right (a == j) (b == j) (eq-eqb b j e)) f
    step (there e f) (here g h) = used (or_left (a == j) (b == j) (eq-eqb a j g)) (f ∙ h)
    step (there e f) (there g h) = same (or_from (a == j) (b == j) g e) (f ∙ h)

pub length-with_used : (children : Option (ℕ × ℕ)) (st : List Status) → length (with_used children st) ≡ length st
length-with_used None st = refl
length-with_used (Some (a, b)) st = length-set (set st a Used) b Used ∙ length-set st a Used

pub taken_at : (kids : Kids) (st : List Status) (i w j : ℕ) → i < length st
    → IsTakenAt (kids i) i w j (status_at st j) (status_at (after kids st Took w i) j)
taken_at kids st i w j less = step (set_at (with_used (kids i) st) i (Held w) j (rw (length-with_used (kids i) st) less)) (used_at (kids i) st j)
  where
    middle : Status
    middle = status_at (with_used (kids i) st) j

    last : Status
    last = status_at (after kids st Took w i) j

    step : IsSetAt i (Held w) j middle last → IsUsedAt (kids i) j (status_at st j) middle
        → IsTakenAt (kids i) i w j (status_at st j) last
    step (here e f) other = taken e f
    step (there e f) (used g h) = used e g (f ∙ h)
    step (there e f) (same g h) = same e g (f ∙ h)

pub length-after : (kids : Kids) (st : List Status) (i w : ℕ) → length (after kids st Took w i) ≡ length st
length-after kids st i w = length-set (with_used (kids i) st) i (Held w) ∙ length-with_used (kids i) st

-- what an item may do tells its status
pub idle_is : (s : Status) → is_idle s ≡ true → s ≡ Idle
idle_is Idle h = refl
idle_is (Held w) h = absurd (false≢true h)
idle_is Given h = absurd (false≢true h)
idle_is Used h = absurd (false≢true h)
idle_is Lost h = absurd (false≢true h)

pub held_is : (w : ℕ) (s : Status) → is_held_by w s ≡ true → s ≡ Held w
held_is w Idle h = absurd (false≢true h)
held_is w (Held v) h = ap Held (sym (eqb-true w v h))
held_is w Given h = absurd (false≢true h)
held_is w Used h = absurd (false≢true h)
held_is w Lost h = absurd (false≢true h)

pub given_is : (s : Status) → is_given s ≡ true → s ≡ Given
given_is Idle h = absurd (false≢true h)
given_is (Held w) h = absurd (false≢true h)
given_is Given h = refl
given_is Used h = absurd (false≢true h)
given_is Lost h = absurd (false≢true h)

pub child_given : (children : Option (ℕ × ℕ)) (st : List Status) (c : ℕ) → are_given st children ≡ true
    → is_child children c ≡ true → status_at st c ≡ Given
child_given None st c given child = absurd (false≢true child)
child_given (Some (a, b)) st c given child = step (a == c) refl (b == c) refl
  where
    parts : (is_given (status_at st a) ≡ true) × (is_given (status_at st b) ≡ true)
    parts = and_parts (is_given (status_at st a)) (is_given (status_at st b)) given

    step : (x : Bool) → (a == c) ≡ x → (y : Bool) → (b == c) ≡ y → status_at st c ≡ Given
    step true e y f = ap (status_at st) (sym (eqb-true a c e)) ∙ given_is (status_at st a) parts.0
    step false e true f = ap (status_at st) (sym (eqb-true b c f)) ∙ given_is (status_at st b) parts.1
    step false e false f = absurd (false≢true (sym (or_from (a == c) (b == c) e f) ∙ child))

-- the parts of what allows to take an item
pub record MayTake (kids : Kids) (st : List Status) (k : ℕ) : Type 0 where
  pub unstarved : list_any is_left st ≡ false
  pub idle : status_at st k ≡ Idle
  pub given : are_given st (kids k) ≡ true
  pub less : k < length st

pub may_take : (kids : Kids) (st : List Status) (w k : ℕ) → is_permitted kids st Took w k ≡ true → MayTake kids st k
may_take kids st w k h =
    let outer = and_parts (not (list_any is_left st)) (can_take kids st k) h in
    let inner = and_parts (is_idle (status_at st k)) (are_given st (kids k)) outer.1 in
    let idle : status_at st k ≡ Idle = idle_is (status_at st k) inner.0 in
    record {
      unstarved = not-true (list_any is_left st) outer.0;
      idle = idle;
      given = inner.1;
      less = within st k (ap is_used idle);
    }
