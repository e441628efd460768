-- What an item that is taken and then given does to a run.
use Rattle.std.proofs.Common.{ℕ, ◌≡◌, ◌+◌, ◌<◌, Bool, true, false, List, [], ◌∷◌, length, ◌⊎◌, inl, inr, refl, sym, ap, subst, ◌∙◌, arith}
use Rattle.std.proofs.lemmas.Bool.{eq-eqb, false≢true, true≢false}
use Rattle.std.proofs.lemmas.List.{length-append, length-replicate}
use Rattle.std.specs.List.{list_any}
use Rattle.std.specs.Prelude.{Result, Ok, OnOk}
use Rattle.fb_plan.specs.Plans.{JobValue}
use Rattle.fb_book.specs.declared.entries.EntryKind.{EntryKind}
use Rattle.fb_book.specs.declared.entries.EntryKind.TheVariants.{Took, Gave}
use Rattle.fb_book.specs.declared.entries.Entry.{Entry}
use Rattle.fb_book.specs.declared.entries.Status.{Status}
use Rattle.fb_book.specs.declared.entries.Status.TheVariants.{Idle, Given, Used}
use Rattle.fb_book.specs.Machine.{all_idle, is_held, is_held_by, is_left, is_used, status_at}
use Rattle.fb_book.specs.Board.{Adds, IsRun, Lets, MustWait, is_finished, is_starved, item_count, kids_of, statuses_of}
use Rattle.fb_book.specs.Books.{course_of, holds, place_of}
use Rattle.fb_book.proofs.History.{none_at, none_from}
use Rattle.fb_book.proofs.Openings.{idle_at}
use Rattle.fb_book.proofs.Statuses.{IsSetAt, here, there, IsTakenAt, taken, used, same, set_at, taken_at, within, held_is, may_take}
use Rattle.fb_book.proofs.Waiting.{Added, added}
use Rattle.fb_desk.specs.InternalQuiet.{IsQuiet}

pub one_more : (job : JobValue) (old new : List Entry) (kind : EntryKind) (w s n : ℕ)
    → Adds (course_of job old) (course_of job new) kind w s n → length new ≡ length old + 1
one_more job old new kind w s n a =
    ap (λ c. length c.history) a.entry
    ∙ length-append old (record { kind = kind; worker = w; slot = s; node = n } ∷ [])

module _ (job : JobValue) {first second : List Entry} {w s n : ℕ} (run : IsRun (course_of job first))
    (took : Adds (course_of job first) (course_of job second) Took w s n) where
  abbrev k : ℕ
  k = place_of job s n

  abbrev was : List Status
  was = statuses_of (course_of job first)

  abbrev now : List Status
  now = statuses_of (course_of job second)

  taking : Added (course_of job first) (course_of job second) Took w k
  taking = added (course_of job first) (course_of job second) Took w s n run took

  at : (j : ℕ) → IsTakenAt (kids_of (course_of job first) k) k w j (status_at was j) (status_at now j)
  at j =
      subst (λ st. IsTakenAt (kids_of (course_of job first) k) k w j (status_at was j) (status_at st j)) (sym taking.statuses)
      (taken_at (kids_of (course_of job first)) was k w j
      (may_take (kids_of (course_of job first)) was w k taking.allowed).less)

  -- the worker that took an item holds it
  pub held_once_taken : holds job second w s n ≡ true
  held_once_taken = step (at k)
    where
      step : IsTakenAt (kids_of (course_of job first) k) k w k (status_at was k) (status_at now k)
          → is_held_by w (status_at now k) ≡ true
      step (taken e f) = ap (is_held_by w) f ∙ eq-eqb w w refl
      step (used e child f) = absurd (true≢false (sym (eq-eqb k k refl) ∙ e))
      step (same e other f) = absurd (true≢false (sym (eq-eqb k k refl) ∙ e))

  module _ {third : List Entry} (gave : Lets (course_of job second) (course_of job third) Gave w s n) where
    abbrev last : List Status
    last = statuses_of (course_of job third)

    given_at : (j : ℕ) → IsSetAt k Given j (status_at now j) (status_at last j)
    given_at j =
        subst (λ st. IsSetAt k Given j (status_at now j) (status_at st j))
        (sym (added (course_of job second) (course_of job third) Gave w s n took.run gave.adds).statuses)
        (set_at now k Given j (within now k (ap is_used (held_is w (status_at now k) gave.held))))

    none_after : (p : Status → Bool) → p Used ≡ false → p Given ≡ false → list_any p was ≡ false → list_any p last ≡ false
    none_after p used_no given_no none = none_from p last (λ j less. step j (given_at j) (at j))
      where
        step : (j : ℕ) → IsSetAt k Given j (status_at now j) (status_at last j)
            → IsTakenAt (kids_of (course_of job first) k) k w j (status_at was j) (status_at now j)
            → p (status_at last j) ≡ false
        step j (here i f) t = ap p f ∙ given_no
        step j (there i f) (taken e g) = absurd (true≢false (sym (eq-eqb k j e) ∙ i))
        step j (there i f) (used e child g) = ap p (f ∙ g) ∙ used_no
        step j (there i f) (same e other g) = ap p (f ∙ g) ∙ none_at p used_no was none j

    -- an item that is taken and given leaves a run as quiet as it was
    pub quiet_once_given : IsQuiet (course_of job first) → IsQuiet (course_of job third)
    quiet_once_given q = record {
      unheld = none_after is_held refl refl q.unheld;
      unleft = none_after is_left refl refl q.unleft;
    }

    pub two_more : length third ≡ length first + 2
    two_more =
        let a : length second ≡ length first + 1 = one_more job first second Took w s n took in
        let b : length third ≡ length second + 1 = one_more job second third Gave w s n gave.adds in
        omega (arith, a, b)

-- what holds if a step is done, once it is
pub once_done : {T E P : Type 0} (r : Result T E) (x : T) → r ≡ Ok x → OnOk r P → P
once_done {P = P} r x done held = subst (λ s. OnOk s P) done held

-- Without an entry a run is quiet.
pub quiet_at_first : (job : JobValue) (history : List Entry) → history ≡ [] → IsQuiet (course_of job history)
quiet_at_first job history empty = subst (λ h. IsQuiet (course_of job h)) (sym empty) (record {
  unheld = none is_held refl;
  unleft = none is_left refl;
})
  where
    count : ℕ
    count = item_count (course_of job [])

    none : (p : Status → Bool) → p Idle ≡ false → list_any p (all_idle count) ≡ false
    none p idle_no = none_from p (all_idle count) (λ k less.
        ap p (idle_at count k (subst (λ x. k < x) (length-replicate count Idle) less)) ∙ idle_no)

-- In a quiet run nothing is waited for.
pub none_to_wait_for : (job : JobValue) {history : List Entry} → MustWait (course_of job history)
    → IsQuiet (course_of job history) → ⊥
none_to_wait_for job m q = false≢true (sym q.unheld ∙ m.held)

-- A quiet run that is over is finished.
pub finished_when_over : (job : JobValue) {history : List Entry}
    → (is_starved (course_of job history) ≡ true) ⊎ (is_finished (course_of job history) ≡ true)
    → IsQuiet (course_of job history) → is_finished (course_of job history) ≡ true
finished_when_over job (inl starved) q = absurd (false≢true (sym q.unleft ∙ starved))
finished_when_over job (inr finished) q = finished
