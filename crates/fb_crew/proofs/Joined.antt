-- What a window made for a job comes to.
use Rattle.std.proofs.Common.{ℕ, ◌≡◌, ◌<◌, ◌≤◌, List, length, get_or, All, Bool, true, false, if◌then◌else◌, max, min, ◌+◌, ◌/◌, nat_le, arith, refl, subst, sym}
use Rattle.std.proofs.lemmas.Bool.{leb-true, leb-false}
use Rattle.std.specs.Prelude.{Result, Ok, Err, IfOk, MatchResult}
use Rattle.fb_graph.specs.Limits.{ShotValue}
use Rattle.fb_plan.specs.Plans.{JobValue}
use Rattle.fb_book.specs.declared.entries.Entry.{Entry}
use Rattle.fb_crew.specs.declared.window.Window.{Window}
use Rattle.std.proofs.lemmas.List.Elements.{All-map}
use Rattle.fb_book.specs.Laws.{renumbered_entry}
use Rattle.fb_hands.specs.Gates.{HasPassed}
use Rattle.fb_crew.specs.InternalWindows.{with_places}
use Rattle.fb_crew.specs.Windows.{AreRows, IsHistoryOf, defects_per_worker, most_seats, seat_count}

-- its rows and its history, once the job is known
pub window_of : {E : Type 0} (shots : List ShotValue) (workers : ℕ) (j job : JobValue) (r : Result Window E) → j ≡ job
    → IfOk r (λ w. AreRows j.graph shots w.rows.items × IsHistoryOf j.plan workers w.rows.items w.history.items)
    → IfOk r (λ w. AreRows job.graph shots w.rows.items) × IfOk r (λ w. IsHistoryOf job.plan workers w.rows.items w.history.items)
window_of shots workers j job (Ok w) is made = (
  subst (λ (k : JobValue). AreRows k.graph shots w.rows.items) is made.0,
  subst (λ (k : JobValue). IsHistoryOf k.plan workers w.rows.items w.history.items) is made.1,
)
window_of shots workers j job (Err e) is made = (tt, tt)

-- what holds of a value that is made, also beside another
pub beside : {A T E : Type 0} (P : A → Type 0) (made : Result A E) (value : T) (r : Result (A × T) E)
    → MatchResult r (λ pair. (made ≡ Ok pair.0) × (value ≡ pair.1)) (λ e. made ≡ Err e) → IfOk made P → IfOk r (λ pair. P pair.0)
beside P made value (Ok pair) is has = subst (λ m. IfOk m P) is.0 has
beside P made value (Err e) is has = tt

-- worker 0 has the least number
pub at_most_none : (history : List Entry) → All (λ e. e.worker ≡ 0) history → All (λ e. e.worker ≤ 0) history
at_most_none history by = λ k d less. omega (arith, by k d less)

-- one worker does everything at a board of one seat
pub only_one : (units : ℕ) (history : List Entry) → All (λ e. e.worker ≡ 0) history → All (λ e. e.worker < most_seats 0 units) history
only_one units history by = λ k d less. omega (arith, by k d less)

-- no more workers take part than may
fewer : (workers units defects : ℕ) → seat_count workers units defects ≤ most_seats workers units
fewer workers units defects = by_test (nat_le units workers) refl
  where
    worth : ℕ
    worth = 1 + defects / defects_per_worker

    by_test : (suffice : Bool) → nat_le units workers ≡ suffice
        → max 1 (if suffice then units else min workers worth) ≤ most_seats workers units
    by_test true is = omega (arith, leb-true units workers is)
    by_test false is = omega (arith, leb-false units workers is)

-- the workers of a run are below the number of its seats
pub seated : (workers units defects seats : ℕ) (history : List Entry) → seats ≡ seat_count workers units defects
    → All (λ e. e.worker < seats) history → All (λ e. e.worker < most_seats workers units) history
seated workers units defects seats history is below = λ k d less.
    let few = fewer workers units defects in let one = below k d less in omega (arith, is, few, one)

-- who has passed with the slots of a job has passed with the places of their shots
pub passed_places : {E : Type 0} (passed : ℕ → ℕ → ℕ → Type 0) (places : List ℕ) (history : List Entry) (r : Result Window E)
    → All (λ e. e.slot < length places) history
    → All (HasPassed (λ w s n. s < length places → passed w (get_or places s 0) n)) history
    → IfOk r (λ w. w.history.items ≡ with_places places history) → IfOk r (λ w. All (HasPassed passed) w.history.items)
passed_places passed places history (Ok w) fits came is =
    subst (All (HasPassed passed)) (sym is)
    (All-map (HasPassed passed) (renumbered_entry (λ s. get_or places s 0)) history (λ k d less gave. came k d less gave (fits k d less)))
passed_places passed places history (Err e) fits came is = tt
