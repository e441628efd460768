-- A book at first.
use Rattle.std.proofs.Common.{ℕ, ◌≡◌, ◌<◌, ◌≤◌, is_some, Option, Some, None, Result, Ok, Err, IfOk, List, [], length, get_or, replicate, ◌⊎◌, inl, inr, refl, sym, ap, subst, ◌∙◌}
use Rattle.std.proofs.lemmas.Bool.{cases_lt}
use Rattle.std.proofs.lemmas.List.{get_or-replicate, get_or_past, length-replicate}
use Rattle.std.proofs.lemmas.List.Elements.{All-nil}
use Rattle.fb_book.specs.Board.{Course, item_count}
use Rattle.fb_book.specs.Books.{course_of}
use Rattle.fb_book.specs.InternalBoard.{IsBook}
use Rattle.fb_plan.specs.Plans.{JobValue}
use Rattle.fb_book.proofs.Openings.{ungiven_at}

pub course_at_first : (job : JobValue) (u : ℕ) (js : List (ℕ × ℕ)) (s : ℕ) → u ≡ job.plan.units → js ≡ job.plan.joins
    → s ≡ length job.shots → (c : Course) → c ≡ record { units = u; joins = js; slots = s; history = [] }
    → c ≡ course_of job []
course_at_first job u js s u_is js_is s_is c c_is =
    subst (λ x. c ≡ record { units = x; joins = job.plan.joins; slots = length job.shots; history = [] }) u_is
    (subst (λ x. c ≡ record { units = u; joins = x; slots = length job.shots; history = [] }) js_is
    (subst (λ x. c ≡ record { units = u; joins = js; slots = x; history = [] }) s_is c_is))

pub items_at_first : {E : Type 0} (job : JobValue) (u : ℕ) (js : List (ℕ × ℕ)) (s : ℕ) → u ≡ job.plan.units
    → js ≡ job.plan.joins → s ≡ length job.shots → (made : Result Course E)
    → IfOk made (λ c. c ≡ record { units = u; joins = js; slots = s; history = [] })
    → IfOk made (λ c. c ≡ course_of job [])
items_at_first job u js s u_is js_is s_is (Ok c) c_is = course_at_first job u js s u_is js_is s_is c c_is
items_at_first job u js s u_is js_is s_is (Err e) c_is = tt

pub none_at_all : {P : Type 0} (n k : ℕ) → ◌≡◌ {A = Option P} (get_or (replicate n None) k None) None
none_at_all {P} n k = step (cases_lt k n)
  where
    nothing : Option P
    nothing = None

    step : (k < n) ⊎ (n ≤ k) → ◌≡◌ {A = Option P} (get_or (replicate n None) k None) None
    step (inl less) = get_or-replicate n k nothing nothing less
    step (inr more) = get_or_past (replicate n nothing) k nothing (subst (λ x. x ≤ k) (sym (length-replicate n nothing)) more)

pub book_at_first : {P : Type 0} (job_of : P → JobValue) (slot_of node_of : P → ℕ) (made_of : P → Option (List ℕ)) (job : JobValue) (workers : ℕ)
    (c : Course) (parked : List (Option P)) (roots : List P) (room : ℕ) → c ≡ course_of job []
    → parked ≡ replicate (item_count (course_of job [])) None → roots ≡ [] → length job.shots ≤ room
    → IsBook job_of slot_of node_of made_of job workers c parked roots room
book_at_first {P} job_of slot_of node_of made_of job workers c parked roots room c_is parked_is roots_is enough =
    subst (λ x. IsBook job_of slot_of node_of made_of job workers x parked roots room) (sym c_is)
    (subst (λ x. IsBook job_of slot_of node_of made_of job workers (course_of job []) x roots room) (sym parked_is) (record {
      course = refl;
      kept = record {
        by = All-nil (λ e. e.worker ≤ workers);
        count = length-replicate total nothing;
        given = λ k. ungiven_at total k ∙ sym (ap is_some (none k));
        pieces = λ k p e. absurd (clash p (sym (none k) ∙ e));
      };
      roots_are = roots_is;
      roots_room = enough;
    }))
  where
    nothing : Option P
    nothing = None

    total : ℕ
    total = item_count (course_of job [])

    none : (k : ℕ) → ◌≡◌ {A = Option P} (get_or (replicate total None) k None) None
    none k = none_at_all total k

    clash : (p : P) → ◌≡◌ {A = Option P} None (Some p) → ⊥
    clash p e = cc
