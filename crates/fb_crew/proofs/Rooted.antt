-- What the pieces of a finished job say of the shots of a window.
use Rattle.std.proofs.Common.{◌≡◌, ◌≢◌, ℕ, suc, ◌+◌, ◌*◌, ◌<◌, ◌≤◌, ◌^◌, List, [], ◌∷◌, length, get_or, slice_get, count_by, cond, is_none, Option, Some, None, Result, Ok, Err, IfOk, refl, sym, ap, subst, ◌∙◌, arith}
use Rattle.std.specs.List.{All}
use Rattle.std.proofs.lemmas.List.Elements.{All-nil, All-cons, All-head, All-tail}
use Rattle.fb_graph.specs.Components.{IsFirstOdd}
use Rattle.fb_graph.specs.Limits.{DecodingGraph, IsShot, ShotValue, no_shot, problem_of}
use Rattle.fb_graph.specs.declared.parts.Row.{Row}
use Rattle.fb_plan.specs.Plans.{IsPlan, IsTree, JobValue, PlanTree, children_of, node_count, root_of}
use Rattle.fb_plan.proofs.SubProblems.{fusion_of}
use Rattle.fb_book.specs.Books.{IsPieceAt, place_of}
use Rattle.fb_half.specs.Parts.{IsPartOf, PartValue}
use Rattle.fb_book.specs.Board.{kids_in}
use Rattle.fb_book.specs.Machine.{IsComplete}
use Rattle.fb_book.specs.declared.entries.Entry.{Entry}
use Rattle.fb_book.specs.declared.limits.TheConstants.{MOST_AT_ONCE}
use Rattle.fb_hands.specs.Jobs.{IsCompleteOf}
use Rattle.fb_slots.specs.Ordered.{IsByItem}
use Rattle.fb_crew.proofs.EvenPlaces.{as_many_places, slots_within, sorting_laws}
use Rattle.fb_crew.specs.InternalWindows.{AreOddAt, AreRowsOf, AreSolvedRoots, IsSorted, even_of, rows_by, with_places}
use Rattle.fb_book.proofs.Handing.{one_item}
use Rattle.std.proofs.lemmas.Option.{slice_get-get_or}
use Rattle.std.proofs.lemmas.List.Sums.{sum_by-cons}
use Rattle.fb_crew.specs.InternalSolved.{SolvedValue, item_at, item_of}
use Rattle.fb_crew.specs.Windows.{AreRows, IsHistoryOf, IsShotRow, most_seats}

module _ (g : DecodingGraph) where
  pub even_shots : (odd : List (Option ℕ)) (shots : List ShotValue) → All (IsShot g) shots → All (IsShot g) (even_of odd shots)
  even_shots [] shots all = All-nil (IsShot g)
  even_shots (v ∷ vs) [] all = All-nil (IsShot g)
  even_shots (Some v ∷ vs) (s ∷ ss) all = even_shots vs ss (All-tail (IsShot g) s ss all)
  even_shots (None ∷ vs) (s ∷ ss) all =
      All-cons (IsShot g) s (even_of vs ss) (All-head (IsShot g) s ss all) (even_shots vs ss (All-tail (IsShot g) s ss all))

  abbrev pub IsEven : ShotValue → Type 0
  IsEven shot = IsFirstOdd (problem_of g shot) None

  pub even_even : (odd : List (Option ℕ)) (shots : List ShotValue) → AreOddAt g shots odd → All IsEven (even_of odd shots)
  even_even [] [] each = All-nil IsEven
  even_even [] (s ∷ ss) each = absurd each
  even_even (v ∷ vs) [] each = absurd each
  even_even (Some v ∷ vs) (s ∷ ss) each = even_even vs ss each.1
  even_even (None ∷ vs) (s ∷ ss) each = All-cons IsEven s (even_of vs ss) each.0 (even_even vs ss each.1)

  pub even_few : (odd : List (Option ℕ)) (shots : List ShotValue) → length (even_of odd shots) ≤ length shots
  even_few [] shots = omega arith
  even_few (v ∷ vs) [] = omega arith
  even_few (Some v ∷ vs) (s ∷ ss) = omega (arith, even_few vs ss)
  even_few (None ∷ vs) (s ∷ ss) = omega (arith, even_few vs ss)

module _ (job : JobValue) where
  root_is : (s : ℕ) (p : SolvedValue) → 0 < node_count job.plan
      → IsPieceAt (λ (q : SolvedValue). q.job) (λ q. q.slot) (λ q. q.node) (λ q. None) job (place_of job s (root_of job.plan)) p
      → (p.job ≡ job) × (p.slot ≡ s) × (p.node ≡ root_of job.plan)
  root_is s p some at =
      let both = one_item (node_count job.plan) s (root_of job.plan) p.slot p.node (omega (arith, some)) at.node at.place_is in
      (at.job_is, both.0, both.1)

  pub at_roots : (roots : List SolvedValue) → 0 < node_count job.plan → AreSolvedRoots job roots → All (λ p. p.node ≡ root_of p.job.plan) roots
  at_roots roots some parts = λ k d less. at (get_or roots k d)
      (root_is k (get_or roots k d) some (parts.each k (get_or roots k d) (slice_get-get_or roots k d less)))
    where
      at : (p : SolvedValue) {s : ℕ} → (p.job ≡ job) × (p.slot ≡ s) × (p.node ≡ root_of job.plan) → p.node ≡ root_of p.job.plan
      at p is = is.2 ∙ ap (λ (j : JobValue). root_of j.plan) (sym is.0)

  rows_from : (k : ℕ) (roots : List SolvedValue) (shots : List ShotValue) (rows : List Row) → length roots ≡ length shots
      → ((i : ℕ) (p : SolvedValue) → slice_get roots i ≡ Some p → (p.job ≡ job) × (p.slot ≡ k + i))
      → ((i : ℕ) → i < length shots → get_or job.shots (k + i) no_shot ≡ get_or shots i no_shot)
      → AreRowsOf roots rows → AreRows job.graph shots rows
  rows_from k [] [] [] many each same rows = tt
  rows_from k [] [] (r ∷ rs) many each same rows = absurd rows
  rows_from k [] (s ∷ ss) rs many each same rows = absurd (omega (arith, many))
  rows_from k (p ∷ ps) [] rs many each same rows = absurd (omega (arith, many))
  rows_from k (p ∷ ps) (s ∷ ss) [] many each same rows = absurd rows
  rows_from k (p ∷ ps) (s ∷ ss) (r ∷ rs) many each same rows = (
    here (each 0 p refl) (same 0 (omega arith)),
    rows_from (k + 1) ps ss rs (omega (arith, many))
        (λ i q at. let is = each (suc i) q at in (is.0, is.1 ∙ next i))
        (λ i less. ap (λ n. get_or job.shots n no_shot) (sym (next i)) ∙ same (suc i) (omega (arith, less))) rows.1,
  )
    where
      next : (i : ℕ) → k + suc i ≡ k + 1 + i
      next i = omega arith

      here : (p.job ≡ job) × (p.slot ≡ k + 0) → get_or job.shots (k + 0) no_shot ≡ s → IsShotRow job.graph s r
      here is at =
          subst (λ (j : JobValue). IsShotRow j.graph s r) is.0
          (subst (λ shot. IsShotRow p.job.graph shot r)
          (ap (λ n. get_or p.job.shots n no_shot) is.1 ∙ ap (λ (j : JobValue). get_or j.shots (k + 0) no_shot) is.0 ∙ at) rows.0)

  pub rows_of_roots : (roots : List SolvedValue) (rows : List Row) → 0 < node_count job.plan → AreSolvedRoots job roots → AreRowsOf roots rows
      → AreRows job.graph job.shots rows
  rows_of_roots roots rows some parts answers =
      rows_from 0 roots job.shots rows parts.count
      (λ i p at. let is = root_is i p some (parts.each i p at) in (is.0, is.1 ∙ zero_first i)) (λ i less. ap (λ n. get_or job.shots n no_shot) (sym (zero_first i))) answers
    where
      zero_first : (i : ℕ) → i ≡ 0 + i
      zero_first i = omega arith

-- as many rows as shots that have a correction
pub as_many_rows : (g : DecodingGraph) (odd : List (Option ℕ)) (shots : List ShotValue) (rows : List Row) → AreOddAt g shots odd
    → AreRows g (even_of odd shots) rows → length rows ≡ count_by is_none odd
as_many_rows g [] [] [] each rows = refl
as_many_rows g [] [] (r ∷ rs) each rows = absurd rows
as_many_rows g [] (s ∷ ss) rs each rows = absurd each
as_many_rows g (v ∷ vs) [] rs each rows = absurd each
as_many_rows g (Some v ∷ vs) (s ∷ ss) rs each rows = as_many_rows g vs ss rs each.1 rows ∙ sym (omega (arith, sum_by-cons (λ (x : Option ℕ). cond (is_none x) 1 0) (Some v) vs))
as_many_rows g (None ∷ vs) (s ∷ ss) [] each rows = absurd rows
as_many_rows g (None ∷ vs) (s ∷ ss) (r ∷ rs) each rows =
    omega (arith, as_many_rows g vs ss rs each.1 rows.1, sum_by-cons (λ (x : Option ℕ). cond (is_none x) 1 0) None vs)

-- what holds of a value that is returned, by what is known of it
pub ok_more : {A E : Type 0} (P Q : A → Type 0) (r : Result A E) → IfOk r P → ((a : A) → P a → Q a) → IfOk r Q
ok_more P Q (Ok a) known more = more a known
ok_more P Q (Err e) known more = tt

-- the item of a part is that of its slot and node
item_is : (j : JobValue) (s n : ℕ) (p : PartValue) → IsPartOf j s n p → item_of p ≡ item_at j s n
item_is j s n p is =
    ap (λ x. item_at x p.slot p.node) is.job ∙ (ap (λ x. item_at j x p.node) is.slot ∙ ap (λ x. item_at j s x) is.node)

-- so that is what its solved item is
pub item_of_part : {E : Type 0} (j : JobValue) (s n : ℕ) (p : PartValue) (r : Result SolvedValue E) → IsPartOf j s n p → IfOk r (λ q. q ≡ item_of p)
    → IfOk r (λ q. q ≡ item_at j s n)
item_of_part j s n p r is known = ok_more (λ q. q ≡ item_of p) (λ q. q ≡ item_at j s n) r known (λ q e. e ∙ item_is j s n p is)

-- a solved item is a piece at its place
module _ (job : JobValue) where
  pub piece_at : (slot node : ℕ) → node < node_count job.plan
      → IsPieceAt (λ (q : SolvedValue). q.job) (λ q. q.slot) (λ q. q.node) (λ q. None) job (place_of job slot node) (item_at job slot node)
  piece_at slot node less = record { job_is = refl; place_is = refl; node = less; made = tt }

  pub returns_piece : {E : Type 0} (slot node : ℕ) (r : Result SolvedValue E) → node < node_count job.plan
      → IfOk r (λ q. q ≡ item_at job slot node)
      → IfOk r (IsPieceAt (λ (q : SolvedValue). q.job) (λ q. q.slot) (λ q. q.node) (λ q. None) job (place_of job slot node))
  returns_piece slot node r less known =
      ok_more (λ q. q ≡ item_at job slot node) _ r known (λ q e. subst (IsPieceAt (λ (q : SolvedValue). q.job) (λ q. q.slot) (λ q. q.node) (λ q. None) job (place_of job slot node))
      (sym e) (piece_at slot node less))

  pub fusion_below : (node left right : ℕ) → children_of job.plan node ≡ Some (left, right) → node < node_count job.plan
  fusion_below node left right told = let (i, less, is, at) = fusion_of job.plan node left right told in omega (arith, less, is)

  -- the children of a fusion lie below the root
  pub children_below : IsTree job.plan → (node left right : ℕ) → children_of job.plan node ≡ Some (left, right)
      → (left ≢ root_of job.plan) × (right ≢ root_of job.plan)
  children_below tree node left right told =
      let (i, less, is, at) = fusion_of job.plan node left right told in
      let join = tree.joins i less in (
        (λ top. absurd (omega (arith, top, less, is, ap (λ (j : ℕ × ℕ). j.0) at, join.left))),
        (λ top. absurd (omega (arith, top, less, is, ap (λ (j : ℕ × ℕ). j.1) at, join.right))),
      )

-- ---- a window

module _ (g : DecodingGraph) (t : PlanTree) (plan : IsPlan g t) (shots : List ShotValue) (odd : List (Option ℕ)) (even : List ShotValue) (places : List ℕ)
    (sorted : IsSorted g shots odd even places) where
  abbrev job : JobValue
  job = record { graph = g; plan = t; shots = even }

  pub even_of_few : length shots ≤ MOST_AT_ONCE → length even < 2 ^ 32
  even_of_few few = omega (arith, ap length sorted.even_are, even_few g odd shots, few)

  pub even_of_shots : All (IsShot g) shots → All (IsShot g) even
  even_of_shots all = subst (All (IsShot g)) (sym sorted.even_are) (even_shots g odd shots all)

  pub even_of_even : All (IsEven g) even
  even_of_even = subst (All (IsEven g)) (sym sorted.even_are) (even_even g odd shots sorted.each)

  some : 0 < node_count t
  some = omega (arith, plan.tree.count)

  pub at_roots_of : (j : JobValue) → j ≡ job → (roots : List SolvedValue) → AreSolvedRoots j roots → All (λ p. p.node ≡ root_of p.job.plan) roots
  at_roots_of j e roots parts = at_roots job roots some (subst (λ (k : JobValue). AreSolvedRoots k roots) e parts)

  pub even_rows : (j : JobValue) → j ≡ job → (roots : List SolvedValue) (solved : List Row) → AreSolvedRoots j roots → AreRowsOf roots solved → AreRows g even solved
  even_rows j e roots solved parts answers = rows_of_roots job roots solved some (subst (λ (k : JobValue). AreSolvedRoots k roots) e parts) answers

  pub rows_for_even : (solved : List Row) → AreRows g even solved → length solved ≡ count_by is_none odd
  rows_for_even solved answers = as_many_rows g odd shots solved sorted.each (subst (λ ss. AreRows g ss solved) sorted.even_are answers)

  complete_on : (j : JobValue) → j ≡ job → (history : List Entry) → IsCompleteOf j history
      → IsComplete (kids_in t.units t.joins) (node_count t) (length even * node_count t) history
  complete_on j e history complete = subst (λ (k : JobValue). IsCompleteOf k history) e complete

  pub history_fits : (j : JobValue) → j ≡ job → (history : List Entry) → IsCompleteOf j history → All (λ e. e.slot < length places) history
  history_fits j e history complete =
      subst (λ n. All (λ x. x.slot < n) history) as_many (slots_within t plan.tree (length even) history (complete_on j e history complete))
    where
      as_many : length even ≡ length places
      as_many = ap length sorted.even_are ∙ sym (as_many_places g 0 odd shots sorted.each) ∙ sym (ap length sorted.places_are)

  pub window_made : (workers : ℕ) (j : JobValue) → j ≡ job → (solved : List Row) (history : List Entry) → AreRows g even solved → IsCompleteOf j history
      → All (λ e. e.worker ≤ workers) history → All (λ e. e.worker < most_seats workers (length even * t.units)) history
      → IsByItem (node_count t) history
      → AreRows g shots (rows_by odd solved) × IsHistoryOf t workers (rows_by odd solved) (with_places places history)
  window_made workers j e solved history answers complete by seated order =
      sorting_laws g t workers shots odd even places solved history plan.tree sorted answers (complete_on j e history complete) by seated order
