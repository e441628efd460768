-- What follows of allowed and of complete histories.
use Rattle.std.proofs.Common.{ℕ, ◌≡◌, ◌+◌, ◌*◌, ◌<◌, ◌≤◌, ◌==◌, Bool, true, false, Option, Some, None, List, [], ◌∷◌, ◌++◌, length, sum_by, cond, if◌then◌else◌, ◌⊎◌, inl, inr, refl, sym, ap, subst, ◌∙◌, arith, zero, suc}
use Rattle.std.proofs.lemmas.Bool.{eq-eqb, false≢true, true≢false, cases_lt, and_parts, or_parts, or_from, and_from, or_right, or_left}
use Rattle.std.proofs.lemmas.List.Sums.{sum_by-cons}
use Rattle.std.specs.Prelude.{nat_lt}
use Rattle.std.proofs.lemmas.List.Elements.{All-nil, All-cons}
use Rattle.std.specs.List.{All, list_any, list_all}
use Rattle.fb_graph.specs.Parity.{is_in}
use Rattle.fb_book.specs.declared.entries.EntryKind.{EntryKind}
use Rattle.fb_book.specs.declared.entries.EntryKind.TheVariants.{Took, Gave}
use Rattle.fb_book.specs.declared.entries.Entry.{Entry}
use Rattle.fb_book.specs.declared.entries.Status.{Status}
use Rattle.fb_book.specs.declared.entries.Status.TheVariants.{Idle, Held, Given, Used, Left as Lost}
use Rattle.fb_book.specs.Machine.{Kids, IsForest, is_child, status_at, is_idle, is_held, is_given, is_used, is_left, is_over, are_given, can_take, is_permitted, after, place, allows, replay, trace, all_idle, is_loss}
use Rattle.fb_book.specs.Laws.{IsTraceOf, entries_of, Progress, TraceGivesStatus, TwoEach, TakenAndGiven, TakenAndGivenOn, CompleteOnSlots, ChildrenBefore, UsedByParent, DoneIsComplete}
use Rattle.fb_book.proofs.Statuses.{child_given, MayTake, may_take}
use Rattle.fb_book.proofs.Courses.{IsReached, reached, losses_of, loss_of}

-- a test of all statuses, place by place
pub none_at : (p : Status → Bool) → p Used ≡ false → (st : List Status) → list_any p st ≡ false
    → (k : ℕ) → p (status_at st k) ≡ false
none_at p u [] h k = u
none_at p u (s ∷ st) h zero = (or_parts (p s) (list_any p st) h).0
none_at p u (s ∷ st) h (suc k) = none_at p u st (or_parts (p s) (list_any p st) h).1 k

pub none_from : (p : Status → Bool) (st : List Status) → ((k : ℕ) → k < length st → p (status_at st k) ≡ false)
    → list_any p st ≡ false
none_from p [] each = refl
none_from p (s ∷ st) each =
    or_from (p s) (list_any p st) (each 0 (omega arith))
    (none_from p st (λ k less. each (suc k) (omega arith)))

pub all_at : (p : Status → Bool) → p Used ≡ true → (st : List Status) → list_all p st ≡ true
    → (k : ℕ) → p (status_at st k) ≡ true
all_at p u [] h k = u
all_at p u (s ∷ st) h zero = (and_parts (p s) (list_all p st) h).0
all_at p u (s ∷ st) h (suc k) = all_at p u st (and_parts (p s) (list_all p st) h).1 k

pub all_from : (p : Status → Bool) (st : List Status) → ((k : ℕ) → k < length st → p (status_at st k) ≡ true)
    → list_all p st ≡ true
all_from p [] each = refl
all_from p (s ∷ st) each =
    and_from (p s) (list_all p st) (each 0 (omega arith))
    (all_from p st (λ k less. each (suc k) (omega arith)))

-- Every item below k is over, or one below k can be taken.
pub scanned : (kids : Kids) (n count : ℕ) (st : List Status) (h : List Entry) → IsForest kids
    → IsReached kids n count st h
    → list_any is_held st ≡ false → list_any is_left st ≡ false
    → (k : ℕ) → k ≤ count
    → ((j : ℕ) × (j < count) × (can_take kids st j ≡ true)) ⊎ ((j : ℕ) → j < k → is_over (status_at st j) ≡ true)
scanned kids n count st h forest r unheld unleft zero le = inr (λ j less. absurd (omega arith))
scanned kids n count st h forest r unheld unleft (suc k) le =
    step (scanned kids n count st h forest r unheld unleft k (omega arith)) (status_at st k) refl
  where
    Ready : Type 0
    Ready = (j : ℕ) × (j < count) × (can_take kids st j ≡ true)

    more : ((j : ℕ) → j < k → is_over (status_at st j) ≡ true) → is_over (status_at st k) ≡ true
        → (j : ℕ) → j < suc k → is_over (status_at st j) ≡ true
    more before here j less = pick (cases_lt j k)
      where
        pick : (j < k) ⊎ (k ≤ j) → is_over (status_at st j) ≡ true
        pick (inl below) = before j below
        pick (inr above) = let same : j ≡ k = omega arith in ap (λ x. is_over (status_at st x)) same ∙ here

    over_unused : (s : Status) → is_over s ≡ true → is_used s ≡ false → is_given s ≡ true
    over_unused s over unused = elim s as (λ s. is_over s ≡ true → is_used s ≡ false → is_given s ≡ true) [
      | Idle ↦ λ a b. a
      | Held w ↦ λ a b. a
      | Given ↦ λ a b. refl
      | Used ↦ λ a b. absurd (true≢false b)
      | Lost ↦ λ a b. a
    ] over unused

    given : ((j : ℕ) → j < k → is_over (status_at st j) ≡ true) → status_at st k ≡ Idle
        → (children : Option (ℕ × ℕ)) → kids k ≡ children → are_given st children ≡ true
    given before idle None e = refl
    given before idle (Some (a, b)) e =
        and_from (is_given (status_at st a)) (is_given (status_at st b)) (one a (or_left (a == a) (b == a) (eq-eqb a a refl))) (one b (or_right (a == b) (b == b) (eq-eqb b b refl)))
      where
        one : (c : ℕ) → is_child (Some (a, b)) c ≡ true → is_given (status_at st c) ≡ true
        one c child =
            let mine : is_child (kids k) c ≡ true = ap (λ o. is_child o c) e ∙ child in
            over_unused (status_at st c) (before c (forest.before k c mine)) (r.waits k c idle mine)

    step : Ready ⊎ ((j : ℕ) → j < k → is_over (status_at st j) ≡ true) → (s : Status) → status_at st k ≡ s
        → Ready ⊎ ((j : ℕ) → j < suc k → is_over (status_at st j) ≡ true)
    step (inl ready) s e = inl ready
    step (inr before) Idle e =
        inl (k, omega arith, and_from (is_idle (status_at st k)) (are_given st (kids k)) (ap is_idle e) (given before e (kids k) refl))
    step (inr before) (Held w) e = absurd (true≢false (sym (ap is_held e) ∙ none_at is_held refl st unheld k))
    step (inr before) Given e = inr (more before (ap is_over e))
    step (inr before) Used e = inr (more before (ap is_over e))
    step (inr before) Lost e = absurd (true≢false (sym (ap is_left e) ∙ none_at is_left refl st unleft k))

pub progress : Progress
progress kids n count history st forest replayed unheld unleft =
    close (reached kids n count forest history st replayed)
  where
    close : IsReached kids n count st history
        → ((k : ℕ) × (k < count) × (can_take kids st k ≡ true)) ⊎ (list_all is_over st ≡ true)
    close r = elim (scanned kids n count st history forest r unheld unleft count (omega arith)) [
      | inl ready ↦ inl ready
      | inr over ↦ inr (all_from is_over st (λ k less. over k (subst (λ x. k < x) r.size less)))
    ]

pub trace_gives_status : TraceGivesStatus
trace_gives_status kids n count history st forest replayed = (reached kids n count forest history st replayed).told

entries_at_most : (st : List Status) → sum_by entries_of st ≤ 2 * length st
entries_at_most [] = omega arith
entries_at_most (s ∷ st) =
    let rest : sum_by entries_of st ≤ 2 * length st = entries_at_most st in
    let here : entries_of s ≤ 2 = one s in
    let e : sum_by entries_of (s ∷ st) ≡ entries_of s + sum_by entries_of st = sum_by-cons entries_of s st in
    omega (arith, rest, here, e)
  where
    one : (s : Status) → entries_of s ≤ 2
    one Idle = omega arith
    one (Held w) = omega arith
    one Given = omega arith
    one Used = omega arith
    one Lost = omega arith

pub two_each : TwoEach
two_each kids n count history st forest replayed =
    let r = reached kids n count forest history st replayed in
    let most : sum_by entries_of st ≤ 2 * length st = entries_at_most st in
    let all : length history ≡ sum_by entries_of st = r.entries in
    let size : length st ≡ count = r.size in
    (omega (arith, most, all, size), λ k less. few (status_at st k) (trace n k history) (r.told k less))
  where
    few : (s : Status) (done : List (EntryKind × ℕ)) → IsTraceOf s done → length done ≤ 2
    few Idle done e = rw e (omega arith)
    few (Held w) done e = rw e (omega arith)
    few Given done (w, e) = rw e (omega arith)
    few Used done (w, e) = rw e (omega arith)
    few Lost done (w, e) = rw e (omega arith)

pub over_told : (s : Status) (done : List (EntryKind × ℕ)) → is_over s ≡ true → IsTraceOf s done
    → (w : ℕ) × (done ≡ (Took, w) ∷ (Gave, w) ∷ [])
over_told Idle done over told = absurd (false≢true over)
over_told (Held w) done over told = absurd (false≢true over)
over_told Given done over told = told
over_told Used done over told = told
over_told Lost done over told = absurd (false≢true over)

pub taken_and_given : TakenAndGiven
taken_and_given kids n count history forest complete k less =
    over_told (status_at complete.statuses k) (trace n k history)
    (all_at is_over refl complete.statuses complete.over k)
    ((reached kids n count forest history complete.statuses complete.replayed).told k less)

pub taken_and_given_on : TakenAndGivenOn
taken_and_given_on slots kids n count history forest complete slot node at within =
    over_told (status_at complete.statuses (slot * n + node)) (trace n (slot * n + node) history)
    (complete.over slot node at within)
    ((reached kids n count forest history complete.statuses complete.replayed).told (slot * n + node)
    (complete.inside slot node at within))

pub complete_on_slots : CompleteOnSlots
complete_on_slots slots kids n count history inside complete = record {
  inside = inside;
  statuses = complete.statuses;
  replayed = complete.replayed;
  unleft = no_losses history complete.unleft;
  over = λ slot node at within. all_at is_over refl complete.statuses complete.over (slot * n + node);
}
  where
    no_losses : (es : List Entry) → list_any is_loss es ≡ false
        → All (λ e. is_in slots e.slot ≡ true → is_loss e ≡ false) es
    no_losses [] h = All-nil (λ e. is_in slots e.slot ≡ true → is_loss e ≡ false)
    no_losses (e ∷ es) h =
        All-cons (λ e. is_in slots e.slot ≡ true → is_loss e ≡ false) e es
        (λ at. (or_parts (is_loss e) (list_any is_loss es) h).0)
        (no_losses es (or_parts (is_loss e) (list_any is_loss es) h).1)

-- the statuses in the middle of a history, before an entry that was allowed there
pub record Midway (kids : Kids) (n : ℕ) (start : List Status) (before : List Entry) (e : Entry) (rest : List Entry)
    (end : List Status) : Type 0 where
  pub statuses : List Status
  pub replayed : replay kids n start before ≡ Some statuses
  pub allowed : allows kids n statuses e ≡ true
  pub onward : replay kids n (after kids statuses e.kind e.worker (place n e)) rest ≡ Some end

pub midway : (kids : Kids) (n : ℕ) (before : List Entry) (start : List Status) (e : Entry) (rest : List Entry)
    (end : List Status) → replay kids n start (before ++ e ∷ rest) ≡ Some end → Midway kids n start before e rest end
midway kids n [] start e rest end replayed = step (allows kids n start e) refl replayed
  where
    next : List Status
    next = after kids start e.kind e.worker (place n e)

    step : (b : Bool) → allows kids n start e ≡ b → (if b then replay kids n next rest else None) ≡ Some end
        → Midway kids n start [] e rest end
    step true may h = record { statuses = start; replayed = refl; allowed = may; onward = h }
    step false may h = cc
midway kids n (x ∷ before) start e rest end replayed =
    step (allows kids n start x) refl replayed (midway kids n before (after kids start x.kind x.worker (place n x)) e rest end)
  where
    next : List Status
    next = after kids start x.kind x.worker (place n x)

    step : (b : Bool) → allows kids n start x ≡ b
        → (if b then replay kids n next (before ++ e ∷ rest) else None) ≡ Some end
        → (replay kids n next (before ++ e ∷ rest) ≡ Some end → Midway kids n next before e rest end)
        → Midway kids n start (x ∷ before) e rest end
    step true may h go =
        let m = go h in
        record {
          statuses = m.statuses;
          replayed = ap (λ b. if b then replay kids n next before else None) may ∙ m.replayed;
          allowed = m.allowed;
          onward = m.onward;
        }
    step false may h go = cc

pub children_before : ChildrenBefore
children_before kids n count before rest took st forest replayed is_took c child =
    close (midway kids n before (all_idle count) took rest st replayed)
  where
    p : ℕ
    p = place n took

    close : Midway kids n (all_idle count) before took rest st → (w : ℕ) × (trace n c before ≡ (Took, w) ∷ (Gave, w) ∷ [])
    close m =
        let both = and_parts (nat_lt took.node n) (is_permitted kids m.statuses took.kind took.worker p) m.allowed in
        let mine : MayTake kids m.statuses p =
        may_take kids m.statuses took.worker p (ap (λ k. is_permitted kids m.statuses k took.worker p) (sym is_took) ∙ both.1) in
        let r = reached kids n count forest before m.statuses m.replayed in
        let given : status_at m.statuses c ≡ Given = child_given (kids p) m.statuses c mine.given child in
        let size : length m.statuses ≡ count = r.size in
        let p_less : p < length m.statuses = mine.less in
        let c_less : c < p = forest.before p c child in
        over_told (status_at m.statuses c) (trace n c before) (ap is_over given) (r.told c (omega arith))

pub used_by_parent : UsedByParent
used_by_parent kids n count history st forest replayed c less is =
    (reached kids n count forest history st replayed).parent c less is

-- where all is over no entry is a loss
pub no_loss : (kids : Kids) (n count : ℕ) (history : List Entry) (st : List Status) → IsForest kids
    → replay kids n (all_idle count) history ≡ Some st → list_any is_left st ≡ false
    → list_any is_loss history ≡ false
no_loss kids n count history st forest replayed unleft =
    none history (r.losses ∙ nothing st (none_at is_left refl st unleft))
  where
    r : IsReached kids n count st history
    r = reached kids n count forest history st replayed

    nothing : (st : List Status) → ((k : ℕ) → is_left (status_at st k) ≡ false) → sum_by losses_of st ≡ 0
    nothing [] each = refl
    nothing (s ∷ st) each =
        let rest : sum_by losses_of st ≡ 0 = nothing st (λ k. each (suc k)) in
        let here : losses_of s ≡ 0 = one s (each 0) in
        let e : sum_by losses_of (s ∷ st) ≡ losses_of s + sum_by losses_of st = sum_by-cons losses_of s st in
        omega (arith, rest, here, e)
      where
        one : (s : Status) → is_left s ≡ false → losses_of s ≡ 0
        one Idle h = refl
        one (Held w) h = refl
        one Given h = refl
        one Used h = refl
        one Lost h = absurd (true≢false h)

    none : (es : List Entry) → sum_by loss_of es ≡ 0 → list_any is_loss es ≡ false
    none [] h = refl
    none (e ∷ es) h =
        let cons : sum_by loss_of (e ∷ es) ≡ loss_of e + sum_by loss_of es = sum_by-cons loss_of e es in
        or_from (is_loss e) (list_any is_loss es) (one (is_loss e) (omega (arith, cons, h))) (none es (omega (arith, cons, h)))
      where
        one : (b : Bool) → ◌≡◌ {A = ℕ} (cond b 1 0) 0 → b ≡ false
        one true h = absurd (omega (arith, h))
        one false h = refl

pub done_is_complete : DoneIsComplete
done_is_complete kids n count history st forest replayed over = record {
  statuses = st;
  replayed = replayed;
  unleft = no_loss kids n count history st forest replayed
      (none_from is_left st (λ k less. one (status_at st k) (all_at is_over refl st over k)));
  over = over;
}
  where
    one : (s : Status) → is_over s ≡ true → is_left s ≡ false
    one Idle h = refl
    one (Held w) h = refl
    one Given h = refl
    one Used h = refl
    one Lost h = absurd (false≢true h)
