-- What is kept beside a history stays so with each entry.
use Rattle.std.proofs.Common.{ℕ, ◌≡◌, ◌+◌, ◌<◌, ◌≤◌, ◌==◌, ◌&&◌, Bool, true, false, not, is_some, Option, Some, None, List, [], ◌∷◌, ◌++◌, length, set, sum_by, count_by, if◌then◌else◌, ◌⊎◌, inl, inr, refl, sym, ap, subst, ◌∙◌, arith}
use Rattle.std.proofs.lemmas.Bool.{eqb-true, eqb-false, eq-eqb, ne_eqb, lt-ltb, true≢false, cases_lt, and_left, and_right, and_from, or_right, or_left}
use Rattle.std.specs.Prelude.{nat_lt}
use Rattle.std.specs.List.{list_any}
use Rattle.fb_book.specs.declared.entries.EntryKind.TheVariants.{Took}
use Rattle.fb_book.specs.declared.entries.Entry.{Entry}
use Rattle.fb_book.specs.declared.entries.Status.{Status}
use Rattle.fb_book.specs.declared.entries.Status.TheVariants.{Held}
use Rattle.fb_book.specs.Machine.{Kids, IsForest, is_child, status_at, is_idle, is_given, is_used, is_left, are_given, can_take, is_permitted, after, place, allows, replay, all_idle}
use Rattle.fb_book.specs.InternalBoard.{IsBoard, is_ready, unsolved_of}
use Rattle.fb_book.proofs.Statuses.{IsSetAt, here, there, IsTakenAt, taken, used, same, set_at, taken_at, within, child_given, MayTake}
use Rattle.fb_book.proofs.Courses.{sum_taken}
use Rattle.fb_book.proofs.History.{none_at, none_from}
use Rattle.fb_graph.specs.Counts.{as_count}
use Rattle.fb_graph.proofs.Booleans.{as_count-le}

-- one entry more
pub replay_more : (kids : Kids) (n : ℕ) (h : List Entry) (start st : List Status) (e : Entry)
    → replay kids n start h ≡ Some st → allows kids n st e ≡ true
    → replay kids n start (h ++ e ∷ []) ≡ Some (after kids st e.kind e.worker (place n e))
replay_more kids n [] start st e replayed allowed =
    let same : start ≡ st = cc in
    subst (λ s. (if allows kids n s e then Some (after kids s e.kind e.worker (place n e)) else None) ≡ Some (after kids st e.kind e.worker (place n e))) (sym same)
    (rw allowed refl)
replay_more kids n (x ∷ h) start st e replayed allowed =
    step (allows kids n start x) replayed (λ s. replay_more kids n h (after kids start x.kind x.worker (place n x)) st e s allowed)
  where
    next : List Status
    next = after kids start x.kind x.worker (place n x)

    goal : Option (List Status)
    goal = Some (after kids st e.kind e.worker (place n e))

    step : (b : Bool) → (if b then replay kids n next h else None) ≡ Some st
        → (replay kids n next h ≡ Some st → replay kids n next (h ++ e ∷ []) ≡ goal)
        → (if b then replay kids n next (h ++ e ∷ []) else None) ≡ goal
    step true s go = go s
    step false s go = cc

-- After an item is taken the others can be taken as before.
pub can_take_else : (kids : Kids) → IsForest kids → (st : List Status) (w k : ℕ) → MayTake kids st k
    → (q : ℕ) → (k == q) ≡ false → can_take kids (after kids st Took w k) q ≡ can_take kids st q
can_take_else kids forest st w k m q apart = step (at q)
  where
    new : List Status
    new = after kids st Took w k

    at : (j : ℕ) → IsTakenAt (kids k) k w j (status_at st j) (status_at new j)
    at j = taken_at kids st k w j m.less

    given : (j : ℕ) → is_child (kids q) j ≡ true → IsTakenAt (kids k) k w j (status_at st j) (status_at new j)
        → is_given (status_at new j) ≡ is_given (status_at st j)
    given j child (taken i f) = ap is_given f ∙ sym (ap is_given (ap (status_at st) (sym i) ∙ m.idle))
    given j child (used i mine f) = absurd (true≢false (sym (eq-eqb k q (forest.once k q j mine child)) ∙ apart))
    given j child (same i other f) = ap is_given f

    all_given : (children : Option (ℕ × ℕ)) → kids q ≡ children → are_given new children ≡ are_given st children
    all_given None e = refl
    all_given (Some (a, b)) e =
        let one : is_given (status_at new a) ≡ is_given (status_at st a) =
        given a (ap (λ o. is_child o a) e ∙ or_left (a == a) (b == a) (eq-eqb a a refl)) (at a) in
        let two : is_given (status_at new b) ≡ is_given (status_at st b) =
        given b (ap (λ o. is_child o b) e ∙ or_right (a == b) (b == b) (eq-eqb b b refl)) (at b) in
        ap (λ x. x && is_given (status_at new b)) one ∙ ap (λ x. is_given (status_at st a) && x) two

    step : IsTakenAt (kids k) k w q (status_at st q) (status_at new q)
        → (is_idle (status_at new q) && are_given new (kids q)) ≡ (is_idle (status_at st q) && are_given st (kids q))
    step (taken i f) = absurd (true≢false (sym (eq-eqb k q i) ∙ apart))
    step (used i mine f) =
        and_left (is_idle (status_at new q)) (are_given new (kids q)) (ap is_idle f)
        ∙ sym (and_left (is_idle (status_at st q)) (are_given st (kids q)) (ap is_idle (child_given (kids k) st q m.given mine)))
    step (same i other f) =
        ap (λ x. x && are_given new (kids q)) (ap is_idle f)
        ∙ ap (λ x. is_idle (status_at st q) && x) (all_given (kids q) refl)

pub can_take_self : (kids : Kids) (st : List Status) (w k : ℕ) → MayTake kids st k
    → can_take kids (after kids st Took w k) k ≡ false
can_take_self kids st w k m =
    and_left (is_idle (status_at (after kids st Took w k) k)) (are_given (after kids st Took w k) (kids k))
    (busy (taken_at kids st k w k m.less))
  where
    busy : IsTakenAt (kids k) k w k (status_at st k) (status_at (after kids st Took w k) k)
        → is_idle (status_at (after kids st Took w k) k) ≡ false
    busy (taken i f) = ap is_idle f
    busy (used i mine f) = ap is_idle f
    busy (same i other f) = absurd (true≢false (sym (eq-eqb k k refl) ∙ i))

-- After an item is given or left those can be taken that could be, but for the one that it is a child of.
pub can_take_let : (kids : Kids) (st : List Status) (w k : ℕ) (s : Status) → status_at st k ≡ Held w
    → is_idle s ≡ false → (q : ℕ) → (is_given s ≡ false) ⊎ (is_child (kids q) k ≡ false)
    → can_take kids (set st k s) q ≡ can_take kids st q
can_take_let kids st w k s held busy q apart = step (at q)
  where
    new : List Status
    new = set st k s

    at : (j : ℕ) → IsSetAt k s j (status_at st j) (status_at new j)
    at j = set_at st k s j (within st k (ap is_used held))

    given : (j : ℕ) → is_child (kids q) j ≡ true → IsSetAt k s j (status_at st j) (status_at new j)
        → (is_given s ≡ false) ⊎ (is_child (kids q) k ≡ false)
        → is_given (status_at new j) ≡ is_given (status_at st j)
    given j child (here i f) (inl ungiven) = ap is_given f ∙ (ungiven ∙ sym (ap is_given (ap (status_at st) (sym i) ∙ held)))
    given j child (here i f) (inr other) = absurd (true≢false (sym child ∙ (ap (is_child (kids q)) (sym i) ∙ other)))
    given j child (there i f) other = ap is_given f

    all_given : (children : Option (ℕ × ℕ)) → kids q ≡ children → are_given new children ≡ are_given st children
    all_given None e = refl
    all_given (Some (a, b)) e =
        let one : is_given (status_at new a) ≡ is_given (status_at st a) =
        given a (ap (λ o. is_child o a) e ∙ or_left (a == a) (b == a) (eq-eqb a a refl)) (at a) apart in
        let two : is_given (status_at new b) ≡ is_given (status_at st b) =
        given b (ap (λ o. is_child o b) e ∙ or_right (a == b) (b == b) (eq-eqb b b refl)) (at b) apart in
        ap (λ x. x && is_given (status_at new b)) one ∙ ap (λ x. is_given (status_at st a) && x) two

    step : IsSetAt k s q (status_at st q) (status_at new q)
        → (is_idle (status_at new q) && are_given new (kids q)) ≡ (is_idle (status_at st q) && are_given st (kids q))
    step (here i f) =
        and_left (is_idle (status_at new q)) (are_given new (kids q)) (ap is_idle f ∙ busy)
        ∙ sym (and_left (is_idle (status_at st q)) (are_given st (kids q)) (ap is_idle (ap (status_at st) (sym i) ∙ held)))
    step (there i f) =
        ap (λ x. x && are_given new (kids q)) (ap is_idle f)
        ∙ ap (λ x. is_idle (status_at st q) && x) (all_given (kids q) refl)

-- whether the other items are idle
pub idle_else : (kids : Kids) (st : List Status) (w k : ℕ) → MayTake kids st k
    → (q : ℕ) → (k == q) ≡ false → is_idle (status_at (after kids st Took w k) q) ≡ is_idle (status_at st q)
idle_else kids st w k m q apart = step (taken_at kids st k w q m.less)
  where
    step : IsTakenAt (kids k) k w q (status_at st q) (status_at (after kids st Took w k) q)
        → is_idle (status_at (after kids st Took w k) q) ≡ is_idle (status_at st q)
    step (taken i f) = absurd (true≢false (sym (eq-eqb k q i) ∙ apart))
    step (used i mine f) = ap is_idle f ∙ sym (ap is_idle (child_given (kids k) st q m.given mine))
    step (same i other f) = ap is_idle f

pub idle_self : (kids : Kids) (st : List Status) (w k : ℕ) → MayTake kids st k
    → is_idle (status_at (after kids st Took w k) k) ≡ false
idle_self kids st w k m = busy (taken_at kids st k w k m.less)
  where
    busy : IsTakenAt (kids k) k w k (status_at st k) (status_at (after kids st Took w k) k)
        → is_idle (status_at (after kids st Took w k) k) ≡ false
    busy (taken i f) = ap is_idle f
    busy (used i mine f) = ap is_idle f
    busy (same i other f) = absurd (true≢false (sym (eq-eqb k k refl) ∙ i))

pub idle_let : (st : List Status) (w k : ℕ) (s : Status) → status_at st k ≡ Held w → is_idle s ≡ false
    → (q : ℕ) → is_idle (status_at (set st k s) q) ≡ is_idle (status_at st q)
idle_let st w k s held busy q = step (set_at st k s q (within st k (ap is_used held)))
  where
    step : IsSetAt k s q (status_at st q) (status_at (set st k s) q)
        → is_idle (status_at (set st k s) q) ≡ is_idle (status_at st q)
    step (here i f) = ap is_idle f ∙ (busy ∙ sym (ap is_idle (ap (status_at st) (sym i) ∙ held)))
    step (there i f) = ap is_idle f

-- nothing is left after an item was taken
pub unleft_after : (kids : Kids) (st : List Status) (w k : ℕ) → MayTake kids st k
    → list_any is_left (after kids st Took w k) ≡ false
unleft_after kids st w k m =
    none_from is_left (after kids st Took w k) (λ q less. step q (taken_at kids st k w q m.less))
  where
    step : (q : ℕ) → IsTakenAt (kids k) k w q (status_at st q) (status_at (after kids st Took w k) q)
        → is_left (status_at (after kids st Took w k) q) ≡ false
    step q (taken i f) = ap is_left f
    step q (used i mine f) = ap is_left f
    step q (same i other f) = ap is_left f ∙ none_at is_left refl st m.unstarved q

-- the same of the parts of what was taken
pub record Taking (kids : Kids) (n : ℕ) (st : List Status) (e : Entry) (k : ℕ) : Type 0 where
  pub kind : e.kind ≡ Took
  pub node : e.node < n
  pub place : place n e ≡ k
  pub may : MayTake kids st k

pub allows_taking : (kids : Kids) (n : ℕ) (st : List Status) (e : Entry) (k : ℕ) → Taking kids n st e k
    → allows kids n st e ≡ true
allows_taking kids n st e k t =
    and_from (nat_lt e.node n) (is_permitted kids st e.kind e.worker (place n e)) (lt-ltb e.node n t.node)
    (subst (λ x. is_permitted kids st x e.worker (place n e) ≡ true) (sym t.kind)
    (subst (λ p. is_permitted kids st Took e.worker p ≡ true) (sym t.place) granted))
  where
    idle : can_take kids st k ≡ true
    idle = and_from (is_idle (status_at st k)) (are_given st (kids k)) (ap is_idle t.may.idle) t.may.given

    granted : is_permitted kids st Took e.worker k ≡ true
    granted = and_from (not (list_any is_left st)) (can_take kids st k) (ap not t.may.unstarved) idle

pub replay_taking : (kids : Kids) (n count : ℕ) (h : List Entry) (st : List Status) (e : Entry) (k : ℕ)
    → replay kids n (all_idle count) h ≡ Some st → Taking kids n st e k
    → replay kids n (all_idle count) (h ++ e ∷ []) ≡ Some (after kids st Took e.worker k)
replay_taking kids n count h st e k replayed t =
    replay_more kids n h (all_idle count) st e replayed (allows_taking kids n st e k t)
    ∙ (ap (λ x. Some (after kids st x e.worker (place n e))) t.kind
    ∙ ap (λ p. Some (after kids st Took e.worker p)) t.place)

-- A fusion was taken.
pub kept_fusion : (kids : Kids) (n count : ℕ) → IsForest kids → (h : List Entry) (st : List Status) (ready : List ℕ)
    (ready_room next unsolved : ℕ) (starved : Bool) (room : ℕ)
    → IsBoard kids n count h st ready ready_room next unsolved starved room
    → (e : Entry) (k : ℕ) → Taking kids n st e k → is_some (kids k) ≡ true
    → (left : List ℕ) → length left ≤ length ready
    → ((q : ℕ) → count_by (λ j. j == q) ready ≡ as_count (k == q) + count_by (λ j. j == q) left)
    → IsBoard kids n count (h ++ e ∷ []) (after kids st Took e.worker k) left ready_room next unsolved starved room
kept_fusion kids n count forest h st ready ready_room next unsolved starved room b e k t fusion left shorter popped = record {
  replayed = replay_taking kids n count h st e k b.replayed t;
  loss = b.loss ∙ (t.may.unstarved ∙ sym (unleft_after kids st e.worker k t.may));
  rest =
      let more : sum_by unsolved_of new + 1 ≡ sum_by unsolved_of st + 1 =
      sum_taken unsolved_of refl kids forest st e.worker k t.may in
      let was : unsolved ≡ sum_by unsolved_of st = b.rest in
      omega (arith, more, was);
  each = λ q. tally q (k == q) refl;
  heap_room =
      let was : length ready + unsolved ≤ ready_room = b.heap_room in
      omega (arith, was, shorter);
  before = λ q is less. before q (k == q) refl (b.before q is less);
  unit = b.unit;
  behind = λ q is more less. behind q is (k == q) refl (b.behind q is more less);
  history_room = b.history_room;
}
  where
    new : List Status
    new = after kids st Took e.worker k

    tally : (q : ℕ) (x : Bool) → (k == q) ≡ x → count_by (λ j. j == q) left ≡ as_count (is_ready kids new q)
    tally q true at =
        let mine : count_by (λ j. j == q) ready ≡ as_count (is_ready kids st q) = b.each q in
        let one : as_count (k == q) ≡ 1 = ap as_count at in
        let few : as_count (is_ready kids st q) ≤ 1 = as_count-le (is_ready kids st q) in
        let gone : as_count (is_ready kids new q) ≡ 0 =
        ap as_count (and_right (is_some (kids q)) (can_take kids new q)
        (ap (can_take kids new) (sym (eqb-true k q at)) ∙ can_take_self kids st e.worker k t.may)) in
        let step : count_by (λ j. j == q) ready ≡ as_count (k == q) + count_by (λ j. j == q) left = popped q in
        omega (arith, mine, one, few, gone, step)
    tally q false at =
        let mine : count_by (λ j. j == q) ready ≡ as_count (is_ready kids st q) = b.each q in
        let none : as_count (k == q) ≡ 0 = ap as_count at in
        let kept : as_count (is_ready kids new q) ≡ as_count (is_ready kids st q) =
        ap (λ x. as_count (is_some (kids q) && x)) (can_take_else kids forest st e.worker k t.may q at) in
        let step : count_by (λ j. j == q) ready ≡ as_count (k == q) + count_by (λ j. j == q) left = popped q in
        omega (arith, mine, none, kept, step)

    before : (q : ℕ) (x : Bool) → (k == q) ≡ x → is_idle (status_at st q) ≡ false → is_idle (status_at new q) ≡ false
    before q true at was = ap (λ j. is_idle (status_at new j)) (sym (eqb-true k q at)) ∙ idle_self kids st e.worker k t.may
    before q false at was = idle_else kids st e.worker k t.may q at ∙ was

    behind : (q : ℕ) → kids q ≡ None → (x : Bool) → (k == q) ≡ x → is_idle (status_at st q) ≡ true
        → is_idle (status_at new q) ≡ true
    behind q is true at was = absurd (true≢false (sym fusion ∙ ap is_some (ap kids (eqb-true k q at) ∙ is)))
    behind q is false at was = idle_else kids st e.worker k t.may q at ∙ was

-- A unit was taken, the first one; `after_it` is the next one.
pub kept_unit : (kids : Kids) (n count : ℕ) → IsForest kids → (h : List Entry) (st : List Status) (ready : List ℕ)
    (ready_room next unsolved : ℕ) (starved : Bool) (room : ℕ)
    → IsBoard kids n count h st ready ready_room next unsolved starved room
    → (e : Entry) → Taking kids n st e next → kids next ≡ None
    → (after_it : ℕ) → next < after_it → (after_it < count → kids after_it ≡ None)
    → ((q : ℕ) → kids q ≡ None → next < q → after_it ≤ q)
    → IsBoard kids n count (h ++ e ∷ []) (after kids st Took e.worker next) ready ready_room after_it unsolved starved room
kept_unit kids n count forest h st ready ready_room next unsolved starved room b e t unit after_it later is_unit gap = record {
  replayed = replay_taking kids n count h st e next b.replayed t;
  loss = b.loss ∙ (t.may.unstarved ∙ sym (unleft_after kids st e.worker next t.may));
  rest =
      let more : sum_by unsolved_of new + 1 ≡ sum_by unsolved_of st + 1 =
      sum_taken unsolved_of refl kids forest st e.worker next t.may in
      let was : unsolved ≡ sum_by unsolved_of st = b.rest in
      omega (arith, more, was);
  each = λ q. b.each q ∙ ap as_count (sym (as_before q (next == q) refl));
  heap_room = b.heap_room;
  before = λ q is less. before q is less (next == q) refl (cases_lt q next);
  unit = is_unit;
  behind = λ q is more less. behind q is more less;
  history_room = b.history_room;
}
  where
    new : List Status
    new = after kids st Took e.worker next

    as_before : (q : ℕ) (x : Bool) → (next == q) ≡ x → is_ready kids new q ≡ is_ready kids st q
    as_before q true at =
        let none : is_some (kids q) ≡ false = ap is_some (ap kids (sym (eqb-true next q at)) ∙ unit) in
        and_left (is_some (kids q)) (can_take kids new q) none ∙ sym (and_left (is_some (kids q)) (can_take kids st q) none)
    as_before q false at = ap (λ x. is_some (kids q) && x) (can_take_else kids forest st e.worker next t.may q at)

    before : (q : ℕ) → kids q ≡ None → q < after_it → (x : Bool) → (next == q) ≡ x → (q < next) ⊎ (next ≤ q)
        → is_idle (status_at new q) ≡ false
    before q is less true at side =
        ap (λ j. is_idle (status_at new j)) (sym (eqb-true next q at)) ∙ idle_self kids st e.worker next t.may
    before q is less false at (inl below) = idle_else kids st e.worker next t.may q at ∙ b.before q is below
    before q is less false at (inr above) =
        let apart : next ≡ q → ⊥ = eqb-false next q at in
        let over : next < q = strictly above apart in
        let far : after_it ≤ q = gap q is over in
        absurd (omega (arith, far, less))
      where
        strictly : next ≤ q → (next ≡ q → ⊥) → next < q
        strictly le ne = pick (cases_lt next q)
          where
            pick : (next < q) ⊎ (q ≤ next) → next < q
            pick (inl l) = l
            pick (inr m) = absurd (ne (omega (arith, m, le)))

    behind : (q : ℕ) → kids q ≡ None → after_it ≤ q → q < count → is_idle (status_at new q) ≡ true
    behind q is more less =
        idle_else kids st e.worker next t.may q (ne_eqb next q (λ s. absurd (omega (arith, s, later, more))))
        ∙ b.behind q is (omega (arith, later, more)) less
