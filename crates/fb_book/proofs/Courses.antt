-- What every allowed history keeps, by one induction over its entries.
use Rattle.std.proofs.Common.{ℕ, ◌≡◌, ◌+◌, ◌*◌, ◌<◌, ◌==◌, Bool, true, false, Option, Some, None, List, [], ◌∷◌, ◌++◌, length, set, replicate, map, filter, sum_by, cond, if◌then◌else◌, refl, sym, ap, subst, ◌∙◌, arith}
use Rattle.std.proofs.lemmas.Bool.{eq-eqb, false≢true, true≢false, and_parts, or_right, or_left}
use Rattle.std.proofs.lemmas.List.{get_or-replicate, length-replicate, length-append, length-set, append_assoc, append-nil, map-append}
use Rattle.std.proofs.lemmas.List.Elements.{filter-append}
use Rattle.std.proofs.lemmas.List.Folds.{sum_by-replicate}
use Rattle.std.proofs.lemmas.List.Sums.{sum_by-set, sum_by_push}
use Rattle.std.proofs.lemmas.Option.{same_Some}
use Rattle.std.specs.Prelude.{nat_lt}
use Rattle.fb_book.specs.declared.entries.EntryKind.{EntryKind}
use Rattle.fb_book.specs.declared.entries.EntryKind.TheVariants.{Took, Gave, Left}
use Rattle.fb_book.specs.declared.entries.Entry.{Entry}
use Rattle.fb_book.specs.declared.entries.Status.{Status}
use Rattle.fb_book.specs.declared.entries.Status.TheVariants.{Idle, Held, Given, Used, Left as Lost}
use Rattle.fb_book.specs.Machine.{Kids, IsForest, is_child, status_at, is_idle, is_held_by, is_used, are_given, is_permitted, with_used, after, place, allows, replay, trace, all_idle, is_loss, is_loss_kind}
use Rattle.fb_book.specs.Laws.{IsTraceOf, entries_of}
use Rattle.fb_book.proofs.Statuses.{IsSetAt, here, there, IsTakenAt, taken, used, same, set_at, taken_at, used_at, IsUsedAt, within, length-after, length-with_used, held_is, child_given, MayTake, may_take}

-- how many of its entries are losses
abbrev pub losses_of : Status → ℕ
losses_of Idle = 0
losses_of (Held w) = 0
losses_of Given = 0
losses_of Used = 0
losses_of Lost = 1

abbrev pub loss_of : Entry → ℕ
loss_of e = cond (is_loss e) 1 0

-- what holds after each allowed history
pub record IsReached (kids : Kids) (n count : ℕ) (st : List Status) (h : List Entry) : Type 0 where
  pub size : length st ≡ count
  pub told : (k : ℕ) → k < count → IsTraceOf (status_at st k) (trace n k h)
  pub entries : length h ≡ sum_by entries_of st
  pub losses : sum_by loss_of h ≡ sum_by losses_of st
  pub waits : (k c : ℕ) → status_at st k ≡ Idle → is_child (kids k) c ≡ true → is_used (status_at st c) ≡ false
  pub parent : (c : ℕ) → c < count → status_at st c ≡ Used
      → (k : ℕ) × (k < count) × (is_child (kids k) c ≡ true) × (is_idle (status_at st k) ≡ false)

-- the trace after one more entry
pub trace_here : (n k : ℕ) (h : List Entry) (e : Entry) → place n e ≡ k
    → trace n k (h ++ e ∷ []) ≡ trace n k h ++ (e.kind, e.worker) ∷ []
trace_here n k h e at =
    ap (map (λ x. (x.kind, x.worker))) (filter-append (λ x. place n x == k) h (e ∷ []))
    ∙ (map-append (λ x. (x.kind, x.worker)) (filter (λ x. place n x == k) h) (filter (λ x. place n x == k) (e ∷ []))
    ∙ ap (λ xs. trace n k h ++ map (λ x. (x.kind, x.worker)) xs) (one (place n e == k) (eq-eqb (place n e) k at)))
  where
    one : (b : Bool) → b ≡ true → cond b (e ∷ []) [] ≡ e ∷ []
    one b f = rw f refl

pub trace_else : (n k : ℕ) (h : List Entry) (e : Entry) → (place n e == k) ≡ false
    → trace n k (h ++ e ∷ []) ≡ trace n k h
trace_else n k h e at =
    ap (map (λ x. (x.kind, x.worker))) (filter-append (λ x. place n x == k) h (e ∷ []))
    ∙ (map-append (λ x. (x.kind, x.worker)) (filter (λ x. place n x == k) h) (filter (λ x. place n x == k) (e ∷ []))
    ∙ (ap (λ xs. trace n k h ++ map (λ x. (x.kind, x.worker)) xs) (one (place n e == k) at) ∙ append-nil (trace n k h)))
  where
    one : (b : Bool) → b ≡ false → cond b (e ∷ []) [] ≡ []
    one b f = rw f refl

-- a sum over the statuses after an item was taken, for a term that tells no given item from a used one
pub sum_used : (f : Status → ℕ) → f Given ≡ f Used → (children : Option (ℕ × ℕ)) (st : List Status)
    → are_given st children ≡ true
    → ((pair : ℕ × ℕ) → children ≡ Some pair → (pair.0 == pair.1) ≡ false)
    → sum_by f (with_used children st) ≡ sum_by f st
sum_used f level None st given differ = refl
sum_used f level (Some (a, b)) st given differ =
    let a_is : status_at st a ≡ Given = child_given (Some (a, b)) st a given (or_left (a == a) (b == a) (eq-eqb a a refl)) in
    let b_is : status_at st b ≡ Given = child_given (Some (a, b)) st b given (or_right (a == b) (b == b) (eq-eqb b b refl)) in
    let a_less : a < length st = within st a (ap is_used a_is) in
    let b_less : b < length st = within st b (ap is_used b_is) in
    let one : sum_by f (set st a Used) + f (status_at st a) ≡ sum_by f st + f Used = sum_by-set f st a Used Used a_less in
    let two : sum_by f (set (set st a Used) b Used) + f (status_at (set st a Used) b) ≡ sum_by f (set st a Used) + f Used =
    sum_by-set f (set st a Used) b Used Used (rw (length-set st a Used) b_less) in
    let kept : status_at (set st a Used) b ≡ Given = stays (set_at st a Used b a_less) b_is in
    let f_a : f (status_at st a) ≡ f Used = ap f a_is ∙ level in
    let f_b : f (status_at (set st a Used) b) ≡ f Used = ap f kept ∙ level in
    omega (arith, one, two, f_a, f_b)
  where
    stays : IsSetAt a Used b (status_at st b) (status_at (set st a Used) b) → status_at st b ≡ Given
        → status_at (set st a Used) b ≡ Given
    stays (here e f) g = absurd (true≢false (sym (eq-eqb a b e) ∙ differ (a, b) refl))
    stays (there e f) g = f ∙ g

pub sum_taken : (f : Status → ℕ) → f Given ≡ f Used → (kids : Kids) → IsForest kids → (st : List Status) (w k : ℕ)
    → MayTake kids st k → sum_by f (after kids st Took w k) + f Idle ≡ sum_by f st + f (Held w)
sum_taken f level kids forest st w k m =
    let middle : List Status = with_used (kids k) st in
    let same : sum_by f middle ≡ sum_by f st = sum_used f level (kids k) st m.given (forest.differ k) in
    let idle : status_at middle k ≡ Idle = stays (used_at (kids k) st k) in
    let f_idle : f (status_at middle k) ≡ f Idle = ap f idle in
    let step : sum_by f (set middle k (Held w)) + f (status_at middle k) ≡ sum_by f middle + f (Held w) =
    sum_by-set f middle k (Held w) Used (rw (length-with_used (kids k) st) m.less) in
    omega (arith, step, same, f_idle)
  where
    stays : IsUsedAt (kids k) k (status_at st k) (status_at (with_used (kids k) st) k)
        → status_at (with_used (kids k) st) k ≡ Idle
    stays (used e f) = let less : k < k = forest.before k k e in absurd (omega arith)
    stays (same e f) = f ∙ m.idle

pub reached_start : (kids : Kids) (n count : ℕ) → IsForest kids → IsReached kids n count (all_idle count) []
reached_start kids n count forest = record {
  size = length-replicate count Idle;
  told = λ k less. subst (λ s. IsTraceOf s []) (sym (idle k less)) refl;
  entries = let e : sum_by entries_of (replicate count Idle) ≡ count * 0 = sum_by-replicate entries_of count Idle in omega (arith, e);
  losses = let e : sum_by losses_of (replicate count Idle) ≡ count * 0 = sum_by-replicate losses_of count Idle in omega (arith, e);
  waits = λ k c at child.
      let less : k < count = subst (λ m. k < m) (length-replicate count Idle) (within (all_idle count) k (ap is_used at)) in
      let below : c < k = forest.before k c child in
      ap is_used (idle c (omega arith));
  parent = λ c less at. absurd (false≢true (ap is_used (sym (idle c less) ∙ at)));
}
  where
    idle : (k : ℕ) → k < count → status_at (all_idle count) k ≡ Idle
    idle k less = get_or-replicate count k Idle Used less

-- an item that wasn't used is no child of one that was taken before
abbrev pub Step : Kids → ℕ → ℕ → List Status → List Entry → Entry → EntryKind → Type 0
Step kids n count st h e kind = IsReached kids n count st h → e.kind ≡ kind
    → is_permitted kids st kind e.worker (place n e) ≡ true
    → IsReached kids n count (after kids st kind e.worker (place n e)) (h ++ e ∷ [])

pub reached_took : (kids : Kids) (n count : ℕ) → IsForest kids → (st : List Status) (h : List Entry) (e : Entry)
    → Step kids n count st h e Took
reached_took kids n count forest st h e r kind allowed = record {
  size = length-after kids st p w ∙ r.size;
  told = λ k less. told k less (at k) (r.told k less);
  entries =
      let longer : length (h ++ e ∷ []) ≡ length h + 1 = length-append h (e ∷ []) in
      let more : sum_by entries_of new + 0 ≡ sum_by entries_of st + 1 = sum_taken entries_of refl kids forest st w p m in
      let before : length h ≡ sum_by entries_of st = r.entries in
      omega (arith, longer, more, before);
  losses =
      let longer : sum_by loss_of (h ++ e ∷ []) ≡ sum_by loss_of h + loss_of e = sum_by_push loss_of h e in
      let none : loss_of e ≡ 0 = ap (λ k. cond (is_loss_kind k) 1 0) kind in
      let more : sum_by losses_of new + 0 ≡ sum_by losses_of st + 0 = sum_taken losses_of refl kids forest st w p m in
      let before : sum_by loss_of h ≡ sum_by losses_of st = r.losses in
      omega (arith, longer, more, before, none);
  waits = λ k c idle child. waits k c idle child (at k) (at c);
  parent = λ c less is. parent c less is (at c);
}
  where
    p : ℕ
    p = place n e

    w : ℕ
    w = e.worker

    new : List Status
    new = after kids st Took w p

    m : MayTake kids st p
    m = may_take kids st w p allowed

    at : (k : ℕ) → IsTakenAt (kids p) p w k (status_at st k) (status_at new k)
    at k = taken_at kids st p w k m.less

    told : (k : ℕ) → k < count → IsTakenAt (kids p) p w k (status_at st k) (status_at new k)
        → IsTraceOf (status_at st k) (trace n k h) → IsTraceOf (status_at new k) (trace n k (h ++ e ∷ []))
    told k less (taken i f) before =
        let nothing : trace n k h ≡ [] = subst (λ s. IsTraceOf s (trace n k h)) (ap (status_at st) (sym i) ∙ m.idle) before in
        subst (λ s. IsTraceOf s (trace n k (h ++ e ∷ []))) (sym f)
        (trace_here n k h e i ∙ (ap (λ xs. xs ++ (e.kind, w) ∷ []) nothing ∙ ap (λ x. (x, w) ∷ []) kind))
    told k less (used apart child f) before =
        let was : status_at st k ≡ Given = child_given (kids p) st k m.given child in
        let given : IsTraceOf Given (trace n k h) = subst (λ s. IsTraceOf s (trace n k h)) was before in
        subst (λ s. IsTraceOf s (trace n k (h ++ e ∷ []))) (sym f)
        (subst (λ xs. IsTraceOf Used xs) (sym (trace_else n k h e apart)) given)
    told k less (same apart child f) before =
        subst (λ s. IsTraceOf s (trace n k (h ++ e ∷ []))) (sym f)
        (subst (λ xs. IsTraceOf (status_at st k) xs) (sym (trace_else n k h e apart)) before)

    waits : (k c : ℕ) → status_at new k ≡ Idle → is_child (kids k) c ≡ true
        → IsTakenAt (kids p) p w k (status_at st k) (status_at new k)
        → IsTakenAt (kids p) p w c (status_at st c) (status_at new c) → is_used (status_at new c) ≡ false
    waits k c idle child (taken i f) there' = absurd (true≢false (ap is_idle (sym idle ∙ f)))
    waits k c idle child (used i j f) there' = absurd (true≢false (ap is_idle (sym idle ∙ f)))
    waits k c idle child (same i j f) (taken g x) = ap is_used x
    waits k c idle child (same i j f) (used g below x) =
        absurd (true≢false (sym (eq-eqb p k (forest.once p k c below child)) ∙ i))
    waits k c idle child (same i j f) (same g other x) = ap is_used x ∙ r.waits k c (sym f ∙ idle) child

    parent : (c : ℕ) → c < count → status_at new c ≡ Used
        → IsTakenAt (kids p) p w c (status_at st c) (status_at new c)
        → (k : ℕ) × (k < count) × (is_child (kids k) c ≡ true) × (is_idle (status_at new k) ≡ false)
    parent c less is (taken i f) = absurd (false≢true (ap is_used (sym f ∙ is)))
    parent c less is (used i child f) =
        (p, subst (λ x. p < x) r.size m.less, child, ap is_idle (self (at p)))
      where
        self : IsTakenAt (kids p) p w p (status_at st p) (status_at new p) → status_at new p ≡ Held w
        self (taken i f) = f
        self (used i j f) = absurd (true≢false (sym (eq-eqb p p refl) ∙ i))
        self (same i j f) = absurd (true≢false (sym (eq-eqb p p refl) ∙ i))
    parent c less is (same i j f) = pass (r.parent c less (sym f ∙ is))
      where
        busy : (k : ℕ) → is_idle (status_at st k) ≡ false
            → IsTakenAt (kids p) p w k (status_at st k) (status_at new k) → is_idle (status_at new k) ≡ false
        busy k was (taken i f) = ap is_idle f
        busy k was (used i j f) = ap is_idle f
        busy k was (same i j f) = ap is_idle f ∙ was

        pass : (k : ℕ) × (k < count) × (is_child (kids k) c ≡ true) × (is_idle (status_at st k) ≡ false)
            → (k : ℕ) × (k < count) × (is_child (kids k) c ≡ true) × (is_idle (status_at new k) ≡ false)
        pass (k, below, child, was) = (k, below, child, busy k was (at k))

-- The step where a held item becomes s, given or left.
pub record IsLet (kind : EntryKind) (s : Status) : Type 0 where
  pub entries : entries_of s ≡ 2
  pub losses : losses_of s ≡ cond (is_loss_kind kind) 1 0
  pub busy : is_idle s ≡ false
  pub unused : is_used s ≡ false
  pub told : (w : ℕ) → IsTraceOf s ((Took, w) ∷ (kind, w) ∷ [])

pub reached_let : (kids : Kids) (n count : ℕ) (st : List Status) (h : List Entry) (e : Entry) (kind : EntryKind) (s : Status)
    → IsLet kind s → IsReached kids n count st h → e.kind ≡ kind
    → is_held_by e.worker (status_at st (place n e)) ≡ true
    → IsReached kids n count (set st (place n e) s) (h ++ e ∷ [])
reached_let kids n count st h e kind s facts r kind_is allowed = record {
  size = length-set st p s ∙ r.size;
  told = λ k less. told k less (at k) (r.told k less);
  entries =
      let longer : length (h ++ e ∷ []) ≡ length h + 1 = length-append h (e ∷ []) in
      let more : sum_by entries_of new + entries_of (status_at st p) ≡ sum_by entries_of st + entries_of s =
      sum_by-set entries_of st p s Used less in
      let one : entries_of (status_at st p) ≡ 1 = ap entries_of held in
      let two : entries_of s ≡ 2 = facts.entries in
      let before : length h ≡ sum_by entries_of st = r.entries in
      omega (arith, longer, more, one, two, before);
  losses =
      let longer : sum_by loss_of (h ++ e ∷ []) ≡ sum_by loss_of h + loss_of e = sum_by_push loss_of h e in
      let term : loss_of e ≡ losses_of s = ap (λ k. cond (is_loss_kind k) 1 0) kind_is ∙ sym facts.losses in
      let more : sum_by losses_of new + losses_of (status_at st p) ≡ sum_by losses_of st + losses_of s =
      sum_by-set losses_of st p s Used less in
      let none : losses_of (status_at st p) ≡ 0 = ap losses_of held in
      let before : sum_by loss_of h ≡ sum_by losses_of st = r.losses in
      omega (arith, longer, term, more, none, before);
  waits = λ k c idle child. waits k c idle child (at k) (at c);
  parent = λ c less is. parent c less is (at c);
}
  where
    p : ℕ
    p = place n e

    new : List Status
    new = set st p s

    held : status_at st p ≡ Held e.worker
    held = held_is e.worker (status_at st p) allowed

    less : p < length st
    less = within st p (ap is_used held)

    at : (k : ℕ) → IsSetAt p s k (status_at st k) (status_at new k)
    at k = set_at st p s k less

    told : (k : ℕ) → k < count → IsSetAt p s k (status_at st k) (status_at new k)
        → IsTraceOf (status_at st k) (trace n k h) → IsTraceOf (status_at new k) (trace n k (h ++ e ∷ []))
    told k below (here i f) before =
        let one : trace n k h ≡ (Took, e.worker) ∷ [] =
        subst (λ s. IsTraceOf s (trace n k h)) (ap (status_at st) (sym i) ∙ held) before in
        let two : trace n k (h ++ e ∷ []) ≡ (Took, e.worker) ∷ (kind, e.worker) ∷ [] =
        trace_here n k h e i
        ∙ (ap (λ xs. xs ++ (e.kind, e.worker) ∷ []) one ∙ ap (λ x. (Took, e.worker) ∷ (x, e.worker) ∷ []) kind_is) in
        subst (λ s. IsTraceOf s (trace n k (h ++ e ∷ []))) (sym f) (subst (λ xs. IsTraceOf s xs) (sym two) (facts.told e.worker))
    told k below (there apart f) before =
        subst (λ s. IsTraceOf s (trace n k (h ++ e ∷ []))) (sym f)
        (subst (λ xs. IsTraceOf (status_at st k) xs) (sym (trace_else n k h e apart)) before)

    waits : (k c : ℕ) → status_at new k ≡ Idle → is_child (kids k) c ≡ true
        → IsSetAt p s k (status_at st k) (status_at new k) → IsSetAt p s c (status_at st c) (status_at new c)
        → is_used (status_at new c) ≡ false
    waits k c idle child (here i f) other = absurd (true≢false (ap is_idle (sym idle ∙ f) ∙ facts.busy))
    waits k c idle child (there i f) (here g x) = ap is_used x ∙ facts.unused
    waits k c idle child (there i f) (there g x) = ap is_used x ∙ r.waits k c (sym f ∙ idle) child

    parent : (c : ℕ) → c < count → status_at new c ≡ Used → IsSetAt p s c (status_at st c) (status_at new c)
        → (k : ℕ) × (k < count) × (is_child (kids k) c ≡ true) × (is_idle (status_at new k) ≡ false)
    parent c below is (here i f) = absurd (false≢true (sym facts.unused ∙ ap is_used (sym f ∙ is)))
    parent c below is (there i f) = pass (r.parent c below (sym f ∙ is))
      where
        busy : (k : ℕ) → is_idle (status_at st k) ≡ false → IsSetAt p s k (status_at st k) (status_at new k)
            → is_idle (status_at new k) ≡ false
        busy k was (here i f) = ap is_idle f ∙ facts.busy
        busy k was (there i f) = ap is_idle f ∙ was

        pass : (k : ℕ) × (k < count) × (is_child (kids k) c ≡ true) × (is_idle (status_at st k) ≡ false)
            → (k : ℕ) × (k < count) × (is_child (kids k) c ≡ true) × (is_idle (status_at new k) ≡ false)
        pass (k, k_below, child, was) = (k, k_below, child, busy k was (at k))

pub given_facts : IsLet Gave Given
given_facts = record { entries = refl; losses = refl; busy = refl; unused = refl; told = λ w. (w, refl) }

pub left_facts : IsLet Left Lost
left_facts = record { entries = refl; losses = refl; busy = refl; unused = refl; told = λ w. (w, refl) }

pub reached_step : (kids : Kids) (n count : ℕ) → IsForest kids → (st : List Status) (h : List Entry) (e : Entry)
    → IsReached kids n count st h → allows kids n st e ≡ true
    → IsReached kids n count (after kids st e.kind e.worker (place n e)) (h ++ e ∷ [])
reached_step kids n count forest st h e r allowed =
    turn e.kind refl (and_parts (nat_lt e.node n) (is_permitted kids st e.kind e.worker (place n e)) allowed).1
  where
    turn : (kind : EntryKind) → e.kind ≡ kind → is_permitted kids st kind e.worker (place n e) ≡ true
        → IsReached kids n count (after kids st kind e.worker (place n e)) (h ++ e ∷ [])
    turn Took is may = reached_took kids n count forest st h e r is may
    turn Gave is may = reached_let kids n count st h e Gave Given given_facts r is may
    turn Left is may = reached_let kids n count st h e Left Lost left_facts r is may

pub reached_on : (kids : Kids) (n count : ℕ) → IsForest kids → (es : List Entry) (st end : List Status) (h : List Entry)
    → IsReached kids n count st h → replay kids n st es ≡ Some end → IsReached kids n count end (h ++ es)
reached_on kids n count forest [] st end h r e =
    subst (λ s. IsReached kids n count s (h ++ [])) (same_Some _ _ e) (subst (λ x. IsReached kids n count st x) (sym (append-nil h)) r)
reached_on kids n count forest (x ∷ es) st end h r e =
    step (allows kids n st x) refl e
    (λ r' e'. reached_on kids n count forest es (after kids st x.kind x.worker (place n x)) end (h ++ x ∷ []) r' e')
  where
    next : List Status
    next = after kids st x.kind x.worker (place n x)

    step : (b : Bool) → allows kids n st x ≡ b → (if b then replay kids n next es else None) ≡ Some end
        → (IsReached kids n count next (h ++ x ∷ []) → replay kids n next es ≡ Some end
        → IsReached kids n count end ((h ++ x ∷ []) ++ es))
        → IsReached kids n count end (h ++ x ∷ es)
    step true may e rest =
        subst (λ y. IsReached kids n count end y) (append_assoc h (x ∷ []) es)
        (rest (reached_step kids n count forest st h x r may) e)
    step false may e rest = cc

pub reached : (kids : Kids) (n count : ℕ) → IsForest kids → (es : List Entry) (end : List Status)
    → replay kids n (all_idle count) es ≡ Some end → IsReached kids n count end es
reached kids n count forest es end e =
    reached_on kids n count forest es (all_idle count) end [] (reached_start kids n count forest) e
