-- What is kept beside a history stays so when an item is given or left.
use Rattle.std.proofs.Common.{ℕ, ◌≡◌, ◌+◌, ◌<◌, ◌≤◌, ◌==◌, ◌&&◌, ◌||◌, Bool, true, false, is_some, Some, List, [], ◌∷◌, ◌++◌, length, set, sum_by, count_by, inl, inr, refl, sym, ap, subst, ◌∙◌, arith, zero, suc}
use Rattle.std.proofs.lemmas.Bool.{eq-eqb, lt-ltb, false≢true, true≢false, and_right, and_from}
use Rattle.std.proofs.lemmas.List.{length-set}
use Rattle.std.proofs.lemmas.List.Folds.{list_any_at}
use Rattle.std.proofs.lemmas.List.Sums.{sum_by-set}
use Rattle.std.specs.Prelude.{nat_lt}
use Rattle.std.specs.List.{list_any}
use Rattle.fb_book.specs.declared.entries.EntryKind.{EntryKind}
use Rattle.fb_book.specs.declared.entries.EntryKind.TheVariants.{Gave, Left}
use Rattle.fb_book.specs.declared.entries.Entry.{Entry}
use Rattle.fb_book.specs.declared.entries.Status.{Status}
use Rattle.fb_book.specs.declared.entries.Status.TheVariants.{Held, Given, Used, Left as Lost}
use Rattle.fb_book.specs.Machine.{Kids, is_child, status_at, is_idle, is_held_by, is_given, is_used, is_left, are_given, can_take, is_permitted, after, place, allows, replay, all_idle}
use Rattle.fb_book.specs.InternalBoard.{IsBoard, is_ready, unsolved_of}
use Rattle.fb_book.proofs.Statuses.{within, child_given, IsSetAt, here, there, set_at}
use Rattle.fb_book.proofs.Boards.{replay_more, can_take_let, idle_let}
use Rattle.fb_graph.specs.Counts.{as_count}

-- a test that tells the new status from the old one as little finds the same
pub any_set : (p : Status → Bool) (st : List Status) (k : ℕ) (s : Status) → k < length st
    → p s ≡ p (status_at st k) → list_any p (set st k s) ≡ list_any p st
any_set p [] k s less e = absurd (omega arith)
any_set p (x ∷ st) zero s less e = ap (λ b. b || list_any p st) e
any_set p (x ∷ st) (suc k) s less e = ap (λ b. p x || b) (any_set p st k s (omega arith) e)

-- an entry of the worker that holds the item at place k
pub record Letting (n : ℕ) (st : List Status) (e : Entry) (kind : EntryKind) (k : ℕ) : Type 0 where
  pub kind_is : e.kind ≡ kind
  pub node : e.node < n
  pub place_is : place n e ≡ k
  pub held : status_at st k ≡ Held e.worker

pub held_by : (w : ℕ) (s : Status) → s ≡ Held w → is_held_by w s ≡ true
held_by w s e = ap (is_held_by w) e ∙ eq-eqb w w refl

pub replay_gave : (kids : Kids) (n count : ℕ) (h : List Entry) (st : List Status) (e : Entry) (k : ℕ)
    → replay kids n (all_idle count) h ≡ Some st → Letting n st e Gave k
    → replay kids n (all_idle count) (h ++ e ∷ []) ≡ Some (set st k Given)
replay_gave kids n count h st e k replayed l =
    replay_more kids n h (all_idle count) st e replayed allowed
    ∙ (ap (λ x. Some (after kids st x e.worker (place n e))) l.kind_is
    ∙ ap (λ p. Some (set st p Given)) l.place_is)
  where
    allowed : allows kids n st e ≡ true
    allowed =
        and_from (nat_lt e.node n) (is_permitted kids st e.kind e.worker (place n e)) (lt-ltb e.node n l.node)
        (subst (λ x. is_permitted kids st x e.worker (place n e) ≡ true) (sym l.kind_is)
        (subst (λ p. is_permitted kids st Gave e.worker p ≡ true) (sym l.place_is) (held_by e.worker (status_at st k) l.held)))

pub replay_left : (kids : Kids) (n count : ℕ) (h : List Entry) (st : List Status) (e : Entry) (k : ℕ)
    → replay kids n (all_idle count) h ≡ Some st → Letting n st e Left k
    → replay kids n (all_idle count) (h ++ e ∷ []) ≡ Some (set st k Lost)
replay_left kids n count h st e k replayed l =
    replay_more kids n h (all_idle count) st e replayed allowed
    ∙ (ap (λ x. Some (after kids st x e.worker (place n e))) l.kind_is
    ∙ ap (λ p. Some (set st p Lost)) l.place_is)
  where
    allowed : allows kids n st e ≡ true
    allowed =
        and_from (nat_lt e.node n) (is_permitted kids st e.kind e.worker (place n e)) (lt-ltb e.node n l.node)
        (subst (λ x. is_permitted kids st x e.worker (place n e) ≡ true) (sym l.kind_is)
        (subst (λ p. is_permitted kids st Left e.worker p ≡ true) (sym l.place_is) (held_by e.worker (status_at st k) l.held)))

-- an item that is held isn't over yet
pub unsolved_held : (st : List Status) (w k : ℕ) → status_at st k ≡ Held w → 0 < sum_by unsolved_of st
unsolved_held st w k held =
    let step : sum_by unsolved_of (set st k Given) + unsolved_of (status_at st k) ≡ sum_by unsolved_of st + 0 =
    sum_by-set unsolved_of st k Given Used (within st k (ap is_used held)) in
    let one : unsolved_of (status_at st k) ≡ 1 = ap unsolved_of held in
    omega (arith, step, one)

-- a fusion with a child that is held can't be taken
pub unready_parent : (kids : Kids) (st : List Status) (w k q : ℕ) → status_at st k ≡ Held w
    → is_child (kids q) k ≡ true → is_ready kids st q ≡ false
unready_parent kids st w k q held child =
    and_right (is_some (kids q)) (can_take kids st q) (and_right (is_idle (status_at st q)) (are_given st (kids q)) (ungiven (are_given st (kids q)) refl))
  where
    ungiven : (b : Bool) → are_given st (kids q) ≡ b → b ≡ false
    ungiven false e = refl
    ungiven true e = absurd (false≢true (ap is_given (sym held ∙ child_given (kids q) st k e child)))

pub kept_gave : (kids : Kids) (n count : ℕ) (h : List Entry) (st : List Status) (ready : List ℕ)
    (ready_room next unsolved : ℕ) (starved : Bool) (room : ℕ)
    → IsBoard kids n count h st ready ready_room next unsolved starved room
    → (e : Entry) (k : ℕ) → Letting n st e Gave k
    → (more : List ℕ) → length more ≤ length ready + 1
    → ((q : ℕ) → count_by (λ j. j == q) more
    ≡ count_by (λ j. j == q) ready + as_count (is_child (kids q) k && is_ready kids (set st k Given) q))
    → (rest : ℕ) → rest + 1 ≡ unsolved
    → IsBoard kids n count (h ++ e ∷ []) (set st k Given) more ready_room next rest starved room
kept_gave kids n count h st ready ready_room next unsolved starved room b e k l more longer pushed rest less = record {
  replayed = replay_gave kids n count h st e k b.replayed l;
  loss = b.loss ∙ sym (any_set is_left st k Given inside (sym (ap is_left l.held)));
  rest =
      let step : sum_by unsolved_of new + unsolved_of (status_at st k) ≡ sum_by unsolved_of st + 0 =
      sum_by-set unsolved_of st k Given Used inside in
      let one : unsolved_of (status_at st k) ≡ 1 = ap unsolved_of l.held in
      let was : unsolved ≡ sum_by unsolved_of st = b.rest in
      omega (arith, step, one, was, less);
  each = λ q. tally q (is_child (kids q) k) refl;
  heap_room =
      let was : length ready + unsolved ≤ ready_room = b.heap_room in
      omega (arith, was, longer, less);
  before = λ q is below. idle_let st e.worker k Given l.held refl q ∙ b.before q is below;
  unit = b.unit;
  behind = λ q is above below. idle_let st e.worker k Given l.held refl q ∙ b.behind q is above below;
  history_room = b.history_room;
}
  where
    new : List Status
    new = set st k Given

    inside : k < length st
    inside = within st k (ap is_used l.held)

    tally : (q : ℕ) (x : Bool) → is_child (kids q) k ≡ x → count_by (λ j. j == q) more ≡ as_count (is_ready kids new q)
    tally q true child =
        let step : count_by (λ j. j == q) more ≡ count_by (λ j. j == q) ready + as_count (is_child (kids q) k && is_ready kids new q) = pushed q in
        let was : count_by (λ j. j == q) ready ≡ as_count (is_ready kids st q) = b.each q in
        let none : as_count (is_ready kids st q) ≡ 0 = ap as_count (unready_parent kids st e.worker k q l.held child) in
        let here : as_count (is_child (kids q) k && is_ready kids new q) ≡ as_count (is_ready kids new q) =
        ap (λ x. as_count (x && is_ready kids new q)) child in
        omega (arith, step, was, none, here)
    tally q false child =
        let step : count_by (λ j. j == q) more ≡ count_by (λ j. j == q) ready + as_count (is_child (kids q) k && is_ready kids new q) = pushed q in
        let was : count_by (λ j. j == q) ready ≡ as_count (is_ready kids st q) = b.each q in
        let none : as_count (is_child (kids q) k && is_ready kids new q) ≡ 0 = ap (λ x. as_count (x && is_ready kids new q)) child in
        let kept : as_count (is_ready kids new q) ≡ as_count (is_ready kids st q) =
        ap (λ x. as_count (is_some (kids q) && x)) (can_take_let kids st e.worker k Given l.held refl q (inr child)) in
        omega (arith, step, was, none, kept)

pub kept_left : (kids : Kids) (n count : ℕ) (h : List Entry) (st : List Status) (ready : List ℕ)
    (ready_room next unsolved : ℕ) (starved : Bool) (room : ℕ)
    → IsBoard kids n count h st ready ready_room next unsolved starved room
    → (e : Entry) (k : ℕ) → Letting n st e Left k
    → IsBoard kids n count (h ++ e ∷ []) (set st k Lost) ready ready_room next unsolved true room
kept_left kids n count h st ready ready_room next unsolved starved room b e k l = record {
  replayed = replay_left kids n count h st e k b.replayed l;
  loss = sym (list_any_at is_left new k Used inside_new (lost (set_at st k Lost k inside)));
  rest =
      let step : sum_by unsolved_of new + unsolved_of (status_at st k) ≡ sum_by unsolved_of st + 1 =
      sum_by-set unsolved_of st k Lost Used inside in
      let one : unsolved_of (status_at st k) ≡ 1 = ap unsolved_of l.held in
      let was : unsolved ≡ sum_by unsolved_of st = b.rest in
      omega (arith, step, one, was);
  each = λ q. b.each q ∙ ap (λ x. as_count (is_some (kids q) && x)) (sym (can_take_let kids st e.worker k Lost l.held refl q (inl refl)));
  heap_room = b.heap_room;
  before = λ q is below. idle_let st e.worker k Lost l.held refl q ∙ b.before q is below;
  unit = b.unit;
  behind = λ q is above below. idle_let st e.worker k Lost l.held refl q ∙ b.behind q is above below;
  history_room = b.history_room;
}
  where
    new : List Status
    new = set st k Lost

    inside : k < length st
    inside = within st k (ap is_used l.held)

    inside_new : k < length new
    inside_new = rw (length-set st k Lost) inside

    lost : IsSetAt k Lost k (status_at st k) (status_at new k) → is_left (status_at new k) ≡ true
    lost (here i f) = ap is_left f
    lost (there i f) = absurd (true≢false (sym (eq-eqb k k refl) ∙ i))
