-- Which item is taken next.
use Rattle.std.proofs.Common.{ℕ, ◌≡◌, ◌+◌, ◌*◌, ◌/◌, ◌%◌, ◌<◌, ◌≤◌, ◌==◌, Bool, true, false, is_some, unwrap_or, Option, Some, None, List, [], ◌∷◌, ◌++◌, length, sum_by, count_by, cond, All, ◌⊎◌, inl, inr, refl, sym, ap, subst, ◌∙◌, arith}
use Rattle.std.proofs.lemmas.Bool.{eqb-true, eq-eqb, true≢false, cases_lt, and_parts, and_from}
use Rattle.std.proofs.lemmas.Nat.{div-add-mod', div_below, mod_below}
use Rattle.std.proofs.lemmas.List.{length-append}
use Rattle.std.proofs.lemmas.List.Elements.{All-head, All-tail}
use Rattle.std.proofs.lemmas.List.Sorted.{sum_by_popped}
use Rattle.std.proofs.lemmas.List.Sums.{sum_by-cons}
use Rattle.std.specs.List.{list_any, list_all}
use Rattle.std.specs.List.Sorted.{IsPermutation}
use Rattle.fb_book.specs.declared.entries.Entry.{Entry}
use Rattle.fb_book.specs.declared.entries.Status.{Status}
use Rattle.fb_book.specs.declared.entries.Status.TheVariants.{Idle}
use Rattle.fb_book.specs.Machine.{Kids, IsForest, status_at, is_idle, is_held, is_used, is_left, is_over, are_given, can_take, replay, all_idle}
use Rattle.fb_book.specs.Board.{Course, kids_of, nodes_of, item_count, replay_of, statuses_of, place_in, IsRun, MustWait, is_finished, is_starved}
use Rattle.fb_book.specs.InternalBoard.{is_ready, unsolved_of, IsItems}
use Rattle.fb_book.proofs.Statuses.{within, idle_is, MayTake}
use Rattle.fb_book.proofs.Courses.{IsReached, reached}
use Rattle.fb_book.proofs.History.{progress, two_each}
use Rattle.fb_book.proofs.Places.{forest_of_places}
use Rattle.fb_graph.specs.Counts.{as_count}

-- the statuses that a history leads to
pub statuses_are : (c : Course) (st : List Status) → replay_of c ≡ Some st → statuses_of c ≡ st
statuses_are c st e = ap (λ o. unwrap_or o []) e

pub is_run : (c : Course) (st : List Status) → replay_of c ≡ Some st → IsRun c
is_run c st e = e ∙ ap Some (sym (statuses_are c st e))

-- A place by its slot and node.
pub record SlotAndNode (c : Course) (k : ℕ) : Type 0 where
  pub slot : k / nodes_of c < c.slots
  pub node : k % nodes_of c < nodes_of c
  pub place_is : place_in c (k / nodes_of c) (k % nodes_of c) ≡ k

pub slot_and_node : (c : Course) (k : ℕ) → 0 < c.units → k < item_count c → SlotAndNode c k
slot_and_node c k some less = record {
  slot = div_below k (nodes_of c) c.slots (omega (arith, some)) less;
  node = mod_below k (nodes_of c) (omega (arith, some));
  place_is = div-add-mod' k (nodes_of c);
}

-- the places that can be taken: how often a place stands among them
pub counted : (ready left : List ℕ) (k q : ℕ) → IsPermutation ready (k ∷ left)
    → count_by (λ j. j == q) ready ≡ as_count (k == q) + count_by (λ j. j == q) left
counted ready left k q h =
    let e : sum_by (λ j. as_count (j == q)) left + as_count (k == q) ≡ sum_by (λ j. as_count (j == q)) ready =
    sum_by_popped (λ j. as_count (j == q)) k ready left h in
    omega (arith, e)

pub length_by_ones : (xs : List ℕ) → sum_by (λ x. 1) xs ≡ length xs
length_by_ones [] = refl
length_by_ones (x ∷ xs) =
    let e : sum_by (λ x. 1) (x ∷ xs) ≡ 1 + sum_by (λ x. 1) xs = sum_by-cons (λ x. 1) x xs in
    let r : sum_by (λ x. 1) xs ≡ length xs = length_by_ones xs in
    omega (arith, e, r)

pub shorter : (ready left : List ℕ) (k : ℕ) → IsPermutation ready (k ∷ left) → length left ≤ length ready
shorter ready left k h =
    let e : sum_by (λ j. 1) left + 1 ≡ sum_by (λ j. 1) ready = sum_by_popped (λ j. 1) k ready left h in
    let a : sum_by (λ j. 1) left ≡ length left = length_by_ones left in
    let b : sum_by (λ j. 1) ready ≡ length ready = length_by_ones ready in
    omega (arith, e, a, b)

pub least_of : (xs : List ℕ) (k q : ℕ) → All (λ j. k ≤ j) xs → 0 < count_by (λ j. j == q) xs → k ≤ q
least_of [] k q all some = absurd (omega (arith, some))
least_of (x ∷ xs) k q all some = step (x == q) refl (least_of xs k q (All-tail (λ j. k ≤ j) x xs all))
  where
    step : (b : Bool) → (x == q) ≡ b → (0 < count_by (λ j. j == q) xs → k ≤ q) → k ≤ q
    step true e go = subst (λ y. k ≤ y) (eqb-true x q e) (All-head (λ j. k ≤ j) x xs all)
    step false e go =
        let cons : count_by (λ j. j == q) (x ∷ xs) ≡ as_count (x == q) + count_by (λ j. j == q) xs =
        sum_by-cons (λ j. as_count (j == q)) x xs in
        let none : as_count (x == q) ≡ 0 = ap as_count e in
        go (omega (arith, cons, none, some))

pub true_from_one : (b : Bool) → 0 < as_count b → b ≡ true
true_from_one true h = refl
true_from_one false h = absurd (omega (arith, h))

pub may_from_can : (kids : Kids) (st : List Status) (k : ℕ) → list_any is_left st ≡ false
    → can_take kids st k ≡ true → MayTake kids st k
may_from_can kids st k unleft can =
    let parts = and_parts (is_idle (status_at st k)) (are_given st (kids k)) can in
    let idle : status_at st k ≡ Idle = idle_is (status_at st k) parts.0 in
    record { unstarved = unleft; idle = idle; given = parts.1; less = within st k (ap is_used idle) }

module _ {c : Course} {nodes : ℕ} {parents : List (Option ℕ)} {st : List Status} {ready : List ℕ}
    {ready_room next unsolved : ℕ} {starved : Bool} {room : ℕ}
    (i : IsItems c nodes parents st ready ready_room next unsolved starved room) where
  pub places_forest : IsForest (kids_of c)
  places_forest = forest_of_places c.units c.joins i.some i.forest

  pub is_reached : IsReached (kids_of c) (nodes_of c) (item_count c) st c.history
  is_reached = reached (kids_of c) (nodes_of c) (item_count c) places_forest c.history st i.board.replayed

  pub status_count : length st ≡ item_count c
  status_count = is_reached.size

  pub unleft_from : starved ≡ false → list_any is_left st ≡ false
  unleft_from e = sym i.board.loss ∙ e

  -- room for one more entry, which the machine allows
  pub history_room : (h : List Entry) (s : List Status) (e : Entry) → h ≡ c.history ++ e ∷ []
      → replay (kids_of c) (nodes_of c) (all_idle (item_count c)) h ≡ Some s → length c.history < room
  history_room h s e is replayed =
      let most = two_each (kids_of c) (nodes_of c) (item_count c) h s places_forest replayed in
      let few : length h ≤ 2 * item_count c = most.0 in
      let long : length h ≡ length c.history + 1 = ap length is ∙ length-append c.history (e ∷ []) in
      let enough : 2 * item_count c ≤ room = i.board.history_room in
      omega (arith, few, long, enough)

  pub ready_is : (k : ℕ) → 0 < count_by (λ j. j == k) ready → is_ready (kids_of c) st k ≡ true
  ready_is k some =
      let e : count_by (λ j. j == k) ready ≡ as_count (is_ready (kids_of c) st k) = i.board.each k in
      true_from_one (is_ready (kids_of c) st k) (omega (arith, e, some))

  pub popped_ready : (k : ℕ) (left : List ℕ) → IsPermutation ready (k ∷ left) → is_ready (kids_of c) st k ≡ true
  popped_ready k left h =
      let e : count_by (λ j. j == k) ready ≡ as_count (k == k) + count_by (λ j. j == k) left = counted ready left k k h in
      let one : as_count (k == k) ≡ 1 = ap as_count (eq-eqb k k refl) in
      ready_is k (omega (arith, e, one))

  pub popped_may : (k : ℕ) (left : List ℕ) → IsPermutation ready (k ∷ left) → starved ≡ false
      → MayTake (kids_of c) st k
  popped_may k left h fed =
      may_from_can (kids_of c) st k (unleft_from fed)
      (and_parts (is_some (kids_of c k)) (can_take (kids_of c) st k) (popped_ready k left h)).1

  pub popped_kids : (k : ℕ) (left : List ℕ) → IsPermutation ready (k ∷ left) → is_some (kids_of c k) ≡ true
  popped_kids k left h = (and_parts (is_some (kids_of c k)) (can_take (kids_of c) st k) (popped_ready k left h)).0

  pub none_ready : ready ≡ [] → (q : ℕ) → is_ready (kids_of c) st q ≡ false
  none_ready empty q = step (is_ready (kids_of c) st q) refl
    where
      step : (b : Bool) → is_ready (kids_of c) st q ≡ b → b ≡ false
      step false e = refl
      step true e =
          let each : count_by (λ j. j == q) ready ≡ as_count (is_ready (kids_of c) st q) = i.board.each q in
          let none : count_by (λ j. j == q) ready ≡ 0 = ap (count_by (λ j. j == q)) empty in
          let one : as_count (is_ready (kids_of c) st q) ≡ 1 = ap as_count e in
          absurd (omega (arith, each, none, one))

  -- Where no fusion can be taken, what can be taken is a unit that none was taken behind.
  pub only_units : ready ≡ [] → (q : ℕ) → can_take (kids_of c) st q ≡ true
      → (kids_of c q ≡ None) × (next ≤ q) × (q < item_count c)
  only_units empty q can = step (kids_of c q) refl (cases_lt q next)
    where
      idle : is_idle (status_at st q) ≡ true
      idle = (and_parts (is_idle (status_at st q)) (are_given st (kids_of c q)) can).0

      inside : q < item_count c
      inside = subst (λ x. q < x) status_count (within st q (ap is_used (idle_is (status_at st q) idle)))

      step : (o : Option (ℕ × ℕ)) → kids_of c q ≡ o → (q < next) ⊎ (next ≤ q)
          → (kids_of c q ≡ None) × (next ≤ q) × (q < item_count c)
      step None e (inr more) = (e, more, inside)
      step None e (inl less) = absurd (true≢false (sym idle ∙ i.board.before q e less))
      step (Some pair) e side =
          absurd (true≢false (sym (and_from (is_some (kids_of c q)) (can_take (kids_of c) st q) (ap is_some e) can) ∙ none_ready empty q))

  pub unit_may : starved ≡ false → next < item_count c → MayTake (kids_of c) st next
  unit_may fed less =
      may_from_can (kids_of c) st next (unleft_from fed)
      (and_from (is_idle (status_at st next)) (are_given st (kids_of c next))
      (i.board.behind next (i.board.unit less) (omega arith) less) (ap (are_given st) (i.board.unit less)))

  pub nothing_left : ready ≡ [] → item_count c ≤ next → (q : ℕ) → can_take (kids_of c) st q ≡ false
  nothing_left empty over q = step (can_take (kids_of c) st q) refl
    where
      step : (b : Bool) → can_take (kids_of c) st q ≡ b → b ≡ false
      step false e = refl
      step true e =
          let (unit, more, inside) = only_units empty q e in
          absurd (omega (arith, over, more, inside))

  unsolved_none : (xs : List Status) → list_all is_over xs ≡ true → sum_by unsolved_of xs ≡ 0
  unsolved_none [] all = refl
  unsolved_none (x ∷ xs) all =
      let parts = and_parts (is_over x) (list_all is_over xs) all in
      let rest : sum_by unsolved_of xs ≡ 0 = unsolved_none xs parts.1 in
      let here : unsolved_of x ≡ 0 = ap (λ b. cond b 0 1) parts.0 in
      let e : sum_by unsolved_of (x ∷ xs) ≡ unsolved_of x + sum_by unsolved_of xs = sum_by-cons unsolved_of x xs in
      omega (arith, rest, here, e)

  unsolved_all : (xs : List Status) → sum_by unsolved_of xs ≡ 0 → list_all is_over xs ≡ true
  unsolved_all [] none = refl
  unsolved_all (x ∷ xs) none =
      let e : sum_by unsolved_of (x ∷ xs) ≡ unsolved_of x + sum_by unsolved_of xs = sum_by-cons unsolved_of x xs in
      and_from (is_over x) (list_all is_over xs) (one (is_over x) (omega (arith, none, e)))
      (unsolved_all xs (omega (arith, none, e)))
    where
      one : (b : Bool) → ◌≡◌ {A = ℕ} (cond b 0 1) 0 → b ≡ true
      one true h = refl
      one false h = absurd (omega (arith, h))

  pub finished_if : (unsolved == 0) ≡ is_finished c
  finished_if = step (unsolved == 0) refl (list_all is_over st) refl
    where
      st_is : is_finished c ≡ list_all is_over st
      st_is = ap (list_all is_over) (statuses_are c st i.board.replayed)

      step : (a : Bool) → (unsolved == 0) ≡ a → (b : Bool) → list_all is_over st ≡ b → a ≡ is_finished c
      step true e b f = sym (st_is ∙ unsolved_all st (sym i.board.rest ∙ eqb-true unsolved 0 e))
      step false e true f = absurd (true≢false (sym (eq-eqb unsolved 0 (i.board.rest ∙ unsolved_none st f)) ∙ e))
      step false e false f = sym (st_is ∙ f)

  pub starved_if : starved ≡ is_starved c
  starved_if = i.board.loss ∙ ap (list_any is_left) (sym (statuses_are c st i.board.replayed))

  pub must_wait : starved ≡ false → ready ≡ [] → item_count c ≤ next → (unsolved == 0) ≡ false → MustWait c
  must_wait fed empty over unfinished = waits
    where
      held : (b : Bool) → list_any is_held st ≡ b → b ≡ true
      held true e = refl
      held false e = pick (progress (kids_of c) (nodes_of c) (item_count c) c.history st places_forest i.board.replayed e (unleft_from fed))
        where
          pick : ((k : ℕ) × (k < item_count c) × (can_take (kids_of c) st k ≡ true)) ⊎ (list_all is_over st ≡ true)
              → false ≡ true
          pick (inl (k, less, can)) = absurd (true≢false (sym can ∙ nothing_left empty over k))
          pick (inr all) = absurd (true≢false (sym (finished_if ∙ (ap (list_all is_over) (statuses_are c st i.board.replayed) ∙ all)) ∙ unfinished))

      same : statuses_of c ≡ st
      same = statuses_are c st i.board.replayed

      waits : MustWait c
      waits = record {
        none = λ q. ap (λ s. can_take (kids_of c) s q) same ∙ nothing_left empty over q;
        held = ap (list_any is_held) same ∙ held (list_any is_held st) refl;
        unleft = ap (list_any is_left) same ∙ unleft_from fed;
      }
