-- What a run keeps stays so when the next item is taken.
use Rattle.std.proofs.Common.{ℕ, ◌≡◌, ◌*◌, ◌/◌, ◌%◌, ◌^◌, ◌<◌, ◌≤◌, ◌==◌, Bool, true, false, is_some, Option, Some, List, [], ◌∷◌, ◌++◌, length, set, count_by, All, refl, sym, ap, subst, ◌∙◌, arith}
use Rattle.std.proofs.lemmas.Bool.{eq-eqb, and_from, or_left, or_right}
use Rattle.std.proofs.Math.Nat.{mul-le-mul_left}
use Rattle.std.specs.List.Sorted.{IsPermutation}
use Rattle.fb_book.specs.declared.entries.EntryKind.TheVariants.{Took}
use Rattle.fb_book.specs.declared.entries.Entry.{Entry}
use Rattle.fb_book.specs.declared.entries.Status.{Status}
use Rattle.fb_book.specs.declared.entries.Status.TheVariants.{Held}
use Rattle.fb_book.specs.declared.items.Item.{Item}
use Rattle.fb_book.specs.declared.items.Turn.TheVariants.{Fusion, Unit as OneUnit}
use Rattle.fb_book.specs.Machine.{is_child, can_take, with_used, after}
use Rattle.fb_book.specs.Board.{Course, kids_of, nodes_of, item_count, place_in, Adds, is_fusion, IsFirstFusion, IsFirstUnit, TakesUnit, TakesFusion}
use Rattle.fb_book.specs.InternalBoard.{node_limit, entry_at, is_ready, IsBoard, IsItems, IsCourse, after_unit}
use Rattle.fb_book.proofs.Statuses.{MayTake}
use Rattle.fb_book.proofs.Boards.{Taking, replay_taking, kept_fusion, kept_unit}
use Rattle.fb_book.proofs.Choosing.{statuses_are, is_run, slot_and_node, counted, shorter, least_of, places_forest, status_count, history_room, popped_may, popped_kids, only_units, unit_may}
use Rattle.fb_book.proofs.Places.{after_unit_later, after_unit_is, after_unit_gap}
use Rattle.fb_graph.specs.Counts.{as_count}

-- What a turn tells of its item.
pub fusion_answer : (P : Item → ℕ → ℕ → Type 0) (x : Item) (a b : ℕ) → P x a b
    → (item : Item) (left right : ℕ) → Fusion x a b ≡ Fusion item left right → P item left right
fusion_answer P x a b p item left right e =
    let one : x ≡ item = cc in
    let two : a ≡ left = cc in
    let three : b ≡ right = cc in
    subst (λ y. P item left y) three (subst (λ y. P item y b) two (subst (λ y. P y a b) one p))

pub unit_answer : (P : Item → Type 0) (x : Item) → P x → (item : Item) → OneUnit x ≡ OneUnit item → P item
unit_answer P x p item e =
    let one : x ≡ item = cc in
    subst P one p

module _ {c : Course} {nodes : ℕ} {parents : List (Option ℕ)} {st : List Status} {ready : List ℕ}
    {ready_room next unsolved : ℕ} {starved : Bool} {room : ℕ}
    (i : IsItems c nodes parents st ready ready_room next unsolved starved room) where
  pub few_items : item_count c < 2 ^ 45
  few_items =
      let nodes_few : nodes_of c < node_limit = i.few_nodes in
      let slots_few : c.slots < 2 ^ 32 = i.few_slots in
      let a : c.slots * nodes_of c ≤ c.slots * node_limit = mul-le-mul_left c.slots (omega (arith, nodes_few)) in
      omega (arith, a, slots_few)

  pub is_course : IsCourse c
  is_course = record {
    some = i.some;
    few_nodes = i.few_nodes;
    few_slots = i.few_slots;
    forest = places_forest i;
    run = is_run c st i.board.replayed;
  }

  -- a place that may be taken
  pub inside : (k : ℕ) → MayTake (kids_of c) st k → k < item_count c
  inside k m = subst (λ x. k < x) (status_count i) m.less

  pub small_slot : (k : ℕ) → MayTake (kids_of c) st k → k / nodes < 2 ^ 32
  small_slot k m =
      let s = slot_and_node c k i.some (inside k m) in
      let less : k / nodes_of c < c.slots = s.slot in
      let few : c.slots < 2 ^ 32 = i.few_slots in
      let same : k / nodes ≡ k / nodes_of c = ap (λ n. k / n) i.nodes_is in
      omega (arith, less, few, same)

  pub taking : (w k : ℕ) → MayTake (kids_of c) st k → Taking (kids_of c) (nodes_of c) st (entry_at Took w nodes k) k
  taking w k m =
      subst (λ n. Taking (kids_of c) (nodes_of c) st (entry_at Took w n k) k) (sym i.nodes_is)
      (let s = slot_and_node c k i.some (inside k m) in
      record { kind = refl; node = s.node; place = s.place_is; may = m })

  pub room_to_take : (w k : ℕ) → MayTake (kids_of c) st k → length c.history < room
  room_to_take w k m =
      history_room i (c.history ++ entry_at Took w nodes k ∷ []) (after (kids_of c) st Took w k) (entry_at Took w nodes k) refl
      (replay_taking (kids_of c) (nodes_of c) (item_count c) c.history st (entry_at Took w nodes k) k i.board.replayed (taking w k m))

  abbrev pub taken_course : ℕ → ℕ → Course
  taken_course w k = record c { history = c.history ++ entry_at Took w nodes k ∷ [] }

  pub adds_taken : (w k : ℕ) → MayTake (kids_of c) st k → Adds c (taken_course w k) Took w (k / nodes) (k % nodes)
  adds_taken w k m =
      let s = slot_and_node c k i.some (inside k m) in
      record {
        in_slots = subst (λ n. k / n < c.slots) (sym i.nodes_is) s.slot;
        in_nodes = subst (λ n. k % n < nodes_of c) (sym i.nodes_is) s.node;
        entry = refl;
        run = is_run (taken_course w k) (after (kids_of c) st Took w k)
            (replay_taking (kids_of c) (nodes_of c) (item_count c) c.history st (entry_at Took w nodes k) k i.board.replayed (taking w k m));
      }

  pub place_taken : (k : ℕ) → MayTake (kids_of c) st k → place_in c (k / nodes) (k % nodes) ≡ k
  place_taken k m =
      let s = slot_and_node c k i.some (inside k m) in
      subst (λ n. place_in c (k / n) (k % n) ≡ k) (sym i.nodes_is) s.place_is

  -- Fusion k was the least of those that can be taken.
  pub kids_within : (k : ℕ) (a b : ℕ) → MayTake (kids_of c) st k → kids_of c k ≡ Some (a, b)
      → (a < length st) × (b < length st)
  kids_within k a b m e =
      let f = places_forest i in
      let k_less : k < length st = m.less in
      let left : a < k = f.before k a (ap (λ o. is_child o a) e ∙ or_left (a == a) (b == a) (eq-eqb a a refl)) in
      let right : b < k = f.before k b (ap (λ o. is_child o b) e ∙ or_right (a == b) (b == b) (eq-eqb b b refl)) in
      (omega (arith, left, k_less), omega (arith, right, k_less))

  pub items_fusion : (w k : ℕ) (left : List ℕ) → IsPermutation ready (k ∷ left) → starved ≡ false
      → IsItems (taken_course w k) nodes parents (after (kids_of c) st Took w k) left ready_room next unsolved starved room
  items_fusion w k left h fed = record {
    some = i.some;
    forest = i.forest;
    nodes_is = i.nodes_is;
    few_nodes = i.few_nodes;
    few_slots = i.few_slots;
    parents_are = i.parents_are;
    board = kept_fusion (kids_of c) (nodes_of c) (item_count c) (places_forest i) c.history st ready ready_room next unsolved starved room
        i.board (entry_at Took w nodes k) k (taking w k (popped_may i k left h fed)) (popped_kids i k left h) left
        (shorter ready left k h) (λ q. counted ready left k q h);
  }

  pub takes_fusion : (w k : ℕ) (left : List ℕ) → IsPermutation ready (k ∷ left) → All (λ j. k ≤ j) ready → starved ≡ false
      → (a b : ℕ) → kids_of c k ≡ Some (a, b) → TakesFusion c (taken_course w k) w (k / nodes) (k % nodes) a b
  takes_fusion w k left h least fed a b e =
      let m = popped_may i k left h fed in
      record {
        adds = adds_taken w k m;
        children = ap (kids_of c) (place_taken k m) ∙ e;
        first = subst (λ p. IsFirstFusion c p) (sym (place_taken k m)) first;
      }
    where
      first : IsFirstFusion c k
      first j fusion can =
          let same : can_take (kids_of c) st j ≡ true =
          ap (λ s. can_take (kids_of c) s j) (sym (statuses_are c st i.board.replayed)) ∙ can in
          let is : is_ready (kids_of c) st j ≡ true = and_from (is_some (kids_of c j)) (can_take (kids_of c) st j) fusion same in
          let each : count_by (λ x. x == j) ready ≡ as_count (is_ready (kids_of c) st j) = i.board.each j in
          let one : as_count (is_ready (kids_of c) st j) ≡ 1 = ap as_count is in
          least_of ready k j least (omega (arith, each, one))

  -- Unit `next` is taken where no fusion can be.
  pub items_unit : (w : ℕ) → starved ≡ false → next < item_count c
      → IsItems (taken_course w next) nodes parents (after (kids_of c) st Took w next) ready ready_room
      (after_unit c.units nodes next) unsolved starved room
  items_unit w fed less = record {
    some = i.some;
    forest = i.forest;
    nodes_is = i.nodes_is;
    few_nodes = i.few_nodes;
    few_slots = i.few_slots;
    parents_are = i.parents_are;
    board = subst
        (λ n. IsBoard (kids_of c) (nodes_of c) (item_count c) (c.history ++ entry_at Took w nodes next ∷ []) (after (kids_of c) st Took w next) ready ready_room (after_unit c.units n next) unsolved starved room)
        (sym i.nodes_is)
        (kept_unit (kids_of c) (nodes_of c) (item_count c) (places_forest i) c.history st ready ready_room next unsolved starved room
        i.board (entry_at Took w nodes next) (taking w next (unit_may i fed less)) (i.board.unit less)
        (after_unit c.units (nodes_of c) next) (after_unit_later c.units (nodes_of c) next (omega arith) i.some)
        (λ _. after_unit_is c.units c.joins next i.some) (after_unit_gap c.units c.joins next i.some));
  }

  pub takes_unit : (w : ℕ) → starved ≡ false → ready ≡ [] → next < item_count c
      → TakesUnit c (taken_course w next) w (next / nodes) (next % nodes)
  takes_unit w fed empty less =
      let m = unit_may i fed less in
      record {
        adds = adds_taken w next m;
        unit = ap (is_fusion c) (place_taken next m) ∙ ap is_some (i.board.unit less);
        first = subst (λ p. IsFirstUnit c p) (sym (place_taken next m)) first;
      }
    where
      first : IsFirstUnit c next
      first j can =
          let same : can_take (kids_of c) st j ≡ true =
          ap (λ s. can_take (kids_of c) s j) (sym (statuses_are c st i.board.replayed)) ∙ can in
          let (unit, more, within) = only_units i empty j same in
          (ap is_some unit, more)

  -- the same as the code comes to it
  pub fusion_kept : (w k : ℕ) (left : List ℕ) → IsPermutation ready (k ∷ left) → starved ≡ false
      → (e : Entry) → e ≡ entry_at Took w nodes k → (o : Option (ℕ × ℕ)) → o ≡ kids_of c k
      → (h : List Entry) → h ≡ c.history ++ e ∷ [] → (st' : List Status) → st' ≡ set (with_used o st) k (Held e.worker)
      → (ready_room' room' : ℕ) → ready_room' ≡ ready_room → room' ≡ room
      → IsItems (record c { history = h }) nodes parents st' left ready_room' next unsolved starved room'
  fusion_kept w k left pop fed e e_is o o_is h h_is st' st_is ready_room' room' ready_room_is room_is =
      subst (λ x. IsItems (record c { history = h }) nodes parents st' left ready_room' next unsolved starved x) (sym room_is)
      (subst (λ x. IsItems (record c { history = h }) nodes parents st' left x next unsolved starved room) (sym ready_room_is)
      (subst (λ x. IsItems (record c { history = h }) nodes parents x left ready_room next unsolved starved room) (sym statuses)
      (subst (λ x. IsItems (record c { history = x }) nodes parents (after (kids_of c) st Took w k) left ready_room next unsolved starved room) (sym history)
      (items_fusion w k left pop fed))))
    where
      statuses : st' ≡ after (kids_of c) st Took w k
      statuses = st_is ∙ (ap (λ x. set (with_used x st) k (Held e.worker)) o_is
          ∙ ap (λ x. set (with_used (kids_of c k) st) k (Held x.worker)) e_is)

      history : h ≡ c.history ++ entry_at Took w nodes k ∷ []
      history = h_is ∙ ap (λ x. c.history ++ x ∷ []) e_is

  pub fusion_taken : (w k : ℕ) (left : List ℕ) → IsPermutation ready (k ∷ left) → All (λ j. k ≤ j) ready → starved ≡ false
      → (e : Entry) → e ≡ entry_at Took w nodes k → (a b : ℕ) → kids_of c k ≡ Some (a, b)
      → (h : List Entry) → h ≡ c.history ++ e ∷ []
      → TakesFusion c (record c { history = h }) w e.slot e.node a b
  fusion_taken w k left pop least fed e e_is a b kids_are h h_is =
      subst (λ x. TakesFusion c (record c { history = h }) w x.slot x.node a b) (sym e_is)
      (subst (λ x. TakesFusion c (record c { history = x }) w (k / nodes) (k % nodes) a b)
      (sym (h_is ∙ ap (λ x. c.history ++ x ∷ []) e_is)) (takes_fusion w k left pop least fed a b kids_are))

  pub unit_kept : (w : ℕ) → starved ≡ false → next < item_count c
      → (e : Entry) → e ≡ entry_at Took w nodes next
      → (h : List Entry) → h ≡ c.history ++ e ∷ [] → (st' : List Status) → st' ≡ set st next (Held e.worker)
      → (next' : ℕ) → next' ≡ after_unit c.units nodes next
      → (ready' : List ℕ) → ready' ≡ ready → (ready_room' room' : ℕ) → ready_room' ≡ ready_room → room' ≡ room
      → IsItems (record c { history = h }) nodes parents st' ready' ready_room' next' unsolved starved room'
  unit_kept w fed less e e_is h h_is st' st_is next' next_is ready' ready_is' ready_room' room' ready_room_is room_is =
      subst (λ x. IsItems (record c { history = h }) nodes parents st' ready' ready_room' next' unsolved starved x) (sym room_is)
      (subst (λ x. IsItems (record c { history = h }) nodes parents st' ready' x next' unsolved starved room) (sym ready_room_is)
      (subst (λ x. IsItems (record c { history = h }) nodes parents st' x ready_room next' unsolved starved room) (sym ready_is')
      (subst (λ x. IsItems (record c { history = h }) nodes parents st' ready ready_room x unsolved starved room) (sym next_is)
      (subst (λ x. IsItems (record c { history = h }) nodes parents x ready ready_room (after_unit c.units nodes next) unsolved starved room) (sym statuses)
      (subst (λ x. IsItems (record c { history = x }) nodes parents (after (kids_of c) st Took w next) ready ready_room (after_unit c.units nodes next) unsolved starved room) (sym history)
      (items_unit w fed less))))))
    where
      statuses : st' ≡ after (kids_of c) st Took w next
      statuses = st_is ∙ (ap (λ x. set (with_used x st) next (Held e.worker)) (sym (i.board.unit less))
          ∙ ap (λ x. set (with_used (kids_of c next) st) next (Held x.worker)) e_is)

      history : h ≡ c.history ++ entry_at Took w nodes next ∷ []
      history = h_is ∙ ap (λ x. c.history ++ x ∷ []) e_is

  pub unit_taken : (w : ℕ) → starved ≡ false → ready ≡ [] → next < item_count c
      → (e : Entry) → e ≡ entry_at Took w nodes next → (h : List Entry) → h ≡ c.history ++ e ∷ []
      → TakesUnit c (record c { history = h }) w e.slot e.node
  unit_taken w fed empty less e e_is h h_is =
      subst (λ x. TakesUnit c (record c { history = h }) w x.slot x.node) (sym e_is)
      (subst (λ x. TakesUnit c (record c { history = x }) w (next / nodes) (next % nodes))
      (sym (h_is ∙ ap (λ x. c.history ++ x ∷ []) e_is)) (takes_unit w fed empty less))

  -- what the answers tell
  pub fusion_told : (old : Course) → c ≡ old
      → (w k : ℕ) (left : List ℕ) → IsPermutation ready (k ∷ left) → All (λ j. k ≤ j) ready → starved ≡ false
      → (e : Entry) → e ≡ entry_at Took w nodes k → (a b : ℕ) → kids_of c k ≡ Some (a, b)
      → (h : List Entry) → h ≡ c.history ++ e ∷ []
      → (item : Item) (l r : ℕ) → Fusion (record { slot = e.slot; node = e.node }) a b ≡ Fusion item l r
      → TakesFusion old (record c { history = h }) w item.slot item.node l r
  fusion_told old same w k left pop least fed e e_is a b kids_are h h_is item l r told =
      fusion_answer (λ x p q. TakesFusion old (record c { history = h }) w x.slot x.node p q)
      (record { slot = e.slot; node = e.node }) a b
      (subst (λ x. TakesFusion x (record c { history = h }) w e.slot e.node a b) same
      (fusion_taken w k left pop least fed e e_is a b kids_are h h_is))
      item l r told

  pub unit_told : (old : Course) → c ≡ old
      → (w : ℕ) → starved ≡ false → ready ≡ [] → next < item_count c
      → (e : Entry) → e ≡ entry_at Took w nodes next → (h : List Entry) → h ≡ c.history ++ e ∷ []
      → (item : Item) → OneUnit (record { slot = e.slot; node = e.node }) ≡ OneUnit item
      → TakesUnit old (record c { history = h }) w item.slot item.node
  unit_told old same w fed empty less e e_is h h_is item told =
      unit_answer (λ x. TakesUnit old (record c { history = h }) w x.slot x.node) (record { slot = e.slot; node = e.node })
      (subst (λ x. TakesUnit x (record c { history = h }) w e.slot e.node) same
      (unit_taken w fed empty less e e_is h h_is))
      item told
