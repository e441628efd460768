-- What a run keeps stays so when a worker gives or leaves an item that it holds.
use Rattle.std.proofs.Common.{ℕ, ◌≡◌, ◌+◌, ◌*◌, ◌/◌, ◌%◌, ◌<◌, ◌≤◌, ◌==◌, ◌&&◌, Bool, true, false, is_some, option_map, IfSome, Option, Some, None, List, [], ◌∷◌, ◌++◌, length, get_or, set, sum_by, count_by, if◌then◌else◌, refl, sym, ap, subst, ◌∙◌, arith}
use Rattle.std.proofs.lemmas.Bool.{eqb-true, eq-eqb, false≢true, true≢false, and_from, and_left, and_right, or_right, or_left}
use Rattle.std.proofs.lemmas.Nat.{div_below, mul-add-lt}
use Rattle.std.proofs.lemmas.List.{length-append}
use Rattle.std.proofs.lemmas.List.Sorted.{sum_by-IsPermutation}
use Rattle.std.proofs.lemmas.List.Sums.{sum_by-append, sum_by-cons}
use Rattle.std.specs.List.Sorted.{IsPermutation}
use Rattle.std.specs.Option.{option_to_list}
use Rattle.fb_book.specs.declared.entries.EntryKind.{EntryKind}
use Rattle.fb_book.specs.declared.entries.EntryKind.TheVariants.{Gave, Left}
use Rattle.fb_book.specs.declared.entries.Entry.{Entry}
use Rattle.fb_book.specs.declared.entries.Status.{Status}
use Rattle.fb_book.specs.declared.entries.Status.TheVariants.{Given, Left as Lost}
use Rattle.fb_book.specs.Machine.{is_child, status_at, is_held_by, can_take, replay, all_idle}
use Rattle.fb_book.specs.Board.{Course, kids_of, nodes_of, item_count, place_in, item_status, with_entry, Lets}
use Rattle.fb_book.specs.InternalBoard.{is_ready, ready_parent, parent_place, AreWithin, IsBoard, IsItems, unsolved_of}
use Rattle.fb_book.proofs.Statuses.{held_is}
use Rattle.fb_book.proofs.Letting.{Letting, replay_gave, replay_left, kept_gave, kept_left, unsolved_held}
use Rattle.fb_book.proofs.Choosing.{statuses_are, is_run, places_forest, status_count, history_room, length_by_ones}
use Rattle.fb_book.proofs.Places.{parent_is, no_parent}
use Rattle.fb_graph.specs.Counts.{as_count}

-- a fusion's parent, in the same slot
pub some_child : (children : Option (ℕ × ℕ)) (k : ℕ) → is_child children k ≡ true → is_some children ≡ true
some_child None k h = absurd (false≢true h)
some_child (Some pair) k h = refl

pub count_of_permutation : (xs ys : List ℕ) (q : ℕ) → IsPermutation xs ys
    → count_by (λ j. j == q) ys ≡ count_by (λ j. j == q) xs
count_of_permutation xs ys q h = sum_by-IsPermutation (λ j. as_count (j == q)) xs ys h

pub length_of_permutation : (xs ys : List ℕ) → IsPermutation xs ys → length ys ≡ length xs
length_of_permutation xs ys h =
    sym (length_by_ones ys) ∙ (sum_by-IsPermutation (λ j. 1) xs ys h ∙ length_by_ones xs)

module _ {c : Course} {nodes : ℕ} {parents : List (Option ℕ)} {st : List Status} {ready : List ℕ}
    {ready_room next unsolved : ℕ} {starved : Bool} {room : ℕ}
    (i : IsItems c nodes parents st ready ready_room next unsolved starved room)
    (slot node : ℕ) (slot_in : slot < c.slots) (node_in : node < nodes_of c) where
  abbrev pub at_place : ℕ
  at_place = slot * nodes + node

  pub place_is : at_place ≡ place_in c slot node
  place_is = ap (λ n. slot * n + node) i.nodes_is

  pub place_less : at_place < item_count c
  place_less =
      let less : slot * nodes_of c + node < nodes_of c * c.slots = mul-add-lt slot (nodes_of c) node c.slots slot_in node_in in
      let same : at_place ≡ slot * nodes_of c + node = place_is in
      omega (arith, less, same)

  pub place_inside : at_place < length st
  place_inside = subst (λ x. at_place < x) (sym (status_count i)) place_less

  pub status_is : (w : ℕ) → is_held_by w (item_status c slot node) ≡ is_held_by w (status_at st at_place)
  status_is w =
      ap (λ s. is_held_by w (status_at s (place_in c slot node))) (statuses_are c st i.board.replayed)
      ∙ ap (λ k. is_held_by w (status_at st k)) (sym place_is)

  abbrev pub entry_for : EntryKind → ℕ → Entry
  entry_for kind w = record { kind = kind; worker = w; slot = slot; node = node }

  pub letting : (kind : EntryKind) (w : ℕ) → is_held_by w (status_at st at_place) ≡ true
      → Letting (nodes_of c) st (entry_for kind w) kind at_place
  letting kind w held = record {
    kind_is = refl;
    node = node_in;
    place_is = sym place_is;
    held = held_is w (status_at st at_place) held;
  }

  pub gave_replay : (w : ℕ) → is_held_by w (status_at st at_place) ≡ true
      → replay (kids_of c) (nodes_of c) (all_idle (item_count c)) (c.history ++ entry_for Gave w ∷ []) ≡ Some (set st at_place Given)
  gave_replay w held =
      replay_gave (kids_of c) (nodes_of c) (item_count c) c.history st (entry_for Gave w) at_place i.board.replayed (letting Gave w held)

  pub left_replay : (w : ℕ) → is_held_by w (status_at st at_place) ≡ true
      → replay (kids_of c) (nodes_of c) (all_idle (item_count c)) (c.history ++ entry_for Left w ∷ []) ≡ Some (set st at_place Lost)
  left_replay w held =
      replay_left (kids_of c) (nodes_of c) (item_count c) c.history st (entry_for Left w) at_place i.board.replayed (letting Left w held)

  pub room_to_let : (w : ℕ) → is_held_by w (status_at st at_place) ≡ true → length c.history < room
  room_to_let w held =
      history_room i (c.history ++ entry_for Gave w ∷ []) (set st at_place Given) (entry_for Gave w) refl (gave_replay w held)

  -- an item that is held isn't over
  pub some_unsolved : (w : ℕ) → is_held_by w (status_at st at_place) ≡ true → 0 < unsolved
  some_unsolved w held =
      let some : 0 < sum_by unsolved_of st = unsolved_held st w at_place (held_is w (status_at st at_place) held) in
      let is : unsolved ≡ sum_by unsolved_of st = i.board.rest in
      omega (arith, some, is)

  -- the parent's place
  abbrev pub parent : Option ℕ
  parent = parent_place nodes parents at_place

  -- what the parent is to the item
  pub data Parent : Option ℕ → Type 0 where
    nobody : ((q : ℕ) → is_child (kids_of c q) at_place ≡ false) → Parent None
    fusion : (p : ℕ) → is_child (kids_of c p) at_place ≡ true → p < length st → Parent (Some p)

  pub parent_known : Parent parent
  parent_known = step (get_or parents (at_place % nodes) None) refl
    where
      same_node : at_place % nodes ≡ at_place % nodes_of c
      same_node = ap (λ n. at_place % n) i.nodes_is

      base : at_place / nodes * nodes ≡ at_place / nodes_of c * nodes_of c
      base = ap (λ n. at_place / n * n) i.nodes_is

      step : (o : Option ℕ) → get_or parents (at_place % nodes) None ≡ o
          → Parent (option_map (λ m. at_place / nodes * nodes + m) o)
      step None e =
          nobody (no_parent c.units c.joins parents i.parents_are i.some i.forest at_place
          (ap (λ x. get_or parents x None) (sym same_node) ∙ e))
      step (Some m) e =
          let known : get_or parents (at_place % nodes_of c) None ≡ Some m = ap (λ x. get_or parents x None) (sym same_node) ∙ e in
          let child : is_child (kids_of c (at_place / nodes_of c * nodes_of c + m)) at_place ≡ true =
          parent_is c.units c.joins parents i.parents_are at_place m i.some known in
          let below : m < nodes_of c = (i.parents_are.sound (at_place % nodes_of c) m known).0 in
          let in_slots : at_place / nodes_of c < c.slots =
          div_below at_place (nodes_of c) c.slots (omega (arith, node_in)) place_less in
          let less : at_place / nodes_of c * nodes_of c + m < nodes_of c * c.slots =
          mul-add-lt (at_place / nodes_of c) (nodes_of c) m c.slots in_slots below in
          let count : length st ≡ item_count c = status_count i in
          fusion (at_place / nodes * nodes + m)
          (subst (λ b. is_child (kids_of c (b + m)) at_place ≡ true) (sym base) child)
          (omega (arith, less, count, base))

  pub parent_inside : IfSome parent (λ p. p < length st)
  parent_inside = step parent parent_known
    where
      step : (o : Option ℕ) → Parent o → IfSome o (λ p. p < length st)
      step None q = tt
      step (Some p) (fusion _ child less) = less

  pub parent_within : IfSome parent (λ p. AreWithin (kids_of c p) (length st))
  parent_within = step parent parent_known
    where
      kids_below : (p : ℕ) → p < length st → (o : Option (ℕ × ℕ)) → kids_of c p ≡ o → AreWithin o (length st)
      kids_below p less None e = tt
      kids_below p less (Some (a, b)) e =
          let f = places_forest i in
          let left : a < p = f.before p a (ap (λ o. is_child o a) e ∙ or_left (a == a) (b == a) (eq-eqb a a refl)) in
          let right : b < p = f.before p b (ap (λ o. is_child o b) e ∙ or_right (a == b) (b == b) (eq-eqb b b refl)) in
          (omega (arith, left, less), omega (arith, right, less))

      step : (o : Option ℕ) → Parent o → IfSome o (λ p. AreWithin (kids_of c p) (length st))
      step None q = tt
      step (Some p) (fusion _ child less) = kids_below p less (kids_of c p) refl

  -- The parent goes to the places that can be taken where it can be.
  pub pushed : (new : List Status) (o : Option ℕ) → Parent o → (q : ℕ)
      → count_by (λ j. j == q) (option_to_list (ready_parent (kids_of c) new o))
      ≡ as_count (is_child (kids_of c q) at_place && is_ready (kids_of c) new q)
  pushed new None (nobody none) q =
      sym (ap as_count (and_left (is_child (kids_of c q) at_place) (is_ready (kids_of c) new q) (none q)))
  pushed new (Some p) (fusion _ child less) q = step (can_take (kids_of c) new p) refl (p == q) refl
    where
      other : (p == q) ≡ false → is_child (kids_of c q) at_place ≡ false
      other apart = pick (is_child (kids_of c q) at_place) refl
        where
          pick : (b : Bool) → is_child (kids_of c q) at_place ≡ b → b ≡ false
          pick false e = refl
          pick true e = absurd (true≢false (sym (eq-eqb p q ((places_forest i).once p q at_place child e)) ∙ apart))

      step : (b : Bool) → can_take (kids_of c) new p ≡ b → (t : Bool) → (p == q) ≡ t
          → count_by (λ j. j == q) (option_to_list (if b then Some p else None))
          ≡ as_count (is_child (kids_of c q) at_place && is_ready (kids_of c) new q)
      step true can true e =
          let cons : count_by (λ j. j == q) (p ∷ []) ≡ as_count (p == q) + 0 = sum_by-cons (λ j. as_count (j == q)) p [] in
          let one : as_count (p == q) ≡ 1 = ap as_count e in
          let same : p ≡ q = eqb-true p q e in
          let all : as_count (is_child (kids_of c q) at_place && is_ready (kids_of c) new q) ≡ 1 =
          ap as_count (and_from (is_child (kids_of c q) at_place) (is_ready (kids_of c) new q)
          (subst (λ x. is_child (kids_of c x) at_place ≡ true) same child)
          (subst (λ x. is_ready (kids_of c) new x ≡ true) same
          (and_from (is_some (kids_of c p)) (can_take (kids_of c) new p) (some_child (kids_of c p) at_place child) can))) in
          omega (arith, cons, one, all)
      step true can false e =
          let cons : count_by (λ j. j == q) (p ∷ []) ≡ as_count (p == q) + 0 = sum_by-cons (λ j. as_count (j == q)) p [] in
          let one : as_count (p == q) ≡ 0 = ap as_count e in
          let all : as_count (is_child (kids_of c q) at_place && is_ready (kids_of c) new q) ≡ 0 =
          ap as_count (and_left (is_child (kids_of c q) at_place) (is_ready (kids_of c) new q) (other e)) in
          omega (arith, cons, one, all)
      step false can true e =
          sym (ap as_count (and_right (is_child (kids_of c q) at_place) (is_ready (kids_of c) new q)
          (and_right (is_some (kids_of c q)) (can_take (kids_of c) new q) (ap (can_take (kids_of c) new) (sym (eqb-true p q e)) ∙ can))))
      step false can false e =
          sym (ap as_count (and_left (is_child (kids_of c q) at_place) (is_ready (kids_of c) new q) (other e)))

  count_append : (xs ys : List ℕ) (q : ℕ) → count_by (λ j. j == q) (xs ++ ys) ≡ count_by (λ j. j == q) xs + count_by (λ j. j == q) ys
  count_append xs ys q = sum_by-append (λ j. as_count (j == q)) xs ys

  few_parents : (new : List Status) (o : Option ℕ) → length (option_to_list (ready_parent (kids_of c) new o)) ≤ 1
  few_parents new None = omega arith
  few_parents new (Some p) = step (can_take (kids_of c) new p)
    where
      step : (b : Bool) → length (option_to_list (if b then Some p else None)) ≤ 1
      step true = omega arith
      step false = omega arith

  pub gave_kept : (w : ℕ) → is_held_by w (status_at st at_place) ≡ true
      → (st' : List Status) → st' ≡ set st at_place Given
      → (more : List ℕ) → IsPermutation (option_to_list (ready_parent (kids_of c) st' parent) ++ ready) more
      → (rest : ℕ) → rest + 1 ≡ unsolved
      → (h : List Entry) → h ≡ c.history ++ entry_for Gave w ∷ []
      → (ready_room' room' : ℕ) → ready_room' ≡ ready_room → room' ≡ room
      → IsItems (record c { history = h }) nodes parents st' more ready_room' next rest starved room'
  gave_kept w held st' st_is more permuted rest less h h_is ready_room' room' ready_room_is room_is = record {
    some = i.some;
    forest = i.forest;
    nodes_is = i.nodes_is;
    few_nodes = i.few_nodes;
    few_slots = i.few_slots;
    parents_are = i.parents_are;
    board = subst (λ x. IsBoard (kids_of c) (nodes_of c) (item_count c) h st' more ready_room' next rest starved x) (sym room_is)
        (subst (λ x. IsBoard (kids_of c) (nodes_of c) (item_count c) h st' more x next rest starved room) (sym ready_room_is)
        (subst (λ x. IsBoard (kids_of c) (nodes_of c) (item_count c) h x more ready_room next rest starved room) (sym st_is)
        (subst (λ x. IsBoard (kids_of c) (nodes_of c) (item_count c) x new more ready_room next rest starved room) (sym h_is)
        (kept_gave (kids_of c) (nodes_of c) (item_count c) c.history st ready ready_room next unsolved starved room i.board
        (entry_for Gave w) at_place (letting Gave w held) more longer tally rest less))));
  }
    where
      new : List Status
      new = set st at_place Given

      added : List ℕ
      added = option_to_list (ready_parent (kids_of c) new parent)

      moved : IsPermutation (added ++ ready) more
      moved = subst (λ s. IsPermutation (option_to_list (ready_parent (kids_of c) s parent) ++ ready) more) st_is permuted

      longer : length more ≤ length ready + 1
      longer =
          let a : length more ≡ length (added ++ ready) = length_of_permutation (added ++ ready) more moved in
          let b : length (added ++ ready) ≡ length added + length ready = length-append added ready in
          let d : length added ≤ 1 = few_parents new parent in
          omega (arith, a, b, d)

      tally : (q : ℕ) → count_by (λ j. j == q) more
          ≡ count_by (λ j. j == q) ready + as_count (is_child (kids_of c q) at_place && is_ready (kids_of c) new q)
      tally q =
          let a : count_by (λ j. j == q) more ≡ count_by (λ j. j == q) (added ++ ready) = count_of_permutation (added ++ ready) more q moved in
          let b : count_by (λ j. j == q) (added ++ ready) ≡ count_by (λ j. j == q) added + count_by (λ j. j == q) ready =
          count_append added ready q in
          let d : count_by (λ j. j == q) added ≡ as_count (is_child (kids_of c q) at_place && is_ready (kids_of c) new q) =
          pushed new parent parent_known q in
          omega (arith, a, b, d)

  pub left_kept : (w : ℕ) → is_held_by w (status_at st at_place) ≡ true
      → (st' : List Status) → st' ≡ set st at_place Lost
      → (h : List Entry) → h ≡ c.history ++ entry_for Left w ∷ [] → (room' : ℕ) → room' ≡ room
      → IsItems (record c { history = h }) nodes parents st' ready ready_room next unsolved true room'
  left_kept w held st' st_is h h_is room' room_is = record {
    some = i.some;
    forest = i.forest;
    nodes_is = i.nodes_is;
    few_nodes = i.few_nodes;
    few_slots = i.few_slots;
    parents_are = i.parents_are;
    board = subst (λ x. IsBoard (kids_of c) (nodes_of c) (item_count c) h st' ready ready_room next unsolved true x) (sym room_is)
        (subst (λ x. IsBoard (kids_of c) (nodes_of c) (item_count c) h x ready ready_room next unsolved true room) (sym st_is)
        (subst (λ x. IsBoard (kids_of c) (nodes_of c) (item_count c) x (set st at_place Lost) ready ready_room next unsolved true room) (sym h_is)
        (kept_left (kids_of c) (nodes_of c) (item_count c) c.history st ready ready_room next unsolved starved room i.board
        (entry_for Left w) at_place (letting Left w held))));
  }

  pub gave_lets : (w : ℕ) → is_held_by w (status_at st at_place) ≡ true
      → (h : List Entry) → h ≡ c.history ++ entry_for Gave w ∷ [] → (old : Course) → c ≡ old
      → Lets old (record c { history = h }) Gave w slot node
  gave_lets w held h h_is old same =
      subst (λ x. Lets x (record c { history = h }) Gave w slot node) same
      (subst (λ x. Lets c (record c { history = x }) Gave w slot node) (sym h_is)
      (record {
        adds = record {
          in_slots = slot_in;
          in_nodes = node_in;
          entry = refl;
          run = is_run (with_entry c Gave w slot node) (set st at_place Given) (gave_replay w held);
        };
        held = status_is w ∙ held;
      }))

  pub left_lets : (w : ℕ) → is_held_by w (status_at st at_place) ≡ true
      → (h : List Entry) → h ≡ c.history ++ entry_for Left w ∷ [] → (old : Course) → c ≡ old
      → Lets old (record c { history = h }) Left w slot node
  left_lets w held h h_is old same =
      subst (λ x. Lets x (record c { history = h }) Left w slot node) same
      (subst (λ x. Lets c (record c { history = x }) Left w slot node) (sym h_is)
      (record {
        adds = record {
          in_slots = slot_in;
          in_nodes = node_in;
          entry = refl;
          run = is_run (with_entry c Left w slot node) (set st at_place Lost) (left_replay w held);
        };
        held = status_is w ∙ held;
      }))
