-- What a book keeps stays so.
use Rattle.std.proofs.Common.{ℕ, ◌≡◌, ◌+◌, ◌*◌, ◌<◌, ◌≤◌, ◌==◌, Bool, true, false, is_some, Option, Some, None, List, [], length, get_or, set, All, ◌⊎◌, inl, inr, refl, sym, ap, subst, ◌∙◌, arith}
use Rattle.std.proofs.lemmas.Bool.{eqb-true, eqb-false, eq-eqb, false≢true, true≢false, cases_lt, and_parts, or_parts, or_left, or_right, or_from}
use Rattle.std.proofs.lemmas.List.{get_or-set_same, get_or-set_other, get_or_past, length-set}
use Rattle.std.proofs.lemmas.List.Elements.{All-push}
use Rattle.std.proofs.lemmas.Nat.{mul-add-lt}
use Rattle.std.proofs.lemmas.Option.{same_Some}
use Rattle.std.specs.Prelude.{nat_lt}
use Rattle.fb_book.specs.declared.entries.EntryKind.{EntryKind}
use Rattle.fb_book.specs.declared.entries.EntryKind.TheVariants.{Took, Gave, Left}
use Rattle.fb_book.specs.declared.entries.Entry.{Entry}
use Rattle.fb_book.specs.declared.entries.Status.TheVariants.{Held, Given, Left as Lost}
use Rattle.fb_book.specs.Machine.{is_child, status_at, is_given, is_used, is_permitted, after, all_idle}
use Rattle.fb_book.specs.Board.{Course, kids_of, nodes_of, item_count, statuses_of, IsRun, place_in, with_entry, Adds, Lets, TakesUnit, TakesFusion}
use Rattle.fb_book.specs.Books.{course_of, IsKept, IsPieceAt}
use Rattle.fb_plan.specs.Plans.{JobValue}
use Rattle.fb_book.proofs.Statuses.{IsSetAt, here, there, IsTakenAt, taken, used, same, set_at, taken_at, within, held_is, child_given, MayTake, may_take}
use Rattle.fb_book.proofs.History.{Midway, midway}

-- what an entry did to the statuses
pub record Added (old : Course) (new : Course) (kind : EntryKind) (worker k : ℕ) : Type 0 where
  pub allowed : is_permitted (kids_of old) (statuses_of old) kind worker k ≡ true
  pub statuses : statuses_of new ≡ after (kids_of old) (statuses_of old) kind worker k

pub added : (old new : Course) (kind : EntryKind) (worker slot node : ℕ) → IsRun old → Adds old new kind worker slot node
    → Added old new kind worker (place_in old slot node)
added old new kind worker slot node run a =
    subst (λ x. Added old x kind worker (place_in old slot node)) (sym a.entry)
    (close (midway (kids_of old) (nodes_of old) old.history (all_idle (item_count old)) e [] (statuses_of next)
    (subst IsRun a.entry a.run)))
  where
    e : Entry
    e = record { kind = kind; worker = worker; slot = slot; node = node }

    next : Course
    next = with_entry old kind worker slot node

    close : Midway (kids_of old) (nodes_of old) (all_idle (item_count old)) old.history e [] (statuses_of next)
        → Added old next kind worker (place_in old slot node)
    close m =
        let same : m.statuses ≡ statuses_of old = same_Some m.statuses (statuses_of old) (sym m.replayed ∙ run) in
        record {
          allowed = subst (λ s. is_permitted (kids_of old) s kind worker (place_in old slot node) ≡ true) same
              (and_parts (nat_lt node (nodes_of old)) (is_permitted (kids_of old) m.statuses kind worker (place_in old slot node)) m.allowed).1;
          statuses = sym (subst (λ s. after (kids_of old) s kind worker (place_in old slot node) ≡ statuses_of next) same
              (same_Some (after (kids_of old) m.statuses kind worker (place_in old slot node)) (statuses_of next) m.onward));
        }

-- the entry of a place in a list
pub get_set : {X : Type 0} (xs : List (Option X)) (i j : ℕ) (x : Option X) → i < length xs → (i == j) ≡ true
    → get_or (set xs i x) j None ≡ x
get_set xs i j x less e =
    ap (λ y. get_or (set xs i x) y None) (sym (eqb-true i j e)) ∙ get_or-set_same xs i x None less

pub get_else : {X : Type 0} (xs : List (Option X)) (i j : ℕ) (x : Option X) → (i == j) ≡ false
    → get_or (set xs i x) j None ≡ get_or xs j None
get_else xs i j x e = get_or-set_other xs i j x None (λ s. eqb-false i j e (sym s))

-- where nothing is put it is empty or as before
pub emptied : {X : Type 0} (xs : List (Option X)) (i j : ℕ)
    → ((i == j) ≡ true → get_or (set xs i None) j None ≡ None)
    × ((i == j) ≡ false → get_or (set xs i None) j None ≡ get_or xs j None)
emptied xs i j = (λ e. pick (cases_lt i (length xs)) e, λ e. get_else xs i j None e)
  where
    pick : (i < length xs) ⊎ (length xs ≤ i) → (i == j) ≡ true → get_or (set xs i None) j None ≡ None
    pick (inl less) e = get_set xs i j None less e
    pick (inr more) e =
        let at : i ≡ j = eqb-true i j e in
        let size : length (set xs i None) ≡ length xs = length-set xs i None in
        get_or_past (set xs i None) j None (omega (arith, at, size, more))

module _ {P : Type 0} (job_of : P → JobValue) (slot_of node_of : P → ℕ) (made_of : P → Option (List ℕ)) (job : JobValue) (workers : ℕ)
    (old new : Course) (parked : List (Option P)) (old_is : old ≡ course_of job old.history) (run : IsRun old)
    (k : IsKept job_of slot_of node_of made_of job workers old.history parked) where
  -- the course of a job is told by its history
  pub course_same : (kind : EntryKind) (w slot node : ℕ) → Adds old new kind w slot node → new ≡ course_of job new.history
  course_same kind w slot node a =
      let one : new ≡ with_entry old kind w slot node = a.entry in
      one ∙ (ap (λ c. with_entry c kind w slot node) old_is ∙ ap (λ c. course_of job c.history) (sym one))

  statuses_old : statuses_of (course_of job old.history) ≡ statuses_of old
  statuses_old = ap statuses_of (sym old_is)

  given_old : (j : ℕ) → is_given (status_at (statuses_of old) j) ≡ is_some (get_or parked j None)
  given_old j = ap (λ s. is_given (status_at s j)) (sym statuses_old) ∙ k.given j

  by_new : (kind : EntryKind) (w slot node : ℕ) → w ≤ workers → Adds old new kind w slot node → All (λ e. e.worker ≤ workers) new.history
  by_new kind w slot node few a =
      subst (λ c. All (λ e. e.worker ≤ workers) c.history) (sym a.entry)
      (All-push (λ e. e.worker ≤ workers) old.history (record { kind = kind; worker = w; slot = slot; node = node }) k.by few)

  -- the same book after an entry, where pieces are told place by place
  pub kept_by : (kind : EntryKind) (w slot node : ℕ) → w ≤ workers → (a : Adds old new kind w slot node)
      → (left : List (Option P)) → length left ≡ length parked
      → ((j : ℕ) → is_given (status_at (after (kids_of old) (statuses_of old) kind w (place_in old slot node)) j) ≡ is_some (get_or left j None))
      → ((j : ℕ) (p : P) → get_or left j None ≡ Some p → IsPieceAt job_of slot_of node_of made_of job j p)
      → IsKept job_of slot_of node_of made_of job workers new.history left
  kept_by kind w slot node few a left size given pieces = record {
    by = by_new kind w slot node few a;
    count = size ∙ k.count;
    given = λ j. ap (λ s. is_given (status_at s j)) statuses ∙ given j;
    pieces = pieces;
  }
    where
      statuses : statuses_of (course_of job new.history) ≡ after (kids_of old) (statuses_of old) kind w (place_in old slot node)
      statuses = ap statuses_of (sym (course_same kind w slot node a)) ∙ (added old new kind w slot node run a).statuses

  pub kept_unit_taken : (w slot node : ℕ) → w ≤ workers → TakesUnit old new w slot node
      → IsKept job_of slot_of node_of made_of job workers new.history parked
  kept_unit_taken w slot node few t = kept_by Took w slot node few t.adds parked refl (λ j. given j (at j)) k.pieces
    where
      q : ℕ
      q = place_in old slot node

      m : MayTake (kids_of old) (statuses_of old) q
      m = may_take (kids_of old) (statuses_of old) w q (added old new Took w slot node run t.adds).allowed

      at : (j : ℕ) → IsTakenAt (kids_of old q) q w j (status_at (statuses_of old) j) (status_at (after (kids_of old) (statuses_of old) Took w q) j)
      at j = taken_at (kids_of old) (statuses_of old) q w j m.less

      childless : (o : Option (ℕ × ℕ)) (j : ℕ) → is_some o ≡ false → is_child o j ≡ true → ⊥
      childless None j none child = false≢true child
      childless (Some pair) j none child = true≢false none

      given : (j : ℕ) → IsTakenAt (kids_of old q) q w j (status_at (statuses_of old) j) (status_at (after (kids_of old) (statuses_of old) Took w q) j)
          → is_given (status_at (after (kids_of old) (statuses_of old) Took w q) j) ≡ is_some (get_or parked j None)
      given j (taken i f) = ap is_given f ∙ (sym (ap is_given (ap (status_at (statuses_of old)) (sym i) ∙ m.idle)) ∙ given_old j)
      given j (used i child f) = absurd (childless (kids_of old q) j t.unit child)
      given j (same i other f) = ap is_given f ∙ given_old j

  pub kept_fusion_taken : (w slot node left right : ℕ) → w ≤ workers → TakesFusion old new w slot node left right
      → (rest : List (Option P)) → rest ≡ set (set parked left None) right None
      → IsKept job_of slot_of node_of made_of job workers new.history rest
  kept_fusion_taken w slot node left right few t rest rest_is =
      subst (λ r. IsKept job_of slot_of node_of made_of job workers new.history r) (sym rest_is)
      (kept_by Took w slot node few t.adds (set (set parked left None) right None)
      (length-set (set parked left None) right None ∙ length-set parked left None)
      (λ j. given j (at j) (left == j) refl (right == j) refl)
      (λ j p e. pieces j p (left == j) refl (right == j) refl e))
    where
      q : ℕ
      q = place_in old slot node

      after_it : List (Option P)
      after_it = set (set parked left None) right None

      m : MayTake (kids_of old) (statuses_of old) q
      m = may_take (kids_of old) (statuses_of old) w q (added old new Took w slot node run t.adds).allowed

      at : (j : ℕ) → IsTakenAt (kids_of old q) q w j (status_at (statuses_of old) j) (status_at (after (kids_of old) (statuses_of old) Took w q) j)
      at j = taken_at (kids_of old) (statuses_of old) q w j m.less

      is_kid : (j : ℕ) → is_child (kids_of old q) j ≡ is_child (Some (left, right)) j
      is_kid j = ap (λ o. is_child o j) t.children

      gone : (j : ℕ) → (x : Bool) → (left == j) ≡ x → (y : Bool) → (right == j) ≡ y → is_child (kids_of old q) j ≡ true
          → get_or after_it j None ≡ None
      gone j x e true f child = (emptied (set parked left None) right j).0 f
      gone j true e false f child = (emptied (set parked left None) right j).1 f ∙ (emptied parked left j).0 e
      gone j false e false f child =
          absurd (false≢true (sym (or_from (left == j) (right == j) e f) ∙ (sym (is_kid j) ∙ child)))

      stays : (j : ℕ) → is_child (kids_of old q) j ≡ false → get_or after_it j None ≡ get_or parked j None
      stays j other =
          let parts = or_parts (left == j) (right == j) (sym (is_kid j) ∙ other) in
          (emptied (set parked left None) right j).1 parts.1 ∙ (emptied parked left j).1 parts.0

      given : (j : ℕ) → IsTakenAt (kids_of old q) q w j (status_at (statuses_of old) j) (status_at (after (kids_of old) (statuses_of old) Took w q) j)
          → (x : Bool) → (left == j) ≡ x → (y : Bool) → (right == j) ≡ y
          → is_given (status_at (after (kids_of old) (statuses_of old) Took w q) j) ≡ is_some (get_or after_it j None)
      given j (taken i f) x e y g = taken_one (is_child (kids_of old q) j) refl
        where
          was : is_some (get_or parked j None) ≡ false
          was = sym (given_old j) ∙ ap is_given (ap (status_at (statuses_of old)) (sym i) ∙ m.idle)

          taken_one : (b : Bool) → is_child (kids_of old q) j ≡ b
              → is_given (status_at (after (kids_of old) (statuses_of old) Took w q) j) ≡ is_some (get_or after_it j None)
          taken_one true child = ap is_given f ∙ sym (ap is_some (gone j x e y g child))
          taken_one false other = ap is_given f ∙ (sym was ∙ ap is_some (sym (stays j other)))
      given j (used i child f) x e y g = ap is_given f ∙ sym (ap is_some (gone j x e y g child))
      given j (same i other f) x e y g = ap is_given f ∙ (given_old j ∙ ap is_some (sym (stays j other)))

      pieces : (j : ℕ) (p : P) → (x : Bool) → (left == j) ≡ x → (y : Bool) → (right == j) ≡ y
          → get_or after_it j None ≡ Some p → IsPieceAt job_of slot_of node_of made_of job j p
      pieces j p x e true g h = let none : get_or after_it j None ≡ None = (emptied (set parked left None) right j).0 g in cc
      pieces j p true e false g h =
          let none : get_or after_it j None ≡ None = (emptied (set parked left None) right j).1 g ∙ (emptied parked left j).0 e in cc
      pieces j p false e false g h =
          k.pieces j p (sym ((emptied (set parked left None) right j).1 g ∙ (emptied parked left j).1 e) ∙ h)

  -- the pieces of a fusion's children wait
  pub both_wait : (w slot node left right : ℕ) → TakesFusion old new w slot node left right
      → (left == right) ≡ false → (is_some (get_or parked left None) ≡ true) × (is_some (get_or (set parked left None) right None) ≡ true)
  both_wait w slot node left right t apart = (one left (or_left (left == left) (right == left) (eq-eqb left left refl)), two)
    where
      q : ℕ
      q = place_in old slot node

      m : MayTake (kids_of old) (statuses_of old) q
      m = may_take (kids_of old) (statuses_of old) w q (added old new Took w slot node run t.adds).allowed

      one : (j : ℕ) → is_child (Some (left, right)) j ≡ true → is_some (get_or parked j None) ≡ true
      one j child =
          sym (given_old j) ∙ ap is_given (child_given (kids_of old q) (statuses_of old) j m.given
          (ap (λ o. is_child o j) t.children ∙ child))

      two : is_some (get_or (set parked left None) right None) ≡ true
      two = ap is_some ((emptied parked left right).1 apart) ∙ one right (or_right (left == right) (right == right) (eq-eqb right right refl))

  pub kept_given : (w slot node : ℕ) → w ≤ workers → Lets old new Gave w slot node
      → (piece : P) → IsPieceAt job_of slot_of node_of made_of job (place_in old slot node) piece
      → (more : List (Option P)) → more ≡ set parked (place_in old slot node) (Some piece)
      → IsKept job_of slot_of node_of made_of job workers new.history more
  kept_given w slot node few l piece piece_is more more_is =
      subst (λ r. IsKept job_of slot_of node_of made_of job workers new.history r) (sym more_is)
      (kept_by Gave w slot node few l.adds (set parked q (Some piece)) (length-set parked q (Some piece))
      (λ j. given j (set_at (statuses_of old) q Given j (within (statuses_of old) q (ap is_used held))))
      (λ j p e. pieces j p (q == j) refl e))
    where
      q : ℕ
      q = place_in old slot node

      held : status_at (statuses_of old) q ≡ Held w
      held = held_is w (status_at (statuses_of old) q) l.held

      inside : q < length parked
      inside = pick (cases_lt q (length parked))
        where
          pick : (q < length parked) ⊎ (length parked ≤ q) → q < length parked
          pick (inl less) = less
          pick (inr more) =
              let less : slot * nodes_of old + node < nodes_of old * old.slots =
              mul-add-lt slot (nodes_of old) node old.slots l.adds.in_slots l.adds.in_nodes in
              let count : length parked ≡ item_count (course_of job old.history) = k.count in
              let items : item_count old ≡ item_count (course_of job old.history) = ap item_count old_is in
              absurd (omega (arith, less, count, items, more))

      given : (j : ℕ) → IsSetAt q Given j (status_at (statuses_of old) j) (status_at (set (statuses_of old) q Given) j)
          → is_given (status_at (set (statuses_of old) q Given) j) ≡ is_some (get_or (set parked q (Some piece)) j None)
      given j (here i f) = ap is_given f ∙ sym (ap is_some (get_set parked q j (Some piece) inside (eq-eqb q j i)))
      given j (there i f) = ap is_given f ∙ (given_old j ∙ ap is_some (sym (get_else parked q j (Some piece) i)))

      pieces : (j : ℕ) (p : P) → (b : Bool) → (q == j) ≡ b → get_or (set parked q (Some piece)) j None ≡ Some p
          → IsPieceAt job_of slot_of node_of made_of job j p
      pieces j p true i e =
          let same : piece ≡ p = some_is piece p (sym (get_set parked q j (Some piece) inside i) ∙ e) in
          subst (λ x. IsPieceAt job_of slot_of node_of made_of job j x) same (subst (λ x. IsPieceAt job_of slot_of node_of made_of job x piece) (eqb-true q j i) piece_is)
        where
          some_is : (x y : P) → Some x ≡ Some y → x ≡ y
          some_is x y e = cc
      pieces j p false i e = k.pieces j p (sym (get_else parked q j (Some piece) i) ∙ e)

  pub kept_lost : (w slot node : ℕ) → w ≤ workers → Lets old new Left w slot node
      → IsKept job_of slot_of node_of made_of job workers new.history parked
  kept_lost w slot node few l =
      kept_by Left w slot node few l.adds parked refl
      (λ j. given j (set_at (statuses_of old) q Lost j (within (statuses_of old) q (ap is_used held)))) k.pieces
    where
      q : ℕ
      q = place_in old slot node

      held : status_at (statuses_of old) q ≡ Held w
      held = held_is w (status_at (statuses_of old) q) l.held

      given : (j : ℕ) → IsSetAt q Lost j (status_at (statuses_of old) j) (status_at (set (statuses_of old) q Lost) j)
          → is_given (status_at (set (statuses_of old) q Lost) j) ≡ is_some (get_or parked j None)
      given j (here i f) = ap is_given f ∙ (sym (ap is_given (ap (status_at (statuses_of old)) (sym i) ∙ held)) ∙ given_old j)
      given j (there i f) = ap is_given f ∙ given_old j
