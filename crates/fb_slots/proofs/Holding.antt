-- What a worker's seat keeps, step by step.
use Rattle.std.proofs.Common.{ℕ, ◌≡◌, ◌≢◌, ◌+◌, ◌<◌, ◌≤◌, Option, Some, None, List, [], ◌∷◌, ◌++◌, inl, inr, refl, sym, ap, subst, ◌∙◌, arith}
use Rattle.std.proofs.lemmas.Bool.{cases_eq}
use Rattle.std.proofs.lemmas.List.Elements.{All-append, All-cons, All-nil}
use Rattle.std.specs.List.{All}
use Rattle.fb_book.specs.declared.entries.Entry.{Entry}
use Rattle.fb_book.specs.InternalBoard.{entry_at}
use Rattle.std.proofs.lemmas.Option.{same_Some}
use Rattle.fb_book.specs.declared.entries.EntryKind.{EntryKind}
use Rattle.fb_book.specs.declared.entries.EntryKind.TheVariants.{Took, Gave, Left}
use Rattle.fb_book.specs.Machine.{trace}
use Rattle.atomic_table.specs.Table.{Me}
use Rattle.fb_slots.specs.declared.views.Hand.{Hand}
use Rattle.fb_slots.specs.Slots.{Layout, weigh, as_taken, as_given, as_left, hand, with_entry, with_unit, with_end, out_of, IsHeld, IsClosed, IsHolding, IsSeat, held_of}
use Rattle.fb_slots.proofs.Hands.{trace_more, trace_same, in_more, in_same}

module _ (b : Layout) where
  -- other items stay as they were
  closed_else : (kind : EntryKind) (k j : ℕ) (v : Hand) → j ≢ k → IsClosed b v j
      → IsClosed b (with_entry b kind k v) j
  closed_else kind k j v ne h =
      let t = in_same b as_taken kind k j v ne in let g = in_same b as_given kind k j v ne in
      let l = in_same b as_left kind k j v ne in omega (arith, t, g, l, h)

  -- an item is taken that stands in no entry
  pub took_held : (k : ℕ) (v : Hand) → k < b.count → 0 < v.seats → trace b.nodes k v.entries ≡ []
      → IsHeld b (with_entry b Took k v) k
  took_held k v less seated none = record {
    less = less;
    took = trace_more b Took k v
        ∙ ap (λ x. x ++ (Took, v.worker) ∷ []) none;
    seated = seated;
  }

  pub took_closed : (k : ℕ) (v : Hand) → ((j : ℕ) → IsClosed b v j) → (j : ℕ) → j ≢ k
      → IsClosed b (with_entry b Took k v) j
  took_closed k v h j ne = closed_else Took k j v ne (h j)

  -- a held item is let go
  let_closed : (kind : EntryKind) → as_taken kind ≡ 0 → as_given kind + as_left kind ≡ 1
      → (k : ℕ) (v : Hand) → IsHeld b v k → ((j : ℕ) → j ≢ k → IsClosed b v j)
      → (j : ℕ) → IsClosed b (with_entry b kind k v) j
  let_closed kind z one k v held h j = elim (cases_eq j k) [
    | inl e ↦
        let t = in_more b as_taken kind k v in let g = in_more b as_given kind k v in let l =
        in_more b as_left kind k v in
        let t0 = ap (weigh as_taken) held.took in let g0 = ap (weigh as_given) held.took in let l0 =
        ap (weigh as_left) held.took in
        subst (λ x. IsClosed b (with_entry b kind k v) x) (sym e)
        (let q : IsClosed b (with_entry b kind k v) k =
        omega (arith, t, g, l, t0, g0, l0, z, one) in q)
    | inr ne ↦ closed_else kind k j v ne (h j ne)
  ]

  pub gave_closed : (k : ℕ) (v : Hand) → IsHeld b v k → ((j : ℕ) → j ≢ k → IsClosed b v j) → (j : ℕ)
      → IsClosed b (with_entry b Gave k v) j
  gave_closed k v held h j = let_closed Gave refl refl k v held h j

  pub left_closed : (k : ℕ) (v : Hand) → IsHeld b v k → ((j : ℕ) → j ≢ k → IsClosed b v j) → (j : ℕ)
      → IsClosed b (with_entry b Left k v) j
  left_closed k v held h j = let_closed Left refl refl k v held h j

  -- each entry names the worker
  abbrev AreBy : ℕ → List Entry → Type 0
  AreBy w es = All (λ e. e.worker ≡ w) es

  own_more : (w : ℕ) (kind : EntryKind) (k : ℕ) (v : Hand) → v.worker ≡ w → AreBy w v.entries
      → AreBy w (with_entry b kind k v).entries
  own_more w kind k v is own =
      All-append (λ e. e.worker ≡ w) v.entries (entry_at kind v.worker b.nodes k ∷ []) own
      (All-cons (λ e. e.worker ≡ w) (entry_at kind v.worker b.nodes k) [] is
      (All-nil (λ e. e.worker ≡ w)))

module _ {P : Type 0} (b : Layout) where
  -- a seat that holds nothing, and one that holds an item
  holds_none : (v : Hand) (held : List (ℕ × Option P)) → held ≡ [] → ((j : ℕ) → IsClosed b v j)
      → IsHolding b v held
  holds_none v held none h = record {
    free = λ e. h;
    item = λ k e. let f : None ≡ Some k = ap held_of (sym none) ∙ e in cc;
  }

  holds_one : (v : Hand) (k : ℕ) (held : List (ℕ × Option P)) → held ≡ (k, None) ∷ out_of (b.kids k)
      → IsHeld b v k → ((j : ℕ) → j ≢ k → IsClosed b v j) → IsHolding b v held
  holds_one v k held one is h = record {
    free = λ e. let f : (k, None) ∷ out_of (b.kids k) ≡ [] = sym one ∙ e in cc;
    item = λ j e.
        let f : k ≡ j = same_Some k j (ap held_of (sym one) ∙ e) in
        subst (λ x. (held ≡ (x, None) ∷ out_of (b.kids x)) × IsHeld b v x × ((j : ℕ) → j ≢ x
        → IsClosed b v j)) f (one, is, h);
  }

module _ {P : Type 0} (b : Layout) (worker : ℕ) where
  -- a unit is claimed
  pub seat_took : (me : Me (Option P) Hand) (k : ℕ) → IsSeat {P = P} b worker me → me.1 ≡ []
      → k < b.count → trace b.nodes k me.0.entries ≡ []
      → b.kids k ≡ None → IsSeat {P = P} b worker (with_unit b k me.0, (k, None) ∷ me.1)
  seat_took me k s none less fresh unit = record {
    worker_is = s.worker_is;
    by = s.by;
    seats = s.seats;
    own = own_more b worker Took k me.0 s.worker_is s.own;
    slots = holds_one b (with_unit b k me.0) k ((k, None) ∷ me.1)
        (ap (λ x. (k, None) ∷ x) (none ∙ ap out_of (sym unit)))
        (let h = took_held b k me.0 less (let one = s.seats in omega (arith, one)) fresh in
        record { less = h.less; took = h.took; seated = h.seated })
        (took_closed b k me.0 (s.slots.free none));
  }

  -- no unit is left
  pub seat_ended : (me : Me (Option P) Hand) → IsSeat {P = P} b worker me
      → IsSeat {P = P} b worker (with_end me.0, me.1)
  seat_ended me s = record {
    worker_is = s.worker_is;
    by = s.by;
    seats = s.seats;
    own = s.own;
    slots = record {
      free = s.slots.free;
      item = λ k e. let h = s.slots.item k e in
          (h.0, record { less = h.1.less; took = h.1.took; seated = h.1.seated }, h.2);
    };
  }

  -- an item is given, and no fusion is taken
  pub seat_gave : (me : Me (Option P) Hand) (k : ℕ) → IsSeat {P = P} b worker me
      → held_of me.1 ≡ Some k → IsSeat {P = P} b worker (with_entry b Gave k me.0, [])
  seat_gave me k s e =
      let h = s.slots.item k e in
      record {
        worker_is = s.worker_is;
        by = s.by;
        seats = s.seats;
        own =
            own_more b worker Gave k me.0 s.worker_is s.own;
        slots =
            holds_none b (with_entry b Gave k me.0) [] refl (gave_closed b k me.0 h.1 h.2);
      }

  pub seat_left : (me : Me (Option P) Hand) (k : ℕ) → IsSeat {P = P} b worker me
      → held_of me.1 ≡ Some k → IsSeat {P = P} b worker (with_entry b Left k me.0, [])
  seat_left me k s e =
      let h = s.slots.item k e in
      record {
        worker_is = s.worker_is;
        by = s.by;
        seats = s.seats;
        own =
            own_more b worker Left k me.0 s.worker_is s.own;
        slots =
            holds_none b (with_entry b Left k me.0) [] refl (left_closed b k me.0 h.1 h.2);
      }

  -- an item is given, and the fusion at place c is taken
  pub seat_joined : (me : Me (Option P) Hand) (k c : ℕ) (left right : ℕ)
      → IsSeat {P = P} b worker me → held_of me.1 ≡ Some k → c < b.count → k ≢ c
      → trace b.nodes c me.0.entries ≡ []
      → b.kids c ≡ Some (left, right)
      → IsSeat {P = P} b worker (
        with_entry b Took c (with_entry b Gave k me.0),
        (c, None) ∷ (left, None) ∷ (right, None) ∷ [],
      )
  seat_joined me k c left right s e less ne fresh kids =
      let h = s.slots.item k e in
      let fresh' : trace b.nodes c (with_entry b Gave k me.0).entries ≡ [] =
      trace_same b Gave k c me.0 (λ q. ne (sym q)) ∙ fresh in
      record {
        worker_is = s.worker_is;
        by = s.by;
        seats = s.seats;
        own = own_more b worker Took c (with_entry b Gave k me.0) s.worker_is
            (own_more b worker Gave k me.0 s.worker_is s.own);
        slots = holds_one b (with_entry b Took c (with_entry b Gave k me.0)) c
            ((c, None) ∷ (left, None) ∷ (right, None) ∷ [])
            (ap (λ x. (c, None) ∷ x) (ap out_of (sym kids)))
            (took_held b c (with_entry b Gave k me.0) less (let one = s.seats in omega (arith, one))
            fresh')
            (took_closed b c (with_entry b Gave k me.0) (gave_closed b k me.0 h.1 h.2));
      }

  -- a seat that holds nothing and has no entry
  pub seat_new : (held : List (ℕ × Option P)) (ends : ℕ) → held ≡ [] → worker ≤ b.workers
      → IsSeat {P = P} b worker (hand worker [] ends 1 0, held)
  seat_new held ends none by = record {
    worker_is = refl;
    by = by;
    seats = refl;
    own = All-nil (λ e. e.worker ≡ worker);
    slots = holds_none b (hand worker [] ends 1 0) held none (λ j. refl);
  }
