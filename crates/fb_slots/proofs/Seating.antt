-- A seat's value, step by step.
use Rattle.std.proofs.Common.{ℕ, ◌≡◌, ◌+◌, ◌*◌, ◌/◌, ◌%◌, ◌<◌, Option, Some, None, List, [], ◌∷◌, ◌++◌, refl, sym, ap, ◌∙◌}
use Rattle.std.proofs.lemmas.Nat.{div-add-mod', div-mul-add, mod-mul-add}
use Rattle.std.proofs.lemmas.Option.{same_Some}
use Rattle.std.specs.Prelude.{option_map}
use Rattle.atomic_table.specs.Table.{Me, rest}
use Rattle.atomic_table.specs.Seated.{TableId}
use Rattle.fb_book.specs.declared.entries.EntryKind.{EntryKind}
use Rattle.fb_book.specs.declared.entries.EntryKind.TheVariants.{Took, Gave}
use Rattle.fb_book.specs.InternalBoard.{entry_at}
use Rattle.fb_slots.specs.declared.views.Hand.{Hand}
use Rattle.fb_slots.specs.Seats.{item_at, seat_value, seat_with_entry, seat_that_claimed, seat_that_gave, seat_that_took}
use Rattle.fb_slots.specs.Slots.{Layout, TakesParent, held_of, with_entry, with_unit, with_end}

-- an item's entry, by its slot and node
entry_by : (kind : EntryKind) (w n slot node k : ℕ) → slot ≡ k / n → node ≡ k % n
    → entry_at kind w n k ≡ record { kind = kind; worker = w; slot = slot; node = node }
entry_by kind w n slot node k s m = λ i. record {
  kind = kind;
  worker = w;
  slot = sym s i;
  node =
      sym m i;
}

module _ {P : Type 0} (n : ℕ) where
  -- a seat that holds nothing, and one that holds an item
  pub held_none : (held : List (ℕ × Option P)) → option_map (item_at n) (held_of held) ≡ None
      → held ≡ []
  held_none [] e = refl
  held_none (x ∷ xs) e = cc

  pub held_place : (slot node : ℕ) (held : List (ℕ × Option P))
      → option_map (item_at n) (held_of held) ≡ Some (slot, node)
      → held_of held ≡ Some (slot * n + node)
  held_place slot node [] e = cc
  held_place slot node (x ∷ xs) e =
      let pair : ◌≡◌ {A = ℕ × ℕ} (x.0 / n, x.0 % n) (slot, node) =
      same_Some (x.0 / n, x.0 % n) (slot, node) e in
      ap Some (sym (div-add-mod' x.0 n) ∙ (λ i. (pair i).0 * n + (pair i).1))

module _ {P : Type 0} (b : Layout) (board : TableId) (worker : ℕ) where
  pub claimed_value : (me new : Me (Option P) Hand) (new_board : TableId) (k slot node : ℕ)
      → new_board ≡ board
      → me.0.worker ≡ worker → new ≡ (with_unit b k me.0, (k, None) ∷ me.1) → slot ≡ k / b.nodes
      → node ≡ k % b.nodes
      → seat_value b.nodes new_board worker new ≡ seat_that_claimed slot node
      (seat_value b.nodes board worker me)
  claimed_value me new new_board k slot node same by is s m =
      ap (seat_value b.nodes new_board worker) is ∙ (λ i. record {
        board = same i;
        worker = worker;
        entries = me.0.entries ++ record {
          kind = Took;
          worker = by i;
          slot = sym s i;
          node =
              sym m i;
        } ∷ [];
        claimed = me.0.drawn + 1;
        ends = me.0.ends;
        held = Some (sym s i, sym m i);
      })

  pub ended_value : (me new : Me (Option P) Hand) (new_board : TableId) → new_board ≡ board
      → me.0.ends ≡ 0 → me.1 ≡ []
      → new ≡ (with_end me.0, me.1)
      → seat_value b.nodes new_board worker new ≡ record (seat_value b.nodes board worker me)
      { ends = 1 }
  ended_value me new new_board same none free is =
      ap (seat_value b.nodes new_board worker) is ∙ (λ i. record {
        board = same i;
        worker = worker;
        entries = me.0.entries;
        claimed = me.0.drawn;
        ends = none i + 1;
        held = option_map (item_at b.nodes) (held_of me.1);
      })

  pub let_value : (kind : EntryKind) (me new : Me (Option P) Hand) (new_board : TableId)
      (k slot node : ℕ) → new_board ≡ board
      → me.0.worker ≡ worker → new ≡ (with_entry b kind k me.0, []) → k ≡ slot * b.nodes + node
      → node < b.nodes
      → seat_value b.nodes new_board worker new
      ≡ record (seat_with_entry kind slot node (seat_value b.nodes board worker me)) { held = None }
  let_value kind me new new_board k slot node same by is at less =
      let s : k / b.nodes ≡ slot = ap (λ x. x / b.nodes) at ∙ div-mul-add slot b.nodes node less in
      let m : k % b.nodes ≡ node = ap (λ x. x % b.nodes) at ∙ mod-mul-add slot b.nodes node less in
      ap (seat_value b.nodes new_board worker) is ∙ (λ i. record {
        board = same i;
        worker = worker;
        entries = me.0.entries ++ record {
          kind = kind;
          worker = by i;
          slot = s i;
          node =
              m i;
        } ∷ [];
        claimed = me.0.drawn;
        ends = me.0.ends;
        held = None;
      })

  pub joined_value : (me new : Me (Option P) Hand) (new_board : TableId)
      (k slot node c next_slot next_node left right : ℕ)
      → new_board ≡ board → me.0.worker ≡ worker
      → new ≡ (
        with_entry b Took c (with_entry b Gave k me.0),
        (c, None) ∷ (left, None) ∷ (
          right,
          None,
        ) ∷ [],
      )
      → k ≡ slot * b.nodes + node → node < b.nodes → next_slot ≡ c / b.nodes
      → next_node ≡ c % b.nodes
      → seat_value b.nodes new_board worker new
      ≡ seat_that_took next_slot next_node
      (seat_that_gave slot node (seat_value b.nodes board worker me))
  joined_value me new new_board k slot node c next_slot next_node left right same by is at less ns
      nm =
      let s : k / b.nodes ≡ slot = ap (λ x. x / b.nodes) at ∙ div-mul-add slot b.nodes node less in
      let m : k % b.nodes ≡ node = ap (λ x. x % b.nodes) at ∙ mod-mul-add slot b.nodes node less in
      ap (seat_value b.nodes new_board worker) is ∙ (λ i. record {
        board = same i;
        worker = worker;
        entries = me.0.entries ++ record { kind = Gave; worker = by i; slot = s i; node = m i } ∷ []
            ++ record { kind = Took; worker = by i; slot = sym ns i; node = sym nm i } ∷ [];
        claimed = me.0.drawn;
        ends = me.0.ends;
        held = Some (sym ns i, sym nm i);
      })

-- what the seat is once the two pieces are taken out
module _ {P : Type 0} (IsPiece : ℕ → P → Type 0) (b : Layout) (k c : ℕ) (v : Hand)
    (w : Me (Option P) Hand) (t : TakesParent IsPiece b k c v w) where
  pub joined_me : (left right : ℕ) (mid new : Me (Option P) Hand) → b.kids c ≡ Some (left, right)
      → mid ≡ (w.0, rest w.1 ++ (left, None) ∷ []) → new ≡ (mid.0, rest mid.1 ++ (right, None) ∷ [])
      → new ≡ (
        with_entry b Took c (with_entry b Gave k v),
        (c, None) ∷ (left, None) ∷ (
          right,
          None,
        ) ∷ [],
      )
  joined_me left right mid new kids first second =
      let held : w.1 ≡ (t.left, Some t.first) ∷ (t.right, Some t.second) ∷ (c, None) ∷ [] =
      t.held in
      let mid_view : mid.0 ≡ with_entry b Took c (with_entry b Gave k v) = ap (λ m. m.0) first
      ∙ t.view in
      let mid_held : mid.1 ≡ (t.right, Some t.second) ∷ (c, None) ∷ (left, None) ∷ [] =
      ap (λ m. m.1) first ∙ ap (λ h. rest h ++ (left, None) ∷ []) held in
      second ∙ (λ i. (mid_view i, rest (mid_held i) ++ (right, None) ∷ []))
