use Rattle.std.proofs.Common.{◌≡◌, ◌<◌, ◌≤◌, ◌==◌, inr, true, false, length, is_some, sym, ap, subst, ◌∙◌, arith, rules}
use Rattle.std.proofs.lemmas.Bool.{false≢true}
use Rattle.fb_book.specs.Board.{MustWait, is_finished, kids_in}
use Rattle.fb_book.proofs.Choosing.{popped_may, popped_kids, unit_may, status_count, must_wait, finished_if}
use Rattle.fb_book.proofs.Turns.{few_items, inside, small_slot, room_to_take, kids_within, fusion_kept, fusion_told, unit_kept, unit_told}
use Rattle.fb_book.proofs.items.Items.claim.Goals as goal

pub kids_at-requires-clause-place : goal.kids_at-requires-clause-place
kids_at-requires-clause-place c =
    let i = c.self.invariant in
    let below = inside i c.in-Some.place (popped_may i _ _ c.in-Some.ensures.some c.if-self.false) in
    let few = few_items i in
    omega (arith, below, few)

pub unreachable-requires : goal.unreachable-requires
unreachable-requires c =
    let i = c.self.invariant in
    let some = popped_kids i c.in-Some.place _ c.in-Some.ensures.some in
    let none = ap (λ js. is_some (kids_in c.self.inside.units js c.in-Some.place)) (sym c.as_slice.ensures.value)
    ∙ ap is_some (sym c.kids_at.ensures ∙ c.in_default-kids_at.is) in
    false≢true (sym none ∙ some)

pub entry_of-entry-requires-clause-slot : goal.entry_of-entry-requires-clause-slot
entry_of-entry-requires-clause-slot c =
    let i = c.self.invariant in
    small_slot i c.in-Some.place (popped_may i _ _ c.in-Some.ensures.some c.if-self.false)

pub take-requires-clause-place : goal.take-requires-clause-place
take-requires-clause-place c =
    let i = c.self.invariant in
    (popped_may i c.in-Some.place _ c.in-Some.ensures.some c.if-self.false).less

pub take-requires-clause-kids : goal.take-requires-clause-kids
take-requires-clause-kids c =
    let i = c.self.invariant in
    kids_within i c.in-Some.place _ _ (popped_may i _ _ c.in-Some.ensures.some c.if-self.false)
    (ap (λ js. kids_in c.self.inside.units js c.in-Some.place) (sym c.as_slice.ensures.value)
    ∙ (sym c.kids_at.ensures ∙ c.in-Some-kids_at.is))

pub take-requires-clause-room : goal.take-requires-clause-room
take-requires-clause-room c =
    let i = c.self.invariant in
    room_to_take i 0 c.in-Some.place (popped_may i _ _ c.in-Some.ensures.some c.if-self.false)

pub invariant_of-self : goal.invariant_of-self
invariant_of-self c =
    let i = c.self.invariant in
    fusion_kept i c.args.worker c.in-Some.place _ c.in-Some.ensures.some c.if-self.false _ c.entry_of-entry.ensures _
    (sym c.in-Some-kids_at.is ∙ (c.kids_at.ensures
    ∙ ap (λ js. kids_in c.self.inside.units js c.in-Some.place) c.as_slice.ensures.value))
    _ c.take.ensures.history _ c.take.ensures.statuses _ _ c.in-Some.ensures.room c.take.ensures.room

pub returns-in-Some-clause-fusion : goal.returns-in-Some-clause-fusion
returns-in-Some-clause-fusion c =
    let i = c.self.invariant in
    fusion_told i _ c.self.view_is c.args.worker c.in-Some.place _ c.in-Some.ensures.some c.in-Some.ensures.least c.if-self.false
    _ c.entry_of-entry.ensures _ _
    (ap (λ js. kids_in c.self.inside.units js c.in-Some.place) (sym c.as_slice.ensures.value)
    ∙ (sym c.kids_at.ensures ∙ c.in-Some-kids_at.is))
    _ c.take.ensures.history

pub entry_of-entry-requires-then-place-as_slice-clause-slot :
    goal.entry_of-entry-requires-then-place-as_slice-clause-slot
entry_of-entry-requires-then-place-as_slice-clause-slot c =
    let i = c.self.invariant in
    let less : c.self.inside.next < length c.self.inside.statuses.items = search rules in
    small_slot i c.self.inside.next (unit_may i c.if-self.false (subst (λ x. c.self.inside.next < x) (status_count i) less))

pub take-requires-then-place-as_slice-clause-room : goal.take-requires-then-place-as_slice-clause-room
take-requires-then-place-as_slice-clause-room c =
    let i = c.self.invariant in
    let less : c.self.inside.next < length c.self.inside.statuses.items = search rules in
    room_to_take i 0 c.self.inside.next (unit_may i c.if-self.false (subst (λ x. c.self.inside.next < x) (status_count i) less))

pub invariant_of-self-then-place-as_slice : goal.invariant_of-self-then-place-as_slice
invariant_of-self-then-place-as_slice c =
    let i = c.self.invariant in
    let less : c.self.inside.next < length c.self.inside.statuses.items = search rules in
    unit_kept i c.args.worker c.if-self.false (subst (λ x. c.self.inside.next < x) (status_count i) less)
    _ c.entry_of-entry-then-place-as_slice.ensures _ c.take-then-place-as_slice.ensures.history _ c.take-then-place-as_slice.ensures.statuses
    _ c.unit_after-self-inside.ensures _ (ap (λ r. r.0) c.in_default.ensures.kept) _ _
    (ap (λ r. r.1) c.in_default.ensures.kept) c.take-then-place-as_slice.ensures.room

pub returns-then-place-as_slice-clause-unit : goal.returns-then-place-as_slice-clause-unit
returns-then-place-as_slice-clause-unit c =
    let i = c.self.invariant in
    let less : c.self.inside.next < length c.self.inside.statuses.items = search rules in
    unit_told i _ c.self.view_is c.args.worker c.if-self.false c.in_default.ensures.none
    (subst (λ x. c.self.inside.next < x) (status_count i) less)
    _ c.entry_of-entry-then-place-as_slice.ensures _ c.take-then-place-as_slice.ensures.history

pub returns-then-self-eq0-clause-over : goal.returns-then-self-eq0-clause-over
returns-then-self-eq0-clause-over c =
    let i = c.self.invariant in
    let e : (c.self.inside.unsolved == 0) ≡ true = search rules in
    λ _. (c.self.view_is, inr (subst (λ x. is_finished x ≡ true) c.self.view_is (sym (finished_if i) ∙ e)))

pub returns-clause-not_yet : goal.returns-clause-not_yet
returns-clause-not_yet c =
    let i = c.self.invariant in
    let e : (c.self.inside.unsolved == 0) ≡ false = search rules in
    let more : length c.self.inside.statuses.items ≤ c.self.inside.next = rw c.as_slice-2.ensures.value at c.if-place-as_slice.false in
    λ _. (
      c.self.view_is,
      subst MustWait c.self.view_is
          (must_wait i c.if-self.false c.in_default.ensures.none (subst (λ x. x ≤ c.self.inside.next) (status_count i) more) e),
    )
