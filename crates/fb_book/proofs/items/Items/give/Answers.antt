use Rattle.std.proofs.Common.{◌≡◌, ◌+◌, ◌-◌, ◌*◌, ◌<◌, true, ◌++◌, length, set, IfSome, sym, ap, subst, ◌∙◌, arith, rules}
use Rattle.std.proofs.lemmas.Grind.{common_steps}
use Rattle.std.proofs.lemmas.List.{length-set}
use Rattle.std.specs.Option.{option_to_list}
use Rattle.std.specs.List.Sorted.{IsPermutation}
use Rattle.fb_book.specs.declared.entries.Status.TheVariants.{Given}
use Rattle.fb_book.specs.Machine.{is_held_by, status_at}
use Rattle.fb_book.specs.Board.{kids_in, nodes_of}
use Rattle.fb_book.specs.InternalBoard.{AreWithin, parent_place, ready_parent}
use Rattle.fb_book.proofs.Giving.{gave_kept, gave_lets, parent_inside, parent_within, place_inside, room_to_let, some_unsolved}
use Rattle.fb_book.proofs.items.Items.give.Goals as goal

pub holds-requires : goal.holds-requires
holds-requires c =
    let i = c.self.invariant in
    let s = subst (λ x. c.args.slot < x.slots) (sym c.self.view_is) c.requires.slot in
    let n = subst (λ x. c.args.node < nodes_of x) (sym c.self.view_is) c.requires.node in
    subst (λ k. k < length c.as_slice.result.now) (sym c.place_of-place.ensures)
    (subst (λ xs. c.args.slot * c.self.inside.nodes + c.args.node < length xs) (sym c.as_slice.ensures.value)
    (place_inside i c.args.slot c.args.node s n))

pub parent_at-parent-requires-clause-place : goal.parent_at-parent-requires-clause-place
parent_at-parent-requires-clause-place c = grind (arith, common_steps)

pub let_go-requires-clause-place : goal.let_go-requires-clause-place
let_go-requires-clause-place c = grind (arith, common_steps)

pub let_go-requires-clause-room : goal.let_go-requires-clause-room
let_go-requires-clause-room c =
    let i = c.self.invariant in
    let s = subst (λ x. c.args.slot < x.slots) (sym c.self.view_is) c.requires.slot in
    let n = subst (λ x. c.args.node < nodes_of x) (sym c.self.view_is) c.requires.node in
    let yes_it_is : c.holds.result ≡ true = search rules in
    let held = ap (λ k. is_held_by c.args.worker (status_at c.self.inside.statuses.items k)) (sym c.place_of-place.ensures)
    ∙ (ap (λ xs. is_held_by c.args.worker (status_at xs c.place_of-place.result)) (sym c.as_slice.ensures.value)
    ∙ (sym c.holds.ensures ∙ yes_it_is)) in
    room_to_let i c.args.slot c.args.node s n c.args.worker held

pub takeable_parent-parent-requires-clause-place : goal.takeable_parent-parent-requires-clause-place
takeable_parent-parent-requires-clause-place c =
    let i = c.self.invariant in
    let s = subst (λ x. c.args.slot < x.slots) (sym c.self.view_is) c.requires.slot in
    let n = subst (λ x. c.args.node < nodes_of x) (sym c.self.view_is) c.requires.node in
    let size = ap length c.as_slice-4.ensures.value
    ∙ (ap length c.let_go.ensures.statuses ∙ length-set c.self.inside.statuses.items c.place_of-place.result Given) in
    let parent = c.parent_at-parent.ensures
    ∙ (ap (λ ps. parent_place c.self.inside.nodes ps c.place_of-place.result) c.as_slice-2.ensures.value
    ∙ ap (λ k. parent_place c.self.inside.nodes c.self.inside.parents.items k) c.place_of-place.ensures) in
    subst (λ o. IfSome o (λ p. p < length c.as_slice-4.result.now)) (sym parent)
    (subst (λ l. IfSome (parent_place c.self.inside.nodes c.self.inside.parents.items (c.args.slot * c.self.inside.nodes + c.args.node)) (λ p. p < l)) (sym size)
    (parent_inside i c.args.slot c.args.node s n))

pub takeable_parent-parent-requires-clause-kids : goal.takeable_parent-parent-requires-clause-kids
takeable_parent-parent-requires-clause-kids c =
    let i = c.self.invariant in
    let s = subst (λ x. c.args.slot < x.slots) (sym c.self.view_is) c.requires.slot in
    let n = subst (λ x. c.args.node < nodes_of x) (sym c.self.view_is) c.requires.node in
    let size = ap length c.as_slice-4.ensures.value
    ∙ (ap length c.let_go.ensures.statuses ∙ length-set c.self.inside.statuses.items c.place_of-place.result Given) in
    let parent = c.parent_at-parent.ensures
    ∙ (ap (λ ps. parent_place c.self.inside.nodes ps c.place_of-place.result) c.as_slice-2.ensures.value
    ∙ ap (λ k. parent_place c.self.inside.nodes c.self.inside.parents.items k) c.place_of-place.ensures) in
    subst (λ o. IfSome o (λ p. AreWithin (kids_in c.self.inside.units c.as_slice-3.result.now p) (length c.as_slice-4.result.now))) (sym parent)
    (subst (λ l. IfSome (parent_place c.self.inside.nodes c.self.inside.parents.items (c.args.slot * c.self.inside.nodes + c.args.node)) (λ p. AreWithin (kids_in c.self.inside.units c.as_slice-3.result.now p) l)) (sym size)
    (subst (λ js. IfSome (parent_place c.self.inside.nodes c.self.inside.parents.items (c.args.slot * c.self.inside.nodes + c.args.node)) (λ p. AreWithin (kids_in c.self.inside.units js p) (length c.self.inside.statuses.items))) (sym c.as_slice-3.ensures.value)
    (parent_within i c.args.slot c.args.node s n)))

pub push_some-requires : goal.push_some-requires
push_some-requires c = grind (arith, common_steps)

pub overflow_sub-self : goal.overflow_sub-self
overflow_sub-self c = grind (arith, common_steps)

pub invariant_of-self : goal.invariant_of-self
invariant_of-self c =
    let i = c.self.invariant in
    let s = subst (λ x. c.args.slot < x.slots) (sym c.self.view_is) c.requires.slot in
    let n = subst (λ x. c.args.node < nodes_of x) (sym c.self.view_is) c.requires.node in
    let yes_it_is : c.holds.result ≡ true = search rules in
    let held = ap (λ k. is_held_by c.args.worker (status_at c.self.inside.statuses.items k)) (sym c.place_of-place.ensures)
    ∙ (ap (λ xs. is_held_by c.args.worker (status_at xs c.place_of-place.result)) (sym c.as_slice.ensures.value)
    ∙ (sym c.holds.ensures ∙ yes_it_is)) in
    let size = ap length c.as_slice-4.ensures.value
    ∙ (ap length c.let_go.ensures.statuses ∙ length-set c.self.inside.statuses.items c.place_of-place.result Given) in
    let parent = c.parent_at-parent.ensures
    ∙ (ap (λ ps. parent_place c.self.inside.nodes ps c.place_of-place.result) c.as_slice-2.ensures.value
    ∙ ap (λ k. parent_place c.self.inside.nodes c.self.inside.parents.items k) c.place_of-place.ensures) in
    let some = some_unsolved i c.args.slot c.args.node s n c.args.worker held in
    let pushed = c.takeable_parent-parent.ensures
    ∙ (ap (λ js. ready_parent (kids_in c.self.inside.units js) c.as_slice-4.result.now c.parent_at-parent.result) c.as_slice-3.ensures.value
    ∙ (ap (λ xs. ready_parent (kids_in c.self.inside.units c.self.inside.joins.items) xs c.parent_at-parent.result) c.as_slice-4.ensures.value
    ∙ ap (λ o. ready_parent (kids_in c.self.inside.units c.self.inside.joins.items) c.let_go.new.statuses.items o) parent)) in
    gave_kept i c.args.slot c.args.node s n c.args.worker held
    _ (c.let_go.ensures.statuses ∙ ap (λ k. set c.self.inside.statuses.items k Given) c.place_of-place.ensures)
    _ (subst (λ o. IsPermutation (option_to_list o ++ c.self.inside.ready.0) c.push_some.new.self.0) pushed c.push_some.ensures.places)
    (c.self.inside.unsolved - 1) (omega (arith, some))
    _ c.let_go.ensures.history _ _ c.push_some.ensures.room c.let_go.ensures.room

pub returns-clause-yes : goal.returns-clause-yes
returns-clause-yes c =
    let i = c.self.invariant in
    let s = subst (λ x. c.args.slot < x.slots) (sym c.self.view_is) c.requires.slot in
    let n = subst (λ x. c.args.node < nodes_of x) (sym c.self.view_is) c.requires.node in
    let yes_it_is : c.holds.result ≡ true = search rules in
    let held = ap (λ k. is_held_by c.args.worker (status_at c.self.inside.statuses.items k)) (sym c.place_of-place.ensures)
    ∙ (ap (λ xs. is_held_by c.args.worker (status_at xs c.place_of-place.result)) (sym c.as_slice.ensures.value)
    ∙ (sym c.holds.ensures ∙ yes_it_is)) in
    λ _. gave_lets i c.args.slot c.args.node s n c.args.worker held _ c.let_go.ensures.history _ c.self.view_is
