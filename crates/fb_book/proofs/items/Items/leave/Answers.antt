use Rattle.std.proofs.Common.{◌≡◌, ◌+◌, ◌*◌, ◌<◌, true, length, set, sym, ap, subst, ◌∙◌, rules}
use Rattle.fb_book.specs.declared.entries.Status.TheVariants.{Left as Lost}
use Rattle.fb_book.specs.Machine.{is_held_by, status_at}
use Rattle.fb_book.specs.Board.{nodes_of}
use Rattle.fb_book.proofs.Giving.{left_kept, left_lets, place_inside, room_to_let}
use Rattle.fb_book.proofs.items.Items.leave.Goals as goal

pub holds-requires : goal.holds-requires
holds-requires c =
    let i = c.self.invariant in
    let s = subst (λ x. c.args.slot < x.slots) (sym c.self.view_is) c.requires.slot in
    let n = subst (λ x. c.args.node < nodes_of x) (sym c.self.view_is) c.requires.node in
    subst (λ k. k < length c.as_slice.result.now) (sym c.place_of-place.ensures)
    (subst (λ xs. c.args.slot * c.self.inside.nodes + c.args.node < length xs) (sym c.as_slice.ensures.value)
    (place_inside i c.args.slot c.args.node s n))

pub let_go-requires-clause-room : goal.let_go-requires-clause-room
let_go-requires-clause-room c =
    let i = c.self.invariant in
    let s = subst (λ x. c.args.slot < x.slots) (sym c.self.view_is) c.requires.slot in
    let n = subst (λ x. c.args.node < nodes_of x) (sym c.self.view_is) c.requires.node in
    let yes_it_is : c.holds.result ≡ true = search rules in
    let held = ap (λ k. is_held_by c.args.worker (status_at c.self.inside.statuses.items k)) (sym c.place_of-place.ensures)
    ∙ (ap (λ xs. is_held_by c.args.worker (status_at xs c.place_of-place.result)) (sym c.as_slice.ensures.value)
    ∙ (sym c.holds.ensures ∙ yes_it_is)) in
    room_to_let i c.args.slot c.args.node s n c.args.worker held

pub invariant_of-self : goal.invariant_of-self
invariant_of-self c =
    let i = c.self.invariant in
    let s = subst (λ x. c.args.slot < x.slots) (sym c.self.view_is) c.requires.slot in
    let n = subst (λ x. c.args.node < nodes_of x) (sym c.self.view_is) c.requires.node in
    let yes_it_is : c.holds.result ≡ true = search rules in
    let held = ap (λ k. is_held_by c.args.worker (status_at c.self.inside.statuses.items k)) (sym c.place_of-place.ensures)
    ∙ (ap (λ xs. is_held_by c.args.worker (status_at xs c.place_of-place.result)) (sym c.as_slice.ensures.value)
    ∙ (sym c.holds.ensures ∙ yes_it_is)) in
    left_kept i c.args.slot c.args.node s n c.args.worker held
    _ (c.let_go.ensures.statuses ∙ ap (λ k. set c.self.inside.statuses.items k Lost) c.place_of-place.ensures)
    _ c.let_go.ensures.history _ c.let_go.ensures.room

pub returns-clause-yes : goal.returns-clause-yes
returns-clause-yes c =
    let i = c.self.invariant in
    let s = subst (λ x. c.args.slot < x.slots) (sym c.self.view_is) c.requires.slot in
    let n = subst (λ x. c.args.node < nodes_of x) (sym c.self.view_is) c.requires.node in
    let yes_it_is : c.holds.result ≡ true = search rules in
    let held = ap (λ k. is_held_by c.args.worker (status_at c.self.inside.statuses.items k)) (sym c.place_of-place.ensures)
    ∙ (ap (λ xs. is_held_by c.args.worker (status_at xs c.place_of-place.result)) (sym c.as_slice.ensures.value)
    ∙ (sym c.holds.ensures ∙ yes_it_is)) in
    λ _. left_lets i c.args.slot c.args.node s n c.args.worker held _ c.let_go.ensures.history _ c.self.view_is
