use Rattle.std.proofs.Common.{◌≡◌, ◌+◌, ◌*◌, Some, true, set, ap, subst, ◌∙◌, arith, rules}
use Rattle.std.proofs.lemmas.Grind.{common_steps}
use Rattle.fb_book.specs.declared.entries.EntryKind.TheVariants.{Gave}
use Rattle.fb_book.specs.Board.{Lets, nodes_of}
use Rattle.fb_book.proofs.Keeping.{book_given}
use Rattle.fb_book.proofs.book.Book.post.Goals as goal

pub index_mut-requires : goal.index_mut-requires
index_mut-requires g c = grind (arith, common_steps)

pub invariant_of-self-2 : goal.invariant_of-self-2
invariant_of-self-2 g c =
    let yes_it_is : c.give.result ≡ true = search rules in
    let lets = subst (λ w. Lets c.self.inside.items c.give.new.self Gave w c.args.permit.slot c.args.permit.node) c.worker.ensures
    (subst (λ s. Lets c.self.inside.items c.give.new.self Gave c.worker.result s c.args.permit.node) c.slot-2.ensures
    (subst (λ n. Lets c.self.inside.items c.give.new.self Gave c.worker.result c.slot-2.result n) c.node-2.ensures (c.give.ensures.yes yes_it_is))) in
    let place = c.place_of-place.ensures
    ∙ (ap (λ x. x * c.nodes.result + c.node.result) c.slot.ensures
    ∙ (ap (λ x. c.args.permit.slot * x + c.node.result) c.nodes.ensures
    ∙ ap (λ x. c.args.permit.slot * nodes_of c.self.inside.items + x) c.node.ensures)) in
    book_given c.self.invariant c.keeps.ensures _ _ _ _ c.args.permit.by lets c.args.piece c.requires _
    (ap (λ k. set c.self.inside.parked.items k (Some c.args.piece)) place)
