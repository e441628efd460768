use Rattle.std.proofs.Common.{◌≡◌, true, subst, rules}
use Rattle.fb_book.specs.declared.entries.EntryKind.TheVariants.{Left}
use Rattle.fb_book.specs.Board.{Lets}
use Rattle.fb_book.proofs.Keeping.{book_left}
use Rattle.fb_book.proofs.book.Book.starve.Goals as goal

pub invariant_of-self-2 : goal.invariant_of-self-2
invariant_of-self-2 g c =
    let yes_it_is : c.leave.result ≡ true = search rules in
    let lets = subst (λ w. Lets c.self.inside.items c.leave.new.self Left w c.args.permit.slot c.args.permit.node) c.worker.ensures
    (subst (λ s. Lets c.self.inside.items c.leave.new.self Left c.worker.result s c.args.permit.node) c.slot.ensures
    (subst (λ n. Lets c.self.inside.items c.leave.new.self Left c.worker.result c.slot.result n) c.node.ensures (c.leave.ensures.yes yes_it_is))) in
    book_left c.self.invariant c.keeps.ensures _ _ _ _ c.args.permit.by lets
