use Rattle.std.proofs.Common.{◌≡◌, ◌*◌, ◌≤◌, None, [], length, replicate, vec_capacity, sym, ap, subst, ◌∙◌, rules}
use Rattle.fb_book.specs.Board.{nodes_of}
use Rattle.fb_book.specs.Books.{course_of}
use Rattle.fb_book.proofs.Beginning.{book_at_first}
use Rattle.fb_book.proofs.book.Book.new.Goals as goal

pub invariant_of-result : goal.invariant_of-result
invariant_of-result g c =
    let items : c.in_ok-items.items ≡ course_of g.N.Board.job [] =
    c.in_ok-items.ensures ∙ ap (λ j. course_of j []) (sym c.requires.job) in
    let slots = c.slots-slots.ensures ∙ ap (λ i. i.slots) items in
    let parked = c.in_ok-parked.ensures
    ∙ (ap (λ x. replicate (x * c.nodes.result) None) slots
    ∙ ap (λ x. replicate (length g.N.Board.job.shots * x) None) (c.nodes.ensures ∙ ap nodes_of items)) in
    let room : length g.N.Board.job.shots ≤ vec_capacity c.in_ok-roots.roots =
    subst (λ x. x ≤ vec_capacity c.in_ok-roots.roots) slots (search rules) in
    book_at_first _ _ _ _ g.N.Board.job g.N.Board.workers _ _ _ _ items parked c.in_ok-roots.ensures.items room
