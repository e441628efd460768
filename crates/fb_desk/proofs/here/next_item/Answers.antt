use Rattle.std.proofs.Common.{◌≡◌, true, refl, sym, subst}
use Rattle.std.specs.Prelude.{Result, Ok, IfOk}
use Rattle.fb_book.specs.declared.entries.EntryKind.TheVariants.{Gave}
use Rattle.fb_book.specs.Board.{Lets, is_finished}
use Rattle.fb_book.specs.Books.{course_of, holds}
use Rattle.fb_desk.specs.declared.here.Progress.{Progress}
use Rattle.fb_desk.specs.declared.here.Progress.TheVariants.{Done, NoItem}
use Rattle.fb_desk.proofs.Turns.{finished_when_over, held_once_taken, none_to_wait_for, once_done, quiet_once_given, two_more}
use Rattle.fb_desk.proofs.here.next_item.Goals as goal

done_alone : {E : Type 0} (r : Result Progress E) → IfOk r (λ turn. turn ≡ Done) → r ≡ Ok NoItem → ⊥
done_alone r done none =
    let same : NoItem ≡ Done = subst (λ s. IfOk s (λ turn. turn ≡ Done)) none done in
    let never : ⊥ = cc in never

pub give-requires-clause-held : goal.give-requires-clause-held
give-requires-clause-held g c =
    let t = c.in-Unit.ensures.unit c.in-Unit.permit refl in
    subst (λ w. holds g.N.Board.job c.claim.new.self.0 w c.in-Unit.permit.slot c.in-Unit.permit.node ≡ true) (sym t.0)
    (held_once_taken g.N.Board.job c.keeps.ensures.run t.1.adds)

pub fusion-piece-requires-clause-children : goal.fusion-piece-requires-clause-children
fusion-piece-requires-clause-children g c κs within =
    rw (c.item_of-in-Fusion.ensures.slot, c.item_of-in-Fusion.ensures.node)
    (c.in-Fusion.ensures.pieces c.in-Fusion.permit c.in-Fusion.left c.in-Fusion.right refl)

pub give-requires-in-Fusion-clause-held : goal.give-requires-in-Fusion-clause-held
give-requires-in-Fusion-clause-held g c =
    let t = c.in-Fusion.ensures.fusion c.in-Fusion.permit c.in-Fusion.left c.in-Fusion.right refl in
    subst (λ w. holds g.N.Board.job c.claim.new.self.0 w c.in-Fusion.permit.slot c.in-Fusion.permit.node ≡ true) (sym t.0)
    (held_once_taken g.N.Board.job c.keeps.ensures.run t.1.takes.adds)

pub returns-in-Unit-clause-longer : goal.returns-in-Unit-clause-longer
returns-in-Unit-clause-longer g c = λ done.
    let t = c.in-Unit.ensures.unit c.in-Unit.permit refl in
    two_more g.N.Board.job c.keeps.ensures.run t.1.adds
    (subst (λ w. Lets (course_of g.N.Board.job c.claim.new.self.0) (course_of g.N.Board.job c.give.new.book.0) Gave w
    c.in-Unit.permit.slot c.in-Unit.permit.node) t.0 (once_done c.give.result Done done c.give.ensures.gave))

pub returns-in-Unit-clause-quiet : goal.returns-in-Unit-clause-quiet
returns-in-Unit-clause-quiet g c = λ done.
    let t = c.in-Unit.ensures.unit c.in-Unit.permit refl in
    quiet_once_given g.N.Board.job c.keeps.ensures.run t.1.adds
    (subst (λ w. Lets (course_of g.N.Board.job c.claim.new.self.0) (course_of g.N.Board.job c.give.new.book.0) Gave w
    c.in-Unit.permit.slot c.in-Unit.permit.node) t.0 (once_done c.give.result Done done c.give.ensures.gave))

pub returns-in-Fusion-clause-longer : goal.returns-in-Fusion-clause-longer
returns-in-Fusion-clause-longer g c = λ done.
    let t = c.in-Fusion.ensures.fusion c.in-Fusion.permit c.in-Fusion.left c.in-Fusion.right refl in
    two_more g.N.Board.job c.keeps.ensures.run t.1.takes.adds
    (subst (λ w. Lets (course_of g.N.Board.job c.claim.new.self.0) (course_of g.N.Board.job c.give-in-Fusion.new.book.0) Gave w
    c.in-Fusion.permit.slot c.in-Fusion.permit.node) t.0 (once_done c.give-in-Fusion.result Done done c.give-in-Fusion.ensures.gave))

pub returns-in-Fusion-clause-quiet : goal.returns-in-Fusion-clause-quiet
returns-in-Fusion-clause-quiet g c = λ done.
    let t = c.in-Fusion.ensures.fusion c.in-Fusion.permit c.in-Fusion.left c.in-Fusion.right refl in
    quiet_once_given g.N.Board.job c.keeps.ensures.run t.1.takes.adds
    (subst (λ w. Lets (course_of g.N.Board.job c.claim.new.self.0) (course_of g.N.Board.job c.give-in-Fusion.new.book.0) Gave w
    c.in-Fusion.permit.slot c.in-Fusion.permit.node) t.0 (once_done c.give-in-Fusion.result Done done c.give-in-Fusion.ensures.gave))

pub returns-in-Unit-clause-finished : goal.returns-in-Unit-clause-finished
returns-in-Unit-clause-finished g c = λ none. absurd (done_alone _ c.give.ensures.done none)

pub returns-in-Fusion-clause-finished : goal.returns-in-Fusion-clause-finished
returns-in-Fusion-clause-finished g c = λ none. absurd (done_alone _ c.give-in-Fusion.ensures.done none)

pub returns-in-NotYet-clause-finished : goal.returns-in-NotYet-clause-finished
returns-in-NotYet-clause-finished g c = λ _ quiet.
    absurd (none_to_wait_for g.N.Board.job (c.in-NotYet.ensures.not_yet refl).1 quiet)

pub returns-in-Over-clause-finished : goal.returns-in-Over-clause-finished
returns-in-Over-clause-finished g c = λ _ quiet.
    let over = c.in-Over.ensures.over refl in
    subst (λ b. is_finished (course_of g.N.Board.job b.0) ≡ true) (sym over.0)
    (finished_when_over g.N.Board.job over.1 quiet)

pub returns-in-Unit-clause-same : goal.returns-in-Unit-clause-same
returns-in-Unit-clause-same g c = λ none. absurd (done_alone _ c.give.ensures.done none)

pub returns-in-Fusion-clause-same : goal.returns-in-Fusion-clause-same
returns-in-Fusion-clause-same g c = λ none. absurd (done_alone _ c.give-in-Fusion.ensures.done none)

pub returns-in-NotYet-clause-same : goal.returns-in-NotYet-clause-same
returns-in-NotYet-clause-same g c = λ _. (c.in-NotYet.ensures.not_yet refl).0

pub returns-in-Over-clause-same : goal.returns-in-Over-clause-same
returns-in-Over-clause-same g c = λ _. (c.in-Over.ensures.over refl).0
