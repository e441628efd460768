use Rattle.std.proofs.Common.{◌≡◌, ◌<◌, None, is_some, get_or, set, true, refl, sym, ap, subst, ◌∙◌}
use Rattle.fb_book.specs.declared.book.Claim.TheVariants.{Fusion}
use Rattle.fb_book.specs.declared.permit.Permit.{Permit}
use Rattle.fb_book.specs.Board.{TakesUnit}
use Rattle.fb_book.specs.Books.{HandsOut, course_of}
use Rattle.fb_book.proofs.Handing.{handed, of_same}
use Rattle.fb_book.proofs.Keeping.{book_fusion, book_unit, node_of_job, node_of_unit, pieces_wait, slot_of_job, some_inside, told_forest, told_fusion, told_unit}
use Rattle.fb_book.proofs.book.Book.claim.Given
use Rattle.fb_book.proofs.book.Book.claim.Goals as goal

same_fusion : (g : Given.Over) (x permit : Permit g.row.N.Denot g.N.Board g.N.Ledger) (y a z b : g.row.P.Denot)
    → Fusion x y z ≡ Fusion permit a b → (x ≡ permit) × (y ≡ a) × (z ≡ b)
same_fusion g x permit y a z b e = (cc, cc, cc)

pub new-requires-clause-slot : goal.new-requires-clause-slot
new-requires-clause-slot g c =
    slot_of_job c.self.invariant c.keeps.ensures _ (c.in-Unit.ensures.unit c.in-Unit.item refl).adds.in_slots

pub new-requires-clause-node : goal.new-requires-clause-node
new-requires-clause-node g c =
    node_of_job c.self.invariant c.keeps.ensures _ (c.in-Unit.ensures.unit c.in-Unit.item refl).adds.in_nodes

pub invariant_of-self : goal.invariant_of-self
invariant_of-self g c =
    book_unit c.self.invariant c.keeps.ensures _ _ _ _ c.requires (c.in-Unit.ensures.unit c.in-Unit.item refl)

pub returns-in-Unit-clause-unit : goal.returns-in-Unit-clause-unit
returns-in-Unit-clause-unit g c = λ permit e.
    let same : c.new.result ≡ permit = cc in
    let slot = sym (ap (λ p. p.slot) (sym same) ∙ c.new.ensures.slot) in
    let node = sym (ap (λ p. p.node) (sym same) ∙ c.new.ensures.node) in
    let told = told_unit c.self.invariant c.keeps.ensures _ _ _ _ (c.in-Unit.ensures.unit c.in-Unit.item refl) in (
      ap (λ p. p.worker) (sym same) ∙ c.new.ensures.worker,
      subst (λ v. TakesUnit (course_of g.N.Board.job v.0) (course_of g.N.Board.job c.claim.new.self.history) c.args.worker permit.slot permit.node) c.self.view_is
          (subst (λ n. TakesUnit (course_of g.N.Board.job c.self.inside.items.history) (course_of g.N.Board.job c.claim.new.self.history) c.args.worker permit.slot n) node
          (subst (λ s. TakesUnit (course_of g.N.Board.job c.self.inside.items.history) (course_of g.N.Board.job c.claim.new.self.history) c.args.worker s c.in-Unit.item.node) slot told)),
      ap (λ v. v.1) c.self.view_is,
    )

pub returns-in-Unit-clause-units : goal.returns-in-Unit-clause-units
returns-in-Unit-clause-units g c = λ permit e.
    let same : c.new.result ≡ permit = cc in
    let node = sym (ap (λ p. p.node) (sym same) ∙ c.new.ensures.node) in
    subst (λ n. n < g.N.Board.job.plan.units) node
    (node_of_unit c.self.invariant c.keeps.ensures _ _ _ _ (c.in-Unit.ensures.unit c.in-Unit.item refl))

pub take_out-first-requires-clause-place : goal.take_out-first-requires-clause-place
take_out-first-requires-clause-place g c =
    let t = c.in-Fusion.ensures.fusion c.in-Fusion.item c.in-Fusion.left c.in-Fusion.right refl in
    some_inside _ _ (pieces_wait c.self.invariant c.keeps.ensures _ _ _ _ _ _ t).0

pub take_out-first-requires-clause-waits : goal.take_out-first-requires-clause-waits
take_out-first-requires-clause-waits g c =
    let t = c.in-Fusion.ensures.fusion c.in-Fusion.item c.in-Fusion.left c.in-Fusion.right refl in
    (pieces_wait c.self.invariant c.keeps.ensures _ _ _ _ _ _ t).0

pub take_out-second-requires-clause-place : goal.take_out-second-requires-clause-place
take_out-second-requires-clause-place g c =
    let t = c.in-Fusion.ensures.fusion c.in-Fusion.item c.in-Fusion.left c.in-Fusion.right refl in
    some_inside _ _ (subst (λ xs. is_some (get_or xs c.in-Fusion.right None) ≡ true) (sym c.take_out-first.ensures.rest)
    (pieces_wait c.self.invariant c.keeps.ensures _ _ _ _ _ _ t).1)

pub take_out-second-requires-clause-waits : goal.take_out-second-requires-clause-waits
take_out-second-requires-clause-waits g c =
    let t = c.in-Fusion.ensures.fusion c.in-Fusion.item c.in-Fusion.left c.in-Fusion.right refl in
    subst (λ xs. is_some (get_or xs c.in-Fusion.right None) ≡ true) (sym c.take_out-first.ensures.rest)
    (pieces_wait c.self.invariant c.keeps.ensures _ _ _ _ _ _ t).1

pub new-requires-in-Fusion-clause-slot : goal.new-requires-in-Fusion-clause-slot
new-requires-in-Fusion-clause-slot g c =
    let t = c.in-Fusion.ensures.fusion c.in-Fusion.item c.in-Fusion.left c.in-Fusion.right refl in
    slot_of_job c.self.invariant c.keeps.ensures _ t.adds.in_slots

pub new-requires-in-Fusion-clause-node : goal.new-requires-in-Fusion-clause-node
new-requires-in-Fusion-clause-node g c =
    let t = c.in-Fusion.ensures.fusion c.in-Fusion.item c.in-Fusion.left c.in-Fusion.right refl in
    node_of_job c.self.invariant c.keeps.ensures _ t.adds.in_nodes

pub invariant_of-self-in-Fusion : goal.invariant_of-self-in-Fusion
invariant_of-self-in-Fusion g c =
    let t = c.in-Fusion.ensures.fusion c.in-Fusion.item c.in-Fusion.left c.in-Fusion.right refl in
    book_fusion c.self.invariant c.keeps.ensures _ _ _ _ c.in-Fusion.left c.in-Fusion.right c.requires t _
    (c.take_out-second.ensures.rest ∙ ap (λ xs. set xs c.in-Fusion.right None) c.take_out-first.ensures.rest)

pub returns-in-Fusion-clause-fusion : goal.returns-in-Fusion-clause-fusion
returns-in-Fusion-clause-fusion g c = λ permit a b e.
    let t = c.in-Fusion.ensures.fusion c.in-Fusion.item c.in-Fusion.left c.in-Fusion.right refl in
    let (same, first, second) = same_fusion g _ _ _ _ _ _ e in
    let slot = sym (ap (λ p. p.slot) (sym same) ∙ c.new-in-Fusion.ensures.slot) in
    let node = sym (ap (λ p. p.node) (sym same) ∙ c.new-in-Fusion.ensures.node) in
    let rest = c.take_out-second.ensures.rest ∙ ap (λ xs. set xs c.in-Fusion.right None) c.take_out-first.ensures.rest in
    let told = told_fusion c.self.invariant c.keeps.ensures _ _ _ _ c.in-Fusion.left c.in-Fusion.right t
    _ _ c.take_out-first.ensures.value
    (ap (λ xs. get_or xs c.in-Fusion.right None) (sym c.take_out-first.ensures.rest) ∙ c.take_out-second.ensures.value) _ rest in (
      ap (λ p. p.worker) (sym same) ∙ c.new-in-Fusion.ensures.worker,
      subst (λ v. HandsOut (course_of g.N.Board.job v.0) (course_of g.N.Board.job c.claim.new.self.history) c.args.worker permit.slot permit.node v.1 c.take_out-second.new.parked.items a b) c.self.view_is
          (subst (λ n. HandsOut (course_of g.N.Board.job c.self.inside.items.history) (course_of g.N.Board.job c.claim.new.self.history) c.args.worker permit.slot n c.self.inside.parked.items c.take_out-second.new.parked.items a b) node
          (subst (λ s. HandsOut (course_of g.N.Board.job c.self.inside.items.history) (course_of g.N.Board.job c.claim.new.self.history) c.args.worker s c.in-Fusion.item.node c.self.inside.parked.items c.take_out-second.new.parked.items a b) slot
          (subst (λ y. HandsOut (course_of g.N.Board.job c.self.inside.items.history) (course_of g.N.Board.job c.claim.new.self.history) c.args.worker c.in-Fusion.item.slot c.in-Fusion.item.node c.self.inside.parked.items c.take_out-second.new.parked.items a y) second
          (subst (λ x. HandsOut (course_of g.N.Board.job c.self.inside.items.history) (course_of g.N.Board.job c.claim.new.self.history) c.args.worker c.in-Fusion.item.slot c.in-Fusion.item.node c.self.inside.parked.items c.take_out-second.new.parked.items x c.take_out-second.result) first told)))),
    )

pub returns-in-Fusion-clause-pieces : goal.returns-in-Fusion-clause-pieces
returns-in-Fusion-clause-pieces g c = λ permit a b e.
    let (same, first, second) = same_fusion g _ _ _ _ _ _ e in
    let slot = sym (ap (λ p. p.slot) (sym same) ∙ c.new-in-Fusion.ensures.slot) in
    let node = sym (ap (λ p. p.node) (sym same) ∙ c.new-in-Fusion.ensures.node) in
    let mine = handed _ _ _ _ g.N.Board.job c.self.invariant.kept (told_forest c.self.invariant c.keeps.ensures)
    (told_fusion c.self.invariant c.keeps.ensures _ _ _ _ c.in-Fusion.left c.in-Fusion.right
    (c.in-Fusion.ensures.fusion c.in-Fusion.item c.in-Fusion.left c.in-Fusion.right refl)
    _ _ c.take_out-first.ensures.value
    (ap (λ xs. get_or xs c.in-Fusion.right None) (sym c.take_out-first.ensures.rest) ∙ c.take_out-second.ensures.value) _
    (c.take_out-second.ensures.rest ∙ ap (λ xs. set xs c.in-Fusion.right None) c.take_out-first.ensures.rest)) in
    of_same g.P.Piece.job_of g.P.Piece.slot_of g.P.Piece.node_of g.P.Piece.made_of g.N.Board.job slot node first second mine
