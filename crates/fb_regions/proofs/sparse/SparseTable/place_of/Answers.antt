use Rattle.std.proofs.Common.{◌∙◌, get_or, ap, arith, length}
use Rattle.fb_regions.proofs.Stored.{absent_elsewhere, absent_past}
use Rattle.fb_regions.proofs.sparse.SparseTable.place_of.Goals as goal

pub returns-in_err-place : goal.returns-in_err-place
returns-in_err-place g c =
    rw (c.from_residual.ensures, ← c.self.view_is)
    (absent_past _ _ _ _ _ c.self.invariant c.args.key c.in_err-place.ensures)

pub returns-in_err-get : goal.returns-in_err-get
returns-in_err-get g c =
    rw (c.from_residual-in_err-get.ensures, ← c.self.view_is)
    (absent_elsewhere _ _ _ _ _ c.self.invariant c.args.key c.in_ok-place.field-0 c.in_ok-place.ensures.1
    (λ less here. absurd (omega (arith, less, c.in_err-get.ensures.lookup.3, ap length c.deref.ensures.value))))

pub returns-else-branch-key : goal.returns-else-branch-key
returns-else-branch-key g c =
    rw (← c.self.view_is)
    (absent_elsewhere _ _ _ _ _ c.self.invariant c.args.key c.in_ok-place.field-0 c.in_ok-place.ensures.1
    (λ less here.
    c.if-branch-key.false
    (c.in_ok-get.ensures.lookup.3.1 0 ∙ (ap (λ l. get_or l c.in_ok-place.field-0 0) c.deref.ensures.value ∙ here))))
