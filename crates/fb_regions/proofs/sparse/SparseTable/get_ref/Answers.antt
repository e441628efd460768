use Rattle.std.proofs.Common.{◌≡◌, ◌<◌, ◌∙◌, length, get_or, sym, ap, Some, arith}
use Rattle.fb_regions.proofs.SparseValues.{value_at, value_none}
use Rattle.fb_regions.proofs.Stored.{stored_distinct}
use Rattle.fb_regions.proofs.sparse.SparseTable.get_ref.Goals as goal

pub returns-in_err-place : goal.returns-in_err-place
returns-in_err-place g c = rw c.from_residual.ensures (sym (value_none _ _ c.args.key c.in_err-place.ensures))

pub returns : goal.returns
returns g c =
    let less : c.in_ok-place.place < length c.self.inside.keys.items = rw (← c.self.view_is) at c.in_ok-place.ensures.0 in
    let here : get_or c.self.inside.keys.items c.in_ok-place.place 0 ≡ c.args.key = rw (← c.self.view_is) at c.in_ok-place.ensures.1 in
    rw (← c.self.view_is)
    (ap Some c.index.ensures
    ∙ sym (value_at _ _ c.in_ok-place.place c.args.key c.index.result.now (stored_distinct _ _ _ _ _ c.self.invariant) less
    (omega (arith, less, c.self.invariant.values)) here))
