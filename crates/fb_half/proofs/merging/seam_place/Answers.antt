use Rattle.std.proofs.Common.{◌<◌, length, sym, subst, arith}
use Rattle.fb_half.proofs.merging.seam_place.Goals as goal

pub bounds-matches-place : goal.bounds-matches-place
bounds-matches-place c =
    subst (λ l. c.in-Matched.place < length l) (sym c.matches.ensures) ((c.standing.ensures.place c.in-Matched.place).0 c.in-Matched.is).0

pub offset_bounds-matches-place : goal.offset_bounds-matches-place
offset_bounds-matches-place c =
    let less : c.in-Matched.place < length c.matches.result.now =
    subst (λ l. c.in-Matched.place < length l) (sym c.matches.ensures) ((c.standing.ensures.place c.in-Matched.place).0 c.in-Matched.is).0 in
    record { fits = omega (arith, less, c.matches.type_inv.1) }
