use Rattle.fb_half.proofs.Lookups.{listed_matched, listed_unmatched}
use Rattle.fb_half.proofs.matching.Matching.standing.Goals as goal

pub returns-clause-unmatched : goal.returns-clause-unmatched
returns-clause-unmatched c =
    rw (← c.self.view_is, c.standing_in.ensures, c.deref.ensures.value) (listed_unmatched _ _ _ c.args.name c.self.invariant.1)

pub returns-clause-matched : goal.returns-clause-matched
returns-clause-matched c =
    rw (← c.self.view_is, c.standing_in.ensures, c.deref.ensures.value) (listed_matched _ _ _ c.args.name c.self.invariant.1)

pub returns-clause-place : goal.returns-clause-place
returns-clause-place c =
    let table = c.self.invariant.1.matched in
    rw (← c.self.view_is, c.standing_in.ensures, c.deref.ensures.value)
    (λ i. (table.true_to c.args.name i, λ at. table.entered c.args.name i at.0 at.1))
