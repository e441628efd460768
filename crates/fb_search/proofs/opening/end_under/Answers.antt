use Rattle.std.proofs.lemmas.Bool.{both_ways}
use Rattle.fb_blossoms.proofs.Children.{child_below}
use Rattle.fb_search.proofs.opening.end_under.Goals as goal

pub returns-in_default-clause-first : goal.returns-in_default-clause-first
returns-in_default-clause-first c = λ h.
    let r = child_below c.args.blossoms.now c.args.node c.args.first c.keeps.ensures c.requires.blossom h in
    absurd (both_ways _ (c.in_default.ensures.none c.args.node r.0 r.1) r.2)
