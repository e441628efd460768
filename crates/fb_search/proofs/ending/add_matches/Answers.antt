use Rattle.fb_search.proofs.EndSteps.{fresh_listed}
use Rattle.fb_search.proofs.ending.add_matches.Goals as goal

pub add_match-requires : goal.add_match-requires
add_match-requires c k d lt =
    rw (c.loop-m.invariant)
    (fresh_listed c.args.matching.now c.args.matches.now c.loop-m.m-index _ k d c.requires c.loop-m-test.true lt)
