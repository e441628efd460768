use Rattle.fb_blossoms.proofs.Rounds.{start_held}
use Rattle.fb_blossoms.proofs.legs.ends_of.Goals as goal

pub child_holding-requires-clause-holds : goal.child_holding-requires-clause-holds
child_holding-requires-clause-holds c =
    rw c.ends-start.ensures
    (start_held c.args.nest.now.links.now c.args.nest.now.blossoms.now c.keeps.ensures c.args.node c.args.over.link c.args.over.from c.args.over.to
    c.requires.first c.requires.second c.requires.apart c.requires.link)
