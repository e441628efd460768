use Rattle.std.proofs.Common.{subst, sym}
use Rattle.fb_search.specs.InternalGrowthRuns.{AreMatched}
use Rattle.fb_search.proofs.GrowthRuns.{matched_from}
use Rattle.fb_search.proofs.growing_all.grow_from.Goals as goal

pub returns-clause-matched : goal.returns-clause-matched
returns-clause-matched g c =
    subst (AreMatched c.args.roots.now c.args.work) (sym c.in_ok-work.ensures.part)
    (matched_from c.args.roots.now c.args.work c.begin-growing.result c.in_ok-grown.grown c.begin-growing.ensures c.in_ok-grown.ensures)
