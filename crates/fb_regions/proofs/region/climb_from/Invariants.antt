use Rattle.fb_regions.specs.InternalClock.{all_at}
use Rattle.fb_regions.proofs.HeadClimbs.{IsOnWay, rank_in}
use Rattle.fb_regions.proofs.region.climb_from.Given as goal

abbrev pub invariant-loop-region : goal.invariant-loop-region
invariant-loop-region l = IsOnWay l.clock l.regions l.leaf l.radii l.region

abbrev pub decreases-loop-region : goal.decreases-loop-region
decreases-loop-region l = rank_in (all_at l.clock l.regions) l.region.link.top
