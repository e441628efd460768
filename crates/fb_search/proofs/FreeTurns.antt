-- Trees that look for their next obstacle before a free step.
use Rattle.std.proofs.Common.{subst}
use Rattle.fb_obstacles.specs.Watched.{Watched}
use Rattle.fb_search.specs.InternalGrowing.{GrowingValue}
use Rattle.fb_search.specs.InternalGrowth.{HasGrownFree, IsGrowthRewatched}

-- what the trees have become with other watched edges, they have become from before
pub grown_free_anew : (before now after : GrowingValue) → IsGrowthRewatched before now → HasGrownFree now after
    → HasGrownFree before after
grown_free_anew before now after same grown = by now.watched (subst (λ w. HasGrownFree w after) same.same grown)
  where
    by : (watched : Watched) → HasGrownFree (record before { watched = watched }) after → HasGrownFree before after
    by watched has last goes =
        let on = has last goes in
        record {
          grown = record { part = on.grown.part; waits = on.grown.waits; kept = on.grown.kept; least = on.grown.least; most = on.grown.most };
          less = on.less;
        }
