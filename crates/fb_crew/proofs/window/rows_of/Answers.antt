use Rattle.std.proofs.Common.{[], ◌∷◌, ◌++◌, subst, sym}
use Rattle.fb_crew.specs.InternalWindows.{AreRowsOf}
use Rattle.fb_crew.proofs.EvenPlaces.{one_more}
use Rattle.fb_crew.proofs.window.rows_of.Goals as goal

pub loop-root-preserved : goal.loop-root-preserved
loop-root-preserved c =
    subst (AreRowsOf (c.loop-root.yielded ++ c.in-Some.root ∷ [])) (sym c.in_ok-push.ensures.items)
    (one_more _ c.loop-root.yielded c.loop-root.rows.items c.in-Some.root c.into_row.result c.loop-root.invariant c.into_row.ensures)
