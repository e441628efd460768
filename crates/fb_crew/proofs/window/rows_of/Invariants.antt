use Rattle.fb_crew.specs.InternalWindows.{AreRowsOf}
use Rattle.fb_crew.proofs.window.rows_of.Given as goal

abbrev pub invariant-loop-root : goal.invariant-loop-root
invariant-loop-root l = AreRowsOf l.yielded l.rows.items
