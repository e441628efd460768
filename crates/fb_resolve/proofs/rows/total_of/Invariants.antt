use Rattle.std.proofs.Common.{◌≡◌, take}
use Rattle.fb_graph.specs.Certificate.{total_value}
use Rattle.fb_resolve.proofs.rows.total_of.Given as goal

abbrev pub invariant-loop-place : goal.invariant-loop-place
invariant-loop-place l = l.total ≡ total_value (take l.place l.cuts)
