use Rattle.std.proofs.Common.{◌≡◌, Some, true}
use Rattle.fb_graph.specs.Parity.{is_in}
use Rattle.fb_regions.specs.InternalListings.{region_named}
use Rattle.fb_regions.proofs.heads.joint_of.Given as goal

abbrev pub invariant-loop-child : goal.invariant-loop-child
invariant-loop-child l = (is_in l.children l.core.name ≡ true) × (region_named l.regions l.core.name ≡ Some l.core)
