use Rattle.std.proofs.Common.{◌≡◌, ◌+◌, true, drop}
use Rattle.fb_blossoms.specs.Nodes.{is_on}
use Rattle.fb_search.specs.InternalOpenings.{place_on}
use Rattle.fb_search.proofs.opening.place_of.Given as goal

abbrev pub invariant-loop-place : goal.invariant-loop-place
invariant-loop-place l =
    (place_on l.cycle l.node ≡ l.place + place_on (drop l.place l.cycle) l.node)
    × (is_on (drop l.place l.cycle) l.node ≡ true)
