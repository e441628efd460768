use Rattle.std.proofs.Common.{◌≡◌, ◌++◌, map, take, drop}
use Rattle.fb_links.specs.Names.{name_by}
use Rattle.fb_regions.proofs.merging.rename_all.Given as goal

abbrev pub invariant-loop-i : goal.invariant-loop-i
invariant-loop-i l =
    l.nodes ≡ map (name_by l.names) (take l.i l.initial.nodes) ++ drop l.i l.initial.nodes
