use Rattle.std.proofs.Common.{◌≡◌, take}
use Rattle.fb_links.specs.Names.{name_by}
use Rattle.fb_blossoms.specs.Merged.{renamed_cycle}
use Rattle.fb_blossoms.proofs.names.renamed_cycle.Given as goal

abbrev pub invariant-loop-step : goal.invariant-loop-step
invariant-loop-step l =
    l.new.items ≡ renamed_cycle (name_by l.names) (name_by l.links) (take l.step-index l.cycle)
