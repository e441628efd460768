use Rattle.std.proofs.Common.{take}
use Rattle.fb_links.specs.Names.{name_by}
use Rattle.fb_regions.specs.InternalMerged.{AreMarksOverIn}
use Rattle.fb_regions.proofs.merging.take_marks.Given as goal

abbrev pub invariant-loop-v : goal.invariant-loop-v
invariant-loop-v l =
    AreMarksOverIn (take l.v-index l.v-items) (name_by l.names) l.initial.marks l.others l.marks
