use Rattle.fb_links.specs.Names.{name_by}
use Rattle.fb_half.proofs.SeamLists.{AreMergedSo}
use Rattle.fb_half.proofs.seams.Seams.merged.Given as goal

abbrev pub invariant-loop-owner : goal.invariant-loop-owner
invariant-loop-owner l = AreMergedSo (name_by l.names) l.fn.left l.fn.right l.seams l.owner-iterator
