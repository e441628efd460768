use Rattle.std.proofs.Common.{◌∙◌}
use Rattle.fb_graph.proofs.LabelSteps.{odd_more}
use Rattle.fb_graph.proofs.connected.count_defects.Goals as goal

pub loop-defect-preserved : goal.loop-defect-preserved
loop-defect-preserved c =
    let less = c.loop-defect-test.true in
    odd_more c.args.labels.now c.args.defects.now c.loop-defect.odd c.loop-defect.defect-index
    (c.loop-defect.auto.odd ∙ c.requires.room) less (c.requires.labels _ 0 (c.requires.within _ 0 less))
    c.loop-defect.invariant
