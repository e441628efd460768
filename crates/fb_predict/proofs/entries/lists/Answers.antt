use Rattle.std.proofs.Common.{◌∙◌, arith}
use Rattle.std.proofs.lemmas.Grind.{common_steps}
use Rattle.fb_predict.specs.declared.faults.ObsFault.TheVariants.{NotWhole}
use Rattle.fb_predict.specs.ObservableText.{edges_of}
use Rattle.fb_predict.proofs.FaultyEntries.{faulty}
use Rattle.fb_predict.proofs.entries.lists.Goals as goal

pub returns-in_default-entry-clause-err : goal.returns-in_default-entry-clause-err
returns-in_default-entry-clause-err c = λ other.
    c.loop-i.invariant
    ∙ faulty edges_of NotWhole c.args.values.now c.loop-i.i c.index-values-i.result _ c.loop-i-test.true c.index-values-i.is
    (rw c.in_default-entry.is at c.in-Ok-edges.ensures)

pub loop-i-preserved : goal.loop-i-preserved
loop-i-preserved c = grind (arith, common_steps)

pub returns-clause-ok : goal.returns-clause-ok
returns-clause-ok c = grind (arith, common_steps)
