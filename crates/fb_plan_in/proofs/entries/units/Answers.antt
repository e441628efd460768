use Rattle.std.proofs.Common.{◌∙◌, arith}
use Rattle.std.proofs.lemmas.Grind.{common_steps}
use Rattle.fb_plan.specs.declared.faults.PlanPlace.TheVariants as place
use Rattle.fb_plan_in.specs.PlanText.{ranges_of}
use Rattle.fb_plan_in.proofs.FaultyEntries.{faulty}
use Rattle.fb_plan_in.proofs.entries.units.Goals as goal

pub returns-in_default-entry-clause-err : goal.returns-in_default-entry-clause-err
returns-in_default-entry-clause-err c = λ other.
    c.loop-i.invariant
    ∙ faulty ranges_of place.Unit c.args.values.now c.loop-i.i c.index-values-i.result _ c.loop-i-test.true c.index-values-i.is
    (rw c.in_default-entry.is at c.in-Ok-ranges.ensures)

pub loop-i-preserved : goal.loop-i-preserved
loop-i-preserved c = grind (arith, common_steps)

pub returns-clause-ok : goal.returns-clause-ok
returns-clause-ok c = grind (arith, common_steps)
