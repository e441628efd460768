use Rattle.std.proofs.Common.{length, ap, arith}
use Rattle.std.proofs.lemmas.Grind.{common_steps, elements}
use Rattle.fb_graph.specs.Limits.{IsShotIn}
use Rattle.fb_graph.specs.InternalLabelling.{AreOdd}
use Rattle.fb_graph.proofs.LabelSteps.{least_from_reduce, of_odd}
use Rattle.fb_graph.proofs.OddLabels.{closed_from_first, first_from_least}
use Rattle.fb_graph.proofs.connected.first_odd.Goals as goal

pub count_defects-requires-clause-labels : goal.count_defects-requires-clause-labels
count_defects-requires-clause-labels g c = grind (arith, elements)

pub least_odd-first-requires-clause-labels : goal.least_odd-first-requires-clause-labels
least_odd-first-requires-clause-labels g c = grind (arith, elements)

pub clear_counts-requires-clause-labels : goal.clear_counts-requires-clause-labels
clear_counts-requires-clause-labels g c = grind (arith, elements)

pub clear_counts-requires-clause-set : goal.clear_counts-requires-clause-set
clear_counts-requires-clause-set g c =
    of_odd c.as_slice-labels.result.now c.as_slice-defects.result.now c.count_defects.new.odd
    (omega (arith, ap length c.as_mut_slice-odd.ensures.value, ap length c.as_slice-labels.ensures.value))
    c.count_defects.ensures

pub invariant_of-parts : goal.invariant_of-parts
invariant_of-parts g c = grind (arith, common_steps)

pub returns-clause-first : goal.returns-clause-first
returns-clause-first g c =
    let counts : AreOdd c.parts.inside.labels.items c.args.shot.now.defects c.count_defects.new.odd =
    rw (c.as_slice-labels.ensures.value, c.as_slice-defects.ensures.defects) at c.count_defects.ensures in
    let shot : IsShotIn (g.S.Scope.problem c.parts.inside.scope) c.args.shot.now = rw c.parts.view_is c.requires in
    rw (
      ← c.parts.view_is,
      c.least_odd-first.ensures,
      c.as_slice-labels.ensures.value,
      c.as_slice-bounded.ensures.value,
      c.as_slice-defects.ensures.defects,
    )
    (first_from_least (g.S.Scope.problem c.parts.inside.scope) c.parts.inside.labels.items c.parts.invariant.limits
    c.parts.invariant.labelling c.args.shot.now.defects c.parts.inside.bounded.items c.count_defects.new.odd
    c.parts.invariant.boundary counts shot.rising shot.real _ (least_from_reduce _))

pub returns-clause-closed : goal.returns-clause-closed
returns-clause-closed g c =
    closed_from_first (g.S.Scope.problem c.args.parts.now) c.args.shot.now.defects c.least_odd-first.result (rw (← c.parts.view_is) c.parts.invariant.limits) (returns-clause-first g c)
