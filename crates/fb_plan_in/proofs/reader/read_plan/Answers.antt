use Rattle.std.proofs.Common.{map, sym}
use Rattle.fb_plan_in.proofs.Rulings.{plan_of_joins}
use Rattle.fb_plan_in.proofs.reader.read_plan.Goals as goal

pub returns-clause-ok : goal.returns-clause-ok
returns-clause-ok c =
    let parts = c.in_ok-parts.parts in
    rw (
      c.in_ok-parts.ensures.ok,
      sym (plan_of_joins c.args.graph.now (map (λ u. u.items) parts.units.items) parts.fusions.items),
      sym c.deref.ensures.value,
      sym c.deref-2.ensures.value,
    ) c.build.ensures.ok

pub returns-clause-err : goal.returns-clause-err
returns-clause-err c =
    let parts = c.in_ok-parts.parts in
    rw (
      c.in_ok-parts.ensures.ok,
      sym (plan_of_joins c.args.graph.now (map (λ u. u.items) parts.units.items) parts.fusions.items),
      sym c.deref.ensures.value,
      sym c.deref-2.ensures.value,
    ) c.build.ensures.err
