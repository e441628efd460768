use Rattle.std.proofs.Common.{◌≡◌, ℕ, ◌<◌, ◌∙◌, sym, false, length, get_or, arith, length-set}
use Rattle.std.proofs.lemmas.Bool.{lt-leb}
use Rattle.std.proofs.lemmas.List.Elements.{All-more}
use Rattle.std.proofs.lemmas.Grind.{common_steps}
use Rattle.fb_graph.proofs.BuildSteps.{flags_more, virtuals_fault_more, virtuals_fault_repeats, virtuals_fault_stops}
use Rattle.fb_graph.proofs.building.mark_virtuals.Goals as goal

pub loop-i-init : goal.loop-i-init
loop-i-init c = grind (arith, common_steps)

pub returns-then-from-vertex-clause-err : goal.returns-then-from-vertex-clause-err
returns-then-from-vertex-clause-err c = grind (arith, common_steps, virtuals_fault_stops)

pub returns-then-index-clause-err : goal.returns-then-index-clause-err
returns-then-index-clause-err c = grind (arith, common_steps, virtuals_fault_repeats)

pub loop-i-preserved : goal.loop-i-preserved
loop-i-preserved c =
    let v : ℕ = get_or c.args.virtuals.now c.loop-i.i 0 in
    let lt : c.loop-i.i < length c.args.virtuals.now = omega arith in
    let low : v < c.args.n = omega arith in
    let unset : false ≡ get_or c.loop-i.flags.items v false = rw c.if-index.false at c.index.ensures in (
      length-set _ _ _ ∙ c.loop-i.invariant.0,
      c.loop-i.invariant.1 ∙ virtuals_fault_more _ _ _ lt (lt-leb _ _ low) (sym (c.loop-i.invariant.2 v low) ∙ sym unset),
      flags_more _ _ _ _ c.loop-i.invariant.0 lt low c.loop-i.invariant.2,
      All-more (λ u. u < c.args.n) _ _ 0 lt c.loop-i.invariant.3 low,
    )

pub returns-clause-good : goal.returns-clause-good
returns-clause-good c = grind (arith, common_steps)

pub returns-clause-each : goal.returns-clause-each
returns-clause-each c = grind (arith, common_steps)

pub returns-clause-below : goal.returns-clause-below
returns-clause-below c = grind (arith, common_steps)
