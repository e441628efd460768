use Rattle.std.proofs.Common.{◌≤◌, ◌∙◌, ◌++◌, sym, ap, drop, length, length-drop, append-nil, arith}
use Rattle.std.proofs.lemmas.Grind.{common_steps}
use Rattle.fb_gen.proofs.Pairings.{fusions_of_one, level_steps}
use Rattle.fb_gen.proofs.levels.join_level.Goals as goal

pub loop-i-preserved : goal.loop-i-preserved
loop-i-preserved c = grind (arith, level_steps)

pub returns-clause-fusions : goal.returns-clause-fusions
returns-clause-fusions c =
    let few : length (drop c.loop-i.i c.args.level.now) ≤ 1 = omega (arith, length-drop c.loop-i.i c.args.level.now) in
    sym (append-nil c.loop-i.fusions.items)
    ∙ ap (λ xs. c.loop-i.fusions.items ++ xs) (sym (fusions_of_one (drop c.loop-i.i c.args.level.now) few))
    ∙ c.loop-i.invariant.2

pub returns-clause-above : goal.returns-clause-above
returns-clause-above c = grind (arith, common_steps)
