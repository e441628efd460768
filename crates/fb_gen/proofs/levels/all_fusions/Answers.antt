use Rattle.std.proofs.Common.{◌≤◌, ◌≡◌, ◌+◌, ◌++◌, ◌∙◌, ap, length, arith}
use Rattle.fb_gen.specs.TimePlan.{fusions_of_level, level_above}
use Rattle.fb_gen.proofs.Pairings.{turn_begins, turn_ends, turn_more, turns_over}
use Rattle.fb_gen.proofs.levels.all_fusions.Goals as goal

pub loop-turn-init : goal.loop-turn-init
loop-turn-init c = turn_begins _ _ _ c.new-fusions.ensures.items c.in_ok-level.ensures

pub returns-then-len-lt2 : goal.returns-then-len-lt2
returns-then-len-lt2 c =
    let few : length c.loop-turn.level.items ≤ 1 = omega arith in
    turn_ends _ _ _ _ few c.loop-turn.invariant.1

pub loop-turn-preserved : goal.loop-turn-preserved
loop-turn-preserved c =
    let next : c.args.units + c.len-in-loop-turn.result ≡ c.args.units + length c.loop-turn.fusions.items = omega arith in
    turn_more c.args.units c.loop-turn.turn (c.args.units + c.len-in-loop-turn.result) c.loop-turn.fusions.items
    c.join_level.new.fusions.items c.loop-turn.level.items c.in_ok-above.above.items c.loop-turn-test.true next
    (c.in_ok-above.ensures.fusions
    ∙ ap (λ xs. c.loop-turn.fusions.items ++ fusions_of_level xs) c.deref.ensures.value)
    (c.in_ok-above.ensures.above
    ∙ ap (λ xs. level_above (c.args.units + c.len-in-loop-turn.result) xs) c.deref.ensures.value)
    c.loop-turn.invariant.0 c.loop-turn.invariant.1

pub returns : goal.returns
returns c = turns_over _ _ _ _ (omega arith) c.loop-turn.invariant.1
