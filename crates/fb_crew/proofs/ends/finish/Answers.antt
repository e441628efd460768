use Rattle.std.proofs.Common.{arith}
use Rattle.std.proofs.lemmas.List.Elements.{All-contains}
use Rattle.fb_slots.specs.Seats.{entries_in}
use Rattle.fb_hands.specs.Gates.{HasPassed}
use Rattle.fb_crew.proofs.Members.{all_came, some_end}
use Rattle.fb_crew.proofs.ends.finish.Goals as goal

pub finish-requires-clause-ended : goal.finish-requires-clause-ended
finish-requires-clause-ended g c =
    let all = c.requires.all in
    some_end c.args.board (g.G.Gate.passed c.args.runner.now.gate.now) c.args.seats.items c.requires.ended (omega (arith, all))

pub returns-clause-passed : goal.returns-clause-passed
returns-clause-passed g c =
    let passed = g.G.Gate.passed c.args.runner.now.gate.now in
    let came = all_came c.args.board passed c.args.seats.items c.requires.ended in
    λ k d less. All-contains (HasPassed passed) (entries_in c.args.seats.items) _ came (c.in_ok-run.ensures.own k d less)
