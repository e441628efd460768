use Rattle.std.proofs.Common.{◌++◌, sym, ap, ◌∙◌}
use Rattle.std.proofs.lemmas.List.{append-nil}
use Rattle.fb_search.proofs.StepPairs.{couples_done}
use Rattle.fb_search.proofs.opening.couples.Goals as goal

pub returns : goal.returns
returns c =
    sym (c.loop-i.invariant.1
    ∙ ap (λ l. c.loop-i.matches.items ++ l) (couples_done c.args.steps.now c.loop-i.i c.loop-i-test.false)
    ∙ append-nil c.loop-i.matches.items)
