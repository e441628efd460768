use Rattle.std.proofs.Common.{◌<◌, ◌+◌, ◌++◌, length, sym, ap, ◌∙◌, arith}
use Rattle.std.proofs.lemmas.List.{append-nil}
use Rattle.fb_search.specs.InternalEndings.{swapped_from}
use Rattle.fb_search.specs.InternalOpenings.{between_on}
use Rattle.fb_search.proofs.StepPairs.{between_done, links_step}
use Rattle.fb_search.proofs.SwappedPaths.{swapped_done, swapped_step}
use Rattle.fb_search.proofs.ending.swapped_along.Goals as goal

pub loop-i-preserved : goal.loop-i-preserved
loop-i-preserved c =
    let below : c.loop-i.i + 1 < length c.args.path.now = omega arith in (
      omega arith,
      swapped_step c.args.path.now c.loop-i.parent c.loop-i.i _ (swapped_from c.args.root c.args.path.now)
          c.loop-i.end.matches.items _ below c.loop-i.invariant.1 c.in_ok-push_swap.ensures.matches,
      links_step c.args.path.now c.loop-i.i _ (between_on c.args.path.now) c.loop-i.end.gone.items _ below
          c.loop-i.invariant.2 c.in_ok-push_swap.ensures.gone,
    )

pub returns-clause-matches : goal.returns-clause-matches
returns-clause-matches c =
    sym (c.loop-i.invariant.1
    ∙ ap (λ l. c.loop-i.end.matches.items ++ l) (swapped_done c.args.path.now c.loop-i.parent c.loop-i.i c.loop-i-test.false)
    ∙ append-nil c.loop-i.end.matches.items)

pub returns-clause-gone : goal.returns-clause-gone
returns-clause-gone c =
    sym (c.loop-i.invariant.2
    ∙ ap (λ l. c.loop-i.end.gone.items ++ l) (between_done c.args.path.now c.loop-i.i c.loop-i-test.false)
    ∙ append-nil c.loop-i.end.gone.items)
