use Rattle.std.proofs.Common.{◌<◌, ◌+◌, ◌∷◌, ◌++◌, length, sym, ap, ◌∙◌, arith}
use Rattle.std.proofs.lemmas.List.{append-nil}
use Rattle.fb_search.specs.InternalOpenings.{between_on}
use Rattle.fb_search.proofs.StepPairs.{between_done, links_step}
use Rattle.fb_search.proofs.opening.links_left.Goals as goal

pub loop-i-preserved : goal.loop-i-preserved
loop-i-preserved c =
    let below : c.loop-i.i + 1 < length c.args.steps.now = omega arith in (
      omega arith,
      links_step c.args.steps.now c.loop-i.i _ (c.args.first ∷ between_on c.args.steps.now) c.loop-i.links.items
          c.push-in-loop-i.new.self.items below c.loop-i.invariant.1 c.in_ok-push-2.ensures.items,
    )

pub returns : goal.returns
returns c =
    sym (c.loop-i.invariant.1
    ∙ ap (λ l. c.loop-i.links.items ++ l) (between_done c.args.steps.now c.loop-i.i c.loop-i-test.false)
    ∙ append-nil c.loop-i.links.items)
