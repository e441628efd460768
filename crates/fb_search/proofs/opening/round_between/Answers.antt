use Rattle.std.proofs.Common.{◌≡◌, true, Vec, Global, ap, ◌∙◌}
use Rattle.std.proofs.lemmas.Result.{IfOk-weaker}
use Rattle.fb_links.specs.declared.cycle.CycleStep.{CycleStep}
use Rattle.fb_blossoms.specs.Nodes.{is_on}
use Rattle.fb_search.specs.InternalOpenings.{even_on}
use Rattle.fb_search.proofs.RoundPlaces.{on_even, on_round}
use Rattle.fb_search.proofs.opening.round_between.Goals as goal

pub even_round-requires : goal.even_round-requires
even_round-requires c =
    ap (λ l. is_on l c.args.second) c.in_ok-round.ensures
    ∙ (on_round c.args.cycle.now c.args.first c.args.second ∙ c.requires.second)

pub returns-clause-second : goal.returns-clause-second
returns-clause-second c =
    IfOk-weaker c.even_round.result
    (λ (even : Vec CycleStep Global). even.items ≡ even_on c.in_ok-round.round.items c.args.second)
    (λ (round : Vec CycleStep Global). is_on round.items c.args.second ≡ true)
    (λ (even : Vec CycleStep Global) is.
    ap (λ l. is_on l c.args.second) is
    ∙ (on_even c.in_ok-round.round.items c.args.second c.args.second ∙ (ap (λ l. is_on l c.args.second) c.in_ok-round.ensures
    ∙ (on_round c.args.cycle.now c.args.first c.args.second ∙ c.requires.second))))
    c.even_round.ensures
