use Rattle.std.proofs.Common.{◌≡◌, ◌∙◌}
use Rattle.std.proofs.lemmas.Result.{IfOk-weaker}
use Rattle.fb_search.proofs.MatchedNodes.{matched_all}
use Rattle.fb_search.proofs.searches.search_all_from.Goals as goal

pub returns-clause-none : goal.returns-clause-none
returns-clause-none g c =
    let all : c.deref.result.now ≡ c.args.work.matching.unmatched =
    c.deref.ensures.value ∙ c.in_ok-roots.ensures.items ∙ c.unmatched.ensures in
    IfOk-weaker c.grow_from.result _ _ (λ r are. matched_all c.deref.result.now c.args.work r.0 all are) c.grow_from.ensures.matched
