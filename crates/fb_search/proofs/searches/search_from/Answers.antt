use Rattle.std.proofs.Common.{subst}
use Rattle.std.proofs.lemmas.Result.{IfOk-weaker}
use Rattle.fb_search.specs.Progress.{IsSearched}
use Rattle.fb_search.proofs.MatchedNodes.{searched_alone}
use Rattle.fb_search.proofs.searches.search_from.Goals as goal

pub returns-clause-searched : goal.returns-clause-searched
returns-clause-searched g c =
    IfOk-weaker c.grow_from.result _ _
    (λ r are.
    subst (λ w. IsSearched c.args.root w r.0) (c.in_ok-is_matched.ensures.unchanged c.if-is_matched.false)
    (searched_alone c.args.root c.in_ok-is_matched.work r.0 are)) c.grow_from.ensures.matched
