use Rattle.std.proofs.Common.{◌≡◌, ◌∙◌, subst}
use Rattle.std.proofs.lemmas.Result.{IfOk-weaker, MatchResult-from_both, on_err_weaker}
use Rattle.fb_links.specs.Table.{Adds}
use Rattle.fb_trees.specs.InternalMetWalks.{IsLinkedOut}
use Rattle.fb_trees.proofs.walks.link_out.Goals as goal

pub make-requires-clause-some : goal.make-requires-clause-some
make-requires-clause-some g c = (c.in_ok-walk.ensures.out c.requires.0 c.requires.1 c.requires.2).walk_is.some

pub make-requires-clause-light : goal.make-requires-clause-light
make-requires-clause-light g c = (c.in_ok-walk.ensures.out c.requires.0 c.requires.1 c.requires.2).walk_is.light

pub returns : goal.returns
returns g c =
    let linked = IsLinkedOut (g.S.Scope.problem c.args.regions.now.scope) c.args.regions.now.nodes c.args.edge c.args.links.now c.make.new.self in
    MatchResult-from_both c.make.result linked (λ _. c.make.new.self ≡ c.args.links.now)
    (IfOk-weaker _ _ linked
    (λ link adds. record { walk = c.in_ok-walk.walk; adds = subst (λ l. Adds l c.make.new.self link c.in_ok-walk.walk) c.take_buffer-buffer.ensures.unchanged adds; source = c.in_ok-walk.ensures.source; out = c.in_ok-walk.ensures.out }) c.make.ensures.ok)
    (on_err_weaker c.make.result (λ same. same ∙ c.take_buffer-buffer.ensures.unchanged) c.make.ensures.err)
