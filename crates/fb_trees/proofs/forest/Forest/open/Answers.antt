use Rattle.std.proofs.Common.{sym, subst}
use Rattle.std.proofs.lemmas.Result.{on_ok_weaker}
use Rattle.fb_trees.specs.Replacements.{MayOpen}
use Rattle.fb_trees.proofs.ForestReplaced.{open_rebuilds, opened_result, viewed_is}
use Rattle.fb_trees.proofs.forest.Forest.open.Goals as goal

pub opened-requires : goal.opened-requires
opened-requires c =
    subst (λ k. MayOpen k c.args.blossom c.args.path.now)
    (sym (viewed_is c.args.self.now c.args.tree c.view.result c.view.ensures c.requires.grown c.requires.at)) c.requires.may

pub rebuild-requires-clause-may : goal.rebuild-requires-clause-may
rebuild-requires-clause-may c =
    open_rebuilds c.args.self.now c.args.tree c.view.result c.view.ensures c.args.blossom c.args.path.now c.in_ok-one.one
    c.in_ok-one.ensures c.requires.fresh

pub returns-clause-ok : goal.returns-clause-ok
returns-clause-ok c =
    on_ok_weaker c.rebuild.result
    (λ new_is.
    opened_result c.args.self.now c.args.tree c.view.result c.view.ensures c.args.blossom c.args.path.now c.in_ok-one.one
    c.in_ok-one.ensures _ new_is)
    c.rebuild.ensures.ok
