use Rattle.std.proofs.Common.{sym, subst}
use Rattle.std.proofs.lemmas.Result.{on_ok_weaker}
use Rattle.fb_trees.specs.Replacements.{MayJoin}
use Rattle.fb_trees.proofs.ForestReplaced.{join_rebuilds, joined_result, viewed_is}
use Rattle.fb_trees.proofs.forest.Forest.join.Goals as goal

pub joined-requires : goal.joined-requires
joined-requires c =
    subst (λ k. MayJoin k c.args.gone.now c.args.blossom)
    (sym (viewed_is c.args.self.now c.args.tree c.view.result c.view.ensures c.requires.may.grown c.requires.may.at)) c.requires.may.may

pub rebuild-requires-clause-may : goal.rebuild-requires-clause-may
rebuild-requires-clause-may c =
    join_rebuilds c.args.self.now c.args.tree c.view.result c.view.ensures c.args.gone.now c.args.blossom c.in_ok-one.one
    c.in_ok-one.ensures c.requires.may.fresh

pub returns-clause-ok : goal.returns-clause-ok
returns-clause-ok c =
    on_ok_weaker c.rebuild.result
    (λ new_is.
    joined_result c.args.self.now c.args.tree c.view.result c.view.ensures c.args.gone.now c.args.blossom c.in_ok-one.one
    c.in_ok-one.ensures _ new_is)
    c.rebuild.ensures.ok
