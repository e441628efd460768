use Rattle.std.proofs.lemmas.Result.{on_ok_weaker}
use Rattle.fb_trees.proofs.ForestReplaced.{may_open, replaced_many, replaced_one}
use Rattle.fb_trees.proofs.forest.Forest.replace_in.Goals as goal

pub open-requires : goal.open-requires
open-requires c =
    may_open c.args.self.now c.args.tree c.args.gone.now c.args.path.now c.in-len1-default.len_at_least c.in-len1-default.len_below c.requires

pub returns-in-len1-default-clause-ok : goal.returns-in-len1-default-clause-ok
returns-in-len1-default-clause-ok c =
    on_ok_weaker c.open.result
    (λ done.
    replaced_one c.args.self.now c.open.new.self c.args.gone.now c.args.path.now c.in-len1-default.len_at_least
    c.in-len1-default.len_below c.args.tree done)
    c.open.ensures.ok

pub returns-in-len2-up-len1-clause-ok : goal.returns-in-len2-up-len1-clause-ok
returns-in-len2-up-len1-clause-ok c =
    on_ok_weaker c.join.result
    (λ done.
    replaced_many c.args.self.now c.join.new.self c.args.gone.now c.args.path.now _ c.join.ensures.many c.args.tree c.requires done)
    c.join.ensures.ok
