use Rattle.std.proofs.Common.{ap}
use Rattle.std.proofs.lemmas.Result.{on_ok_weaker}
use Rattle.fb_trees.specs.InternalLoneTrees.{only_tree}
use Rattle.fb_trees.proofs.LoneTrees.{lone, lone_set, plus_node, still_alone, tree_0}
use Rattle.fb_trees.proofs.Names.{plus_in_tree}
use Rattle.fb_trees.proofs.tree.Tree.attach.Goals as goal

pub attach-requires-clause-plus : goal.attach-requires-clause-plus
attach-requires-clause-plus c = plus_node c.self.inside.forest c.args.self.now (lone c.self.inside.forest c.args.self.now c.self.invariant c.self.view_is) c.args.plus c.requires.plus

pub invariant_of-self : goal.invariant_of-self
invariant_of-self c =
    still_alone c.attach.result c.self.inside.forest c.attach.new.self c.self.invariant
    (on_ok_weaker c.attach.result
    (λ is. (
      _,
      lone_set c.self.inside.forest c.args.self.now (lone c.self.inside.forest c.args.self.now c.self.invariant c.self.view_is) c.attach.new.self _
          (is 0 c.args.self.now
          (tree_0 c.self.inside.forest c.args.self.now (lone c.self.inside.forest c.args.self.now c.self.invariant c.self.view_is) c.args.plus
          (plus_in_tree c.args.self.now.root c.args.self.now.branches c.args.plus c.requires.plus))),
    ))
    c.attach.ensures.ok)
    c.attach.ensures.err

pub returns-clause-ok : goal.returns-clause-ok
returns-clause-ok c =
    on_ok_weaker c.attach.result
    (λ is.
    ap only_tree
    (lone_set c.self.inside.forest c.args.self.now (lone c.self.inside.forest c.args.self.now c.self.invariant c.self.view_is) c.attach.new.self _
    (is 0 c.args.self.now
    (tree_0 c.self.inside.forest c.args.self.now (lone c.self.inside.forest c.args.self.now c.self.invariant c.self.view_is) c.args.plus
    (plus_in_tree c.args.self.now.root c.args.self.now.branches c.args.plus c.requires.plus)))))
    c.attach.ensures.ok
