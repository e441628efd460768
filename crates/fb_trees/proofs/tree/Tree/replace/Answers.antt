use Rattle.std.proofs.lemmas.Result.{on_ok_weaker}
use Rattle.fb_trees.proofs.LoneTrees.{at_0, lone, lone_replaced, lone_set, may_replace, still_alone}
use Rattle.fb_trees.proofs.tree.Tree.replace.Goals as goal

pub replace_in-requires : goal.replace_in-requires
replace_in-requires c =
    may_replace c.self.inside.forest c.args.self.now (lone c.self.inside.forest c.args.self.now c.self.invariant c.self.view_is) c.args.gone.now c.args.path.now
    c.requires.replace

pub invariant_of-self : goal.invariant_of-self
invariant_of-self c =
    still_alone c.replace_in.result c.self.inside.forest c.replace_in.new.self c.self.invariant
    (on_ok_weaker c.replace_in.result
    (λ is.
    let done = is c.args.self.now (at_0 c.self.inside.forest c.args.self.now (lone c.self.inside.forest c.args.self.now c.self.invariant c.self.view_is)) in (
      done.after,
      lone_set c.self.inside.forest c.args.self.now (lone c.self.inside.forest c.args.self.now c.self.invariant c.self.view_is) c.replace_in.new.self done.after done.new_is,
    ))
    c.replace_in.ensures.ok)
    c.replace_in.ensures.err

pub returns-clause-ok : goal.returns-clause-ok
returns-clause-ok c =
    on_ok_weaker c.replace_in.result
    (λ is.
    lone_replaced c.self.inside.forest c.args.self.now (lone c.self.inside.forest c.args.self.now c.self.invariant c.self.view_is) c.args.gone.now c.args.path.now
    c.replace_in.new.self (is c.args.self.now (at_0 c.self.inside.forest c.args.self.now (lone c.self.inside.forest c.args.self.now c.self.invariant c.self.view_is))))
    c.replace_in.ensures.ok
