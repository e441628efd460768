use Rattle.std.proofs.Common.{ℕ, ◌≡◌, Some, OnOk, OnErr, map, set, sym, ap, ◌∙◌, subst}
use Rattle.fb_trees.specs.Branches.{Grown}
use Rattle.fb_trees.specs.Forests.{IsOutside, IsTreeOf, tree_at}
use Rattle.fb_trees.specs.InternalForests.{grown_of}
use Rattle.fb_trees.specs.Rooted.{attached_grown}
use Rattle.fb_trees.proofs.ForestMoves.{attached_counted, attached_kept, attached_view, left_view}
use Rattle.fb_trees.proofs.ForestReads.{plus_is, plus_outside}
use Rattle.fb_trees.proofs.forest.Forest.attach.Goals as goal

pub unreachable-requires : goal.unreachable-requires
unreachable-requires c = plus_outside c.args.self.now c.args.plus c.requires.plus c.in_default.ensures.tree

pub invariant_of-self : goal.invariant_of-self
invariant_of-self c =
    let (g, is) = c.in-Some.ensures.tree in
    let at : tree_at (map grown_of c.self.inside.trees.items) c.in-Some.tree ≡ Some g =
    ap (λ f. tree_at f c.in-Some.tree) c.self.view_is ∙ is.at in
    record {
      kept = attached_kept c.self.inside.trees.items c.self.inside.table.owners.items c.self.inside.table.places.items
          c.self.invariant.kept c.in-Some.tree g at c.index_mut-one.result.now
          c.index_mut-one.ensures.value c.add_branch.result c.add_branch.new.one
          (record { parent = c.args.plus; tree = c.args.link; minus = c.args.minus; matched = c.args.matched.link; plus = c.args.matched.node })
          c.add_branch.ensures.root c.add_branch.ensures.live
          c.add_branch.ensures.ok c.add_branch.ensures.err
          (plus_is c.args.self.now c.in-Some.ensures.kept c.args.plus c.requires.plus c.in-Some.tree g is)
          (subst (λ f. IsOutside f c.args.minus) (sym c.self.view_is) c.requires.minus)
          (subst (λ f. IsOutside f c.args.matched.node) (sym c.self.view_is) c.requires.matched) c.requires.apart
          c.add_branch.new.table.owners.items c.add_branch.new.table.places.items c.add_branch.ensures.owners
          c.add_branch.ensures.places c.add_branch.ensures.same_owners c.add_branch.ensures.same_places;
      counted = attached_counted c.self.inside.trees.items c.self.inside.table.owners.items c.self.inside.table.places.items
          c.self.invariant.kept c.in-Some.tree g at c.index_mut-one.result.now c.index_mut-one.ensures.value c.add_branch.new.one
          c.add_branch.ensures.live c.self.inside.left c.self.invariant.counted;
    }

pub returns-clause-ok : goal.returns-clause-ok
returns-clause-ok c =
    let (g, is) = c.in-Some.ensures.tree in
    subst
    (λ f. OnOk c.add_branch.result
    ((t : ℕ) (h : Grown) → IsTreeOf f c.args.plus t h
    → map grown_of (set c.self.inside.trees.items c.in-Some.tree c.add_branch.new.one)
    ≡ set f t
    (Some (attached_grown h (record { parent = c.args.plus; tree = c.args.link; minus = c.args.minus; matched = c.args.matched.link; plus = c.args.matched.node })))))
    c.self.view_is
    (attached_view c.self.inside.trees.items c.self.inside.table.owners.items c.self.inside.table.places.items c.self.invariant.kept
    c.in-Some.tree g (ap (λ f. tree_at f c.in-Some.tree) c.self.view_is ∙ is.at) c.index_mut-one.result.now
    c.index_mut-one.ensures.value c.add_branch.result c.add_branch.new.one
    (record { parent = c.args.plus; tree = c.args.link; minus = c.args.minus; matched = c.args.matched.link; plus = c.args.matched.node })
    c.add_branch.ensures.root c.add_branch.ensures.live c.add_branch.ensures.ok is.has)

pub returns-clause-err : goal.returns-clause-err
returns-clause-err c =
    let (g, is) = c.in-Some.ensures.tree in
    subst
    (λ f. OnErr c.add_branch.result (map grown_of (set c.self.inside.trees.items c.in-Some.tree c.add_branch.new.one) ≡ f))
    c.self.view_is
    (left_view c.self.inside.trees.items c.self.inside.table.owners.items c.self.inside.table.places.items c.self.invariant.kept
    c.in-Some.tree g (ap (λ f. tree_at f c.in-Some.tree) c.self.view_is ∙ is.at) c.index_mut-one.result.now
    c.index_mut-one.ensures.value c.add_branch.result c.add_branch.new.one c.add_branch.ensures.root c.add_branch.ensures.live
    c.add_branch.ensures.err)
