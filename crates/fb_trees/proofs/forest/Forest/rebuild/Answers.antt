use Rattle.std.proofs.Common.{◌≡◌, Some, OnOk, OnErr, map, set, sym, subst}
use Rattle.fb_trees.specs.Branches.{entries_of}
use Rattle.fb_trees.specs.InternalForests.{MayRebuild, grown_of, seen}
use Rattle.fb_trees.proofs.ForestMoves.{rebuilt_counted, rebuilt_kept, rebuilt_view, unbuilt_view}
use Rattle.fb_trees.proofs.forest.Forest.rebuild.Goals as goal

pub invariant_of-self : goal.invariant_of-self
invariant_of-self c =
    let may = subst (λ f. MayRebuild f c.args.tree c.args.one.root (entries_of c.args.one.branches.items)) (sym c.self.view_is) c.requires.may in
    record {
      kept = rebuilt_kept c.self.inside.trees.items c.self.inside.table.owners.items c.self.inside.table.places.items
          c.self.invariant.kept c.args.tree may.grown may.at c.index_mut-old.result.now c.index_mut-old.ensures.value
          c.rebuild.result c.rebuild.new.old c.args.one c.requires.live c.rebuild.ensures.ok c.rebuild.ensures.err
          may.rooted may.fresh c.rebuild.new.table.owners.items c.rebuild.new.table.places.items c.rebuild.ensures.table
          c.rebuild.ensures.same_owners c.rebuild.ensures.same_places;
      counted = rebuilt_counted c.self.inside.trees.items c.self.inside.table.owners.items c.self.inside.table.places.items
          c.self.invariant.kept c.args.tree may.grown may.at c.index_mut-old.result.now c.index_mut-old.ensures.value
          c.rebuild.result c.rebuild.new.old c.args.one c.requires.live c.rebuild.ensures.ok c.rebuild.ensures.err
          c.self.inside.left c.self.invariant.counted;
    }

pub returns-clause-ok : goal.returns-clause-ok
returns-clause-ok c =
    let may = subst (λ f. MayRebuild f c.args.tree c.args.one.root (entries_of c.args.one.branches.items)) (sym c.self.view_is) c.requires.may in
    subst
    (λ f. OnOk c.rebuild.result
    (map grown_of (set c.self.inside.trees.items c.args.tree c.rebuild.new.old) ≡ set f c.args.tree (Some (seen c.args.one))))
    c.self.view_is
    (rebuilt_view c.self.inside.trees.items c.self.inside.table.owners.items c.self.inside.table.places.items c.self.invariant.kept
    c.args.tree may.grown may.at c.index_mut-old.result.now c.index_mut-old.ensures.value c.rebuild.result c.rebuild.new.old c.args.one
    c.requires.live c.rebuild.ensures.ok)

pub returns-clause-err : goal.returns-clause-err
returns-clause-err c =
    let may = subst (λ f. MayRebuild f c.args.tree c.args.one.root (entries_of c.args.one.branches.items)) (sym c.self.view_is) c.requires.may in
    subst (λ f. OnErr c.rebuild.result (map grown_of (set c.self.inside.trees.items c.args.tree c.rebuild.new.old) ≡ f)) c.self.view_is
    (unbuilt_view c.self.inside.trees.items c.self.inside.table.owners.items c.self.inside.table.places.items c.self.invariant.kept
    c.args.tree may.grown may.at c.index_mut-old.result.now c.index_mut-old.ensures.value c.rebuild.result c.rebuild.new.old
    c.rebuild.ensures.err)
