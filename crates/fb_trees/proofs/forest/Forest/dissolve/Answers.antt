use Rattle.std.proofs.Common.{◌≡◌, Some, None, map, set, ap, ◌∙◌}
use Rattle.fb_trees.specs.Forests.{tree_at}
use Rattle.fb_trees.specs.InternalForests.{grown_of}
use Rattle.fb_trees.proofs.ForestsCounted.{counted_less, some_left}
use Rattle.fb_trees.proofs.ForestMoves.{dissolved_kept, dissolved_view}
use Rattle.fb_trees.proofs.forest.Forest.dissolve.Goals as goal

pub overflow_sub-self : goal.overflow_sub-self
overflow_sub-self c =
    some_left (map grown_of c.self.inside.trees.items) c.args.tree c.requires.0
    (ap (λ f. tree_at f c.args.tree) c.self.view_is ∙ c.requires.1) c.self.inside.left c.self.invariant.counted

pub invariant_of-self : goal.invariant_of-self
invariant_of-self c =
    let at : tree_at (map grown_of c.self.inside.trees.items) c.args.tree ≡ Some c.requires.0 =
    ap (λ f. tree_at f c.args.tree) c.self.view_is ∙ c.requires.1 in
    record {
      kept = dissolved_kept c.self.inside.trees.items c.self.inside.table.owners.items c.self.inside.table.places.items
          c.self.invariant.kept c.args.tree c.requires.0 at c.index_mut-one.result.now
          c.index_mut-one.ensures.value c.dissolve.new.one c.dissolve.ensures.live c.dissolve.new.table.owners.items
          c.dissolve.new.table.places.items c.dissolve.ensures.owners c.dissolve.ensures.places;
      counted = counted_less (map grown_of c.self.inside.trees.items) c.args.tree c.requires.0 at c.self.inside.left
          c.self.invariant.counted (map grown_of (set c.self.inside.trees.items c.args.tree c.dissolve.new.one))
          (dissolved_view c.self.inside.trees.items c.self.inside.table.owners.items c.self.inside.table.places.items
          c.self.invariant.kept c.args.tree c.requires.0 at c.index_mut-one.result.now
          c.index_mut-one.ensures.value c.dissolve.new.one c.dissolve.ensures.live);
    }

pub returns : goal.returns
returns c =
    dissolved_view c.self.inside.trees.items c.self.inside.table.owners.items c.self.inside.table.places.items c.self.invariant.kept
    c.args.tree c.requires.0 (ap (λ f. tree_at f c.args.tree) c.self.view_is ∙ c.requires.1) c.index_mut-one.result.now
    c.index_mut-one.ensures.value c.dissolve.new.one c.dissolve.ensures.live
    ∙ ap (λ f. set f c.args.tree None) c.self.view_is
