use Rattle.std.proofs.Common.{ap, ◌∙◌}
use Rattle.fb_trees.specs.Forests.{tree_at}
use Rattle.fb_trees.proofs.ForestReads.{viewed_one}
use Rattle.fb_trees.proofs.forest.Forest.view.Goals as goal

pub invariant_of-result : goal.invariant_of-result
invariant_of-result c =
    viewed_one c.self.inside.trees.items c.self.inside.table.owners.items c.self.inside.table.places.items c.self.invariant.kept c.args.tree
    c.requires.0 (ap (λ f. tree_at f c.args.tree) c.self.view_is ∙ c.requires.1) c.index-one.result.now c.index-one.ensures
    c.deref.result.now c.deref.ensures.value c.deref-2.result.now c.deref-2.ensures.value
