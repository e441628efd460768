use Rattle.std.proofs.Common.{map, sym, ap, ◌∙◌, subst}
use Rattle.fb_trees.specs.Forests.{tree_at}
use Rattle.fb_trees.specs.InternalForests.{IsWholeForest, grown_of}
use Rattle.fb_trees.proofs.ForestsCounted.{cleared}
use Rattle.fb_trees.proofs.forest.Forest.clear.Goals as goal

pub invariant_of-self : goal.invariant_of-self
invariant_of-self c =
    subst
    (λ l. IsWholeForest (map grown_of l) c.self.inside.table.owners.items c.self.inside.table.places.items c.self.inside.left)
    (sym c.clear.ensures.items)
    (cleared (map grown_of c.self.inside.trees.items) c.self.inside.table.owners.items c.self.inside.table.places.items c.self.inside.left
    c.self.invariant (λ t. ap (λ f. tree_at f t) c.self.view_is ∙ c.dissolve_all.ensures t))
