use Rattle.std.proofs.Common.{◌≡◌, ◌≤◌, ◌==◌, ◌++◌, ◌∷◌, [], sym, ap, ◌∙◌, refl, map, length, rules, subst, true, Some, if◌then◌else◌}
use Rattle.fb_trees.specs.Forests.{IsOutside}
use Rattle.fb_trees.specs.InternalForests.{IsWholeForest, grown_of}
use Rattle.fb_trees.specs.Rooted.{bare}
use Rattle.fb_trees.proofs.ForestReads.{added_one, added_view}
use Rattle.fb_trees.proofs.ForestsCounted.{counted_more, counted_within}
use Rattle.fb_trees.proofs.ForestsKept.{kept_same}
use Rattle.fb_trees.proofs.forest.Forest.add_tree.Goals as goal

pub invariant_of-self-in_err-widen : goal.invariant_of-self-in_err-widen
invariant_of-self-in_err-widen c =
    subst
    (λ l. IsWholeForest (map grown_of l) c.widen.new.places.items c.self.inside.table.places.items c.self.inside.left)
    (sym c.reserve.ensures.items)
    (record {
      kept = kept_same (map grown_of c.self.inside.trees.items) c.self.inside.table.owners.items c.self.inside.table.places.items
          c.widen.new.places.items c.self.inside.table.places.items c.self.invariant.kept c.in_err-widen.ensures.same (λ name. refl);
      counted = c.self.invariant.counted;
    })

pub overflow_add-self : goal.overflow_add-self
overflow_add-self c =
    let below : c.self.inside.left ≤ length c.self.inside.trees.items =
    counted_within c.self.inside.trees.items grown_of c.self.inside.left c.self.invariant.counted in
    search rules

pub invariant_of-self-2 : goal.invariant_of-self-2
invariant_of-self-2 c =
    let count : c.len-tree.result ≡ length c.self.inside.trees.items = search rules in
    let pushed = c.push_reserved.ensures.items
    ∙ ap (λ l. l ++ record { root = c.args.root; branches = c.new.result; live = true } ∷ []) c.reserve.ensures.items in
    record {
      kept = added_one c.self.inside.trees.items c.self.inside.table.owners.items c.self.inside.table.places.items
          c.self.invariant.kept c.args.root
          (subst (λ f. IsOutside f c.args.root) (sym c.self.view_is) c.requires)
          c.len-tree.result count c.own.new.owners.items
          (λ name.
          c.own.ensures.entries name
          ∙ ap (λ o. if c.args.root == name then Some c.len-tree.result else o) (c.in_ok-widen.ensures.same name))
          c.push_reserved.new.self.items c.new.result pushed c.new.ensures.items;
      counted = counted_more (map grown_of c.self.inside.trees.items) (map grown_of c.push_reserved.new.self.items)
          (bare c.args.root) c.self.inside.left c.self.invariant.counted
          (added_view c.self.inside.trees.items c.args.root c.push_reserved.new.self.items c.new.result pushed c.new.ensures.items);
    }
