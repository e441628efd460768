use Rattle.std.proofs.Common.{length, sym, ap, subst, ◌∙◌}
use Rattle.fb_book.specs.Machine.{IsForest}
use Rattle.fb_book.specs.Board.{children_in}
use Rattle.fb_book.specs.InternalBoard.{AreParents}
use Rattle.fb_book.proofs.Beginning.{items_at_first}
use Rattle.fb_book.proofs.Trees.{forest_of_tree, parents_of_tree}
use Rattle.fb_book.proofs.book.items_of.Goals as goal

pub new-requires-clause-forest : goal.new-requires-clause-forest
new-requires-clause-forest c =
    subst (λ u. IsForest (children_in u c.in_ok-joins.joins.items)) (sym c.units.ensures)
    (subst (λ js. IsForest (children_in c.plan-plan.result.now.units js)) (sym c.in_ok-joins.ensures)
    (forest_of_tree c.plan-plan.result.now c.keeps-2.ensures.tree))

pub new-requires-clause-parents : goal.new-requires-clause-parents
new-requires-clause-parents c =
    subst (λ u. AreParents u c.in_ok-joins.joins.items c.in_ok-parents.parents.items) (sym c.units.ensures)
    (subst (λ js. AreParents c.plan-plan.result.now.units js c.in_ok-parents.parents.items) (sym c.in_ok-joins.ensures)
    (parents_of_tree c.plan-plan.result.now c.keeps-2.ensures.tree c.in_ok-parents.parents.items
    c.in_ok-parents.ensures.count c.in_ok-parents.ensures.each))

pub returns : goal.returns
returns c =
    items_at_first c.args.job.now _ _ _ (c.units.ensures ∙ ap (λ p. p.units) c.plan-plan.ensures)
    (c.in_ok-joins.ensures ∙ ap (λ p. p.joins) c.plan-plan.ensures) (ap length c.shots.ensures) c.new.result c.new.ensures
