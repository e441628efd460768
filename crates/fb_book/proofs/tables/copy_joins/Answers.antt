use Rattle.std.proofs.Common.{◌≡◌, [], ◌∷◌, ◌++◌, sym, ◌∙◌, rules}
use Rattle.fb_book.proofs.Copies.{joins_more}
use Rattle.fb_book.proofs.tables.copy_joins.Goals as goal

pub loop-node-preserved : goal.loop-node-preserved
loop-node-preserved c =
    let pushed : c.push.new.self.items ≡ c.loop-node.joins.items ++ c.in-Some.join ∷ [] = search rules in
    pushed ∙ joins_more c.args.plan.now c.loop-node.node c.in-Some.join _ c.loop-node.invariant (sym c.children.ensures.value ∙ c.in-Some.is)
