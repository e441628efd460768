use Rattle.std.proofs.Common.{◌+◌, refl, sym, ap, ◌∙◌}
use Rattle.fb_book.specs.declared.entries.EntryKind.TheVariants.{Took}
use Rattle.fb_desk.proofs.Turns.{one_more}
use Rattle.fb_desk.proofs.locked.Locked.claim.Goals as goal

pub invariant_of-self : goal.invariant_of-self
invariant_of-self g c =
    let t = c.in-Unit.ensures.unit c.in-Unit.permit refl in
    record {
      counted = c.count.ensures.total
          ∙ (ap (λ n. n + 1) c.args.self.now.counted ∙ sym (one_more g.N.Board.job _ _ Took _ _ _ t.1.adds));
    }

pub invariant_of-self-in-Fusion : goal.invariant_of-self-in-Fusion
invariant_of-self-in-Fusion g c =
    let t = c.in-Fusion.ensures.fusion c.in-Fusion.permit c.in-Fusion.left c.in-Fusion.right refl in
    record {
      counted = c.count-in-Fusion.ensures.total
          ∙ (ap (λ n. n + 1) c.args.self.now.counted ∙ sym (one_more g.N.Board.job _ _ Took _ _ _ t.1.takes.adds));
    }

pub returns-in-Unit-clause-unit : goal.returns-in-Unit-clause-unit
returns-in-Unit-clause-unit g c permit is = (c.in-Unit.ensures.unit permit is).1

pub returns-in-Fusion-clause-fusion : goal.returns-in-Fusion-clause-fusion
returns-in-Fusion-clause-fusion g c permit left right is = (c.in-Fusion.ensures.fusion permit left right is).1
