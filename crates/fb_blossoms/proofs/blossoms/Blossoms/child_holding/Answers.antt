use Rattle.std.proofs.Common.{sym, ◌∙◌}
use Rattle.fb_blossoms.proofs.Climbs.{none_some}
use Rattle.fb_blossoms.proofs.Nested.{child_round, leaf_inside, strictly_below}
use Rattle.fb_blossoms.proofs.blossoms.Blossoms.child_holding.Goals as goal

pub unreachable-requires : goal.unreachable-requires
unreachable-requires c =
    let r =
    leaf_inside c.self.inside.nodes.slots _ _ c.self.invariant c.args.node c.args.defect
    (rw (← c.self.view_is) at c.requires.holds) (rw (← c.self.view_is) at c.requires.blossom) in
    none_some _ r.0 (sym c.leaf_of.ensures ∙ c.in_default.is) r.1

pub child_over-requires-clause-below : goal.child_over-requires-clause-below
child_over-requires-clause-below c =
    strictly_below _ _ _ c.self.invariant c.args.node c.args.defect c.in-Some.leaf
    (rw (← c.self.view_is) at c.requires.holds) (rw (← c.self.view_is) at c.requires.blossom) (sym c.leaf_of.ensures ∙ c.in-Some.is)

pub returns : goal.returns
returns c =
    rw (← c.self.view_is)
    (child_round _ _ _ c.self.invariant c.args.node c.args.defect c.in-Some.leaf _ (sym c.leaf_of.ensures ∙ c.in-Some.is) c.child_over.ensures)
