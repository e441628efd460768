use Rattle.std.proofs.Common.{reverse, sym, ◌∙◌}
use Rattle.fb_blossoms.proofs.Nested.{climbs_from, leaf_itself, way_found}
use Rattle.fb_blossoms.proofs.blossoms.Blossoms.way_to.Goals as goal

pub returns-in_default : goal.returns-in_default
returns-in_default c =
    rw (← c.self.view_is, c.new.ensures.items)
    (leaf_itself c.self.inside.nodes.slots _ _ c.self.invariant c.args.node c.args.defect (rw (← c.self.view_is) at c.requires) (sym c.leaf_of.ensures ∙ c.in_default.is))

pub way_down-requires-clause-below : goal.way_down-requires-clause-below
way_down-requires-clause-below c =
    climbs_from _ _ _ c.self.invariant c.args.node c.args.defect c.in-Some.leaf (rw (← c.self.view_is) at c.requires) (sym c.leaf_of.ensures ∙ c.in-Some.is)

pub returns : goal.returns
returns c =
    rw (← c.self.view_is)
    (way_found _ _ _ c.self.invariant (λ v. reverse v.items) c.args.node c.in-Some.leaf c.args.defect (sym c.leaf_of.ensures ∙ c.in-Some.is) c.way_down.result c.way_down.ensures)
