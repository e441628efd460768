use Rattle.std.proofs.Common.{ℕ, Option, sym, subst}
use Rattle.fb_blossoms.specs.Nodes.{IsParent}
use Rattle.fb_blossoms.specs.InternalForest.{nodes_of}
use Rattle.fb_blossoms.proofs.Nested.{parent_is}
use Rattle.fb_blossoms.proofs.blossoms.Blossoms.parent.Goals as goal

pub returns : goal.returns
returns c =
    let P : Option ℕ → Type 0 = IsParent (nodes_of c.self.inside.nodes.slots) c.args.node in
    rw (← c.self.view_is) (subst P (sym c.parent_of.ensures) (parent_is c.self.inside.nodes.slots _ _ c.self.invariant c.args.node))
