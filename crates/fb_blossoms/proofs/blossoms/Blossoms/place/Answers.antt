use Rattle.fb_blossoms.proofs.Nested.{place_from}
use Rattle.fb_blossoms.proofs.blossoms.Blossoms.place.Goals as goal

pub returns : goal.returns
returns c = rw (← c.self.view_is) (place_from c.self.inside.nodes.slots _ _ c.self.invariant c.args.node c.place_of.result c.place_of.ensures)
