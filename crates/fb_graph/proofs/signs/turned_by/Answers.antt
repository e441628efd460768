use Rattle.fb_graph.proofs.SignSteps.{turned_within}
use Rattle.fb_graph.proofs.signs.turned_by.Goals as goal

pub odd_ends-requires : goal.odd_ends-requires
odd_ends-requires c =
    rw (c.as_slice.ensures, c.in_ok-turned.ensures) (turned_within c.args.graph.now _ c.args.changes.now c.requires)

pub returns : goal.returns
returns c = rw (c.as_slice.ensures, c.in_ok-turned.ensures) at c.odd_ends.ensures
