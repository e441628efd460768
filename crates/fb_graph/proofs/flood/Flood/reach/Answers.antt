use Rattle.std.proofs.Common.{◌<◌, ◌≡◌, ◌∙◌, false, length, get_or, sym}
use Rattle.fb_graph.proofs.Floods.{reached_more}
use Rattle.fb_graph.proofs.flood.Flood.reach.Goals as goal

pub invariant_of-self-2 : goal.invariant_of-self-2
invariant_of-self-2 c =
    let below : c.args.v < length c.self.inside.labels.items = rw (← c.self.view_is) at c.requires in
    let unset : false ≡ get_or c.self.inside.flags.items c.args.v false = rw c.if-index.false at c.index.ensures in
    rw c.in_ok-push.ensures.items
    (reached_more c.self.inside.labels.items c.self.inside.flags.items c.self.inside.order.items c.args.v c.args.label
    c.self.invariant below (sym (c.self.invariant.each c.args.v below) ∙ sym unset))
