use Rattle.std.proofs.lemmas.Result.{IfOk-weaker}
use Rattle.fb_graph.proofs.Layouts.{odd_ends_are}
use Rattle.fb_graph.proofs.graph.Graph.odd_ends.Goals as goal

pub returns : goal.returns
returns c =
    rw (← c.self.view_is)
    (IfOk-weaker c.odd_ends.result _ _ (λ ends are. odd_ends_are
    (record { vertices = c.self.inside.vertices; edges = c.self.inside.edges.items; negatives = c.self.inside.signs.negatives; virtuals = c.self.inside.virtuals })
    c.self.inside.flags.items c.args.listed.now ends c.self.invariant.flag_count
    c.self.invariant.each_flag (rw (c.deref.ensures.value, c.deref-2.ensures.value) at are)) c.odd_ends.ensures)
