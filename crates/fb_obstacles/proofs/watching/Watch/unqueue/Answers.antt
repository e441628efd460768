use Rattle.std.proofs.Common.{◌≡◌, ◌∙◌, ◌-◌, ◌<◌, length, sym, arith}
use Rattle.indexmap.specs.IndexMap.{keys, values}
use Rattle.fb_obstacles.proofs.FirstEntries.{length-keys, length-values}
use Rattle.fb_obstacles.proofs.QueuedEdges.{bounds_swapped, due_in_next, due_unqueued, edges_swapped, kept_swapped}
use Rattle.fb_obstacles.specs.InternalWatch.{node_bounds}
use Rattle.fb_obstacles.proofs.watching.Watch.unqueue.Goals as goal

pub invariant_of-self : goal.invariant_of-self
invariant_of-self c =
    let within : c.args.place < c.self.inside.queued = rw (← c.self.view_is) at c.requires in
    let few = c.self.invariant.1.watched in
    let first : c.args.place < c.self.inside.live = omega (arith, within, few) in
    let second : c.self.inside.queued - 1 < c.self.inside.live = omega (arith, within, few) in
    let even : length (values c.self.inside.known) ≡ length (keys c.self.inside.known) =
    length-values c.self.inside.known.entries ∙ sym (length-keys c.self.inside.known.entries) in (
      kept_swapped c.self.inside.known c.exchange.new.known c.args.place (c.self.inside.queued - 1) c.self.inside.live
          c.self.inside.edge_count c.exchange.ensures.entries c.exchange.ensures.len c.exchange.ensures.room
          first second c.self.invariant.0 c.self.inside.live (omega arith),
      record {
        watched = omega (arith, few);
        due = due_in_next c.self.inside.known c.exchange.new.known c.args.place (c.self.inside.queued - 1) c.self.inside.live
            c.self.inside.edge_count c.exchange.ensures.entries c.exchange.ensures.len
            c.exchange.ensures.room first second c.self.invariant.0 c.self.inside.queue (c.self.inside.queued - 1)
            (due_unqueued c.self.inside.queue (values c.self.inside.known) (keys c.self.inside.known) even c.args.place
            c.self.inside.queued within
            (omega (arith, few, c.self.invariant.0.within, length-keys c.self.inside.known.entries))
            (λ i less other. c.self.invariant.1.due i less));
      },
    )

pub returns : goal.returns
returns c =
    let within : c.args.place < c.self.inside.queued = rw (← c.self.view_is) at c.requires in
    let few = c.self.invariant.1.watched in
    let first : c.args.place < c.self.inside.live = omega (arith, within, few) in
    let second : c.self.inside.queued - 1 < c.self.inside.live = omega (arith, within, few) in
    rw (← c.self.view_is)
    (λ j. record {
      edge_count = c.self.inside.edge_count;
      edges = edges_swapped c.self.inside.known c.exchange.new.known c.args.place (c.self.inside.queued - 1) c.self.inside.live
          c.self.inside.edge_count c.exchange.ensures.entries c.exchange.ensures.len
          c.exchange.ensures.room first second c.self.invariant.0 j;
      bounds = bounds_swapped c.self.inside.known c.exchange.new.known c.args.place (c.self.inside.queued - 1) c.self.inside.live
          c.self.inside.edge_count c.exchange.ensures.entries c.exchange.ensures.len
          c.exchange.ensures.room first second c.self.invariant.0 c.self.inside.lowered j;
      queued = c.self.inside.queued - 1;
      nodes = node_bounds c.self.inside.nodes c.self.inside.lowered;
    })
