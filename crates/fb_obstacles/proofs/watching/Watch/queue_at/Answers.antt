use Rattle.std.proofs.Common.{unwrap_or, ◌≡◌, ◌∙◌, ◌+◌, ◌<◌, ◌≤◌, true, length, get_or, refl, sym, ap, subst, arith}
use Rattle.std.proofs.lemmas.Option.{unwrap_or-slice_get}
use Rattle.indexmap.specs.IndexMap.{keys, values}
use Rattle.fb_obstacles.specs.InternalQueue.{is_due}
use Rattle.fb_obstacles.specs.InternalWatch.{Reorders}
use Rattle.fb_obstacles.specs.Watched.{Watched}
use Rattle.fb_obstacles.proofs.FirstEntries.{length-keys, length-values}
use Rattle.fb_obstacles.proofs.QueuedEdges.{bounds_seen, bounds_swapped, due_in_next, due_queued, edges_seen, edges_swapped, kept_swapped, reorders_exchanged}
use Rattle.fb_obstacles.specs.InternalWatch.{node_bounds}
use Rattle.fb_obstacles.proofs.watching.Watch.queue_at.Goals as goal

pub invariant_of-self : goal.invariant_of-self
invariant_of-self c =
    let inside = rw (← c.self.view_is) at c.requires.within in
    let behind : c.self.inside.queued ≤ c.args.place = rw (← c.self.view_is) at c.requires.queued in
    let first : c.args.place < c.self.inside.live =
    omega (arith, inside, edges_seen c.self.inside.known c.self.inside.live c.self.inside.edge_count 0 c.self.invariant.0) in
    let second : c.self.inside.queued < c.self.inside.live = omega (arith, behind, first) in
    let even : length (values c.self.inside.known) ≡ length (keys c.self.inside.known) =
    length-values c.self.inside.known.entries ∙ sym (length-keys c.self.inside.known.entries) in
    let most : c.self.inside.live ≤ length (keys c.self.inside.known) =
    omega (arith, c.self.invariant.0.within, length-keys c.self.inside.known.entries) in
    let edge_is : c.from.result ≡ get_or (keys c.self.inside.known) c.args.place 0 =
    c.from.ensures ∙ ap (λ ks. get_or ks c.args.place 0) (c.as_slice.ensures ∙ c.keys.ensures.rest) in
    let growth_is : c.index-growth.result.now ≡ get_or (values c.self.inside.known) c.args.place 0 =
    ap (λ o. unwrap_or o 0) (sym c.index-growth.ensures) ∙ unwrap_or-slice_get (values c.self.inside.known) c.args.place 0 in
    let here : is_due c.push.new.self (get_or (values c.self.inside.known) c.args.place 0)
    (get_or (keys c.self.inside.known) c.args.place 0) ≡ true =
    (λ j. is_due c.push.new.self (sym growth_is j) (sym edge_is j)) ∙ c.if-push.ensures.added refl in (
      kept_swapped c.self.inside.known c.exchange.new.known c.args.place c.self.inside.queued c.self.inside.live
          c.self.inside.edge_count c.exchange.ensures.entries c.exchange.ensures.len c.exchange.ensures.room
          first second c.self.invariant.0 c.self.inside.live (omega arith),
      record {
        watched = omega (arith, second);
        due = due_in_next c.self.inside.known c.exchange.new.known c.args.place c.self.inside.queued c.self.inside.live
            c.self.inside.edge_count c.exchange.ensures.entries c.exchange.ensures.len
            c.exchange.ensures.room first second c.self.invariant.0 c.push.new.self (c.self.inside.queued + 1)
            (due_queued c.push.new.self (values c.self.inside.known) (keys c.self.inside.known) even c.args.place
            c.self.inside.queued behind (omega (arith, first, most))
            (λ i less. c.if-push.ensures.kept _ _ (c.self.invariant.1.due i less)) here);
      },
    )

pub invariant_of-self-else-push : goal.invariant_of-self-else-push
invariant_of-self-else-push c = (
  c.self.invariant.0,
  record {
    watched = c.self.invariant.1.watched;
    due = λ i less. c.if-push.ensures.kept _ _ (c.self.invariant.1.due i less);
  },
)

pub returns-then-push-clause-same : goal.returns-then-push-clause-same
returns-then-push-clause-same c =
    let inside = rw (← c.self.view_is) at c.requires.within in
    let behind : c.self.inside.queued ≤ c.args.place = rw (← c.self.view_is) at c.requires.queued in
    let first : c.args.place < c.self.inside.live =
    omega (arith, inside, edges_seen c.self.inside.known c.self.inside.live c.self.inside.edge_count 0 c.self.invariant.0) in
    let second : c.self.inside.queued < c.self.inside.live = omega (arith, behind, first) in
    let before : Watched = c.args.self.now in
    rw (← c.self.view_is)
    (subst (Reorders _)
    (sym (λ j. record {
      edge_count = c.self.inside.edge_count;
      edges = edges_swapped c.self.inside.known c.exchange.new.known c.args.place c.self.inside.queued c.self.inside.live
          c.self.inside.edge_count c.exchange.ensures.entries c.exchange.ensures.len
          c.exchange.ensures.room first second c.self.invariant.0 j;
      bounds = bounds_swapped c.self.inside.known c.exchange.new.known c.args.place c.self.inside.queued c.self.inside.live
          c.self.inside.edge_count c.exchange.ensures.entries c.exchange.ensures.len
          c.exchange.ensures.room first second c.self.invariant.0 c.self.inside.lowered j;
      queued = c.self.inside.queued + 1;
      nodes = node_bounds c.self.inside.nodes c.self.inside.lowered;
    }))
    (reorders_exchanged _ c.args.place c.self.inside.queued
    (bounds_seen c.self.inside.known c.self.inside.live c.self.inside.edge_count c.self.inside.lowered c.self.invariant.0)
    (omega (arith, inside)) (omega (arith, second, edges_seen c.self.inside.known c.self.inside.live c.self.inside.edge_count 0 c.self.invariant.0))
    (c.self.inside.queued + 1)))
