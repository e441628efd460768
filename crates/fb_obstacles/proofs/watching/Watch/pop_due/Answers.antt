use Rattle.std.proofs.Common.{◌≡◌, ◌∙◌, ◌-◌, ◌<◌, ◌≤◌, length, get_or, map, take, sym, ap, subst, arith}
use Rattle.std.specs.Option.{MatchOption}
use Rattle.std.proofs.lemmas.List.{get_or-take}
use Rattle.indexmap.specs.IndexMap.{keys, values}
use Rattle.fb_obstacles.proofs.FirstEntries.{length-keys, length-values}
use Rattle.fb_obstacles.proofs.QueuedEdges.{bounds_swapped, due_in_next, due_unqueued, edges_swapped, kept_swapped, limit_met}
use Rattle.fb_obstacles.proofs.RaisedBounds.{lowered_at}
use Rattle.fb_obstacles.specs.InternalWatch.{node_bounds}
use Rattle.fb_obstacles.proofs.watching.Watch.pop_due.Goals as goal
use Rattle.fb_obstacles.proofs.watching.Watch.pop_due.Goals.{in-Some, in-None}

pub invariant_of-self : goal.invariant_of-self
invariant_of-self c =
    let place = c.in-Some-pop_waiting.place in
    let within = c.in-Some-pop_waiting.ensures.some.0 in
    let few = c.self.invariant.1.watched in
    let first : place < c.self.inside.live = omega (arith, within, few) in
    let second : c.self.inside.queued - 1 < c.self.inside.live = omega (arith, within, few) in
    let even : length (values c.self.inside.known) ≡ length (keys c.self.inside.known) =
    length-values c.self.inside.known.entries ∙ sym (length-keys c.self.inside.known.entries) in (
      kept_swapped c.self.inside.known c.exchange.new.known place (c.self.inside.queued - 1) c.self.inside.live
          c.self.inside.edge_count c.exchange.ensures.entries c.exchange.ensures.len c.exchange.ensures.room
          first second c.self.invariant.0 c.self.inside.live (omega arith),
      record {
        watched = omega (arith, few);
        due = due_in_next c.self.inside.known c.exchange.new.known place (c.self.inside.queued - 1) c.self.inside.live
            c.self.inside.edge_count c.exchange.ensures.entries c.exchange.ensures.len
            c.exchange.ensures.room first second c.self.invariant.0 c.pop_waiting.new.queue (c.self.inside.queued - 1)
            (due_unqueued c.pop_waiting.new.queue (values c.self.inside.known) (keys c.self.inside.known) even place
            c.self.inside.queued within
            (omega (arith, few, c.self.invariant.0.within, length-keys c.self.inside.known.entries))
            c.in-Some-pop_waiting.ensures.some.1);
      },
    )

pub returns-in-Some-pop_waiting-clause-found : goal.returns-in-Some-pop_waiting-clause-found
returns-in-Some-pop_waiting-clause-found c is =
    let place = c.in-Some-pop_waiting.place in
    let within = c.in-Some-pop_waiting.ensures.some.0 in
    let few = c.self.invariant.1.watched in
    let first : place < c.self.inside.live = omega (arith, within, few) in
    let second : c.self.inside.queued - 1 < c.self.inside.live = omega (arith, within, few) in
    rw (← c.self.view_is) (
      place,
      within,
      (λ j. record {
        edge_count = c.self.inside.edge_count;
        edges = edges_swapped c.self.inside.known c.exchange.new.known place (c.self.inside.queued - 1) c.self.inside.live
            c.self.inside.edge_count c.exchange.ensures.entries c.exchange.ensures.len
            c.exchange.ensures.room first second c.self.invariant.0 j;
        bounds = bounds_swapped c.self.inside.known c.exchange.new.known place (c.self.inside.queued - 1) c.self.inside.live
            c.self.inside.edge_count c.exchange.ensures.entries c.exchange.ensures.len
            c.exchange.ensures.room first second c.self.invariant.0 c.self.inside.lowered j;
        queued = c.self.inside.queued - 1;
        nodes = node_bounds c.self.inside.nodes c.self.inside.lowered;
      }),
    )

pub returns-in-None-pop_waiting-clause-none : goal.returns-in-None-pop_waiting-clause-none
returns-in-None-pop_waiting-clause-none c is i less =
    let waits = c.in-None-pop_waiting.ensures.none i less in
    let bound : get_or (map (λ b. b - c.self.inside.lowered) (take c.self.inside.live (values c.self.inside.known))) i 0
    ≡ get_or (values c.self.inside.known) i 0 - c.self.inside.lowered =
    lowered_at (take c.self.inside.live (values c.self.inside.known)) c.self.inside.lowered i
    ∙ ap (λ x. x - c.self.inside.lowered)
    (get_or-take c.self.inside.live (values c.self.inside.known) i 0 (omega (arith, less, c.self.invariant.1.watched))) in
    elim c.match-limit.branch [
      | in-Some w ↦
          subst (λ o. MatchOption o ⊥ (λ most. most ≤ get_or (map (λ b. b - c.self.inside.lowered) (take c.self.inside.live (values c.self.inside.known))) i 0))
          (sym w.in-Some.is)
          (subst (λ x. w.in-Some.most ≤ x) (sym bound)
          (limit_met _ w.in-Some.most c.self.inside.lowered (get_or (values c.self.inside.known) i 0) w.checked_add-growth.result
          w.checked_add-growth.ensures
          (subst (λ o. MatchOption o ⊥ (λ g. g ≤ get_or (values c.self.inside.known) i 0)) w.growth-is waits)))
      | in-None w ↦
          absurd (subst (λ o. MatchOption o ⊥ (λ g. g ≤ get_or (values c.self.inside.known) i 0)) w.growth-is waits)
    ]
