use Rattle.std.proofs.Common.{ℕ, List, ◌≡◌, ◌∙◌, ◌<◌, ◌≤◌, ◌-◌, length, map, take, ap, sym, arith}
use Rattle.std.specs.List.{swap_remove}
use Rattle.std.proofs.lemmas.List.{length-take-le, take-map}
use Rattle.indexmap.specs.IndexMap.{keys, values}
use Rattle.indexmap.proofs.ReorderLemmas.{map-swap}
use Rattle.fb_obstacles.proofs.FirstEntries.{length-keys, length-lowered, length-values, swapped_out}
use Rattle.fb_obstacles.proofs.QueuedEdges.{due_beside, due_in_next, kept_swapped, keys_swapped, values_swapped}
use Rattle.fb_obstacles.specs.InternalWatch.{node_bounds}
use Rattle.fb_obstacles.proofs.watching.Watch.take_out.Goals as goal

pub invariant_of-self : goal.invariant_of-self
invariant_of-self c =
    let inside : c.args.place < length (take c.self.inside.live (keys c.self.inside.known)) = rw (← c.self.view_is) at c.requires.within in
    let behind : c.self.inside.queued ≤ c.args.place = rw (← c.self.view_is) at c.requires.queued in
    let most : c.self.inside.live ≤ length (keys c.self.inside.known) =
    omega (arith, c.self.invariant.0.within, length-keys c.self.inside.known.entries) in
    let first : c.args.place < c.self.inside.live =
    omega (arith, inside, length-take-le c.self.inside.live (keys c.self.inside.known) most) in
    let second : c.self.inside.live - 1 < c.self.inside.live = omega (arith, first) in
    let even : length (values c.self.inside.known) ≡ length (keys c.self.inside.known) =
    length-values c.self.inside.known.entries ∙ sym (length-keys c.self.inside.known.entries) in (
      kept_swapped c.self.inside.known c.exchange.new.known c.args.place (c.self.inside.live - 1) c.self.inside.live
          c.self.inside.edge_count c.exchange.ensures.entries c.exchange.ensures.len c.exchange.ensures.room
          first second c.self.invariant.0 (c.self.inside.live - 1) (omega arith),
      record {
        watched = omega (arith, first, behind);
        due = due_in_next c.self.inside.known c.exchange.new.known c.args.place (c.self.inside.live - 1) c.self.inside.live
            c.self.inside.edge_count c.exchange.ensures.entries c.exchange.ensures.len
            c.exchange.ensures.room first second c.self.invariant.0 c.self.inside.queue c.self.inside.queued
            (due_beside c.self.inside.queue (values c.self.inside.known) (keys c.self.inside.known) even c.args.place
            (c.self.inside.live - 1) c.self.inside.queued behind (omega (arith, behind, first)) (omega (arith, first, most))
            (omega (arith, second, most)) c.self.invariant.1.due);
      },
    )

pub returns : goal.returns
returns c =
    let inside : c.args.place < length (take c.self.inside.live (keys c.self.inside.known)) = rw (← c.self.view_is) at c.requires.within in
    let most : c.self.inside.live ≤ length (keys c.self.inside.known) =
    omega (arith, c.self.invariant.0.within, length-keys c.self.inside.known.entries) in
    let less : c.args.place < c.self.inside.live =
    omega (arith, inside, length-take-le c.self.inside.live (keys c.self.inside.known) most) in
    let second : c.self.inside.live - 1 < c.self.inside.live = omega (arith, less) in
    let edges : take (c.self.inside.live - 1) (keys c.exchange.new.known)
    ≡ swap_remove (take c.self.inside.live (keys c.self.inside.known)) c.args.place 0 =
    ap (take (c.self.inside.live - 1))
    (keys_swapped c.self.inside.known c.exchange.new.known c.args.place (c.self.inside.live - 1) c.self.inside.live
    c.self.inside.edge_count c.exchange.ensures.entries c.exchange.ensures.len c.exchange.ensures.room
    less second c.self.invariant.0)
    ∙ swapped_out (keys c.self.inside.known) c.args.place c.self.inside.live less most in
    let lowered : List ℕ = map (λ b. b - c.self.inside.lowered) (values c.self.inside.known) in
    let bounds : map (λ b. b - c.self.inside.lowered) (take (c.self.inside.live - 1) (values c.exchange.new.known))
    ≡ swap_remove (map (λ b. b - c.self.inside.lowered) (take c.self.inside.live (values c.self.inside.known))) c.args.place 0 =
    sym (take-map (λ b. b - c.self.inside.lowered) (c.self.inside.live - 1) (values c.exchange.new.known))
    ∙ (ap (λ vs. take (c.self.inside.live - 1) (map (λ b. b - c.self.inside.lowered) vs))
    (values_swapped c.self.inside.known c.exchange.new.known c.args.place (c.self.inside.live - 1) c.self.inside.live
    c.self.inside.edge_count c.exchange.ensures.entries c.exchange.ensures.len c.exchange.ensures.room
    less second c.self.invariant.0)
    ∙ (ap (take (c.self.inside.live - 1))
    (map-swap (λ b. b - c.self.inside.lowered) (values c.self.inside.known) c.args.place (c.self.inside.live - 1))
    ∙ (swapped_out lowered c.args.place c.self.inside.live less
    (omega (arith, c.self.invariant.0.within, length-values c.self.inside.known.entries, length-lowered (values c.self.inside.known) c.self.inside.lowered))
    ∙ ap (λ xs. swap_remove xs c.args.place 0) (take-map (λ b. b - c.self.inside.lowered) c.self.inside.live (values c.self.inside.known))))) in
    rw (← c.self.view_is)
    (λ j. record { edge_count = c.self.inside.edge_count; edges = edges j; bounds = bounds j; queued = c.self.inside.queued; nodes = node_bounds c.self.inside.nodes c.self.inside.lowered })
