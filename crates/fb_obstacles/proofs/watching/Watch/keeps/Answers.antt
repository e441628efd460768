use Rattle.std.proofs.Common.{◌≡◌, ◌-◌, ◌<◌, ◌≤◌, length, map, take, arith}
use Rattle.std.proofs.lemmas.List.{length-map, length-take-le}
use Rattle.std.proofs.lemmas.List.Elements.{All-take}
use Rattle.indexmap.specs.IndexMap.{keys, values}
use Rattle.fb_obstacles.proofs.FirstEntries.{distinct_first, length-keys, length-values}
use Rattle.fb_obstacles.proofs.watching.Watch.keeps.Goals as goal

pub returns-clause-distinct : goal.returns-clause-distinct
returns-clause-distinct c =
    rw (← c.self.view_is) (distinct_first (keys c.self.inside.known) c.self.inside.live c.len-len.ensures.unique)

pub returns-clause-within : goal.returns-clause-within
returns-clause-within c =
    rw (← c.self.view_is)
    (All-take (λ e. e < c.self.inside.edge_count) c.self.inside.live (keys c.self.inside.known) c.self.invariant.0.below)

pub returns-clause-bounds : goal.returns-clause-bounds
returns-clause-bounds c =
    let first_values : length (map (λ b. b - c.self.inside.lowered) (take c.self.inside.live (values c.self.inside.known))) ≡ c.self.inside.live = omega (
      arith,
      length-map (take c.self.inside.live (values c.self.inside.known)) (λ b. b - c.self.inside.lowered),
      length-take-le c.self.inside.live (values c.self.inside.known)
          (omega (arith, c.self.invariant.0.within, length-values c.self.inside.known.entries)),
    ) in
    let first_keys : length (take c.self.inside.live (keys c.self.inside.known)) ≡ c.self.inside.live =
    length-take-le c.self.inside.live (keys c.self.inside.known)
    (omega (arith, c.self.invariant.0.within, length-keys c.self.inside.known.entries)) in
    let even : length (map (λ b. b - c.self.inside.lowered) (take c.self.inside.live (values c.self.inside.known)))
    ≡ length (take c.self.inside.live (keys c.self.inside.known)) = omega (arith, first_values, first_keys) in
    rw (← c.self.view_is) even

pub returns-clause-queued : goal.returns-clause-queued
returns-clause-queued c =
    let first_keys : length (take c.self.inside.live (keys c.self.inside.known)) ≡ c.self.inside.live =
    length-take-le c.self.inside.live (keys c.self.inside.known)
    (omega (arith, c.self.invariant.0.within, length-keys c.self.inside.known.entries)) in
    let few : c.self.inside.queued ≤ length (take c.self.inside.live (keys c.self.inside.known)) =
    omega (arith, first_keys, c.self.invariant.1.watched) in
    rw (← c.self.view_is) few
