use Rattle.std.proofs.Common.{ℕ, List, All, ◌≡◌, ◌∙◌, ◌<◌, ◌≤◌, ◌+◌, ◌-◌, length, map, take, set, get_or, ap, sym, subst, arith}
use Rattle.std.proofs.Math.Nat.{min-le_left}
use Rattle.std.proofs.lemmas.List.{get_or-set_other, get_or-set_same, length-map, length-take-le}
use Rattle.std.proofs.lemmas.List.Elements.{All-set}
use Rattle.indexmap.specs.IndexMap.{IndexMap, keys, values, with_value_at}
use Rattle.indexmap.proofs.CallerLemmas.{index_map_len-with_value_at, keys-with_value_at}
use Rattle.fb_obstacles.specs.declared.edge_hasher.EdgeHasher.{EdgeHasher}
use Rattle.fb_obstacles.proofs.EnteredEdges.{values_set_value_at}
use Rattle.fb_obstacles.proofs.FirstEntries.{length-keys, length-values}
use Rattle.fb_obstacles.proofs.QueuedEdges.{due_same}
use Rattle.fb_obstacles.proofs.RaisedBounds.{lowered_set}
use Rattle.fb_obstacles.specs.InternalWatch.{node_bounds}
use Rattle.fb_obstacles.proofs.watching.Watch.set_bound.Goals as goal

pub index_mut-requires : goal.index_mut-requires
index_mut-requires c =
    let inside : c.args.place < length (take c.self.inside.live (keys c.self.inside.known)) = rw (← c.self.view_is) at c.requires.within in
    omega (
      arith,
      inside,
      c.self.invariant.0.within,
      length-take-le c.self.inside.live (keys c.self.inside.known)
          (omega (arith, c.self.invariant.0.within, length-keys c.self.inside.known.entries)),
    )

module _ (known : IndexMap ℕ ℕ EdgeHasher) (live lowered place raised : ℕ) (most : live ≤ length (values known)) (less : place < live) where
  abbrev kept : List ℕ
  kept = map (λ b. b - lowered) (take live (values known))

  bounds_set : map (λ b. b - lowered) (take live (values (with_value_at known place raised))) ≡ set kept place (raised - lowered)
  bounds_set =
      ap (λ vs. map (λ b. b - lowered) (take live vs)) (values_set_value_at known.entries place raised)
      ∙ lowered_set (values known) live lowered place raised less

  bound_at : get_or (map (λ b. b - lowered) (take live (values (with_value_at known place raised)))) place 0 ≡ raised - lowered
  bound_at =
      ap (λ xs. get_or xs place 0) bounds_set
      ∙ get_or-set_same kept place (raised - lowered) 0
      (omega (arith, less, length-map (take live (values known)) (λ b. b - lowered), length-take-le live (values known) most))

  bounds_set_at : map (λ b. b - lowered) (take live (values (with_value_at known place raised)))
      ≡ set kept place (get_or (map (λ b. b - lowered) (take live (values (with_value_at known place raised)))) place 0)
  bounds_set_at = bounds_set ∙ ap (set kept place) (sym bound_at)

pub returns-clause-most : goal.returns-clause-most
returns-clause-most c =
    let most : c.self.inside.live ≤ length (values c.self.inside.known) =
    omega (arith, c.self.invariant.0.within, length-values c.self.inside.known.entries) in
    let inside : c.args.place < length (take c.self.inside.live (keys c.self.inside.known)) = rw (← c.self.view_is) at c.requires.within in
    let less : c.args.place < c.self.inside.live = omega (
      arith,
      inside,
      length-take-le c.self.inside.live (keys c.self.inside.known)
          (omega (arith, c.self.invariant.0.within, length-keys c.self.inside.known.entries)),
    ) in
    omega (
      arith,
      bound_at c.self.inside.known c.self.inside.live c.self.inside.lowered c.args.place c.saturating_add.result most less,
      c.saturating_add.ensures,
      min-le_left (c.args.bound + c.self.inside.lowered) 18446744073709551615,
    )

pub returns-clause-rest : goal.returns-clause-rest
returns-clause-rest c =
    let most : c.self.inside.live ≤ length (values c.self.inside.known) =
    omega (arith, c.self.invariant.0.within, length-values c.self.inside.known.entries) in
    let inside : c.args.place < length (take c.self.inside.live (keys c.self.inside.known)) = rw (← c.self.view_is) at c.requires.within in
    let less : c.args.place < c.self.inside.live = omega (
      arith,
      inside,
      length-take-le c.self.inside.live (keys c.self.inside.known)
          (omega (arith, c.self.invariant.0.within, length-keys c.self.inside.known.entries)),
    ) in
    rw (← c.self.view_is)
    (λ j. record {
      edge_count = c.self.inside.edge_count;
      edges = take c.self.inside.live (keys-with_value_at c.self.inside.known c.args.place c.saturating_add.result j);
      bounds = bounds_set_at c.self.inside.known c.self.inside.live c.self.inside.lowered c.args.place
          c.saturating_add.result most less j;
      queued = c.self.inside.queued;
      nodes = node_bounds c.self.inside.nodes c.self.inside.lowered;
    })

pub invariant_of-self : goal.invariant_of-self
invariant_of-self c =
    let behind : c.self.inside.queued ≤ c.args.place = rw (← c.self.view_is) at c.requires.queued in (
      record {
        within = omega (arith, c.self.invariant.0.within, index_map_len-with_value_at c.self.inside.known c.args.place c.saturating_add.result);
        below = subst (λ ks. All (λ e. e < c.self.inside.edge_count) ks)
            (sym (keys-with_value_at c.self.inside.known c.args.place c.saturating_add.result)) c.self.invariant.0.below;
        small = subst (λ vs. All (λ b. b < 18446744073709551616) vs)
            (sym (values_set_value_at c.self.inside.known.entries c.args.place c.saturating_add.result))
            (All-set (λ b. b < 18446744073709551616) (values c.self.inside.known) c.args.place c.saturating_add.result
            (omega (arith, c.saturating_add.ensures)) c.self.invariant.0.small);
        room = omega (arith, c.self.invariant.0.room, index_map_len-with_value_at c.self.inside.known c.args.place c.saturating_add.result);
      },
      record {
        watched = c.self.invariant.1.watched;
        due = due_same c.self.inside.queue (values c.self.inside.known) (keys c.self.inside.known)
            (length-values c.self.inside.known.entries ∙ sym (length-keys c.self.inside.known.entries))
            (values (with_value_at c.self.inside.known c.args.place c.saturating_add.result))
            (keys (with_value_at c.self.inside.known c.args.place c.saturating_add.result)) c.self.inside.queued
            c.self.invariant.1.due
            (λ i less.
            ap (λ vs. get_or vs i 0) (values_set_value_at c.self.inside.known.entries c.args.place c.saturating_add.result)
            ∙ get_or-set_other (values c.self.inside.known) c.args.place i c.saturating_add.result 0
            (λ same. absurd (omega (arith, same, less, behind))))
            (λ i less.
            ap (λ ks. get_or ks i 0) (keys-with_value_at c.self.inside.known c.args.place c.saturating_add.result));
      },
    )
