use Rattle.std.proofs.Common.{true, ◌≤◌, get_or, length, All, subst, ◌≡◌, ◌∙◌, ◌<◌, ◌+◌, ◌-◌, ◌++◌, ◌∷◌, [], map, take, ap, sym, cond, false, arith}
use Rattle.std.specs.Prelude.{nat_eq, nat_lt}
use Rattle.std.specs.Map.{keys_of, values_of}
use Rattle.fb_obstacles.specs.InternalWatch.{AreDue}
use Rattle.std.specs.List.{position_or_len}
use Rattle.std.proofs.lemmas.Bool.Decides.{nat_tests}
use Rattle.std.proofs.lemmas.List.{get_or-take, length-take-le, map-append}
use Rattle.indexmap.specs.IndexMap.{keys, values, index_map_len}
use Rattle.fb_graph.specs.Parity.{is_in}
use Rattle.fb_obstacles.proofs.FirstEntries.{among_first, length-keys, length-values}
use Rattle.fb_obstacles.proofs.QueuedEdges.{due_same, first_kept}
use Rattle.fb_obstacles.proofs.EnteredEdges.{below_brought, fewer_keys, keys_brought, small_brought, values_brought}
use Rattle.fb_obstacles.specs.InternalWatch.{node_bounds}
use Rattle.fb_obstacles.proofs.watching.Watch.place_or_add.Goals as goal

pub place_in-place-requires : goal.place_in-place-requires
place_in-place-requires c = record {
  room = λ none.
      let less : c.args.edge < c.self.inside.edge_count = rw (← c.self.view_is) at c.requires in
      omega (
        arith,
        fewer_keys c.self.inside.known.entries c.self.inside.edge_count c.args.edge c.len-len.ensures.unique
            c.self.invariant.0.below less none,
        c.self.invariant.0.room,
      );
}

pub invariant_of-self-2 : goal.invariant_of-self-2
invariant_of-self-2 c =
    let less : c.args.edge < c.self.inside.edge_count = rw (← c.self.view_is) at c.requires in (
      record {
        within = omega (arith, c.place_in-place.ensures.within, c.if-place-self.false, c.bring.ensures.len);
        below = below_brought c.self.inside.known.entries c.place_in-place.new.known.entries c.bring.new.known.entries
            c.place_in-place.result c.args.edge c.self.inside.live c.self.inside.lowered c.place_in-place.ensures.entries
            c.bring.ensures.entries (omega (arith, c.if-place-self.false)) c.place_in-place.ensures.within c.self.invariant.0.within
            c.self.inside.edge_count c.self.invariant.0.below less;
        small = small_brought c.self.inside.known.entries c.place_in-place.new.known.entries c.bring.new.known.entries
            c.place_in-place.result c.args.edge c.self.inside.live c.self.inside.lowered c.place_in-place.ensures.entries
            c.bring.ensures.entries (omega (arith, c.if-place-self.false)) c.place_in-place.ensures.within c.self.invariant.0.within
            18446744073709551616 c.self.invariant.0.small (omega arith);
        room = omega (
          arith,
          c.self.invariant.0.room,
          c.place_in-place.ensures.room,
          c.bring.ensures.len,
          c.bring.ensures.spare,
        );
      },
      record {
        watched = omega (arith, c.self.invariant.1.watched);
        due = due_same c.self.inside.queue (values c.self.inside.known) (keys c.self.inside.known)
            (length-values c.self.inside.known.entries ∙ sym (length-keys c.self.inside.known.entries))
            (values c.bring.new.known) (keys c.bring.new.known) c.self.inside.queued c.self.invariant.1.due
            (λ i more.
            first_kept (values c.self.inside.known) (values c.bring.new.known) c.self.inside.live c.self.inside.lowered i
            (omega (arith, more, c.self.invariant.1.watched))
            (omega (arith, c.self.invariant.0.within, length-values c.self.inside.known.entries))
            (values_brought c.self.inside.known.entries c.place_in-place.new.known.entries c.bring.new.known.entries
            c.place_in-place.result c.args.edge c.self.inside.live c.self.inside.lowered c.place_in-place.ensures.entries
            c.bring.ensures.entries (omega (arith, c.if-place-self.false)) c.place_in-place.ensures.within c.self.invariant.0.within))
            (λ i more.
            first_kept (keys c.self.inside.known) (keys c.bring.new.known) c.self.inside.live c.args.edge i
            (omega (arith, more, c.self.invariant.1.watched))
            (omega (arith, c.self.invariant.0.within, length-keys c.self.inside.known.entries))
            (keys_brought c.self.inside.known.entries c.place_in-place.new.known.entries c.bring.new.known.entries
            c.place_in-place.result c.args.edge c.self.inside.live c.self.inside.lowered c.place_in-place.ensures.entries
            c.bring.ensures.entries (omega (arith, c.if-place-self.false)) c.place_in-place.ensures.within c.self.invariant.0.within
            c.place_in-place.ensures.found));
      },
    )

pub invariant_of-self : goal.invariant_of-self
invariant_of-self c =
    let known : nat_lt c.place_in-place.result (index_map_len c.self.inside.known) ≡ true =
    let few = c.self.invariant.0.within in let inside = c.if-place-self.true in grind (arith, nat_tests) in
    let same : c.place_in-place.new.known.entries ≡ c.self.inside.known.entries =
    c.place_in-place.ensures.entries
    ∙ ap (λ b. cond b c.self.inside.known.entries (c.self.inside.known.entries ++ (c.args.edge, 0) ∷ [])) known in (
      record {
        within = omega (arith, c.self.invariant.0.within, ap length same);
        below = subst (λ es. All (λ e. e < c.self.inside.edge_count) (keys_of es)) (sym same) c.self.invariant.0.below;
        small = subst (λ es. All (λ b. b < 18446744073709551616) (values_of es)) (sym same) c.self.invariant.0.small;
        room = omega (arith, c.self.invariant.0.room, c.place_in-place.ensures.room);
      },
      record {
        watched = c.self.invariant.1.watched;
        due = subst (λ es. AreDue c.self.inside.queue (values_of es) (keys_of es) c.self.inside.queued) (sym same) c.self.invariant.1.due;
      },
    )

pub returns : goal.returns
returns c =
    let out : nat_lt (position_or_len (nat_eq c.args.edge) (keys c.self.inside.known)) c.self.inside.live ≡ false =
    ap (λ i. nat_lt i c.self.inside.live) (sym c.place_in-place.ensures.index) ∙ grind (arith, nat_tests) in
    let absent : is_in (take c.self.inside.live (keys c.self.inside.known)) c.args.edge ≡ false =
    among_first (keys c.self.inside.known) c.args.edge c.self.inside.live
    (omega (arith, c.self.invariant.0.within, length-keys c.self.inside.known.entries)) ∙ out in
    let edges = keys_brought c.self.inside.known.entries c.place_in-place.new.known.entries c.bring.new.known.entries
    c.place_in-place.result c.args.edge c.self.inside.live c.self.inside.lowered c.place_in-place.ensures.entries
    c.bring.ensures.entries (omega (arith, c.if-place-self.false)) c.place_in-place.ensures.within c.self.invariant.0.within
    c.place_in-place.ensures.found in
    let raised = values_brought c.self.inside.known.entries c.place_in-place.new.known.entries c.bring.new.known.entries
    c.place_in-place.result c.args.edge c.self.inside.live c.self.inside.lowered c.place_in-place.ensures.entries
    c.bring.ensures.entries (omega (arith, c.if-place-self.false)) c.place_in-place.ensures.within c.self.invariant.0.within in
    let nothing : c.self.inside.lowered - c.self.inside.lowered ≡ 0 = omega arith in
    let bounds : map (λ b. b - c.self.inside.lowered) (take (c.self.inside.live + 1) (values c.bring.new.known))
    ≡ map (λ b. b - c.self.inside.lowered) (take c.self.inside.live (values c.self.inside.known)) ++ 0 ∷ [] =
    ap (map (λ b. b - c.self.inside.lowered)) raised
    ∙ (map-append (λ b. b - c.self.inside.lowered) (take c.self.inside.live (values c.self.inside.known))
    (c.self.inside.lowered ∷ [])
    ∙ ap (λ z. map (λ b. b - c.self.inside.lowered) (take c.self.inside.live (values c.self.inside.known)) ++ z ∷ []) nothing) in
    rw (← c.self.view_is) (
      absent,
      (λ j. record { edge_count = c.self.inside.edge_count; edges = edges j; bounds = bounds j; queued = c.self.inside.queued; nodes = node_bounds c.self.inside.nodes c.self.inside.lowered }),
    )

pub returns-then-place-self : goal.returns-then-place-self
returns-then-place-self c =
    let most : c.self.inside.live ≤ length (keys c.self.inside.known) =
    omega (arith, c.self.invariant.0.within, length-keys c.self.inside.known.entries) in
    let known : nat_lt c.place_in-place.result (index_map_len c.self.inside.known) ≡ true =
    let few = c.self.invariant.0.within in let inside = c.if-place-self.true in grind (arith, nat_tests) in
    let same : c.place_in-place.new.known.entries ≡ c.self.inside.known.entries =
    c.place_in-place.ensures.entries
    ∙ ap (λ b. cond b c.self.inside.known.entries (c.self.inside.known.entries ++ (c.args.edge, 0) ∷ [])) known in
    let first : nat_lt (position_or_len (nat_eq c.args.edge) (keys c.self.inside.known)) c.self.inside.live ≡ true =
    subst (λ i. nat_lt i c.self.inside.live ≡ true) c.place_in-place.ensures.index
    (let inside = c.if-place-self.true in grind (arith, nat_tests)) in
    rw (← c.self.view_is) (
      (λ j. record {
        edge_count = c.self.inside.edge_count;
        edges = take c.self.inside.live (keys_of (same j));
        bounds = map (λ b. b - c.self.inside.lowered) (take c.self.inside.live (values_of (same j)));
        queued = c.self.inside.queued;
        nodes = node_bounds c.self.inside.nodes c.self.inside.lowered;
      }),
      omega (arith, length-take-le c.self.inside.live (keys c.self.inside.known) most, c.if-place-self.true),
      get_or-take c.self.inside.live (keys c.self.inside.known) c.place_in-place.result 0 (omega (arith, c.if-place-self.true))
          ∙ (sym (λ j. get_or (keys_of (same j)) c.place_in-place.result 0) ∙ c.place_in-place.ensures.found),
      among_first (keys c.self.inside.known) c.args.edge c.self.inside.live most ∙ first,
    )
