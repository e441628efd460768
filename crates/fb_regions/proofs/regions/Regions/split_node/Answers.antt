use Rattle.std.proofs.Common.{◌≡◌, length, map, sym, ap, ◌∙◌, subst, Some, None}
use Rattle.std.specs.List.{remove}
use Rattle.fb_graph.specs.Certificate.{AreDistinct}
use Rattle.fb_graph.proofs.Among.{All_among, among_All}
use Rattle.fb_regions.specs.declared.roles.Role.TheVariants.{Out}
use Rattle.fb_regions.specs.InternalClock.{all_at}
use Rattle.fb_regions.specs.InternalHeads.{IsInTime, link_under}
use Rattle.fb_regions.specs.InternalKept.{IsKept}
use Rattle.fb_regions.specs.InternalNodes.{nodes_of, reparented_region}
use Rattle.fb_regions.specs.Paces.{grows, shrinks}
use Rattle.fb_regions.proofs.ByName.{first_placed, names, removed_distinct}
use Rattle.fb_regions.proofs.ClockChanges.{read_place_at}
use Rattle.fb_regions.proofs.ClockLists.{all_split, begun_adopted, begun_removed, paced_same, paced_split}
use Rattle.fb_regions.proofs.ClockReadings.{names_at, read_at_time}
use Rattle.fb_regions.proofs.Found.{always_found, read_place}
use Rattle.fb_regions.proofs.HeadsSplit.{heads_after_split}
use Rattle.fb_regions.proofs.Indexed.{distinct_names, index_adopted, removed_before, removed_within}
use Rattle.fb_regions.proofs.KeptRelinked.{begun_relinked, index_relinked, kept_relinked, nodes_relinked, paced_relinked}
use Rattle.fb_regions.proofs.PaceNames.{pace_found, pace_read}
use Rattle.fb_regions.proofs.Rejoined.{all_in_time, rejoined_back}
use Rattle.fb_regions.proofs.Split.{kept_split, nodes_split, still_among}
use Rattle.fb_regions.proofs.regions.Regions.split_node.Goals as goal

pub unreachable-requires : goal.unreachable-requires
unreachable-requires g c =
    let may = rw (← c.self.view_is) at c.requires.empty in
    absurd (always_found c.self.inside.marks (all_at c.self.inside.clock c.self.inside.regions.items) c.args.node may.live
    (read_place_at c.self.inside.clock c.self.inside.regions.items _ _ c.args.node None c.self.invariant.1 c.deref.ensures.value c.in_default.ensures))

pub invariant_of-self : goal.invariant_of-self
invariant_of-self g c =
    let at = read_place c.self.inside.regions.items _ _ c.args.node (Some c.in-Some.place) c.self.invariant.1 c.deref.ensures.value c.in-Some.ensures in
    let less = (first_placed c.self.inside.regions.items c.args.node c.in-Some.place at).0 in
    let may = rw (← c.self.view_is) at c.requires.empty in
    let cs = c.remove-blossom.result.children.items in
    let left = map (reparented_region cs None) (remove c.self.inside.regions.items c.in-Some.place) in
    let link = link_under c.self.inside.clock None in
    rw (
      c.rejoin.ensures,
      c.deref_mut.ensures.value,
      c.as_slice.ensures.value,
      c.remove-blossom.ensures.items,
      rejoined_back c.self.inside.clock None cs (remove c.self.inside.regions.items c.in-Some.place) c.remove-blossom.new.self.len
          (c.remove-blossom.new.self.ok.0 ∙ ap length c.remove-blossom.ensures.items),
    ) (
      kept_relinked link cs left _ c.self.inside.clock c.self.inside.marks (subst (λ l. IsKept (g.S.Scope.problem c.self.inside.scope) l c.self.inside.marks)
          (sym (all_split c.self.inside.clock c.self.inside.regions.items c.in-Some.place cs None))
          (kept_split _ _ _ c.self.invariant.0 c.args.node c.in-Some.place _
          (read_place_at c.self.inside.clock c.self.inside.regions.items _ _ c.args.node (Some c.in-Some.place) c.self.invariant.1 c.deref.ensures.value c.in-Some.ensures)
          (read_at_time c.self.inside.clock c.self.inside.regions.items c.in-Some.place c.remove-blossom.result less c.remove-blossom.ensures.value)
          may)),
      index_relinked link cs left _ (index_adopted _ _ cs None (rw (c.deref-2.ensures.value, c.remove-blossom.ensures.items) at c.enter_from.ensures)),
      begun_relinked link cs left c.self.inside.clock (begun_adopted c.self.inside.clock cs None (remove c.self.inside.regions.items c.in-Some.place)
          (begun_removed c.self.inside.clock c.self.inside.regions.items c.in-Some.place c.self.invariant.2)),
      heads_after_split _ c.self.inside.clock c.self.inside.regions.items c.self.inside.marks c.self.invariant.0 c.self.invariant.3 c.args.node c.in-Some.place
          c.remove-blossom.result at c.remove-blossom.ensures.value may,
    )

pub rejoin-requires-clause-time : goal.rejoin-requires-clause-time
rejoin-requires-clause-time g c =
    rw (c.deref_mut.ensures.value, c.remove-blossom.ensures.items)
    (among_All (IsInTime c.self.inside.clock) (remove c.self.inside.regions.items c.in-Some.place)
    (λ r a.
    All_among (IsInTime c.self.inside.clock) c.self.inside.regions.items
    (all_in_time _ c.self.inside.clock c.self.inside.regions.items c.self.inside.marks c.self.invariant.0 c.self.invariant.2) r
    (still_among c.self.inside.regions.items c.in-Some.place r a)))

pub enter_from-requires-clause-within : goal.enter_from-requires-clause-within
enter_from-requires-clause-within g c =
    let distinct = subst AreDistinct (names_at c.self.inside.clock c.self.inside.regions.items) (distinct_names _ _ _ c.self.invariant.0) in
    rw (c.deref-2.ensures.value, c.remove-blossom.ensures.items)
    (removed_within c.self.inside.regions.items distinct _ c.self.invariant.1 c.in-Some.place _ c.set_place.ensures.count)

pub enter_from-requires-clause-distinct : goal.enter_from-requires-clause-distinct
enter_from-requires-clause-distinct g c =
    let distinct = subst AreDistinct (names_at c.self.inside.clock c.self.inside.regions.items) (distinct_names _ _ _ c.self.invariant.0) in
    rw (c.deref-2.ensures.value, c.remove-blossom.ensures.items)
    (removed_distinct c.self.inside.regions.items c.in-Some.place distinct)

pub enter_from-requires-clause-before : goal.enter_from-requires-clause-before
enter_from-requires-clause-before g c =
    let distinct = subst AreDistinct (names_at c.self.inside.clock c.self.inside.regions.items) (distinct_names _ _ _ c.self.invariant.0) in
    rw (c.deref-2.ensures.value, c.remove-blossom.ensures.items)
    (removed_before c.self.inside.regions.items distinct _ c.self.invariant.1 c.in-Some.place c.args.node c.remove-blossom.result
    (read_place c.self.inside.regions.items _ _ c.args.node (Some c.in-Some.place) c.self.invariant.1 c.deref.ensures.value c.in-Some.ensures)
    c.remove-blossom.ensures.value _ c.set_place.ensures.entries)

pub rejoin-requires-clause-index : goal.rejoin-requires-clause-index
rejoin-requires-clause-index g c =
    rw (c.deref_mut.ensures.value, c.remove-blossom.ensures.items, c.deref-3.ensures.value)
    (rw (c.deref-2.ensures.value, c.remove-blossom.ensures.items) at c.enter_from.ensures)

pub rejoin-requires-clause-distinct : goal.rejoin-requires-clause-distinct
rejoin-requires-clause-distinct g c =
    let distinct = subst AreDistinct (names_at c.self.inside.clock c.self.inside.regions.items) (distinct_names _ _ _ c.self.invariant.0) in
    rw (c.deref_mut.ensures.value, c.remove-blossom.ensures.items)
    (removed_distinct c.self.inside.regions.items c.in-Some.place distinct)

pub returns-clause-ok : goal.returns-clause-ok
returns-clause-ok g c =
    let at = read_place c.self.inside.regions.items _ _ c.args.node (Some c.in-Some.place) c.self.invariant.1 c.deref.ensures.value c.in-Some.ensures in
    let less = (first_placed c.self.inside.regions.items c.args.node c.in-Some.place at).0 in
    let distinct : AreDistinct (names c.self.inside.regions.items) = subst AreDistinct (names_at c.self.inside.clock c.self.inside.regions.items) (distinct_names _ _ _ c.self.invariant.0) in
    let cs = c.remove-blossom.result.children.items in
    let left = map (reparented_region cs None) (remove c.self.inside.regions.items c.in-Some.place) in
    let link = link_under c.self.inside.clock None in
    let rest : c.remove-blossom.result.pace ≡ Out =
    sym (pace_found c.self.inside.regions.items c.args.node c.in-Some.place c.remove-blossom.result at c.remove-blossom.ensures.value)
    ∙ (sym (pace_read c.self.inside.regions.items c.args.node distinct) ∙ (rw (← c.self.view_is) at c.requires.rest)) in
    rw (
      ← c.self.view_is,
      c.rejoin.ensures,
      c.deref_mut.ensures.value,
      c.as_slice.ensures.value,
      c.remove-blossom.ensures.items,
      rejoined_back c.self.inside.clock None c.remove-blossom.result.children.items (remove c.self.inside.regions.items c.in-Some.place) c.remove-blossom.new.self.len
          (c.remove-blossom.new.self.ok.0 ∙ ap length c.remove-blossom.ensures.items),
    )
    (paced_same _ _ _ _ _ _ _
    (nodes_relinked link cs left c.self.inside.clock c.self.inside.marks
    ∙ (ap (nodes_of c.self.inside.marks) (all_split c.self.inside.clock c.self.inside.regions.items c.in-Some.place c.remove-blossom.result.children.items None)
    ∙ nodes_split _ _ _ c.self.invariant.0 c.args.node c.in-Some.place _
    (read_place_at c.self.inside.clock c.self.inside.regions.items _ _ c.args.node (Some c.in-Some.place) c.self.invariant.1 c.deref.ensures.value c.in-Some.ensures)
    (read_at_time c.self.inside.clock c.self.inside.regions.items c.in-Some.place c.remove-blossom.result less c.remove-blossom.ensures.value)
    (rw (← c.self.view_is) at c.requires.empty)))
    (paced_relinked link cs left grows ∙ paced_split grows c.self.inside.regions.items c.in-Some.place c.remove-blossom.result.children.items None c.remove-blossom.result c.remove-blossom.ensures.value less (ap grows rest))
    (paced_relinked link cs left shrinks ∙ paced_split shrinks c.self.inside.regions.items c.in-Some.place c.remove-blossom.result.children.items None c.remove-blossom.result c.remove-blossom.ensures.value less (ap shrinks rest)))
