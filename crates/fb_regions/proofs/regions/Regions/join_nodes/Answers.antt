use Rattle.std.proofs.Common.{length, map, refl, sym, ap, ◌∙◌, subst, arith, Some}
use Rattle.std.proofs.lemmas.List.{length-map}
use Rattle.std.proofs.lemmas.List.Elements.{All-push}
use Rattle.fb_graph.specs.Certificate.{AreDistinct}
use Rattle.fb_graph.specs.Moves.{joined_nodes}
use Rattle.fb_graph.specs.Parity.{is_in}
use Rattle.fb_regions.specs.InternalHeads.{IsInTime, link_under}
use Rattle.fb_regions.specs.InternalNodes.{nodes_of, reparented_region}
use Rattle.fb_regions.specs.Paces.{grows, shrinks}
use Rattle.fb_regions.proofs.ClockLists.{all_adopted, begun_adopted, begun_push, kept_adopted, paced_joined, paced_same}
use Rattle.fb_regions.proofs.ClockReadings.{count_at, linked_at, names_at}
use Rattle.fb_regions.proofs.HeadsJoined.{fresh_in, heads_after_join, not_own}
use Rattle.fb_regions.proofs.Indexed.{distinct_names, index_adopted, index_pushed, index_same}
use Rattle.fb_regions.proofs.Joined.{adopted_names, nodes_joined, kept_joined}
use Rattle.fb_regions.proofs.KeptRelinked.{begun_relinked, index_relinked, kept_relinked, nodes_relinked, paced_relinked}
use Rattle.fb_regions.proofs.Rejoined.{all_in_time, all_known, distinct_pushed, joined_back}
use Rattle.fb_regions.proofs.Together.{together, together_fits}
use Rattle.fb_regions.proofs.regions.Regions.join_nodes.Goals as goal

pub list_together-listing-requires-clause-index : goal.list_together-listing-requires-clause-index
list_together-listing-requires-clause-index g c =
    rw (c.deref-4.ensures.value, c.make_room.ensures.nodes, c.deref-3.ensures.value) (index_same _ _ _ c.self.invariant.1 c.make_room.ensures.same)

pub list_together-listing-requires-clause-fits : goal.list_together-listing-requires-clause-fits
list_together-listing-requires-clause-fits g c =
    rw (c.deref-4.ensures.value, c.make_room.ensures.nodes)
    (rw (count_at c.self.inside.clock c.self.inside.regions.items c.args.children.now) at
    (together_fits _ _ _ c.self.invariant.0 c.args.node c.args.children.now (rw (← c.self.view_is) at c.requires) c.limits.ensures))

pub joint_of-joint-requires-clause-index : goal.joint_of-joint-requires-clause-index
joint_of-joint-requires-clause-index g c =
    rw (c.deref-2.ensures.value, c.make_room.ensures.nodes, c.deref.ensures.value) (index_same _ _ _ c.self.invariant.1 c.make_room.ensures.same)

pub joint_of-joint-requires-clause-time : goal.joint_of-joint-requires-clause-time
joint_of-joint-requires-clause-time g c =
    rw (c.deref-2.ensures.value, c.make_room.ensures.nodes) (all_in_time _ _ _ _ c.self.invariant.0 c.self.invariant.2)

pub joint_of-joint-requires-clause-some : goal.joint_of-joint-requires-clause-some
joint_of-joint-requires-clause-some g c = let many = c.requires.many.three in omega (arith, many)

pub joint_of-joint-requires-clause-known : goal.joint_of-joint-requires-clause-known
joint_of-joint-requires-clause-known g c =
    let may = rw (← c.self.view_is) at c.requires in
    rw (c.deref-2.ensures.value, c.make_room.ensures.nodes) (all_known c.self.inside.marks c.self.inside.clock c.self.inside.regions.items c.args.children.now may.live)

pub rejoin-requires-clause-index : goal.rejoin-requires-clause-index
rejoin-requires-clause-index g c =
    let may = rw (← c.self.view_is) at c.requires in
    let rs = c.self.inside.regions.items in
    let cs = c.args.children.now in
    let nodes = rw c.make_room.ensures.nodes at c.enter.ensures.nodes in
    rw (c.deref_mut.ensures.value, nodes, c.deref-5.ensures.value)
    (index_pushed rs c.make_room.new.places.items _ _ (length c.make_room.new.regions.items) (index_same _ _ _ c.self.invariant.1 c.make_room.ensures.same)
    (ap length c.make_room.ensures.nodes) (fresh_in _ _ _ _ c.self.invariant.0 c.self.invariant.3 c.args.node may.fresh) c.enter.ensures.entry)

pub rejoin-requires-clause-distinct : goal.rejoin-requires-clause-distinct
rejoin-requires-clause-distinct g c =
    let may = rw (← c.self.view_is) at c.requires in
    let rs = c.self.inside.regions.items in
    let cs = c.args.children.now in
    let nodes = rw c.make_room.ensures.nodes at c.enter.ensures.nodes in
    rw (c.deref_mut.ensures.value, nodes)
    (distinct_pushed rs _ (subst AreDistinct (names_at c.self.inside.clock rs) (distinct_names _ _ _ c.self.invariant.0))
    (fresh_in _ _ _ _ c.self.invariant.0 c.self.invariant.3 c.args.node may.fresh))

pub rejoin-requires-clause-time : goal.rejoin-requires-clause-time
rejoin-requires-clause-time g c =
    let may = rw (← c.self.view_is) at c.requires in
    let rs = c.self.inside.regions.items in
    let cs = c.args.children.now in
    let nodes = rw c.make_room.ensures.nodes at c.enter.ensures.nodes in
    rw (c.deref_mut.ensures.value, nodes)
    (All-push (IsInTime c.self.inside.clock) rs _ (all_in_time _ _ _ _ c.self.invariant.0 c.self.invariant.2)
    (record { begun = omega arith; fits = omega arith }))

pub invariant_of-self-2 : goal.invariant_of-self-2
invariant_of-self-2 g c =
    let may = rw (← c.self.view_is) at c.requires in
    let rs = c.self.inside.regions.items in
    let cs = c.args.children.now in
    let nodes = rw c.make_room.ensures.nodes at c.enter.ensures.nodes in
    let is =
    together _ _ _ c.self.invariant.0 c.args.node cs may _ _
    (linked_at c.self.inside.clock rs cs _ ∙ (rw (c.deref-4.ensures.value, c.make_room.ensures.nodes) at c.list_together-listing.ensures)) in
    let joint = rw (c.deref-2.ensures.value, c.make_room.ensures.nodes) at c.joint_of-joint.ensures in
    let link = link_under c.self.inside.clock (Some c.joint_of-joint.result) in
    let back = joined_back c.self.inside.clock c.joint_of-joint.result cs rs _ c.enter.new.regions.items c.enter.new.regions.len c.args.node nodes c.enter.new.regions.ok.0
    joint.name_is (not_own _ _ _ _ c.self.invariant.0 c.self.invariant.3 c.args.node cs may) in
    rw (c.rejoin.ensures, c.deref_mut.ensures.value, back) (
      kept_relinked link cs _ _ c.self.inside.clock c.list_together-listing.new.marks
          (kept_adopted _ _ _ _ _ _ _ (kept_joined _ _ _ is.kept c.args.node cs _
          (record {
            name_is = refl;
            children_are = c.in_ok-names.ensures.items;
            parent = refl;
            begins = is.begins;
            first = is.list;
            added = refl;
            last = refl;
            value = refl;
            radius = refl;
          })
          is.may)),
      index_relinked link cs _ _ (index_pushed (map (reparented_region cs (Some c.args.node)) rs) c.make_room.new.places.items _ _ (length c.make_room.new.regions.items)
          (index_adopted rs _ cs (Some c.args.node) (index_same _ _ _ c.self.invariant.1 c.make_room.ensures.same))
          (ap length c.make_room.ensures.nodes ∙ sym (length-map rs (reparented_region cs (Some c.args.node))))
          (ap (λ l. is_in l c.args.node) (adopted_names cs (Some c.args.node) rs) ∙ fresh_in _ _ _ _ c.self.invariant.0 c.self.invariant.3 c.args.node may.fresh)
          c.enter.ensures.entry),
      begun_relinked link cs _ c.self.inside.clock (begun_push _ _ _ refl (begun_adopted c.self.inside.clock cs (Some c.args.node) rs c.self.invariant.2)),
      heads_after_join _ _ _ _ c.self.invariant.0 c.self.invariant.3 c.args.node cs may _ c.joint_of-joint.result joint refl c.in_ok-names.ensures.items
          refl refl refl,
    )

pub returns-clause-ok : goal.returns-clause-ok
returns-clause-ok g c =
    let may = rw (← c.self.view_is) at c.requires in
    let rs = c.self.inside.regions.items in
    let cs = c.args.children.now in
    let nodes = rw c.make_room.ensures.nodes at c.enter.ensures.nodes in
    let is =
    together _ _ _ c.self.invariant.0 c.args.node cs may _ _
    (linked_at c.self.inside.clock rs cs _ ∙ (rw (c.deref-4.ensures.value, c.make_room.ensures.nodes) at c.list_together-listing.ensures)) in
    let joint = rw (c.deref-2.ensures.value, c.make_room.ensures.nodes) at c.joint_of-joint.ensures in
    let link = link_under c.self.inside.clock (Some c.joint_of-joint.result) in
    let back = joined_back c.self.inside.clock c.joint_of-joint.result cs rs _ c.enter.new.regions.items c.enter.new.regions.len c.args.node nodes c.enter.new.regions.ok.0
    joint.name_is (not_own _ _ _ _ c.self.invariant.0 c.self.invariant.3 c.args.node cs may) in
    rw (← c.self.view_is, c.rejoin.ensures, c.deref_mut.ensures.value, back)
    (paced_same _ _ _ _ _ _ _
    (nodes_relinked link cs _ c.self.inside.clock c.list_together-listing.new.marks
    ∙ (ap (nodes_of c.list_together-listing.new.marks) (all_adopted c.self.inside.clock rs cs (Some c.args.node) _)
    ∙ (nodes_joined _ _ _ is.kept c.args.node cs _
    (record {
      name_is = refl;
      children_are = c.in_ok-names.ensures.items;
      parent = refl;
      begins = is.begins;
      first = is.list;
      added = refl;
      last = refl;
      value = refl;
      radius = refl;
    })
    is.may
    ∙ ap (joined_nodes c.args.node cs) is.nodes_are)))
    (paced_relinked link cs _ grows ∙ paced_joined grows rs cs (Some c.args.node) _ refl)
    (paced_relinked link cs _ shrinks ∙ paced_joined shrinks rs cs (Some c.args.node) _ refl))
