use Rattle.std.proofs.Common.{◌<◌, length, refl, ap, ◌∙◌}
use Rattle.fb_regions.specs.InternalNodes.{nodes_of}
use Rattle.fb_regions.specs.Paces.{grows, shrinks}
use Rattle.fb_regions.proofs.ClockLists.{begun_push, kept_push, paced_push, paced_same}
use Rattle.fb_regions.proofs.ClockReadings.{appended_at, names_at}
use Rattle.fb_regions.proofs.HeadsJoined.{heads_with_leaf}
use Rattle.fb_regions.proofs.Indexed.{fresh_name, index_pushed, index_same}
use Rattle.fb_regions.proofs.Opened.{kept_opened, opened_nodes}
use Rattle.fb_regions.proofs.regions.Regions.open_leaf.Goals as goal

pub invariant_of-self-2 : goal.invariant_of-self-2
invariant_of-self-2 g c =
    let below : c.args.v < length c.self.inside.marks = rw c.self.invariant.0.room (rw (← c.self.view_is) at c.requires.below) in (
      rw (c.in_ok-put.ensures.ok, c.enter.ensures.nodes, c.make_room.ensures.nodes)
          (kept_push _ _ _ _ _ (kept_opened _ _ _ c.self.invariant.0 c.args.node c.args.v _ _
          (record {
            name_is = refl;
            children = c.new.ensures.items;
            parent = refl;
            first = refl;
            base = refl;
            base_last = refl;
            added = refl;
            last = refl;
            value = refl;
            radius = refl;
          })
          (record { source = refl; leaf = refl; distance = refl; rank = refl; by = refl })
          (rw (← c.self.view_is) at c.requires.fresh) below (rw (← c.self.view_is) at c.requires.real) (rw (← c.self.view_is) at c.requires.uncovered))),
      rw (c.enter.ensures.nodes, c.make_room.ensures.nodes)
          (index_pushed c.self.inside.regions.items c.make_room.new.places.items _ _ (length c.make_room.new.regions.items) (index_same _ _ _ c.self.invariant.1 c.make_room.ensures.same)
          (ap length c.make_room.ensures.nodes)
          (rw (names_at c.self.inside.clock c.self.inside.regions.items) at (fresh_name c.self.inside.marks _ c.args.node (rw (← c.self.view_is) at c.requires.fresh))) c.enter.ensures.entry),
      rw (c.enter.ensures.nodes, c.make_room.ensures.nodes) (begun_push _ _ _ refl c.self.invariant.2),
      rw (c.enter.ensures.nodes, c.make_room.ensures.nodes)
          (heads_with_leaf _ _ _ _ c.self.invariant.0 c.self.invariant.3 c.args.node _ (rw (← c.self.view_is) at c.requires.fresh) refl c.new.ensures.items
          refl refl refl refl),
    )

pub returns-clause-ok : goal.returns-clause-ok
returns-clause-ok g c =
    let below : c.args.v < length c.self.inside.marks = rw c.self.invariant.0.room (rw (← c.self.view_is) at c.requires.below) in
    rw (← c.self.view_is, c.in_ok-put.ensures.ok, c.enter.ensures.nodes, c.make_room.ensures.nodes)
    (paced_same _ _ _ _ _ _ _
    (ap (nodes_of _) (appended_at c.self.inside.clock c.self.inside.regions.items _) ∙
    opened_nodes _ _ _ c.self.invariant.0 c.args.node c.args.v _ _
    (record {
      name_is = refl;
      children = c.new.ensures.items;
      parent = refl;
      first = refl;
      base = refl;
      base_last = refl;
      added = refl;
      last = refl;
      value = refl;
      radius = refl;
    })
    (record { source = refl; leaf = refl; distance = refl; rank = refl; by = refl })
    (rw (← c.self.view_is) at c.requires.fresh) below (rw (← c.self.view_is) at c.requires.real) (rw (← c.self.view_is) at c.requires.uncovered))
    (paced_push grows c.self.inside.regions.items _ refl) (paced_push shrinks c.self.inside.regions.items _ refl))
