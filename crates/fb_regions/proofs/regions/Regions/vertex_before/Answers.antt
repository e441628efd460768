use Rattle.std.proofs.Common.{Some}
use Rattle.fb_regions.specs.InternalClock.{now_at}
use Rattle.fb_regions.proofs.ClockChanges.{read_place_at}
use Rattle.fb_regions.proofs.ClockFound.{always_placed, read_found_at}
use Rattle.fb_regions.proofs.NodeLists.{none_follows, some_follows}
use Rattle.fb_regions.proofs.regions.Regions.vertex_before.Goals as goal

pub unreachable-requires : goal.unreachable-requires
unreachable-requires g c =
    absurd (always_placed c.self.inside.clock c.self.inside.marks c.self.inside.regions.items _ _ c.args.node (rw (← c.self.view_is) at c.requires.live) c.self.invariant.1
    c.deref.ensures.value c.in_default.ensures)

pub returns-then-v-index-clause-before : goal.returns-then-v-index-clause-before
returns-then-v-index-clause-before g c =
    rw (← c.self.view_is)
    (none_follows _ _ _ c.self.invariant.0 c.args.node c.in-Some.place (now_at c.self.inside.clock c.index.result.now)
    (read_place_at c.self.inside.clock c.self.inside.regions.items _ _ c.args.node (Some c.in-Some.place) c.self.invariant.1 c.deref.ensures.value c.in-Some.ensures)
    (read_found_at c.self.inside.clock c.self.inside.regions.items _ _ c.args.node c.in-Some.place c.index.result.now c.self.invariant.1 c.deref.ensures.value c.in-Some.ensures c.index.ensures) c.args.v
    (rw (← c.self.view_is) at c.requires.held) c.if-v-index.true).0

pub returns-then-v-index-clause-rest : goal.returns-then-v-index-clause-rest
returns-then-v-index-clause-rest g c =
    rw (← c.self.view_is)
    (none_follows _ _ _ c.self.invariant.0 c.args.node c.in-Some.place (now_at c.self.inside.clock c.index.result.now)
    (read_place_at c.self.inside.clock c.self.inside.regions.items _ _ c.args.node (Some c.in-Some.place) c.self.invariant.1 c.deref.ensures.value c.in-Some.ensures)
    (read_found_at c.self.inside.clock c.self.inside.regions.items _ _ c.args.node c.in-Some.place c.index.result.now c.self.invariant.1 c.deref.ensures.value c.in-Some.ensures c.index.ensures) c.args.v
    (rw (← c.self.view_is) at c.requires.held) c.if-v-index.true).1

pub returns-else-v-index-clause-before : goal.returns-else-v-index-clause-before
returns-else-v-index-clause-before g c =
    rw (← c.self.view_is)
    (some_follows _ _ _ c.self.invariant.0 c.args.node c.in-Some.place (now_at c.self.inside.clock c.index.result.now)
    (read_place_at c.self.inside.clock c.self.inside.regions.items _ _ c.args.node (Some c.in-Some.place) c.self.invariant.1 c.deref.ensures.value c.in-Some.ensures)
    (read_found_at c.self.inside.clock c.self.inside.regions.items _ _ c.args.node c.in-Some.place c.index.result.now c.self.invariant.1 c.deref.ensures.value c.in-Some.ensures c.index.ensures) c.args.v
    (rw (← c.self.view_is) at c.requires.held) _ c.before-else-v-index.ensures c.if-v-index.false).0

pub returns-else-v-index-clause-rest : goal.returns-else-v-index-clause-rest
returns-else-v-index-clause-rest g c =
    rw (← c.self.view_is)
    (some_follows _ _ _ c.self.invariant.0 c.args.node c.in-Some.place (now_at c.self.inside.clock c.index.result.now)
    (read_place_at c.self.inside.clock c.self.inside.regions.items _ _ c.args.node (Some c.in-Some.place) c.self.invariant.1 c.deref.ensures.value c.in-Some.ensures)
    (read_found_at c.self.inside.clock c.self.inside.regions.items _ _ c.args.node c.in-Some.place c.index.result.now c.self.invariant.1 c.deref.ensures.value c.in-Some.ensures c.index.ensures) c.args.v
    (rw (← c.self.view_is) at c.requires.held) _ c.before-else-v-index.ensures c.if-v-index.false).1
