use Rattle.std.proofs.Common.{Some}
use Rattle.fb_regions.specs.InternalClock.{now_at}
use Rattle.fb_regions.proofs.ClockChanges.{read_place_at}
use Rattle.fb_regions.proofs.ClockFound.{always_placed, read_found_at}
use Rattle.fb_regions.proofs.NodeLists.{list_back, list_ends}
use Rattle.fb_regions.proofs.regions.Regions.last_vertex.Goals as goal

pub unreachable-requires : goal.unreachable-requires
unreachable-requires g c =
    absurd (always_placed c.self.inside.clock c.self.inside.marks c.self.inside.regions.items _ _ c.args.node (rw (← c.self.view_is) at c.requires) c.self.invariant.1
    c.deref.ensures.value c.in_default.ensures)

pub returns-clause-last : goal.returns-clause-last
returns-clause-last g c =
    rw (← c.self.view_is)
    (list_ends _ _ _ c.self.invariant.0 c.args.node c.in-Some.place (now_at c.self.inside.clock c.index.result.now)
    (read_place_at c.self.inside.clock c.self.inside.regions.items _ _ c.args.node (Some c.in-Some.place) c.self.invariant.1 c.deref.ensures.value c.in-Some.ensures)
    (read_found_at c.self.inside.clock c.self.inside.regions.items _ _ c.args.node c.in-Some.place c.index.result.now c.self.invariant.1 c.deref.ensures.value c.in-Some.ensures c.index.ensures))

pub returns-clause-all : goal.returns-clause-all
returns-clause-all g c =
    rw (← c.self.view_is)
    (list_back _ _ _ c.self.invariant.0 c.args.node c.in-Some.place (now_at c.self.inside.clock c.index.result.now)
    (read_place_at c.self.inside.clock c.self.inside.regions.items _ _ c.args.node (Some c.in-Some.place) c.self.invariant.1 c.deref.ensures.value c.in-Some.ensures)
    (read_found_at c.self.inside.clock c.self.inside.regions.items _ _ c.args.node c.in-Some.place c.index.result.now c.self.invariant.1 c.deref.ensures.value c.in-Some.ensures c.index.ensures))
