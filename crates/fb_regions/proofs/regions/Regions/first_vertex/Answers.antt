use Rattle.std.proofs.Common.{subst}
use Rattle.fb_graph.proofs.Among.{All_among}
use Rattle.fb_regions.specs.InternalClock.{all_at, now_at}
use Rattle.fb_regions.specs.InternalListings.{IsListed}
use Rattle.fb_regions.specs.InternalNodes.{added_to, first_of}
use Rattle.fb_regions.specs.Moves.{BeginsWith}
use Rattle.fb_regions.proofs.ClockFound.{always_placed, found_at}
use Rattle.fb_regions.proofs.Listings.{begins_left}
use Rattle.fb_regions.proofs.regions.Regions.first_vertex.Goals as goal

pub unreachable-requires : goal.unreachable-requires
unreachable-requires g c =
    absurd (always_placed c.self.inside.clock c.self.inside.marks c.self.inside.regions.items _ _ c.args.node (rw (← c.self.view_is) at c.requires) c.self.invariant.1
    c.deref.ensures.value c.in_default.ensures)

pub returns : goal.returns
returns g c =
    let at = found_at c.self.inside.clock c.self.inside.marks c.self.inside.regions.items _ _ c.args.node c.in-Some.place _ c.self.invariant.1 c.deref.ensures.value
    c.in-Some.ensures c.index.ensures in
    let r = now_at c.self.inside.clock c.index.result.now in
    rw (← c.self.view_is)
    (subst (BeginsWith r.first) at.top
    (begins_left r.first (first_of c.self.inside.marks r) (added_to c.self.inside.marks r)
    (All_among (IsListed c.self.inside.marks) (all_at c.self.inside.clock c.self.inside.regions.items) c.self.invariant.0.listed r at.among).first))
