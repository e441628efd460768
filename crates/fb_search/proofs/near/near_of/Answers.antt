use Rattle.std.proofs.Common.{ℕ, ◌≡◌, ◌-◌, Some, refl}
use Rattle.std.specs.Prelude.{IfSome, Option}
use Rattle.fb_search.specs.declared.near.Near.{Near}
use Rattle.fb_search.specs.declared.near.Near.TheVariants.{Pair}
use Rattle.fb_search.specs.declared.near.NearPair.{NearPair}
use Rattle.fb_obstacles.specs.InternalSingles.{IsShare}
use Rattle.fb_search.proofs.NearEdges.{pair_found, vertex_below}
use Rattle.fb_search.proofs.near.near_of.Goals as goal

pub around_vertex-around-requires : goal.around_vertex-around-requires
around_vertex-around-requires g c =
    vertex_below (g.S.Scope.problem c.args.regions.now.scope) c.args.regions.now.nodes c.args.root c.in_ok-v.v c.keeps.ensures.nest
    (rw c.scope.ensures at c.limits.ensures) c.requires c.in_ok-v.ensures

pub returns : goal.returns
returns g c =
    let reach = c.in_ok-reach.reach in
    let share : ℕ = c.in_ok-share.share in
    let pair : NearPair = record {
      edge = reach.edge;
      length = reach.length - share;
      other = c.in-Some.other;
      other_length = share;
    } in
    let found : Option Near = Some (Pair pair) in
    let is : IfSome found (λ near. (k : ℕ) × IsShare reach.length c.around_vertex-around.result.room c.room_beside-other_room.result k
    × (near ≡ Pair (record { edge = reach.edge; length = reach.length - k; other = c.in-Some.other; other_length = k }))) =
    (share, c.in_ok-share.ensures, refl) in
    pair_found (g.S.Scope.problem c.args.regions.now.scope) c.args.regions.now.nodes c.args.matching.now.unmatched c.args.root c.in_ok-v.v
    reach c.in_ok-v.ensures (rw c.in_ok-reach.was at c.around_vertex-around.ensures.reach)
    (rw c.in_ok-reach.was at c.around_vertex-around.ensures.target) c.around_vertex-around.result.room
    (rw c.in_ok-reach.was at c.around_vertex-around.ensures.room) found c.in-Some.other
    c.room_beside-other_room.result c.in-Some.is c.room_beside-other_room.ensures is
