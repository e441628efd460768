use Rattle.std.proofs.Common.{◌+◌, take, All, arith}
use Rattle.fb_obstacles.specs.Obstacles.{Obstructs, roles_by}
use Rattle.fb_obstacles.specs.InternalLooks.{IsAtMostEach, minus_tops}
use Rattle.fb_obstacles.proofs.LookLimits.{limits_blocked}
use Rattle.fb_obstacles.proofs.NodeLooks.{MayShrink, names_of, watched_all, watched_more}
use Rattle.fb_obstacles.proofs.shrinking.look_at_each.Goals as goal

pub loop-place-preserved : goal.loop-place-preserved
loop-place-preserved g c p =
    watched_more (roles_by (g.R.Roles.role_of c.args.roles.now)) p c.args.regions.now.nodes c.args.watch.now.nodes c.loop-place.place c.node_at.result
    c.loop-place.least c.look_at_watched.result c.and-least.result c.keeps_dual.ensures.names c.requires.roles c.requires.live
    (omega (arith, c.node_count-place-end.ensures)) c.node_at.ensures c.look_at_watched.ensures c.and-least.ensures
    (c.loop-place.invariant p)

pub returns-in-Blocked : goal.returns-in-Blocked
returns-in-Blocked g c p =
    limits_blocked
    (λ j. All (MayShrink (roles_by (g.R.Roles.role_of c.args.roles.now)) c.args.regions.now.nodes j)
    (take (c.loop-place.place + 1) (names_of (roles_by (g.R.Roles.role_of c.args.roles.now)) c.args.watch.now.nodes)))
    (λ j. IsAtMostEach j (minus_tops (roles_by (g.R.Roles.role_of c.args.roles.now)) c.args.regions.now.nodes))
    (Obstructs p (roles_by (g.R.Roles.role_of c.args.roles.now)) c.args.regions.now.nodes) c.and-least.result
    c.in-Blocked.field-0 c.in-Blocked.is
    (watched_more (roles_by (g.R.Roles.role_of c.args.roles.now)) p c.args.regions.now.nodes c.args.watch.now.nodes c.loop-place.place c.node_at.result
    c.loop-place.least c.look_at_watched.result c.and-least.result c.keeps_dual.ensures.names c.requires.roles c.requires.live
    (omega (arith, c.node_count-place-end.ensures)) c.node_at.ensures c.look_at_watched.ensures c.and-least.ensures
    (c.loop-place.invariant p))

pub returns : goal.returns
returns g c p =
    watched_all (roles_by (g.R.Roles.role_of c.args.roles.now)) p c.args.regions.now.nodes c.args.watch.now c.loop-place.place
    c.loop-place.least c.keeps_dual.ensures.names c.requires.live c.requires.bounded
    (omega (arith, c.node_count-place-end.ensures)) (c.loop-place.invariant p)
