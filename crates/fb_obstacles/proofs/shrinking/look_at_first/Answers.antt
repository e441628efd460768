use Rattle.std.proofs.Common.{◌≡◌, ◌∙◌, true, refl, sym, ap}
use Rattle.fb_regions.specs.Paces.{shrinks}
use Rattle.fb_obstacles.specs.Obstacles.{roles_by}
use Rattle.fb_obstacles.proofs.NodeLooks.{first_limits, first_postponed}
use Rattle.fb_obstacles.proofs.shrinking.look_at_first.Goals as goal

pub returns-then-settle_first_node-clause-limits : goal.returns-then-settle_first_node-clause-limits
returns-then-settle_first_node-clause-limits g c p =
    let minus : shrinks (g.R.Roles.role_of c.args.roles.now c.in_ok-node.node) ≡ true = ap shrinks (sym c.role.ensures ∙ c.in-Minus.is) in
    rw c.look_at_node.ensures
    (first_limits (roles_by (g.R.Roles.role_of c.args.roles.now)) p c.args.regions.now.nodes c.args.watch.now c.in_ok-node.node c.top_value.result
    c.keeps_dual.ensures.names c.requires.roles (c.requires.live c.in_ok-node.node minus) minus c.top_value.ensures
    (c.if-settle_first_node.ensures.settled refl).1 c.requires.bounded)

pub returns-else-settle_first_node-clause-bounded : goal.returns-else-settle_first_node-clause-bounded
returns-else-settle_first_node-clause-bounded g c =
    let raised = c.if-settle_first_node.ensures.raised refl c.in_ok-node.node c.in_ok-node.ensures.first in
    first_postponed (roles_by (g.R.Roles.role_of c.args.roles.now)) c.args.regions.now.nodes c.args.watch.now c.settle_first_node.new.self c.in_ok-node.node
    c.top_value.result c.keeps_dual.ensures.names c.top_value.ensures raised.0 raised.1 c.requires.bounded
