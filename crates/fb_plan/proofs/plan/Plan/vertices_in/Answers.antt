use Rattle.std.proofs.Common.{◌<◌, ◌≤◌, ◌∙◌, [], refl, ap, length, subst, sym, arith}
use Rattle.std.proofs.lemmas.List.{get_or_read_under}
use Rattle.fb_graph.specs.Limits.{most_vertices}
use Rattle.fb_plan.specs.Plans.{IsTree, PlanTree, node_count}
use Rattle.fb_plan.specs.Vertices.{vertices_in}
use Rattle.fb_plan.proofs.Queries.{read_subtree, vertices_are, vertices_beyond}
use Rattle.fb_plan.proofs.plan.Plan.vertices_in.Goals as goal

pub returns-then-node-len : goal.returns-then-node-len
returns-then-node-len c =
    let t : PlanTree = c.args.self.now in
    let tree : IsTree t = subst IsTree c.self.view_is c.self.invariant.tree in
    let few : length t.owners ≤ most_vertices = subst (λ p. length p.owners ≤ most_vertices) c.self.view_is c.self.invariant.owner_count in
    let beyond : node_count t ≤ c.args.node =
    subst (λ p. node_count p ≤ c.args.node) c.self.view_is
    (omega (arith, c.if-node-len.true, c.len.ensures, c.self.invariant.ordered.extent_count)) in
    let are = vertices_are t c.args.node [] tree few (sym (vertices_beyond t c.args.node beyond)) in
    record { value = are.value; members = are.members; distinct = are.distinct; few = are.few }

pub returns : goal.returns
returns c =
    let t : PlanTree = c.args.self.now in
    let tree : IsTree t = subst IsTree c.self.view_is c.self.invariant.tree in
    let few : length t.owners ≤ most_vertices = subst (λ p. length p.owners ≤ most_vertices) c.self.view_is c.self.invariant.owner_count in
    let order = c.self.inside.order in
    let count = c.self.invariant.ordered.extent_count in
    let within : c.args.node < length order.extents.items = omega (arith, c.if-node-len.false, c.len.ensures, order.extents.ok) in
    let read = read_subtree _ order c.args.node c.index-extent.result.now c.deref.result.now c.self.invariant.ordered (omega (arith, within, count))
    (get_or_read_under order.extents.items c.args.node (length order.extents.items) c.index-extent.result.now (record { start = 0; own = 0; end = 0 })
    c.index-extent.ensures within refl)
    c.deref.ensures.value in
    let are = vertices_are t c.args.node _ tree few (read ∙ ap (λ p. vertices_in p c.args.node) c.self.view_is) in
    record { value = are.value; members = are.members; distinct = are.distinct; few = are.few }
