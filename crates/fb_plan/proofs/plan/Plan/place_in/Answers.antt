use Rattle.std.proofs.Common.{◌≡◌, ◌-◌, ◌<◌, ◌∙◌, ap, get_or, subst, sym, arith}
use Rattle.fb_plan.specs.Plans.{node_count}
use Rattle.fb_plan.specs.Vertices.{place_in, vertices_in}
use Rattle.fb_plan.proofs.Queries.{owned_has_owner, place_of_owned, read_place}
use Rattle.fb_plan.proofs.plan.Plan.place_in.Goals as goal

pub index-requires-2 : goal.index-requires-2
index-requires-2 c =
    let node : c.args.node < node_count c.args.self.now = (owned_has_owner c.args.self.now c.args.node c.args.v c.requires).0 in
    omega (arith, subst (λ p. c.args.node < node_count p) (sym c.self.view_is) node, c.self.invariant.ordered.extent_count, c.self.inside.order.extents.ok)

pub overflow_sub-result : goal.overflow_sub-result
overflow_sub-result c =
    let read = read_place _ c.args.self.now c.self.inside.order c.args.node c.args.v c.index.result.now c.index-2.result.now c.self.view_is
    c.self.invariant.ordered c.requires c.index.ensures c.index-2.ensures in
    omega (arith, read)

pub returns : goal.returns
returns c =
    let read = read_place _ c.args.self.now c.self.inside.order c.args.node c.args.v c.index.result.now c.index-2.result.now c.self.view_is
    c.self.invariant.ordered c.requires c.index.ensures c.index-2.ensures in
    let is : c.index.result.now - c.index-2.result.now.start ≡ place_in c.args.self.now c.args.node c.args.v = omega (arith, read) in
    let at = place_of_owned c.args.self.now c.args.node c.args.v c.requires in
    record {
      value = is;
      below = omega (arith, is, at.0);
      at = ap (λ k. get_or (vertices_in c.args.self.now c.args.node) k 0) is ∙ at.1;
    }
