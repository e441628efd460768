use Rattle.std.proofs.Common.{◌≡◌, true}
use Rattle.fb_graph.specs.Dual.{top_at}
use Rattle.fb_graph.specs.Parity.{is_in}
use Rattle.fb_graph.proofs.Ranges.{filter-range_below}
use Rattle.fb_graph.proofs.Sets.{is_in-All}
use Rattle.fb_obstacles.proofs.WatchSteps.{next_held, none_passed, one_passed}
use Rattle.fb_obstacles.proofs.TopLayers.{top_real}
use Rattle.fb_obstacles.proofs.entering.watch_node.Goals as goal

pub loop-next-init : goal.loop-next-init
loop-next-init g c =
    none_passed (g.S.Scope.problem c.args.scope.now) (top_at c.args.regions.now.nodes c.args.node) c.last_vertex.result c.args.watch.now
    c.last_vertex.ensures.all

pub edges_at-requires : goal.edges_at-requires
edges_at-requires g c =
    let held : is_in (top_at c.args.regions.now.nodes c.args.node) c.in-Some.v ≡ true =
    next_held _ _ c.loop-next.next c.in-Some.v _ _ c.in-Some.is c.loop-next.invariant in
    c.limits.ensures.real_below c.in-Some.v
    (is_in-All (λ v. (g.S.Scope.problem c.args.scope.now).is_real v ≡ true) _
    (top_real (g.S.Scope.problem c.args.scope.now) c.args.regions.now.nodes c.args.node (rw (← c.requires.same) c.keeps.ensures.nest) c.requires.live)
    c.in-Some.v held)

pub enter_all-requires : goal.enter_all-requires
enter_all-requires g c =
    rw (c.edges_at.ensures, c.loop-next.invariant.watched.room, c.requires.room) (filter-range_below _ _)

pub vertex_before-next-requires-clause-held : goal.vertex_before-next-requires-clause-held
vertex_before-next-requires-clause-held g c =
    next_held _ _ c.loop-next.next c.in-Some.v _ _ c.in-Some.is c.loop-next.invariant

pub loop-next-preserved : goal.loop-next-preserved
loop-next-preserved g c =
    one_passed _ _ c.loop-next.next c.vertex_before-next.result c.in-Some.v c.edges_at.result.now c.args.watch.now c.loop-next.watch
    c.enter_all.new.watch c.in-Some.is c.vertex_before-next.ensures.rest c.edges_at.ensures c.loop-next.invariant c.enter_all.ensures
