use denote.Enum.Bare.{sameb}
use Rattle.std.proofs.Common.{◌∙◌, ap, get_or, subst, sym}
use Rattle.std.proofs.lemmas.Bool.{false≢true}
use Rattle.fb_graph.specs.Dual.{top_at}
use Rattle.fb_regions.specs.contracts.roles.Role.{the_type}
use Rattle.fb_regions.specs.declared.roles.Role.TheVariants.{Minus}
use Rattle.fb_search.specs.InternalClosings.{WatchesMinusBy}
use Rattle.fb_obstacles.specs.InternalWatching.{Watches}
use Rattle.fb_search.proofs.ClosedWatches.{minus_first, minus_on, minus_past}
use Rattle.fb_trees.specs.Forests.{role_among}
use Rattle.fb_search.proofs.growing_rings.watch_minus.Goals as goal
use Rattle.fb_search.proofs.growing_rings.watch_minus.Goals.{then-eq, else-eq}

pub loop-node-init : goal.loop-node-init
loop-node-init g c =
    minus_first (g.S.Scope.problem c.args.regions.now.scope) c.args.regions.now.nodes (role_among c.args.forest.now) c.args.watch.now

pub loop-node-preserved : goal.loop-node-preserved
loop-node-preserved g c =
    elim c.if-eq.branch [
      | then-eq w ↦
          subst (WatchesMinusBy _ _ _ _ c.args.watch.now) (sym w.watch-is)
          (minus_on (g.S.Scope.problem c.args.regions.now.scope) c.args.regions.now.nodes (role_among c.args.forest.now) c.args.nodes.now
          c.loop-node.node-index c.args.watch.now c.loop-node.watch w.watch_node.new.watch c.loop-node-test.true
          c.loop-node.invariant
          (subst
          (λ s.
          Watches (g.S.Scope.problem s) (top_at c.args.regions.now.nodes (get_or c.args.nodes.now c.loop-node.node-index 0))
          c.loop-node.watch w.watch_node.new.watch) w.scope.ensures w.watch_node.ensures))
      | else-eq w ↦
          subst (WatchesMinusBy _ _ _ _ c.args.watch.now) (sym w.watch-is)
          (minus_past (g.S.Scope.problem c.args.regions.now.scope) c.args.regions.now.nodes (role_among c.args.forest.now) c.args.nodes.now
          c.loop-node.node-index c.args.watch.now c.loop-node.watch c.loop-node-test.true
          (λ minus.
          false≢true
          (sym w.if-eq.false ∙ (c.eq.ensures ∙ ap (λ role. sameb the_type role Minus) (c.role.ensures ∙ minus))))
          c.loop-node.invariant)
    ]
