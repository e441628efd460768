use Rattle.std.proofs.Common.{◌≡◌, ◌++◌, IfOk, map, take, drop, ap, ◌∙◌}
use Rattle.std.proofs.lemmas.Result.{IfOk-weaker}
use Rattle.fb_graph.specs.Nests.{AreMany}
use Rattle.fb_links.specs.declared.cycle.CycleStep.{CycleStep}
use Rattle.fb_laws.specs.TreeCycles.{last_plus}
use Rattle.fb_trees.specs.Branches.{entry_of}
use Rattle.fb_trees.specs.InternalPaths.{common_count, steps_down}
use Rattle.fb_trees.specs.TreeSteps.{IsCycle, steps_up}
use Rattle.fb_trees.proofs.Cycles.{many_of_cycle}
use Rattle.fb_trees.proofs.Paths.{cycle_is}
use Rattle.fb_trees.proofs.tree_view.TreeView.cycle_of.Goals as goal

pub returns : goal.returns
returns c =
    let cut_up = ap (map entry_of) (c.split_at.ensures.back ∙ ap (drop c.shared_count-shared.result) c.deref-3.ensures.value) in
    let cut_down = ap (map entry_of) (c.split_at-2.ensures.back ∙ ap (drop c.shared_count-shared.result) c.deref-4.ensures.value) in
    let start = ap (map entry_of) (c.split_at.ensures.front ∙ ap (take c.shared_count-shared.result) c.deref-3.ensures.value) in
    let is : IfOk c.cycle_along.result (λ cycle. IsCycle c.args.self.now c.args.a c.args.b c.args.closing cycle.items) =
    IfOk-weaker c.cycle_along.result
    (λ cycle.
    cycle.items
    ≡ steps_down c.last_plus.result (map entry_of c.split_at.result.1.now) c.args.closing
    ++ steps_up (map entry_of c.split_at-2.result.1.now))
    (λ cycle. IsCycle c.args.self.now c.args.a c.args.b c.args.closing cycle.items)
    (λ cycle is.
    cycle_is c.args.self.now c.in_ok-up.ensures.kept c.args.a c.args.b c.args.closing c.in_ok-up.up.items c.in_ok-down.down.items
    c.in_ok-up.ensures.path c.in_ok-down.ensures.path c.shared_count-shared.result
    (c.shared_count-shared.ensures.count
    ∙ (ap (λ l. common_count (map entry_of l) (map entry_of c.deref-2.result.now)) c.deref.ensures.value
    ∙ ap (λ l. common_count (map entry_of c.in_ok-up.up.items) (map entry_of l)) c.deref-2.ensures.value))
    c.last_plus.result
    (c.last_plus.ensures ∙ (ap (λ t. last_plus t.root (map entry_of c.split_at.result.0.now)) c.self.view_is ∙ ap (last_plus c.args.self.now.root) start))
    cycle.items
    (is
    ∙ (ap (λ l. steps_down c.last_plus.result l c.args.closing ++ steps_up (map entry_of c.split_at-2.result.1.now)) cut_up
    ∙ ap (λ l. steps_down c.last_plus.result (map entry_of (drop c.shared_count-shared.result c.in_ok-up.up.items)) c.args.closing ++ steps_up l) cut_down)))
    c.cycle_along.ensures in
    record {
      cycle = is;
      many = IfOk-weaker c.cycle_along.result (λ cycle. IsCycle c.args.self.now c.args.a c.args.b c.args.closing cycle.items)
          (λ cycle. AreMany (map (λ (s : CycleStep). s.node) cycle.items))
          (λ cycle is.
          many_of_cycle c.args.self.now c.in_ok-up.ensures.kept c.args.a c.args.b c.args.closing c.requires.first c.requires.second
          c.requires.apart cycle.items is)
          is;
    }
