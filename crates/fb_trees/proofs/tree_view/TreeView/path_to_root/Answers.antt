use Rattle.std.proofs.Common.{[], ◌∷◌, ◌++◌, sym, ap, ◌∙◌}
use Rattle.fb_laws.specs.Trees.{path_to}
use Rattle.fb_trees.specs.Branches.{entry_of}
use Rattle.fb_trees.specs.Rooted.{IsPlus}
use Rattle.fb_trees.specs.TreeSteps.{step, steps_up}
use Rattle.fb_trees.proofs.Paths.{parent_plus, plus_beside_minus, plus_without_branch, up_from_minus, up_from_plus}
use Rattle.fb_trees.proofs.tree_view.TreeView.path_to_root.Goals as goal
use Rattle.fb_trees.proofs.tree_view.TreeView.path_to_root.Goals.{in_default-via-in-Some+else-branch-node, in_default-via-in_default}

pub push_path-requires : goal.push_path-requires
push_path-requires c =
    parent_plus c.args.self.now.root c.args.self.now.branches c.in-Some.ensures.kept.hung c.args.node (entry_of c.in-Some.branch)
    (sym c.in-Some.ensures.branch)

pub push_path-requires-in_default : goal.push_path-requires-in_default
push_path-requires-in_default c =
    elim c.in_default.branch [
      | in_default-via-in-Some+else-branch-node w ↦
          plus_beside_minus c.args.self.now c.args.node w.in-Some.branch w.in-Some.ensures.branch w.if-branch-node.false
      | in_default-via-in_default w ↦ plus_without_branch c.args.self.now c.args.node c.requires w.in_default.ensures.branch
    ]

pub returns-in_ok-push_path-in-Some : goal.returns-in_ok-push_path-in-Some
returns-in_ok-push_path-in-Some c =
    c.in_ok-push_path-in-Some.ensures
    ∙ (ap (λ l. l ++ steps_up (path_to c.args.self.now.branches c.in-Some.branch.parent))
    (c.in_ok-push_step-in-Some.ensures ∙ ap (λ l. l ++ step c.args.node c.in-Some.branch.tree ∷ []) c.new-path.ensures.items)
    ∙ up_from_minus c.args.self.now c.args.node c.in-Some.branch c.in-Some.ensures.branch c.if-branch-node.true)

pub returns-in_ok-push_path-in_default : goal.returns-in_ok-push_path-in_default
returns-in_ok-push_path-in_default c =
    let plus : IsPlus c.args.self.now c.args.node =
    elim c.in_default.branch [
      | in_default-via-in-Some+else-branch-node w ↦
          plus_beside_minus c.args.self.now c.args.node w.in-Some.branch w.in-Some.ensures.branch w.if-branch-node.false
      | in_default-via-in_default w ↦ plus_without_branch c.args.self.now c.args.node c.requires w.in_default.ensures.branch
    ] in
    c.in_ok-push_path-in_default.ensures
    ∙ (ap (λ l. l ++ steps_up (path_to c.args.self.now.branches c.args.node)) c.new-path.ensures.items
    ∙ up_from_plus c.args.self.now c.branch_of.ensures.kept c.args.node plus)
