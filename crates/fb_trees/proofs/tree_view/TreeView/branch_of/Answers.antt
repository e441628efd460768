use Rattle.std.proofs.Common.{◌≡◌, true, Some, sym, ap, ◌∙◌, refl, subst}
use Rattle.std.specs.Option.{option_map}
use Rattle.fb_trees.specs.Branches.{entries_of, entry_of}
use Rattle.fb_trees.specs.Rooted.{is_node}
use Rattle.fb_trees.specs.InternalPlaces.{branch_at}
use Rattle.fb_trees.proofs.Lookups.{branch_in, has_place, no_branch, read_own}
use Rattle.fb_trees.proofs.Replaced.{some_branch}
use Rattle.fb_trees.proofs.tree_view.TreeView.branch_of.Goals as goal

pub branch_in-requires : goal.branch_in-requires
branch_in-requires c =
    let within : is_node (record { root = c.self.inside.root; branches = entries_of c.self.inside.branches.now }) c.args.node ≡ true =
    subst (λ t. is_node t c.args.node ≡ true) (sym c.self.view_is) c.requires in
    has_place c.self.inside.branches.now c.args.node c.in_ok-place.place
    (read_own _ _ _ c.self.invariant.placed within refl c.in_ok-place.ensures)

pub returns-clause-branch : goal.returns-clause-branch
returns-clause-branch c =
    let within : is_node (record { root = c.self.inside.root; branches = entries_of c.self.inside.branches.now }) c.args.node ≡ true =
    subst (λ t. is_node t c.args.node ≡ true) (sym c.self.view_is) c.requires in
    ap (λ b. Some (entry_of b)) (c.branch_in.ensures some_branch)
    ∙ (branch_in c.self.inside.branches.now c.args.node c.in_ok-place.place some_branch
    (read_own _ _ _ c.self.invariant.placed within refl c.in_ok-place.ensures)
    ∙ ap (λ t. branch_at t.branches c.args.node) c.self.view_is)

pub returns-in_err-place-clause-branch : goal.returns-in_err-place-clause-branch
returns-in_err-place-clause-branch c =
    let within : is_node (record { root = c.self.inside.root; branches = entries_of c.self.inside.branches.now }) c.args.node ≡ true =
    subst (λ t. is_node t c.args.node ≡ true) (sym c.self.view_is) c.requires in
    ap (option_map entry_of) c.from_residual.ensures
    ∙ (sym (no_branch (entries_of c.self.inside.branches.now) c.args.node
    (read_own _ _ _ c.self.invariant.placed within refl c.in_err-place.ensures))
    ∙ ap (λ t. branch_at t.branches c.args.node) c.self.view_is)
