use Rattle.std.proofs.Common.{◌≡◌, true, refl, sym, ap, ◌∙◌, subst}
use Rattle.fb_graph.specs.Parity.{is_in}
use Rattle.fb_laws.specs.Trees.{minus_names}
use Rattle.fb_trees.specs.Branches.{entries_of}
use Rattle.fb_trees.specs.Rooted.{IsRooted, is_node}
use Rattle.fb_trees.proofs.Lookups.{has_place, read_own}
use Rattle.fb_trees.proofs.Names.{minus_in_names}
use Rattle.fb_trees.proofs.Replaced.{minus_has_place, some_branch}
use Rattle.fb_trees.proofs.ReplacedTrees.{opened_as}
use Rattle.fb_trees.proofs.tree_view.TreeView.opened.Goals as goal

pub unreachable-requires : goal.unreachable-requires
unreachable-requires c =
    let within : is_node (record { root = c.self.inside.root; branches = entries_of c.self.inside.branches.now }) c.args.blossom ≡ true =
    subst (λ t. is_node t c.args.blossom ≡ true) (sym c.self.view_is)
    (minus_in_names c.args.self.now.root c.args.self.now.branches c.args.blossom c.requires.minus) in
    minus_has_place (entries_of c.self.inside.branches.now) c.args.blossom
    (ap (λ t. is_in (minus_names t.branches) c.args.blossom) c.self.view_is ∙ c.requires.minus)
    (read_own _ _ _ c.self.invariant.placed within refl c.in_default.ensures)

pub opened_branches-requires-clause-within : goal.opened_branches-requires-clause-within
opened_branches-requires-clause-within c =
    let within : is_node (record { root = c.self.inside.root; branches = entries_of c.self.inside.branches.now }) c.args.blossom ≡ true =
    subst (λ t. is_node t c.args.blossom ≡ true) (sym c.self.view_is)
    (minus_in_names c.args.self.now.root c.args.self.now.branches c.args.blossom c.requires.minus) in
    has_place c.self.inside.branches.now c.args.blossom c.in-Some.place
    (read_own _ _ _ c.self.invariant.placed within refl c.in-Some.ensures)

pub returns : goal.returns
returns c =
    let within : is_node (record { root = c.self.inside.root; branches = entries_of c.self.inside.branches.now }) c.args.blossom ≡ true =
    subst (λ t. is_node t c.args.blossom ≡ true) (sym c.self.view_is)
    (minus_in_names c.args.self.now.root c.args.self.now.branches c.args.blossom c.requires.minus) in
    opened_as c.args.self.now (subst (λ t. IsRooted t.root t.branches) c.self.view_is c.self.invariant.rooted) c.args.blossom
    c.args.path.now c.requires c.self.inside.branches.now (ap (λ t. t.branches) c.self.view_is) c.in-Some.place
    (read_own _ _ _ c.self.invariant.placed within refl c.in-Some.ensures)
    (record { root = c.self.inside.root; branches = c.in_ok-branches.branches; live = true }) refl
    (ap (λ t. t.root) c.self.view_is) (c.in_ok-branches.ensures some_branch)
