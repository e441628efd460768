use Rattle.std.proofs.Common.{nat_eq, true, refl, ap, ◌∙◌, subst}
use Rattle.std.proofs.Math.Path.{fun_ext}
use Rattle.std.specs.HashSet.{contains}
use Rattle.fb_laws.specs.SearchBlossoms.{joined_tree, renamed_name}
use Rattle.fb_trees.specs.Rooted.{IsRooted}
use Rattle.fb_trees.proofs.ReplacedTrees.{joined_as}
use Rattle.fb_trees.proofs.tree_view.TreeView.joined.Goals as goal

pub returns : goal.returns
returns c =
    joined_as c.args.self.now c.args.gone.now c.args.blossom (contains nat_eq c.in_ok-inside.inside) (fun_ext c.in_ok-inside.ensures)
    (subst (λ t. IsRooted t.root t.branches) c.self.view_is c.self.invariant.rooted) c.requires
    (record { root = c.renamed_name.result; branches = c.in_ok-branches.branches; live = true }) refl
    (c.renamed_name.ensures ∙ ap (λ t. renamed_name (contains nat_eq c.in_ok-inside.inside) c.args.blossom t.root) c.self.view_is)
    (c.in_ok-branches.ensures
    ∙ ap (λ t. joined_tree (contains nat_eq c.in_ok-inside.inside) c.args.blossom t.branches) c.self.view_is)
