-- The root of a tree is one of its nodes.
use Rattle.std.proofs.Common.{ℕ, ◌≡◌, true, List, [], ◌∷◌}
use Rattle.fb_graph.specs.Parity.{is_in}
use Rattle.fb_graph.proofs.Sets.{is_in-head, is_in-tail}
use Rattle.fb_laws.specs.Trees.{EntryOf, tree_names}

pub root_in_tree : {L : Type 0} (root : ℕ) (tree : List (EntryOf L)) → is_in (tree_names root tree) root ≡ true
root_in_tree root [] = is_in-head root []
root_in_tree root (e ∷ es) =
    is_in-tail e.minus (e.plus ∷ tree_names root es) root (is_in-tail e.plus (tree_names root es) root (root_in_tree root es))
