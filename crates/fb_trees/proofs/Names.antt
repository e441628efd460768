-- The names of a tree's nodes.
use Rattle.std.proofs.Common.{ℕ, ◌≡◌, true, false, List, [], ◌∷◌, map, sym, ap, ◌∙◌, subst}
use Rattle.fb_graph.specs.Parity.{is_in}
use Rattle.fb_graph.specs.Certificate.{AreDistinct}
use Rattle.fb_graph.specs.Laws.{Link}
use Rattle.fb_graph.proofs.Sets.{is_in-head, is_in-tail}
use Rattle.fb_laws.specs.Trees.{EntryOf, minus_names, plus_names, tree_names}
use Rattle.fb_laws.proofs.SearchTrees as laws
use Rattle.fb_trees.specs.TreeLinks.{map_entry}
use Rattle.fb_trees.proofs.Mapped.{minus_moved, names_moved, plus_moved}

-- a link without steps, in the place of a number
abbrev pub no_link : ℕ → Link
no_link n = record { from = n; to = n; walk = [] }

abbrev linked : List (EntryOf ℕ) → List (EntryOf Link)
linked tree = map (map_entry no_link) tree

pub root_plus : (root : ℕ) (tree : List (EntryOf ℕ)) → is_in (plus_names root tree) root ≡ true
root_plus root [] = is_in-head root []
root_plus root (e ∷ es) = is_in-tail e.plus (plus_names root es) root (root_plus root es)

pub plus_in_tree : (root : ℕ) (tree : List (EntryOf ℕ)) (n : ℕ) → is_in (plus_names root tree) n ≡ true
    → is_in (tree_names root tree) n ≡ true
plus_in_tree root tree n plus =
    ap (λ l. is_in l n) (sym (names_moved no_link root tree))
    ∙ laws.plus_in_tree root (linked tree) n (ap (λ l. is_in l n) (plus_moved no_link root tree) ∙ plus)

-- none is both plus and minus
pub exclusive_names : (root : ℕ) (tree : List (EntryOf ℕ)) → AreDistinct (tree_names root tree) → (n : ℕ)
    → is_in (plus_names root tree) n ≡ true → is_in (minus_names tree) n ≡ false
exclusive_names root tree distinct n plus =
    ap (λ l. is_in l n) (sym (minus_moved no_link tree))
    ∙ laws.exclusive_names root (linked tree) (subst AreDistinct (sym (names_moved no_link root tree)) distinct) n
    (ap (λ l. is_in l n) (plus_moved no_link root tree) ∙ plus)

pub minus_in_names : (root : ℕ) (tree : List (EntryOf ℕ)) (n : ℕ) → is_in (minus_names tree) n ≡ true
    → is_in (tree_names root tree) n ≡ true
minus_in_names root tree n minus =
    ap (λ l. is_in l n) (sym (names_moved no_link root tree))
    ∙ laws.minus_in_tree root (linked tree) n (ap (λ l. is_in l n) (minus_moved no_link tree) ∙ minus)
