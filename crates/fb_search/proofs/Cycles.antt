-- The cycle that a link closes in a search's tree, by the tree's links and by their numbers.
use Rattle.std.proofs.Common.{ℕ, ◌≡◌, List, ◌∷◌, map, Option, sym, ap, ◌∙◌, subst}
use Rattle.fb_links.specs.declared.walk.Step.{Step}
use Rattle.fb_laws.specs.TreeCycles.{ArePaths, cycle_nodes, last_plus}
use Rattle.fb_laws.specs.Trees.{Entry, EntryOf}
use Rattle.fb_trees.proofs.Mapped.{cycle_moved, last_moved, paths_moved}
use Rattle.fb_half.specs.Translations.{entry_by, link_by}

-- its nodes, from the one on where the two paths part
abbrev pub cycle_from : {L : Type 0} → ℕ → List (EntryOf L) → List (EntryOf L) → List (EntryOf L) → List ℕ
cycle_from root shared up down = last_plus root shared ∷ cycle_nodes up down

pub same_cycle : (links : List (Option (List Step))) (root : ℕ) (shared up down : List (EntryOf ℕ))
    → cycle_from root (map (entry_by links) shared) (map (entry_by links) up) (map (entry_by links) down)
    ≡ cycle_from root shared up down
same_cycle links root shared up down =
    ap (λ n. n ∷ cycle_nodes (map (entry_by links) up) (map (entry_by links) down))
    (last_moved (link_by links) root shared)
    ∙ ap (λ ns. last_plus root shared ∷ ns) (cycle_moved (link_by links) up down)

-- the two paths
pub paths_of : (links : List (Option (List Step))) (tree : List Entry) (branches : List (EntryOf ℕ))
    → tree ≡ map (entry_by links) branches → (a b : ℕ) (shared up down : List (EntryOf ℕ))
    → ArePaths branches a b shared up down
    → ArePaths tree a b (map (entry_by links) shared) (map (entry_by links) up) (map (entry_by links) down)
paths_of links tree branches tree_is a b shared up down paths =
    subst (λ t. ArePaths t a b (map (entry_by links) shared) (map (entry_by links) up) (map (entry_by links) down))
    (sym tree_is) (paths_moved (link_by links) branches a b shared up down paths)
