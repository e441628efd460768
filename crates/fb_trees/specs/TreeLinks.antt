-- A tree with the numbers of its links, and the same tree with the links themselves. What is read of the one and what
-- is done with it agree with the other.
use Rattle.std.specs.Prelude.{ℕ, ◌≡◌, ◌↔◌, true, Bool, List, map}
use Rattle.fb_graph.specs.Laws.{Link}
use Rattle.fb_laws.specs.Trees.{EntryOf, branches_beside, grown_links, minus_names, paired_links, path_to, plus_names, roles_of, tree_names}
use Rattle.fb_laws.specs.TreeCycles.{ArePaths, cycle_links, cycle_nodes, last_plus}
use Rattle.fb_laws.specs.SearchBlossoms.{AreBranches, joined_tree}
use Rattle.fb_laws.specs.OpenedCycles.{PassOf, grown_on, last_of, matched_on, opened_tree, paired_on}
use Rattle.fb_regions.specs.declared.roles.Role.TheVariants.{Plus, Minus}
use Rattle.fb_trees.specs.Branches.{Grown}
use Rattle.fb_trees.specs.Rooted.{AreTakenIn, IsRooted, role_in}

-- the branch with its links in another form
abbrev pub map_entry : {L M : Type 0} → (L → M) → EntryOf L → EntryOf M
map_entry f e = record { parent = e.parent; tree = f e.tree; minus = e.minus; matched = f e.matched; plus = e.plus }

abbrev pub map_pass : {L M : Type 0} → (L → M) → PassOf L → PassOf M
map_pass f s = record { matched = f s.matched; plus = s.plus; tree = f s.tree; minus = s.minus }

-- The nodes are the same, in the same roles.
pub record NamesAgree (f : ℕ → Link) (tree : List (EntryOf ℕ)) : Type 0 where
  pub plus : (root : ℕ) → plus_names root (map (map_entry f) tree) ≡ plus_names root tree
  pub minus : minus_names (map (map_entry f) tree) ≡ minus_names tree
  pub all : (root : ℕ) → tree_names root (map (map_entry f) tree) ≡ tree_names root tree
  pub grown : grown_links (map (map_entry f) tree) ≡ map f (grown_links tree)
  pub paired : paired_links (map (map_entry f) tree) ≡ map f (paired_links tree)

abbrev pub NamesKept : Type 0
NamesKept = (f : ℕ → Link) (tree : List (EntryOf ℕ)) → NamesAgree f tree

abbrev pub RolesKept : Type 0
RolesKept = (f : ℕ → Link) (t : Grown) (name : ℕ) → IsRooted t.root t.branches
    → ((role_in t name ≡ Plus) ↔ ((roles_of t.root (map (map_entry f) t.branches)).is_plus name ≡ true))
    × ((role_in t name ≡ Minus) ↔ ((roles_of t.root (map (map_entry f) t.branches)).is_minus name ≡ true))

-- So are the path to a node, the branches beside it, and the cycle of two paths.
abbrev pub PathsKept : Type 0
PathsKept = (f : ℕ → Link) (tree : List (EntryOf ℕ)) (name : ℕ)
    → (path_to (map (map_entry f) tree) name ≡ map (map_entry f) (path_to tree name))
    × (branches_beside (map (map_entry f) tree) name ≡ map (map_entry f) (branches_beside tree name))

abbrev pub PartingKept : Type 0
PartingKept = (f : ℕ → Link) (tree : List (EntryOf ℕ)) (a b : ℕ) (shared up down : List (EntryOf ℕ))
    → ArePaths tree a b shared up down
    → ArePaths (map (map_entry f) tree) a b (map (map_entry f) shared) (map (map_entry f) up) (map (map_entry f) down)

abbrev pub CyclesKept : Type 0
CyclesKept = (f : ℕ → Link) (root closing : ℕ) (shared up down : List (EntryOf ℕ))
    → (last_plus root (map (map_entry f) shared) ≡ last_plus root shared)
    × (cycle_nodes (map (map_entry f) up) (map (map_entry f) down) ≡ cycle_nodes up down)
    × (cycle_links (map (map_entry f) up) (f closing) (map (map_entry f) down) ≡ map f (cycle_links up closing down))

-- A blossom formed makes the same tree of both.
abbrev pub JoinedKept : Type 0
JoinedKept = (f : ℕ → Link) (joined : ℕ → Bool) (name : ℕ) (tree : List (EntryOf ℕ))
    → joined_tree joined name (map (map_entry f) tree) ≡ map (map_entry f) (joined_tree joined name tree)

-- Which branches it takes in is the same.
abbrev pub TakenKept : Type 0
TakenKept = (f : ℕ → Link) (joined : ℕ → Bool) (base root : ℕ) (tree : List (EntryOf ℕ))
    → AreBranches joined base root (map (map_entry f) tree) → AreTakenIn joined base root tree

-- So does one opened.
abbrev pub OpenedKept : Type 0
OpenedKept = (f : ℕ → Link) (newer older : List (EntryOf ℕ)) (e : EntryOf ℕ) (from : ℕ) (way : List (PassOf ℕ))
    → opened_tree (map (map_entry f) newer) (map_entry f e) (map (map_entry f) older) from (map (map_pass f) way)
    ≡ map (map_entry f) (opened_tree newer e older from way)

abbrev pub WaysKept : Type 0
WaysKept = (f : ℕ → Link) (from : ℕ) (way : List (PassOf ℕ))
    → (last_of from (map (map_pass f) way) ≡ last_of from way)
    × (paired_on from (map (map_pass f) way) ≡ paired_on from way)
    × (matched_on (map (map_pass f) way) ≡ map f (matched_on way))
    × (grown_on (map (map_pass f) way) ≡ map f (grown_on way))
