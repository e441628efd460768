-- The alternating tree of a search as a list of its branches, the newest one first, so that the parent of each is
-- later in the list (Edmonds 1965). Nodes are given by their names.
use Rattle.std.specs.Prelude.{ℕ, ◌≡◌, ◌==◌, ◌⊎◌, true, List, [], ◌∷◌, ◌++◌, map, Some, if◌then◌else◌}
use Rattle.fb_graph.specs.Parity.{is_in}
use Rattle.fb_graph.specs.Laws.{Link}
use Rattle.fb_graph.specs.Dual.{Node, cover_of, top_at}
use Rattle.fb_graph.specs.Steps.{Roles}
use Rattle.fb_laws.specs.Paths.{Branch}

-- From a plus node, the parent, a link of the tree to a minus node, and the matched link from there to a plus node. The
-- links are of any form: a program has their numbers, the laws have the links themselves.
pub record EntryOf (L : Type 0) : Type 0 where
  pub parent : ℕ
  pub tree : L
  pub minus : ℕ
  pub matched : L
  pub plus : ℕ

abbrev pub Entry : Type 0
Entry = EntryOf Link

abbrev pub grown_links : {L : Type 0} → List (EntryOf L) → List L
grown_links tree = map (λ e. e.tree) tree

abbrev pub paired_links : {L : Type 0} → List (EntryOf L) → List L
paired_links tree = map (λ e. e.matched) tree

abbrev pub plus_names : {L : Type 0} → ℕ → List (EntryOf L) → List ℕ
plus_names root [] = root ∷ []
plus_names root (e ∷ es) = e.plus ∷ plus_names root es

abbrev pub minus_names : {L : Type 0} → List (EntryOf L) → List ℕ
minus_names tree = map (λ e. e.minus) tree

abbrev pub tree_names : {L : Type 0} → ℕ → List (EntryOf L) → List ℕ
tree_names root [] = root ∷ []
tree_names root (e ∷ es) = e.minus ∷ e.plus ∷ tree_names root es

-- the roles that the tree gives
abbrev pub roles_of : {L : Type 0} → ℕ → List (EntryOf L) → Roles
roles_of root tree = record { is_plus = is_in (plus_names root tree); is_minus = is_in (minus_names tree) }

-- one end of the link is under the one node, the other end under the other
abbrev pub Connects : List Node → Link → ℕ → ℕ → Type 0
Connects nodes l a b =
    ((cover_of nodes l.from ≡ Some a) × (cover_of nodes l.to ≡ Some b))
    ⊎ ((cover_of nodes l.to ≡ Some a) × (cover_of nodes l.from ≡ Some b))

-- each parent is the root or a plus node further down the list
abbrev pub IsTree : List Node → ℕ → List Entry → Type 0
IsTree nodes root [] = Unit {0}
IsTree nodes root (e ∷ es) =
    (is_in (plus_names root es) e.parent ≡ true) × Connects nodes e.tree e.parent e.minus
    × Connects nodes e.matched e.minus e.plus × IsTree nodes root es

-- the branches from the root to a plus node, the one at the root first
abbrev pub path_to : {L : Type 0} → List (EntryOf L) → ℕ → List (EntryOf L)
path_to [] name = []
path_to (e ∷ es) name = if e.plus == name then path_to es e.parent ++ e ∷ [] else path_to es name

-- the other branches
abbrev pub branches_beside : {L : Type 0} → List (EntryOf L) → ℕ → List (EntryOf L)
branches_beside [] name = []
branches_beside (e ∷ es) name = if e.plus == name then branches_beside es e.parent else e ∷ branches_beside es name

-- the branch by the sets of its nodes
abbrev pub branch_of : List Node → Entry → Branch
branch_of nodes e = record {
  tree = e.tree;
  minus = top_at nodes e.minus;
  matched = e.matched;
  plus = top_at nodes e.plus;
}

abbrev pub branches_of : List Node → List Entry → List Branch
branches_of nodes path = map (branch_of nodes) path
