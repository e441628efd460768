-- The cycle that a link between two plus nodes closes in a search's tree: their paths from the root, cut off where
-- they part (Edmonds 1965).
use Rattle.std.specs.Prelude.{ℕ, ◌≡◌, true, List, [], ◌∷◌, ◌++◌, map}
use Rattle.fb_graph.specs.Parity.{is_in}
use Rattle.fb_graph.specs.Problem.{Problem}
use Rattle.fb_graph.specs.Certificate.{AreDistinct}
use Rattle.fb_graph.specs.Laws.{Link}
use Rattle.fb_graph.specs.Dual.{Node, is_outer}
use Rattle.fb_laws.specs.Forming.{names_of, blossom_of}
use Rattle.fb_graph.specs.Nests.{AreMany}
use Rattle.fb_laws.specs.Trees.{Entry, EntryOf, Connects, plus_names, minus_names, tree_names, path_to}
use Rattle.fb_laws.specs.Searches.{IsSearch}
use Rattle.fb_laws.specs.SearchBlossoms.{IsJoining, child_at}

-- the nodes of branches that follow one another, and their links
abbrev pub nodes_along : {L : Type 0} → List (EntryOf L) → List ℕ
nodes_along [] = []
nodes_along (e ∷ es) = e.minus ∷ e.plus ∷ nodes_along es

abbrev pub links_along : {L : Type 0} → List (EntryOf L) → List L
links_along [] = []
links_along (e ∷ es) = e.tree ∷ e.matched ∷ links_along es

-- both the other way round
abbrev pub nodes_back : {L : Type 0} → List (EntryOf L) → List ℕ
nodes_back [] = []
nodes_back (e ∷ es) = nodes_back es ++ e.plus ∷ e.minus ∷ []

abbrev pub links_back : {L : Type 0} → List (EntryOf L) → List L
links_back [] = []
links_back (e ∷ es) = links_back es ++ e.matched ∷ e.tree ∷ []

-- the plus node to which branches lead from the node
abbrev pub last_plus : {L : Type 0} → ℕ → List (EntryOf L) → ℕ
last_plus name [] = name
last_plus name (e ∷ es) = last_plus e.plus es

-- if both begin with a branch, it isn't the same one
abbrev pub PartAtOnce : {L : Type 0} → List (EntryOf L) → List (EntryOf L) → Type 0
PartAtOnce [] fs = Unit {0}
PartAtOnce (e ∷ es) [] = Unit {0}
PartAtOnce (e ∷ es) (f ∷ fs) = e.minus ≡ f.minus → ⊥

-- the paths from the root to two plus nodes: the branches of both, and those of each after they part
pub record ArePaths {L : Type 0} (tree : List (EntryOf L)) (a b : ℕ) (shared up down : List (EntryOf L)) : Type 0 where
  pub first : path_to tree a ≡ shared ++ up
  pub second : path_to tree b ≡ shared ++ down
  pub parted : PartAtOnce up down

-- Any two paths of a tree part somewhere.
abbrev pub PathsPart : Type 0
PathsPart = (tree : List Entry) (root a b : ℕ) → AreDistinct (tree_names root tree)
    → (shared : List Entry) × (up : List Entry) × (down : List Entry) × ArePaths tree a b shared up down

-- The cycle begins at the node at which they part. Its other nodes are those down the one path and back up the other.
abbrev pub cycle_nodes : {L : Type 0} → List (EntryOf L) → List (EntryOf L) → List ℕ
cycle_nodes up down = nodes_along up ++ nodes_back down

abbrev pub cycle_links : {L : Type 0} → List (EntryOf L) → L → List (EntryOf L) → List L
cycle_links up closing down = links_along up ++ closing ∷ links_back down

-- each of the nodes is linked with the one before it, the first one with `from`
abbrev pub AreLinked : List Node → ℕ → List ℕ → List Link → Type 0
AreLinked nodes from [] [] = Unit {0}
AreLinked nodes from (n ∷ names) (l ∷ links) = Connects nodes l from n × AreLinked nodes n names links
AreLinked nodes from (n ∷ names) [] = ⊥
AreLinked nodes from [] (l ∷ links) = ⊥

-- The nodes of the cycle can become a blossom of which the one at which the paths part, a plus node, is the base.
abbrev pub CycleJoining : Type 0
CycleJoining = (p : Problem) (nodes : List Node) (tree : List Entry) (rest : List Link) (unmatched : List ℕ)
    (root r name a b : ℕ) (shared up down : List Entry) → IsSearch p nodes tree rest unmatched root r
    → is_in (plus_names root tree) a ≡ true → is_in (plus_names root tree) b ≡ true → ArePaths tree a b shared up down
    → is_outer
    (nodes
    ++ blossom_of name
    (child_at nodes (last_plus root shared) ∷ map (child_at nodes) (cycle_nodes up down)) ∷ []) name ≡ true
    → IsJoining nodes tree root name (child_at nodes (last_plus root shared))
    (map (child_at nodes) (cycle_nodes up down))

-- The links lead round it.
abbrev pub CycleLinked : Type 0
CycleLinked = (p : Problem) (nodes : List Node) (tree : List Entry) (rest : List Link) (unmatched : List ℕ)
    (root r a b : ℕ) (shared up down : List Entry) (closing : Link) → IsSearch p nodes tree rest unmatched root r
    → is_in (plus_names root tree) a ≡ true → is_in (plus_names root tree) b ≡ true → ArePaths tree a b shared up down
    → Connects nodes closing a b
    → AreLinked nodes (last_plus root shared) (cycle_nodes up down ++ last_plus root shared ∷ [])
    (cycle_links up closing down)

-- If the two plus nodes differ, the nodes are an odd number of at least three, each once.
abbrev pub CycleMany : Type 0
CycleMany = (p : Problem) (nodes : List Node) (tree : List Entry) (rest : List Link) (unmatched : List ℕ)
    (root r a b : ℕ) (shared up down : List Entry) → IsSearch p nodes tree rest unmatched root r
    → is_in (plus_names root tree) a ≡ true → is_in (plus_names root tree) b ≡ true → ArePaths tree a b shared up down
    → (a ≡ b → ⊥) → AreMany (last_plus root shared ∷ cycle_nodes up down)

-- And there is a minus node among them, so that forming the blossom leaves less to do.
abbrev pub CycleMinus : Type 0
CycleMinus = (p : Problem) (nodes : List Node) (tree : List Entry) (rest : List Link) (unmatched : List ℕ)
    (root r a b : ℕ) (shared up down : List Entry) → IsSearch p nodes tree rest unmatched root r
    → is_in (plus_names root tree) a ≡ true → is_in (plus_names root tree) b ≡ true → ArePaths tree a b shared up down
    → (a ≡ b → ⊥)
    → (minus : ℕ) × (is_in (minus_names tree) minus ≡ true)
    × (is_in (names_of (child_at nodes (last_plus root shared) ∷ map (child_at nodes) (cycle_nodes up down))) minus
    ≡ true)
