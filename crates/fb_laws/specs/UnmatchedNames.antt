-- Unmatched names as those of outer nodes. This is kept beside a matching, which says of outer nodes alone whether
-- they are unmatched: so no child of a blossom is when the blossom is opened.
use Rattle.std.specs.Prelude.{ℕ, ◌≡◌, true, false, List, ◌∷◌, ◌++◌, map}
use Rattle.fb_graph.specs.Parity.{is_in}
use Rattle.fb_graph.specs.Dual.{Node, is_live, is_outer}
use Rattle.fb_graph.specs.Steps.{Roles, stepped_nodes}
use Rattle.fb_graph.specs.Singles.{Single, nodes_of}
use Rattle.fb_graph.specs.Moves.{joined_nodes, split_nodes, absorbed_nodes, uncovered_nodes}
use Rattle.fb_graph.specs.Nests.{IsForest}

abbrev pub AreOuterNames : List Node → List ℕ → Type 0
AreOuterNames nodes names = (n : ℕ) → is_in names n ≡ true → is_outer nodes n ≡ true

-- At the beginning all nodes are outer, and names are outer if more names are.
abbrev pub OuterBegin : Type 0
OuterBegin = (singles : List Single) → AreOuterNames (nodes_of singles) (map (λ s. s.name) singles)

abbrev pub OuterFewer : Type 0
OuterFewer = (nodes : List Node) (names fewer : List ℕ)
    → ((n : ℕ) → is_in fewer n ≡ true → is_in names n ≡ true)
    → AreOuterNames nodes names → AreOuterNames nodes fewer

-- Steps, vertices absorbed, layers taken off and blossoms split leave outer names outer.
abbrev pub OuterStepped : Type 0
OuterStepped = (roles : Roles) (nodes : List Node) (k : ℕ) (names : List ℕ) → AreOuterNames nodes names
    → AreOuterNames (stepped_nodes roles k nodes) names

abbrev pub OuterAbsorbed : Type 0
OuterAbsorbed = (nodes : List Node) (name v : ℕ) (names : List ℕ) → AreOuterNames nodes names
    → AreOuterNames (absorbed_nodes name v nodes) names

abbrev pub OuterUncovered : Type 0
OuterUncovered = (nodes : List Node) (name : ℕ) (names : List ℕ) → AreOuterNames nodes names
    → AreOuterNames (uncovered_nodes name nodes) names

abbrev pub OuterSplit : Type 0
OuterSplit = (nodes : List Node) (name : ℕ) (names : List ℕ) → AreOuterNames nodes names
    → AreOuterNames (split_nodes name nodes) names

-- When nodes are joined, their names must not stay among the unmatched ones.
abbrev pub OuterJoined : Type 0
OuterJoined = (nodes : List Node) (name : ℕ) (children names remaining : List ℕ)
    → is_outer (joined_nodes name children nodes) name ≡ true
    → ((n : ℕ) → is_in children n ≡ true → is_in remaining n ≡ false)
    → ((n : ℕ) → is_in children n ≡ false → (n ≡ name → ⊥) → is_in remaining n ≡ is_in names n)
    → AreOuterNames nodes names → AreOuterNames (joined_nodes name children nodes) remaining

-- Outer names of either side are outer in both together, if none is that of a node of the other side.
abbrev pub OuterBeside : Type 0
OuterBeside = (nodes others : List Node) (names more : List ℕ) → IsForest nodes → IsForest others
    → ((n : ℕ) → is_in more n ≡ true → is_live nodes n ≡ false)
    → ((n : ℕ) → is_in names n ≡ true → is_live others n ≡ false) → AreOuterNames nodes names
    → AreOuterNames others more → AreOuterNames (nodes ++ others) (names ++ more)

-- Beside nodes without children each outer name stays outer.
abbrev pub OuterSinglesAdded : Type 0
OuterSinglesAdded = (nodes : List Node) (singles : List Single) (names : List ℕ) → IsForest nodes
    → ((n : ℕ) → is_in (map (λ s. s.name) singles) n ≡ true → is_live nodes n ≡ false) → AreOuterNames nodes names
    → AreOuterNames (nodes ++ nodes_of singles) (names ++ map (λ s. s.name) singles)

-- So no child of a blossom is unmatched.
abbrev pub NoChildUnmatched : Type 0
NoChildUnmatched = (before after : List Node) (b : Node) (names : List ℕ) → AreOuterNames (before ++ b ∷ after) names
    → (n : ℕ) → is_in b.children n ≡ true → is_in names n ≡ false
