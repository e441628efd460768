-- The parities of potentials in a search. Weights are even, so all defects of a tree have potentials of one parity,
-- and no value is a half (Edmonds 1965; Wu and Zhong 2023).
use Rattle.std.specs.Prelude.{ℕ, ◌≡◌, ◌+◌, ◌%◌, ◌==◌, ◌||◌, ◌⊎◌, Bool, true, false, List, Some}
use Rattle.fb_graph.specs.Parity.{is_in}
use Rattle.fb_graph.specs.Problem.{Problem}
use Rattle.fb_graph.specs.Certificate.{load_of}
use Rattle.fb_graph.specs.Components.{Leads}
use Rattle.fb_graph.specs.Laws.{Link}
use Rattle.fb_graph.specs.Dual.{Node, IsDual, all_cuts, leaves, cover_of, height_of, AreUnderOne, AreOuterApart}
use Rattle.fb_graph.specs.declared.parts.Edge.{Edge}
use Rattle.fb_graph.specs.Steps.{Roles, AllowShrinking, stepped_nodes}
use Rattle.fb_graph.specs.Covers.{AreRoles, HaveParity, is_covered_by}
use Rattle.fb_graph.specs.Links.{IsTightLink, AreEven}

-- any two defects under one outer node have potentials of one parity
abbrev pub HaveOneParity : List Node → Type 0
HaveOneParity nodes = (d e name : ℕ) → is_in (leaves nodes) d ≡ true → is_in (leaves nodes) e ≡ true
    → cover_of nodes d ≡ Some name → cover_of nodes e ≡ Some name
    → height_of (all_cuts nodes) d % 2 ≡ height_of (all_cuts nodes) e % 2

-- So has every vertex under such a node.
abbrev pub CoveredParity : Type 0
CoveredParity = (p : Problem) (test : ℕ → Bool) (nodes : List Node) (r v : ℕ) → IsDual p nodes → HaveParity test nodes r
    → is_covered_by test nodes v ≡ true → height_of (all_cuts nodes) v % 2 ≡ r

-- A node that a tree's node meets over a tight edge has the tree's parity.
abbrev pub MetParity : Type 0
MetParity = (p : Problem) (test : ℕ → Bool) (nodes : List Node) (r : ℕ) (e : Edge) (u v name : ℕ) → IsDual p nodes
    → HaveOneParity nodes → HaveParity test nodes r → Leads e u v → e.weight % 2 ≡ 0
    → load_of (all_cuts nodes) e ≡ e.weight → ¬ AreUnderOne nodes e.first e.second → is_covered_by test nodes u ≡ true
    → cover_of nodes v ≡ Some name → HaveParity (λ n. n == name) nodes r

-- And so has the node that a tight link leads to.
abbrev pub LinkedParity : Type 0
LinkedParity = (p : Problem) (test : ℕ → Bool) (nodes : List Node) (r : ℕ) (l : Link) (name : ℕ) → IsDual p nodes
    → HaveOneParity nodes → HaveParity test nodes r → AreEven p → IsTightLink p (all_cuts nodes) l
    → ¬ AreUnderOne nodes l.from l.to → is_covered_by test nodes l.from ≡ true → cover_of nodes l.to ≡ Some name
    → HaveParity (λ n. n == name) nodes r

-- Nodes of one parity together.
abbrev pub ParitiesJoined : Type 0
ParitiesJoined = (test other : ℕ → Bool) (nodes : List Node) (r : ℕ) → HaveParity test nodes r
    → HaveParity other nodes r
    → HaveParity (λ n. test n || other n) nodes r

-- A step changes the parity of all the tree's nodes alike, since a shrinking and a growing node change by one length.
abbrev pub TreeParityStepped : Type 0
TreeParityStepped = (roles : Roles) (test : ℕ → Bool) (nodes : List Node) (k r : ℕ) → AreOuterApart nodes
    → AreRoles roles nodes → AllowShrinking roles nodes k
    → ((n : ℕ) → test n ≡ true → (roles.is_plus n ≡ true) ⊎ (roles.is_minus n ≡ true)) → HaveParity test nodes r
    → HaveParity test (stepped_nodes roles k nodes) ((r + k) % 2)

-- It leaves those outside.
abbrev pub OtherParityStepped : Type 0
OtherParityStepped = (roles : Roles) (test : ℕ → Bool) (nodes : List Node) (k r : ℕ) → AreOuterApart nodes
    → AreRoles roles nodes → AllowShrinking roles nodes k
    → ((n : ℕ) → test n ≡ true → (roles.is_plus n ≡ false) × (roles.is_minus n ≡ false)) → HaveParity test nodes r
    → HaveParity test (stepped_nodes roles k nodes) r

abbrev pub OneParityStepped : Type 0
OneParityStepped = (roles : Roles) (nodes : List Node) (k : ℕ) → AreOuterApart nodes → AreRoles roles nodes
    → AllowShrinking roles nodes k → HaveOneParity nodes → HaveOneParity (stepped_nodes roles k nodes)
