-- Which defects each node holds, kept beside the nodes' sets: a blossom holds what its children hold.
use Rattle.std.specs.Prelude.{ℕ, ◌≡◌, ◌&&◌, true, false, List, All, Some}
use Rattle.std.specs.List.{list_any}
use Rattle.fb_graph.specs.Parity.{is_in}
use Rattle.fb_graph.specs.Problem.{Problem}
use Rattle.fb_graph.specs.Dual.{Node, cover_of, defects_of, is_empty, is_live, is_outer, leaves}
use Rattle.fb_graph.specs.Nests.{IsNest}

-- a node that joins no others holds its own defect, a blossom what one of its children holds
pub record AreHeld (nodes : List Node) (held : ℕ → List ℕ) : Type 0 where
  pub own : All
      (λ n. is_empty n.children ≡ true → (d : ℕ) → is_in (held n.name) d ≡ is_in (defects_of n) d)
      nodes
  pub joined : All
      (λ n. is_empty n.children ≡ false → (d : ℕ) → is_in (held n.name) d ≡ list_any (λ c. is_in (held c) d) n.children)
      nodes

-- Then each node holds the defects that lie in its set, and no others.
abbrev pub HeldInSets : Type 0
HeldInSets = (p : Problem) (nodes : List Node) (held : ℕ → List ℕ) → IsNest p nodes → AreHeld nodes held
    → All (λ n. (d : ℕ) → is_in (held n.name) d ≡ (is_in (leaves nodes) d && is_in n.top.vertices d)) nodes

-- So the outer node over a defect is the one that holds it.
abbrev pub HeldIsCovered : Type 0
HeldIsCovered = (p : Problem) (nodes : List Node) (held : ℕ → List ℕ) (name d : ℕ) → IsNest p nodes
    → AreHeld nodes held → is_live nodes name ≡ true → is_outer nodes name ≡ true → is_in (held name) d ≡ true
    → cover_of nodes d ≡ Some name

abbrev pub CoveredIsHeld : Type 0
CoveredIsHeld = (p : Problem) (nodes : List Node) (held : ℕ → List ℕ) (name d : ℕ) → IsNest p nodes
    → AreHeld nodes held → is_in (leaves nodes) d ≡ true → cover_of nodes d ≡ Some name
    → (is_live nodes name ≡ true) × (is_outer nodes name ≡ true) × (is_in (held name) d ≡ true)
