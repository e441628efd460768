-- The dual state with which a search begins: a node for each defect, with one layer.
use Rattle.std.specs.Prelude.{ℕ, ◌≡◌, ◌≤◌, ◌^◌, true, List, [], ◌∷◌, map, All}
use Rattle.fb_graph.specs.Problem.{Problem, with_defects}
use Rattle.fb_graph.specs.Certificate.{AreDistinct, IsPacking, total_value}
use Rattle.fb_graph.specs.Dual.{Node, IsDual, IsHeld, all_cuts}

-- a defect with the name and the value of its node
pub record Single : Type 0 where
  pub name : ℕ
  pub vertex : ℕ
  pub value : ℕ

abbrev pub node_of : Single → Node
node_of s = record {
  name = s.name;
  children = [];
  below = [];
  top = record { value = s.value; vertices = s.vertex ∷ [] };
}

abbrev pub nodes_of : List Single → List Node
nodes_of singles = map node_of singles

abbrev pub vertices_of : List Single → List ℕ
vertices_of singles = map (λ s. s.vertex) singles

-- different names at different real vertices, whose cuts are feasible and held
pub record AreSingles (p : Problem) (singles : List Single) : Type 0 where
  pub names : AreDistinct (map (λ s. s.name) singles)
  pub vertices : AreDistinct (vertices_of singles)
  pub real : All (λ s. p.is_real s.vertex ≡ true) singles
  pub packing : IsPacking (with_defects p (vertices_of singles)) (all_cuts (nodes_of singles))
  pub held : All (IsHeld p) (all_cuts (nodes_of singles))
  pub total : total_value (all_cuts (nodes_of singles)) ≤ 2 ^ 52

-- Such nodes are a dual state.
abbrev pub SinglesAreDual : Type 0
SinglesAreDual = (p : Problem) (singles : List Single) → AreSingles p singles → IsDual p (nodes_of singles)

-- Without values their cuts are feasible, so that a search may begin with any defects.
abbrev pub BeginningIsDual : Type 0
BeginningIsDual = (p : Problem) (singles : List Single) → AreDistinct (map (λ s. s.name) singles)
    → AreDistinct (vertices_of singles) → All (λ s. p.is_real s.vertex ≡ true) singles → All (λ s. s.value ≡ 0) singles
    → IsDual p (nodes_of singles)
