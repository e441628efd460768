-- The components of a problem by labels: the label of a vertex is the least vertex of its component.
use Rattle.std.specs.Prelude.{ℕ, ◌≡◌, ◌<◌, ◌≤◌, ◌==◌, ◌&&◌, Bool, true, false, not, List, length, map, get_or, filter, All}
use Rattle.std.specs.List.{range_with_len, list_any}
use Rattle.fb_graph.specs.Parity.{is_odd_count}
use Rattle.fb_graph.specs.Components.{IsJoined}
use Rattle.fb_graph.specs.Limits.{IsWithinLimits}
use Rattle.fb_graph.specs.Problem.{Problem}

abbrev pub label_of : List ℕ → ℕ → ℕ
label_of labels v = get_or labels v 0

-- Each vertex is joined to its label, which is not above it, and both ends of an edge have one label. So the vertices
-- of one label are a component, and the label is its least vertex.
pub record IsLabelling (p : Problem) (labels : List ℕ) : Type 0 where
  pub count : length labels ≡ p.vertices
  pub low : (v : ℕ) → v < p.vertices → label_of labels v ≤ v
  pub joined : (v : ℕ) → v < p.vertices → IsJoined p v (label_of labels v)
  pub ends : All (λ e. label_of labels e.first ≡ label_of labels e.second) p.edges

-- some vertex below n of this label is boundary
abbrev pub has_boundary : Problem → List ℕ → ℕ → ℕ → Bool
has_boundary p labels n label = list_any (λ v. label_of labels v == label && not (p.is_real v)) (range_with_len 0 n)

-- for each label, whether its component has a boundary vertex
pub record IsBounded (p : Problem) (labels : List ℕ) (bounded : List Bool) : Type 0 where
  pub count : length bounded ≡ p.vertices
  pub each : (label : ℕ) → label < p.vertices → get_or bounded label false ≡ has_boundary p labels p.vertices label

-- no flag is set
abbrev pub AreClear : List Bool → Type 0
AreClear flags = (k : ℕ) → get_or flags k false ≡ false

-- what is kept of a problem whose components are known
pub record IsServed (p : Problem) (labels : List ℕ) (bounded odd : List Bool) : Type 0 where
  pub limits : IsWithinLimits p
  pub labelling : IsLabelling p labels
  pub boundary : IsBounded p labels bounded
  pub odd_count : length odd ≡ p.vertices
  pub clear : AreClear odd

-- for each label, whether an odd number of the defects has it
abbrev pub AreOdd : List ℕ → List ℕ → List Bool → Type 0
AreOdd labels defects odd =
    (label : ℕ) → label < length labels → get_or odd label false ≡ is_odd_count (λ d. label_of labels d == label) defects

-- each flag that is set is that of one of the defects' labels
abbrev pub AreOf : List ℕ → List ℕ → List Bool → Type 0
AreOf labels defects flags =
    (label : ℕ) → get_or flags label false ≡ true → list_any (λ d. label_of labels d == label) defects ≡ true

-- the labels of the defects' components that are odd and have no boundary vertex
abbrev pub odd_labels : List ℕ → List Bool → List Bool → List ℕ → List ℕ
odd_labels labels bounded odd defects =
    filter (λ label. get_or odd label false && not (get_or bounded label false)) (map (label_of labels) defects)
