-- Two half-solved parts fused over the seam between them (Wu and Zhong 2023).
use Rattle.std.specs.Prelude.{ℕ, ◌≡◌, ◌⊎◌, Bool, true, List, ◌++◌, map, if◌then◌else◌}
use Rattle.std.specs.List.Sorted.{IsPermutation}
use Rattle.fb_graph.specs.Problem.{Problem}
use Rattle.fb_graph.specs.Limits.{IsWithinLimits}
use Rattle.fb_graph.specs.Laws.{Link}
use Rattle.fb_graph.specs.Links.{AreEven}
use Rattle.fb_graph.specs.Dual.{is_live}
use Rattle.fb_graph.specs.NestUnions.{AreParts, HaveOwnNames}
use Rattle.fb_graph.specs.Singles.{Single, nodes_of}
use Rattle.fb_laws.specs.FusedStates.{AreFurther, without_seam}
use Rattle.fb_laws.specs.Merging.{Freed, IsSeam, freed_links, freed_names}
use Rattle.fb_laws.specs.PartStates.{PartState, IsPartState}

-- the links round a blossom of either part
abbrev pub merged_cycles : PartState → PartState → ℕ → List Link
merged_cycles s t n = if is_live s.nodes n then s.cycles n else t.cycles n

-- two parts beside one another
abbrev pub merged_state : PartState → PartState → PartState
merged_state s t = record {
  nodes = s.nodes ++ t.nodes;
  cycles = merged_cycles s t;
  matches = s.matches ++ t.matches;
  unmatched = s.unmatched ++ t.unmatched;
}

-- They are one part, if the whole has no other real vertices and no name is one of both.
abbrev pub StateMerged : Type 0
StateMerged = (left right whole : Problem) (s t : PartState) → IsWithinLimits whole → AreParts left right whole
    → ((v : ℕ) → whole.is_real v ≡ true → (left.is_real v ≡ true) ⊎ (right.is_real v ≡ true))
    → HaveOwnNames s.nodes t.nodes → IsPartState left s → IsPartState right t → IsPartState whole (merged_state s t)

-- the part after its seam has become real: the links to the seam are forgotten, and its defects are further nodes
abbrev pub seamed_state : List Link → List Freed → List Single → PartState → PartState
seamed_state rest freed singles s = record {
  nodes = s.nodes ++ nodes_of singles;
  cycles = s.cycles;
  matches = rest;
  unmatched = s.unmatched ++ (freed_names freed ++ map (λ d. d.name) singles);
}

abbrev pub StateSeamed : Type 0
StateSeamed = (p whole : Problem) (s : PartState) (rest : List Link) (freed : List Freed) (singles : List Single)
    (seam : ℕ → Bool) → AreEven p → IsWithinLimits whole → IsSeam p whole s.nodes freed rest singles seam
    → AreFurther whole s.nodes singles → IsPermutation s.matches (freed_links freed ++ rest) → IsPartState p s
    → IsPartState whole (seamed_state rest freed singles s)

-- So two parts are fused: both beside one another, and then the seam between them made real.
abbrev pub StateFused : Type 0
StateFused = (left right whole : Problem) (s t : PartState) (rest : List Link) (freed : List Freed)
    (singles : List Single) (seam : ℕ → Bool) → IsWithinLimits whole → AreParts left right whole
    → HaveOwnNames s.nodes t.nodes
    → IsSeam (without_seam left right whole) whole (s.nodes ++ t.nodes) freed rest singles seam
    → AreFurther whole (s.nodes ++ t.nodes) singles
    → IsPermutation (s.matches ++ t.matches) (freed_links freed ++ rest)
    → IsPartState left s → IsPartState right t → IsPartState whole (seamed_state rest freed singles (merged_state s t))
