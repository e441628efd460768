-- Two parts fused over the seam between them (Wu and Zhong 2023), in one law, and the unmatched nodes with which the
-- whole begins.
use Rattle.std.specs.Prelude.{ℕ, ◌≡◌, ◌+◌, ◌||◌, Bool, true, false, List, ◌++◌, map, length, All}
use Rattle.std.specs.List.Sorted.{IsPermutation}
use Rattle.fb_graph.specs.Parity.{is_in}
use Rattle.fb_graph.specs.Problem.{Problem}
use Rattle.fb_graph.specs.Certificate.{AreDistinct}
use Rattle.fb_graph.specs.Limits.{IsWithinLimits}
use Rattle.fb_graph.specs.Laws.{Link}
use Rattle.fb_graph.specs.Dual.{Node, is_live}
use Rattle.fb_graph.specs.NestUnions.{AreParts, HaveOwnNames}
use Rattle.fb_laws.specs.Merging.{Freed, IsSeam, freed_links, freed_names}
use Rattle.fb_laws.specs.NestedSearches.{IsNestedWork}
use Rattle.fb_graph.specs.Singles.{Single, nodes_of, vertices_of}

-- two separated parts, no name of the one being one of the other
pub record MayMerge (left right whole : Problem) (nodes others : List Node) (unmatched more : List ℕ) : Type 0 where
  pub parts : AreParts left right whole
  pub names : HaveOwnNames nodes others
  pub left_only : (n : ℕ) → is_in unmatched n ≡ true → is_live others n ≡ false
  pub right_only : (n : ℕ) → is_in more n ≡ true → is_live nodes n ≡ false

-- further nodes of the whole: names of their own, each once, and different real vertices
pub record AreFurther (whole : Problem) (nodes : List Node) (singles : List Single) : Type 0 where
  pub names : AreDistinct (map (λ s. s.name) singles)
  pub own : HaveOwnNames nodes (nodes_of singles)
  pub vertices : AreDistinct (vertices_of singles)
  pub real : All (λ s. whole.is_real s.vertex ≡ true) singles

-- the whole with the real vertices of its two parts alone
abbrev pub without_seam : Problem → Problem → Problem → Problem
without_seam left right whole = record whole { is_real = λ v. left.is_real v || right.is_real v }

-- the unmatched nodes with which the whole begins: those of the parts, those matched to the seam, and its defects
abbrev pub fused_unmatched : List ℕ → List ℕ → List Freed → List Single → List ℕ
fused_unmatched unmatched more freed singles =
    (unmatched ++ more) ++ (freed_names freed ++ map (λ s. s.name) singles)

abbrev pub NestedFused : Type 0
NestedFused = (left right whole : Problem) (nodes others : List Node) (links others_links rest : List Link)
    (unmatched more : List ℕ) (freed : List Freed) (singles : List Single) (seam : ℕ → Bool) → IsWithinLimits whole
    → MayMerge left right whole nodes others unmatched more
    → IsSeam (without_seam left right whole) whole (nodes ++ others) freed rest singles seam
    → AreFurther whole (nodes ++ others) singles → IsPermutation (links ++ others_links) (freed_links freed ++ rest)
    → IsNestedWork left nodes links unmatched → IsNestedWork right others others_links more
    → IsNestedWork whole ((nodes ++ others) ++ nodes_of singles) rest (fused_unmatched unmatched more freed singles)

-- Their number is that of both parts, of the links to the seam and of the defects on it.
abbrev pub UnmatchedCounted : Type 0
UnmatchedCounted = (unmatched more : List ℕ) (freed : List Freed) (singles : List Single)
    → length (fused_unmatched unmatched more freed singles)
    ≡ length unmatched + length more + length freed + length singles
