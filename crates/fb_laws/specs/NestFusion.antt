-- Whole states of two parts as one of the whole, and seam vertices that become defects of it.
use Rattle.std.specs.Prelude.{ℕ, ◌≡◌, ◌⊎◌, Bool, true, false, List, ◌++◌, map, All}
use Rattle.fb_graph.specs.Parity.{is_in}
use Rattle.fb_graph.specs.Problem.{Problem}
use Rattle.fb_graph.specs.Certificate.{AreDistinct}
use Rattle.fb_graph.specs.Limits.{IsWithinLimits}
use Rattle.fb_graph.specs.Laws.{Link}
use Rattle.fb_graph.specs.Dual.{Node, is_live}
use Rattle.fb_graph.specs.Links.{AreEven}
use Rattle.fb_graph.specs.NestUnions.{AreParts, HaveOwnNames}
use Rattle.fb_graph.specs.Singles.{Single, nodes_of, vertices_of}
use Rattle.fb_laws.specs.Merging.{Freed, IsSeam, freed_links, freed_names}
use Rattle.fb_laws.specs.NestedSearches.{IsNestedWork}

-- The whole states of two separated parts are one of the whole, if its real vertices are those of the parts.
abbrev pub NestedMerged : Type 0
NestedMerged = (left right whole : Problem) (nodes others : List Node) (links more : List Link)
    (unmatched open_ : List ℕ) → IsWithinLimits whole → AreParts left right whole
    → ((v : ℕ) → whole.is_real v ≡ true → (left.is_real v ≡ true) ⊎ (right.is_real v ≡ true))
    → HaveOwnNames nodes others → ((n : ℕ) → is_in open_ n ≡ true → is_live nodes n ≡ false)
    → ((n : ℕ) → is_in unmatched n ≡ true → is_live others n ≡ false)
    → IsNestedWork left nodes links unmatched → IsNestedWork right others more open_
    → IsNestedWork whole (nodes ++ others) (links ++ more) (unmatched ++ open_)

-- With the seam made real, freed nodes and the seam's own defects are unmatched.
abbrev pub NestedSeam : Type 0
NestedSeam = (p whole : Problem) (nodes : List Node) (freed : List Freed) (links : List Link) (singles : List Single)
    (seam : ℕ → Bool) (unmatched : List ℕ) → AreEven p → IsWithinLimits whole
    → IsSeam p whole nodes freed links singles seam → AreDistinct (map (λ s. s.name) singles)
    → AreDistinct (vertices_of singles) → All (λ s. whole.is_real s.vertex ≡ true) singles
    → HaveOwnNames nodes (nodes_of singles) → IsNestedWork p nodes (freed_links freed ++ links) unmatched
    → IsNestedWork whole (nodes ++ nodes_of singles) links
    (unmatched ++ (freed_names freed ++ map (λ s. s.name) singles))
