-- Nests of two parts as one nest of the whole.
use Rattle.std.specs.Prelude.{ℕ, ◌≡◌, true, false, List, ◌++◌, map, All}
use Rattle.fb_graph.specs.Problem.{Problem}
use Rattle.fb_graph.specs.Certificate.{AreDistinct, Fits}
use Rattle.fb_graph.specs.Limits.{IsWithinLimits}
use Rattle.fb_graph.specs.Laws.{IsPart, AreSeparated}
use Rattle.fb_graph.specs.Dual.{Node, all_cuts, is_live}
use Rattle.fb_graph.specs.Nests.{IsNest}
use Rattle.fb_graph.specs.SourceWalks.{HaveWalks}
use Rattle.fb_graph.specs.Singles.{Single, nodes_of, vertices_of}

-- two separated parts of a whole
pub record AreParts (left right whole : Problem) : Type 0 where
  pub left_part : IsPart left whole
  pub right_part : IsPart right whole
  pub separated : AreSeparated left right

-- no name is one of both lists
abbrev pub HaveOwnNames : List Node → List Node → Type 0
HaveOwnNames nodes others = (n : ℕ) → is_live nodes n ≡ true → is_live others n ≡ false

-- two lists of nodes over the same edges, on real vertices of their own and with names of their own, whose cuts fit
-- together
pub record AreBeside (left right whole : Problem) (nodes others : List Node) : Type 0 where
  pub left_edges : left.edges ≡ whole.edges
  pub right_edges : right.edges ≡ whole.edges
  pub left_real : (v : ℕ) → left.is_real v ≡ true → whole.is_real v ≡ true
  pub right_real : (v : ℕ) → right.is_real v ≡ true → whole.is_real v ≡ true
  pub parted : (v : ℕ) → left.is_real v ≡ true → right.is_real v ≡ false
  pub names : HaveOwnNames nodes others
  pub fits : Fits whole (all_cuts nodes ++ all_cuts others)

-- Two nests beside one another are a nest.
abbrev pub NestsBeside : Type 0
NestsBeside = (left right whole : Problem) (nodes others : List Node) → IsWithinLimits whole
    → AreBeside left right whole nodes others → IsNest left nodes → IsNest right others
    → IsNest whole (nodes ++ others)

-- So are nests of separated parts.
abbrev pub NestsMerged : Type 0
NestsMerged = (left right whole : Problem) (nodes others : List Node) → IsWithinLimits whole
    → AreParts left right whole → HaveOwnNames nodes others → IsNest left nodes → IsNest right others
    → IsNest whole (nodes ++ others)

-- And a nest of a part, with nodes without values for further defects of the whole.
abbrev pub NestSinglesAdded : Type 0
NestSinglesAdded = (p whole : Problem) (nodes : List Node) (singles : List Single) → IsWithinLimits whole → IsPart p whole
    → AreDistinct (map (λ s. s.name) singles) → AreDistinct (vertices_of singles)
    → All (λ s. whole.is_real s.vertex ≡ true) singles → All (λ s. p.is_real s.vertex ≡ false) singles
    → All (λ s. s.value ≡ 0) singles → HaveOwnNames nodes (nodes_of singles) → IsNest p nodes
    → IsNest whole (nodes ++ nodes_of singles)

-- Where each side has its source walks, both together have them.
abbrev pub WalksBeside : Type 0
WalksBeside = (left right whole : Problem) (nodes others : List Node) → AreBeside left right whole nodes others
    → IsNest left nodes → IsNest right others → HaveWalks left nodes → HaveWalks right others
    → HaveWalks whole (nodes ++ others)

abbrev pub WalksMerged : Type 0
WalksMerged = (left right whole : Problem) (nodes others : List Node) → AreParts left right whole
    → HaveOwnNames nodes others → IsNest left nodes → IsNest right others → HaveWalks left nodes
    → HaveWalks right others → HaveWalks whole (nodes ++ others)

abbrev pub WalksSinglesAdded : Type 0
WalksSinglesAdded = (p whole : Problem) (nodes : List Node) (singles : List Single) → IsPart p whole
    → AreDistinct (map (λ s. s.name) singles) → AreDistinct (vertices_of singles)
    → All (λ s. whole.is_real s.vertex ≡ true) singles → All (λ s. p.is_real s.vertex ≡ false) singles
    → All (λ s. s.value ≡ 0) singles → HaveOwnNames nodes (nodes_of singles) → IsNest p nodes → HaveWalks p nodes
    → HaveWalks whole (nodes ++ nodes_of singles)
