-- Two parts of a problem fused (Wu and Zhong 2023): what their cuts and links are in the whole.
use Rattle.std.specs.Prelude.{ℕ, ◌≡◌, ◌≢◌, ◌+◌, ◌%◌, ◌⊎◌, true, false, List, [], ◌∷◌, ◌++◌, All}
use Rattle.fb_graph.specs.Parity.{is_in}
use Rattle.fb_graph.specs.Problem.{Problem, edge_at}
use Rattle.fb_graph.specs.Certificate.{IsOddCut}
use Rattle.fb_graph.specs.Components.{IsWalkBy}
use Rattle.fb_graph.specs.Laws.{Link, IsTight, IsPerfect, has_real_end}
use Rattle.fb_graph.specs.Dual.{height_of}
use Rattle.fb_graph.specs.declared.parts.Cut.{Cut}
use Rattle.fb_graph.specs.Counts.{as_count}
use Rattle.fb_graph.specs.Ends.{ends_in}
use Rattle.fb_laws.specs.Paths.{LeadsOut, IsWhole, holds}
use Rattle.fb_graph.specs.Links.{IsTightLink, AreEven}
use Rattle.fb_graph.specs.NestUnions.{AreParts}

-- a link of the problem: a walk that isn't empty, each of whose edges has a real end
pub record IsLinkOf (p : Problem) (l : Link) : Type 0 where
  pub walk : IsWalkBy p l.walk l.from l.to
  pub moves : l.walk ≢ []
  pub real : All (λ k. has_real_end p (edge_at p.edges k) ≡ true) l.walk

-- The order of the two parts doesn't matter.
abbrev pub PartsTurned : Type 0
PartsTurned = (left right whole : Problem) → AreParts left right whole → AreParts right left whole

-- A link of the one part has no end that is real in the other, also if it ends at the boundary.
abbrev pub LinkEndsAway : Type 0
LinkEndsAway = (left right whole : Problem) (l : Link) → AreParts left right whole → IsLinkOf left l
    → (right.is_real l.from ≡ false) × (right.is_real l.to ≡ false)

-- So the other part's cuts don't load it, and it stays tight.
abbrev pub TightFused : Type 0
TightFused = (left right whole : Problem) (cuts more : List Cut) (l : Link) → AreParts left right whole
    → All (IsOddCut right) more → IsLinkOf left l → IsTight left cuts l → IsTight whole (cuts ++ more) l

abbrev pub TightFusedRight : Type 0
TightFusedRight = (left right whole : Problem) (cuts more : List Cut) (l : Link) → AreParts left right whole
    → All (IsOddCut left) cuts → IsLinkOf right l → IsTight right more l → IsTight whole (cuts ++ more) l

-- No end of it lies in a set of the other part.
abbrev pub FusedEnds : Type 0
FusedEnds = (left right whole : Problem) (set : List ℕ) (links : List Link) → AreParts left right whole
    → All (IsLinkOf left) links → All (λ v. right.is_real v ≡ true) set → ends_in set links ≡ 0

-- A vertex that isn't real has no potential, and no set holds it: a seam vertex before the fusion, so that it begins
-- there with none.
abbrev pub BoundaryHeight : Type 0
BoundaryHeight = (p : Problem) (cuts : List Cut) (v : ℕ) → All (IsOddCut p) cuts → p.is_real v ≡ false
    → height_of cuts v ≡ 0

-- Potentials of the one part stay.
abbrev pub HeightFused : Type 0
HeightFused = (left right whole : Problem) (cuts more : List Cut) (v : ℕ) → AreParts left right whole
    → All (IsOddCut right) more → left.is_real v ≡ true → height_of (cuts ++ more) v ≡ height_of cuts v

-- A link to a seam vertex forgotten: the node that it matched has no end any more, all others have theirs.
abbrev pub Forgotten : Type 0
Forgotten = (set node : List ℕ) (l : Link) (seam : ℕ) (rest : List Link) → LeadsOut l node seam → IsWhole set node
    → is_in set seam ≡ false → ends_in set (l ∷ rest) ≡ ends_in set rest + as_count (holds set node)

-- Its defect has an even potential, as every unmatched one must.
abbrev pub SeamParity : Type 0
SeamParity = (p : Problem) (cuts : List Cut) (l : Link) → AreEven p → All (IsOddCut p) cuts → IsTightLink p cuts l
    → p.is_real l.to ≡ false → height_of cuts l.from % 2 ≡ 0

-- If the whole has no real vertices but those of its parts, their perfect matchings together are one.
abbrev pub FusedPerfect : Type 0
FusedPerfect = (left right whole : Problem) (cuts more : List Cut) (links others : List Link)
    → AreParts left right whole
    → ((v : ℕ) → whole.is_real v ≡ true → (left.is_real v ≡ true) ⊎ (right.is_real v ≡ true))
    → All (IsOddCut left) cuts → All (IsOddCut right) more → All (IsLinkOf left) links → All (IsLinkOf right) others
    → IsPerfect left cuts links → IsPerfect right more others → IsPerfect whole (cuts ++ more) (links ++ others)
