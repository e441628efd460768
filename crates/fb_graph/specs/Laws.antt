-- What follows from the definitions alone.
use Rattle.std.specs.Prelude.{ℕ, ◌≡◌, ◌≤◌, ◌<◌, ◌==◌, ◌||◌, Bool, true, false, Some, None, List, ◌++◌, length, All, filter, sum_by, count_by, flat_map}
use Rattle.std.specs.List.{range_with_len}
use Rattle.std.specs.List.Sorted.{IsStrictlyIncreasing}
use Rattle.fb_graph.specs.Parity.{differ, is_odd_count, is_in}
use Rattle.fb_graph.specs.Problem.{Problem, Flips, IsEdgeSet, edge_at, weight_of, touches, crosses}
use Rattle.fb_graph.specs.Certificate.{AreDistinct, IsOddCut, IsPacking, IsCertified, load_of, total_value}
use Rattle.fb_graph.specs.Components.{IsWalkBy, IsJoined, IsOddAt, IsFirstOdd}
use Rattle.fb_graph.specs.declared.parts.Edge.{Edge}
use Rattle.fb_graph.specs.declared.parts.Cut.{Cut}

-- Weak duality (Edmonds and Johnson 1973): feasible odd cuts add up to at most what any correction weighs. It holds
-- of every list of edge numbers in range, so of every edge set.
abbrev pub WeakDuality : Type 0
WeakDuality = (p : Problem) (cuts : List Cut) (chosen : List ℕ) → IsPacking p cuts
    → All (λ k. k < length p.edges) chosen → Flips p chosen → total_value cuts ≤ weight_of p chosen

-- No correction weighs less than one with a certificate.
abbrev pub LeastWeight : Type 0
LeastWeight = (p : Problem) (chosen : List ℕ) (weight : ℕ) (cuts : List Cut) → IsCertified p chosen weight cuts
    → (other : List ℕ) → IsEdgeSet p other → Flips p other → weight ≤ weight_of p other

-- Two corrections of one problem, each with a certificate, weigh the same.
abbrev pub EqualWeights : Type 0
EqualWeights = (p : Problem) (chosen other : List ℕ) (weight other_weight : ℕ) (cuts other_cuts : List Cut)
    → IsCertified p chosen weight cuts → IsCertified p other other_weight other_cuts → weight ≡ other_weight

-- An odd component without boundary has no correction: each edge has both ends in it or none, so that the edges of
-- any list end in it an even number of times.
abbrev pub NoCorrection : Type 0
NoCorrection = (p : Problem) (v : ℕ) → IsOddAt p v
    → (chosen : List ℕ) → All (λ k. k < length p.edges) chosen → ¬ Flips p chosen

-- A problem with a certified correction has no odd component.
abbrev pub CertifiedHasNoOdd : Type 0
CertifiedHasNoOdd = (p : Problem) (chosen : List ℕ) (weight : ℕ) (cuts : List Cut)
    → IsCertified p chosen weight cuts → IsFirstOdd p None

-- distinct real vertices that no edge of the problem leaves
pub record IsClosed (p : Problem) (set : List ℕ) : Type 0 where
  pub distinct : AreDistinct set
  pub real : All (λ v. p.is_real v ≡ true) set
  pub uncrossed : All (λ e. crosses set e ≡ false) p.edges

-- a closed set, below the number of vertices, whose members are joined to v, which is one of them
pub record IsClosedRound (p : Problem) (v : ℕ) (set : List ℕ) : Type 0 where
  pub closed : IsClosed p set
  pub below : All (λ u. u < p.vertices) set
  pub holds : is_in set v ≡ true
  pub joined : (u : ℕ) → is_in set u ≡ true → IsJoined p v u

-- A closed set with an odd number of defects, all of it joined to v, is an odd component without boundary.
abbrev pub ClosedIsOdd : Type 0
ClosedIsOdd = (p : Problem) (v : ℕ) (set : List ℕ) → IsClosedRound p v set → is_odd_count p.is_defect set ≡ true
    → IsOddAt p v

-- If it holds all defects, then its least member is the first odd one.
abbrev pub LeastIsFirstOdd : Type 0
LeastIsFirstOdd = (p : Problem) (v : ℕ) (set : List ℕ) → IsClosedRound p v set → is_odd_count p.is_defect set ≡ true
    → ((u : ℕ) → p.is_defect u ≡ true → p.is_real u ≡ true → is_in set u ≡ true)
    → (least : ℕ) → is_in set least ≡ true → ((u : ℕ) → is_in set u ≡ true → least ≤ u)
    → IsFirstOdd p (Some least)

-- So there is a first odd one.
abbrev pub SomeIsFirstOdd : Type 0
SomeIsFirstOdd = (p : Problem) (v : ℕ) (set : List ℕ) → IsClosedRound p v set → is_odd_count p.is_defect set ≡ true
    → ((u : ℕ) → p.is_defect u ≡ true → p.is_real u ≡ true → is_in set u ≡ true)
    → (least : ℕ) × IsFirstOdd p (Some least)

-- no closed set holds an odd number of defects
abbrev pub HasNoOddClosed : Problem → Type 0
HasNoOddClosed p = (set : List ℕ) → IsClosed p set → is_odd_count p.is_defect set ≡ false

-- A part of a problem: some of its real vertices with their defects, all others being boundary (the sub-problem of Wu
-- and Zhong 2023).
pub record IsPart (small large : Problem) : Type 0 where
  pub edges : small.edges ≡ large.edges
  pub real : (v : ℕ) → small.is_real v ≡ true → large.is_real v ≡ true
  pub defects : (v : ℕ) → small.is_real v ≡ true → small.is_defect v ≡ large.is_defect v

abbrev pub has_real_end : Problem → Edge → Bool
has_real_end p e = p.is_real e.first || p.is_real e.second

-- no vertex is real in both, and no edge has a real end of both
pub record AreSeparated (left right : Problem) : Type 0 where
  pub vertices : (v : ℕ) → left.is_real v ≡ true → right.is_real v ≡ false
  pub edges : All (λ e. has_real_end left e ≡ true → has_real_end right e ≡ false) left.edges

-- A part has no odd closed set if the whole has none.
abbrev pub PartHasNoOddClosed : Type 0
PartHasNoOddClosed = (small large : Problem) → IsPart small large → HasNoOddClosed large → HasNoOddClosed small

-- If there is no odd closed set, some edge leaves each odd cut, so that it can grow.
abbrev pub EdgeLeaves : Type 0
EdgeLeaves = (p : Problem) (c : Cut) → HasNoOddClosed p → IsOddCut p c
    → (k : ℕ) × (k < length p.edges) × (crosses c.vertices (edge_at p.edges k) ≡ true)

-- A packing of a part is one of the whole.
abbrev pub PackingOfPart : Type 0
PackingOfPart = (small large : Problem) (cuts : List Cut) → IsPart small large → IsPacking small cuts
    → IsPacking large cuts

-- Packings of two separated parts together are a packing of the whole.
abbrev pub PackingsJoined : Type 0
PackingsJoined = (left right whole : Problem) (cuts more : List Cut) → IsPart left whole → IsPart right whole
    → AreSeparated left right → IsPacking left cuts → IsPacking right more → IsPacking whole (cuts ++ more)

-- An odd number of a walk's edges end at a vertex if and only if exactly one of the walk's own ends is there.
abbrev pub WalkParity : Type 0
WalkParity = (p : Problem) (ks : List ℕ) (from to : ℕ) → IsWalkBy p ks from to
    → (v : ℕ) → is_odd_count (λ k. touches v (edge_at p.edges k)) ks ≡ differ (v == from) (v == to)

-- the numbers below n that occur in the list an odd number of times, rising
abbrev pub odd_ones : ℕ → List ℕ → List ℕ
odd_ones n ks = filter (λ k. is_odd_count (λ j. j == k) ks) (range_with_len 0 n)

-- They rise strictly, and are below n.
abbrev pub OddOnesRise : Type 0
OddOnesRise = (n : ℕ) (ks : List ℕ) → IsStrictlyIncreasing (odd_ones n ks) × All (λ k. k < n) (odd_ones n ks)

-- As many of them pass a test as in the list, up to an even number.
abbrev pub OddOnesCount : Type 0
OddOnesCount = (n : ℕ) (ks : List ℕ) → All (λ k. k < n) ks
    → (test : ℕ → Bool) → is_odd_count test (odd_ones n ks) ≡ is_odd_count test ks

-- They weigh at most what the list weighs.
abbrev pub OddOnesWeigh : Type 0
OddOnesWeigh = (n : ℕ) (ks : List ℕ) → All (λ k. k < n) ks
    → (weight : ℕ → ℕ) → sum_by weight (odd_ones n ks) ≤ sum_by weight ks

-- a walk between two vertices, by its edge numbers
pub record Link : Type 0 where
  pub from : ℕ
  pub to : ℕ
  pub walk : List ℕ

-- the link's ends, as those of an edge
abbrev pub ends_of : Link → Edge
ends_of l = record { first = l.from; second = l.to; weight = 0 }

-- the link's walk weighs what the cuts between its ends are worth (complementary slackness)
abbrev pub IsTight : Problem → List Cut → Link → Type 0
IsTight p cuts l = weight_of p l.walk ≡ load_of cuts (ends_of l)

-- Tight links that match the defects with one another or with the boundary: an odd number of ends at a real vertex
-- if and only if it is a defect, and no cut crossed by two of them (Edmonds 1965).
pub record IsPerfect (p : Problem) (cuts : List Cut) (links : List Link) : Type 0 where
  pub walks : All (λ l. IsWalkBy p l.walk l.from l.to) links
  pub tight : All (IsTight p cuts) links
  pub flips : (v : ℕ) → p.is_real v ≡ true → is_odd_count (λ l. touches v (ends_of l)) links ≡ p.is_defect v
  pub once : All (λ c. count_by (λ l. crosses c.vertices (ends_of l)) links ≤ 1) cuts

-- the edges that lie on an odd number of the links' walks
abbrev pub odd_edges : Problem → List Link → List ℕ
odd_edges p links = odd_ones (length p.edges) (flat_map (λ l. l.walk) links)

-- a correction that weighs what the cuts are worth
pub record IsSolved (p : Problem) (cuts : List Cut) (chosen : List ℕ) : Type 0 where
  pub edge_set : IsEdgeSet p chosen
  pub flips : Flips p chosen
  pub weighs : weight_of p chosen ≡ total_value cuts

-- The walks of a perfect matching of tight links add up to a correction of least weight.
abbrev pub Resolving : Type 0
Resolving = (p : Problem) (cuts : List Cut) (links : List Link) → IsPacking p cuts → IsPerfect p cuts links
    → IsSolved p cuts (odd_edges p links)

-- If no component is odd, no closed set is, since a closed set is made of components.
abbrev pub NoOddComponent : Type 0
NoOddComponent = (p : Problem) → ((v : ℕ) → p.is_real v ≡ true → v < p.vertices) → IsFirstOdd p None → HasNoOddClosed p

-- If no closed set is odd, no component is.
abbrev pub NoOddClosedSet : Type 0
NoOddClosedSet = (p : Problem) → HasNoOddClosed p → IsFirstOdd p None
