-- What a part of a problem keeps while some of its nodes are unmatched: its dual state and its matched links.
use Rattle.std.specs.Prelude.{ℕ, ◌≡◌, ◌+◌, ◌≤◌, ◌<◌, ◌==◌, not, true, false, List, [], ◌∷◌, ◌++◌, map, length, All, Some, filter}
use Rattle.std.specs.List.Sorted.{IsPermutation}
use Rattle.fb_graph.specs.Parity.{is_in}
use Rattle.fb_graph.specs.Problem.{Problem}
use Rattle.fb_graph.specs.Certificate.{AreDistinct, IsPacking, load_of, total_value}
use Rattle.fb_graph.specs.Printed.{is_positive}
use Rattle.fb_graph.specs.Laws.{Link, IsSolved, odd_edges}
use Rattle.fb_graph.specs.Dual.{Node, IsDual, all_cuts, leaves, cover_of, is_outer, node_at}
use Rattle.fb_graph.specs.declared.parts.Edge.{Edge}
use Rattle.fb_graph.specs.declared.parts.Cut.{Cut}
use Rattle.fb_graph.specs.Counts.{as_count}
use Rattle.fb_graph.specs.Steps.{Roles, AllowShrinking, gains, losses, stepped_nodes}
use Rattle.fb_graph.specs.Covers.{AreRoles, HaveParity}
use Rattle.fb_graph.specs.Ends.{ends_in}
use Rattle.fb_laws.specs.Paths.{Branch, IsPath, LeadsOut, tip_of, tree_links, matched_links}
use Rattle.fb_graph.specs.Links.{IsTightLink}
use Rattle.fb_laws.specs.Parities.{HaveOneParity}
use Rattle.fb_laws.specs.Fusion.{IsLinkOf}
use Rattle.fb_laws.specs.Opening.{IsLevel, EndAtDefects, Opened, IsOpenedTo, single_sets}
use Rattle.fb_graph.specs.Singles.{Single, nodes_of, vertices_of}
use Rattle.fb_graph.specs.Links.{pair}

-- tight links of the part between its defects, or from a defect to the boundary
pub record AreMatchedLinks (p : Problem) (nodes : List Node) (links : List Link) : Type 0 where
  pub tight : All (IsTightLink p (all_cuts nodes)) links
  pub own : All (IsLinkOf p) links
  pub at_defects : EndAtDefects p (leaves nodes) links

-- each outer node has one end of all links, or none if it is unmatched
abbrev pub AreMatched : List Node → List Link → List ℕ → Type 0
AreMatched nodes links unmatched =
    All (λ n. is_outer nodes n.name ≡ true → ends_in n.top.vertices links + as_count (is_in unmatched n.name) ≡ 1) nodes

-- the state's defects are those of the part
abbrev pub HasDefects : Problem → List Node → Type 0
HasDefects p nodes = (v : ℕ) → p.is_real v ≡ true → p.is_defect v ≡ is_in (leaves nodes) v

-- what holds at every moment, also while a tree grows
pub record IsMatching (p : Problem) (nodes : List Node) (links : List Link) (unmatched : List ℕ) : Type 0 where
  pub dual : IsDual p nodes
  pub defects : HasDefects p nodes
  pub links_are : AreMatchedLinks p nodes links
  pub matched : AreMatched nodes links unmatched
  pub one_parity : HaveOneParity nodes

-- Between searches the potentials of unmatched nodes are even. While a tree grows, its root is unmatched and its
-- potential may be odd, so that this is said of the others alone.
pub record IsWork (p : Problem) (nodes : List Node) (links : List Link) (unmatched : List ℕ) : Type 0 where
  pub matching : IsMatching p nodes links unmatched
  pub even : HaveParity (is_in unmatched) nodes 0

-- A part begins with all its defects unmatched.
abbrev pub WorkBegins : Type 0
WorkBegins = (p : Problem) (singles : List Single) → AreDistinct (map (λ s. s.name) singles)
    → AreDistinct (vertices_of singles) → All (λ s. p.is_real s.vertex ≡ true) singles → All (λ s. s.value ≡ 0) singles
    → ((v : ℕ) → p.is_real v ≡ true → p.is_defect v ≡ is_in (vertices_of singles) v)
    → IsWork p (nodes_of singles) [] (map (λ s. s.name) singles)

-- A step of a tree keeps its matching, as long as every matched link crosses as many plus as minus sets. (What
-- becomes of parities is said by their own laws.)
abbrev pub MatchingStepped : Type 0
MatchingStepped = (p : Problem) (roles : Roles) (nodes : List Node) (links : List Link) (unmatched : List ℕ) (k : ℕ)
    → AreRoles roles nodes → AllowShrinking roles nodes k → IsDual p (stepped_nodes roles k nodes)
    → All (λ l. gains roles nodes (pair l.from l.to) ≡ losses roles nodes (pair l.from l.to)) links
    → IsMatching p nodes links unmatched → IsMatching p (stepped_nodes roles k nodes) links unmatched

abbrev pub positive_cuts : List Node → List Cut
positive_cuts nodes = filter is_positive (all_cuts nodes)

-- Layers without value may be left out: the others are feasible odd cuts of the part with the same loads and total.
abbrev pub PositivePacking : Type 0
PositivePacking = (p : Problem) (nodes : List Node) → IsDual p nodes → HasDefects p nodes
    → IsPacking p (positive_cuts nodes)

abbrev pub PositiveLoads : Type 0
PositiveLoads = (nodes : List Node) (e : Edge) → load_of (positive_cuts nodes) e ≡ load_of (all_cuts nodes) e

abbrev pub PositiveTotal : Type 0
PositiveTotal = (nodes : List Node) → total_value (positive_cuts nodes) ≡ total_value (all_cuts nodes)

-- Each cut with a value lies under one outer node, since loads are sums of potentials for vertices that don't.
abbrev pub CutUnderOne : Type 0
CutUnderOne = (p : Problem) (nodes : List Node) → IsDual p nodes
    → All (λ c. 1 ≤ c.value → (name : ℕ) × ((v : ℕ) → is_in c.vertices v ≡ true → cover_of nodes v ≡ Some name))
    (all_cuts nodes)

abbrev pub outer_nodes : List Node → List Node
outer_nodes nodes = filter (λ n. is_outer nodes n.name) nodes

abbrev pub outer_sets : List Node → List (List ℕ)
outer_sets nodes = map (λ n. n.top.vertices) (outer_nodes nodes)

-- With nothing unmatched, the outer nodes are the first level at which blossoms are opened.
abbrev pub HalfLevel : Type 0
HalfLevel = (p : Problem) (nodes : List Node) (links : List Link) → IsMatching p nodes links []
    → IsLevel (positive_cuts nodes) (outer_sets nodes) links

-- the set is that of the outer node of this name
abbrev pub IsSetOf : List Node → ℕ → List ℕ → Type 0
IsSetOf nodes name set =
    (i : ℕ) × (i < length nodes) × (is_outer nodes name ≡ true) × ((node_at nodes i).name ≡ name)
    × ((node_at nodes i).top.vertices ≡ set)

-- the branch leads to two outer nodes
abbrev pub IsBranchOf : List Node → Branch → Type 0
IsBranchOf nodes b = (minus : ℕ) × (plus : ℕ) × IsSetOf nodes minus b.minus × IsSetOf nodes plus b.plus

abbrev pub names_without : ℕ → List ℕ → List ℕ
names_without name names = filter (λ n. not (n == name)) names

-- Augmenting at the boundary matches the root and keeps all else.
abbrev pub MatchingAugmented : Type 0
MatchingAugmented = (p : Problem) (nodes : List Node) (name : ℕ) (root : List ℕ) (path : List Branch) (out : Link)
    (v : ℕ)
    (rest : List Link) (unmatched : List ℕ) → IsMatching p nodes (matched_links path ++ rest) unmatched
    → IsSetOf nodes name root → is_in unmatched name ≡ true → All (IsBranchOf nodes) path → IsPath root path
    → AreMatchedLinks p nodes (tree_links path ++ out ∷ []) → LeadsOut out (tip_of root path) v → p.is_real v ≡ false
    → IsMatching p nodes (tree_links path ++ out ∷ rest) (names_without name unmatched)

-- Augmenting at another unmatched node matches both.
abbrev pub MatchingMet : Type 0
MatchingMet = (p : Problem) (nodes : List Node) (name other : ℕ) (root set : List ℕ) (path : List Branch) (out : Link)
    (v : ℕ)
    (rest : List Link) (unmatched : List ℕ) → IsMatching p nodes (matched_links path ++ rest) unmatched
    → IsSetOf nodes name root → is_in unmatched name ≡ true → IsSetOf nodes other set → is_in unmatched other ≡ true
    → (name ≡ other → ⊥) → All (IsBranchOf nodes) path → IsPath root path
    → AreMatchedLinks p nodes (tree_links path ++ out ∷ []) → LeadsOut out (tip_of root path) v → is_in set v ≡ true
    → IsMatching p nodes (tree_links path ++ out ∷ rest) (names_without name (names_without other unmatched))

-- Augmenting at a node that is matched to the boundary takes that link away.
abbrev pub MatchingReleased : Type 0
MatchingReleased = (p : Problem) (nodes : List Node) (name other : ℕ) (root set : List ℕ) (path : List Branch)
    (out old : Link)
    (v b : ℕ) (rest : List Link) (unmatched : List ℕ) → IsMatching p nodes (matched_links path ++ old ∷ rest) unmatched
    → IsSetOf nodes name root → is_in unmatched name ≡ true → IsSetOf nodes other set → All (IsBranchOf nodes) path
    → IsPath root path → AreMatchedLinks p nodes (tree_links path ++ out ∷ []) → LeadsOut out (tip_of root path) v
    → is_in set v ≡ true → LeadsOut old set b → p.is_real b ≡ false
    → IsMatching p nodes (tree_links path ++ out ∷ rest) (names_without name unmatched)

-- the order of the links doesn't matter
abbrev pub MatchingPermuted : Type 0
MatchingPermuted = (p : Problem) (nodes : List Node) (links more : List Link) (unmatched : List ℕ)
    → IsPermutation links more
    → IsMatching p nodes links unmatched → IsMatching p nodes more unmatched

-- A part with nothing unmatched, its blossoms opened one after another, is solved by the walks of the last links.
abbrev pub HalfSolved : Type 0
HalfSolved = (p : Problem) (nodes : List Node) (links last : List Link) (openings : List Opened) (defects : List ℕ)
    → IsMatching p nodes links []
    → IsOpenedTo (positive_cuts nodes) (outer_sets nodes) links openings (single_sets defects) last
    → All (IsTightLink p (all_cuts nodes)) last → EndAtDefects p defects last
    → ((v : ℕ) → p.is_real v ≡ true → p.is_defect v ≡ is_in defects v)
    → IsSolved p (positive_cuts nodes) (odd_edges p last)
