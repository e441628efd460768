-- What marks say after a move, and the sets in which vertices lie.
use Rattle.std.proofs.Common.{ℕ, ◌≡◌, Bool, true, false, List, Option, Some, None, refl, sym, ap, ◌∙◌, subst, arith}
use Rattle.std.specs.List.{All}
use Rattle.std.specs.Option.{IsSome}
use Rattle.std.proofs.lemmas.Bool.{false≢true, false_from_ne_true}
use Rattle.fb_graph.specs.Parity.{is_in}
use Rattle.fb_graph.specs.Problem.{Problem, edge_at}
use Rattle.fb_graph.specs.Dual.{Node, all_cuts, cover_of, height_of, is_live, layers_of, leaves, top_at}
use Rattle.fb_graph.specs.Nests.{IsNest}
use Rattle.fb_graph.proofs.Among.{IsAmong, All_among, covered_by, cover_among}
use Rattle.fb_graph.proofs.Forests.{under_outer}
use Rattle.fb_graph.proofs.NestParts.{grove_of}
use Rattle.fb_graph.proofs.Nodes.{All-pieces, All-top}
use Rattle.fb_regions.specs.declared.marks.Hop.{Hop}
use Rattle.fb_regions.specs.declared.marks.Mark.{Mark}
use Rattle.fb_regions.specs.declared.region.Region.{Region}
use Rattle.fb_regions.specs.InternalNodes.{mark_of, nodes_of, radii_from}
use Rattle.fb_regions.specs.InternalKept.{CameBy, HasMarks, IsAfter, IsKept, IsMarked, is_childless}
use Rattle.fb_regions.proofs.Found.{no_top}

pub covered_in : (p : Problem) (nodes : List Node) → IsNest p nodes → (n : Node) → IsAmong n nodes → (v : ℕ) → is_in n.top.vertices v ≡ true
    → IsSome (cover_of nodes v)
covered_in p nodes nest n a v h =
    let under = under_outer nodes (grove_of p nodes nest) n a in
    subst IsSome (sym (covered_by nodes v nest.dual.apart under.node under.among under.outer (under.within v h))) refl

pub some_cover : (nodes : List Node) (v : ℕ) → IsSome (cover_of nodes v) → (name : ℕ) × (cover_of nodes v ≡ Some name)
some_cover nodes v h = by (cover_of nodes v) refl h
  where
    by : (o : Option ℕ) → cover_of nodes v ≡ o → IsSome o → (name : ℕ) × (cover_of nodes v ≡ Some name)
    by None e k = absurd (false≢true k)
    by (Some name) e k = (name, e)

pub not_covered : (p : Problem) (nodes : List Node) → IsNest p nodes → (v : ℕ) → cover_of nodes v ≡ None → (n : Node) → IsAmong n nodes
    → is_in n.top.vertices v ≡ false
not_covered p nodes nest v free n a =
    false_from_ne_true (is_in n.top.vertices v) (λ h. false≢true (subst IsSome free (covered_in p nodes nest n a v h)))

-- a node has the set of its name
pub in_top : (nodes : List Node) (name v : ℕ) → is_in (top_at nodes name) v ≡ true → is_live nodes name ≡ true
in_top nodes name v h = by (is_live nodes name) refl
  where
    by : (b : Bool) → is_live nodes name ≡ b → b ≡ true
    by true e = refl
    by false e = absurd (false≢true (ap (λ l. is_in l v) (sym (no_top nodes name e)) ∙ h))

-- the marks in a node's top
pub top_marks : (marks : List (Option Mark)) (nodes : List Node) → All (λ c. HasMarks marks c.vertices) (all_cuts nodes)
    → (n : Node) → IsAmong n nodes → HasMarks marks n.top.vertices
top_marks marks nodes sets n a =
    All-top (λ c. HasMarks marks c.vertices) n.below n.top
    (All_among (λ m. All (λ c. HasMarks marks c.vertices) (layers_of m)) nodes (All-pieces (λ c. HasMarks marks c.vertices) layers_of nodes sets) n a)

pub came_still : (p : Problem) (defects others : List ℕ) (old new : List (Option Mark)) (v : ℕ) (m : Mark)
    → ((u : ℕ) → is_in defects u ≡ true → is_in others u ≡ true) → (o : Option Hop)
    → ((s : Hop) → o ≡ Some s → mark_of new s.from ≡ mark_of old s.from) → CameBy p defects old v m o → CameBy p others new v m o
came_still p defects others old new v m more None stays h = (more v h.0, h.1, h.2)
came_still p defects others old new v m more (Some s) stays h = (h.0, subst (IsAfter m (edge_at p.edges s.edge).weight) (sym (stays s refl)) h.1)

pub marked_moved : (p : Problem) (nodes others : List Node) (regions behind : List Region) (old new : List (Option Mark)) (v : ℕ) (m : Mark)
    → IsMarked p nodes regions old v m → IsSome (cover_of others v) → is_in (top_at others m.leaf) m.source ≡ true
    → is_childless behind m.leaf ≡ true
    → height_of (all_cuts others) v ≡ height_of (all_cuts nodes) v → radii_from behind m.leaf ≡ radii_from regions m.leaf
    → ((u : ℕ) → is_in (leaves nodes) u ≡ true → is_in (leaves others) u ≡ true)
    → ((s : Hop) → m.by ≡ Some s → mark_of new s.from ≡ mark_of old s.from) → IsMarked p others behind new v m
marked_moved p nodes others regions behind old new v m is covered leaf childless height radii more stays = record {
  covered = covered;
  leaf = leaf;
  childless = childless;
  defect = more m.source is.defect;
  balance = omega (arith, is.balance, height, radii);
  came = came_still p (leaves nodes) (leaves others) old new v m more m.by stays is.came;
}

-- a vertex from which another came has a mark
pub from_marked : (p : Problem) (defects : List ℕ) (marks : List (Option Mark)) (v : ℕ) (m : Mark) (s : Hop) → m.by ≡ Some s
    → CameBy p defects marks v m m.by → (b : Mark) × (mark_of marks s.from ≡ Some b)
from_marked p defects marks v m s e came = by (mark_of marks s.from) refl (subst (CameBy p defects marks v m) e came).1
  where
    by : (o : Option Mark) → mark_of marks s.from ≡ o → IsAfter m (edge_at p.edges s.edge).weight o → (b : Mark) × (mark_of marks s.from ≡ Some b)
    by None f k = absurd k
    by (Some b) f k = (b, f)

module _ (p : Problem) (regions : List Region) (marks : List (Option Mark)) (kept : IsKept p regions marks) where
  -- an uncovered vertex has no mark
  pub unmarked : (v : ℕ) → cover_of (nodes_of marks regions) v ≡ None → mark_of marks v ≡ None
  unmarked v free = by (mark_of marks v) refl
    where
      by : (o : Option Mark) → mark_of marks v ≡ o → o ≡ None
      by None e = refl
      by (Some m) e = absurd (false≢true (subst IsSome free (kept.marked v m e).covered))

  -- a covered one has one, and its source is under the same outer node
  pub mark_over : (v name : ℕ) → cover_of (nodes_of marks regions) v ≡ Some name
      → (m : Mark) × (mark_of marks v ≡ Some m) × (cover_of (nodes_of marks regions) m.source ≡ Some name)
  mark_over v name cover =
      let over = cover_among (nodes_of marks regions) v name cover in
      let (m, at, is) = top_marks marks (nodes_of marks regions) kept.sets over.node over.among v over.holds in
      (m, at, covered_by (nodes_of marks regions) m.source kept.nest.dual.apart over.node over.among over.outer is.source ∙ ap Some over.named)

  pub same_cover : (v : ℕ) (m : Mark) → mark_of marks v ≡ Some m → cover_of (nodes_of marks regions) v ≡ cover_of (nodes_of marks regions) m.source
  same_cover v m at =
      let (name, cover) = some_cover (nodes_of marks regions) v (kept.marked v m at).covered in
      let (m', at', source) = mark_over v name cover in
      let same : m' ≡ m = (let e : Some m' ≡ Some m = sym at' ∙ at in cc) in
      cover ∙ (sym source ∙ ap (λ x. cover_of (nodes_of marks regions) x.source) same)
