-- Marks of which one is changed, and the nodes read from them.
use Rattle.std.proofs.Common.{ℕ, zero, suc, arith, ◌≡◌, ◌<◌, true, false, List, [], ◌∷◌, ◌++◌, length, set, Option, Some, None, sym, ap, ◌∙◌}
use Rattle.std.proofs.lemmas.Bool.{both_ways, or_left, or_right}
use Rattle.std.proofs.lemmas.List.{get_or-set_same, get_or-set_other}
use Rattle.fb_graph.specs.Parity.{is_in}
use Rattle.fb_graph.specs.Dual.{Node}
use Rattle.fb_graph.specs.declared.parts.Cut.{Cut}
use Rattle.fb_graph.proofs.Among.{IsAmong, among_All, map_among}
use Rattle.fb_graph.proofs.Members.{is_in-append}
use Rattle.fb_graph.proofs.NestParts.{map_agree}
use Rattle.fb_regions.specs.declared.marks.Mark.{Mark}
use Rattle.fb_regions.specs.declared.region.Region.{Region}
use Rattle.fb_regions.specs.InternalNodes.{added_to, before_in, first_of, mark_of, node_of, nodes_of, stack, under_in, under_of}
use Rattle.fb_regions.specs.InternalKept.{HasMarks}
use Rattle.fb_regions.proofs.Chains.{chain_same, stack_same}

pub mark_new : (marks : List (Option Mark)) (w : ℕ) (o : Option Mark) → w < length marks → mark_of (set marks w o) w ≡ o
mark_new marks w o less = get_or-set_same marks w o None less

pub mark_other : (marks : List (Option Mark)) (w v : ℕ) (o : Option Mark) → (v ≡ w → ⊥) → mark_of (set marks w o) v ≡ mark_of marks v
mark_other marks w v o other = get_or-set_other marks w v o None other

-- a node where its lists and the values of its layers are read alike
pub node_read : (marks other : List (Option Mark)) (r : Region) → first_of other r ≡ first_of marks r → added_to other r ≡ added_to marks r
    → ((u : ℕ) → is_in (added_to marks r) u ≡ true → under_of other u ≡ under_of marks u) → node_of other r ≡ node_of marks r
node_read marks other r first added same =
    ap (λ l. built l (added_to other r) (stack other l (added_to other r))) first
    ∙ (ap (λ l. built (first_of marks r) l (stack other (first_of marks r) l)) added
    ∙ ap (built (first_of marks r) (added_to marks r)) (stack_same marks other (first_of marks r) (added_to marks r) same))
  where
    built : List ℕ → List ℕ → List Cut → Node
    built base l below = record {
      name = r.name;
      children = r.children.items;
      below = below;
      top = record { value = r.top_value; vertices = base ++ l };
    }

-- a node is read from the marks of its vertices
pub node_same : (marks other : List (Option Mark)) (r : Region)
    → ((u : ℕ) → is_in (node_of marks r).top.vertices u ≡ true → mark_of other u ≡ mark_of marks u) → node_of other r ≡ node_of marks r
node_same marks other r same =
    node_read marks other r (chain_same marks other r.base r.base_last (λ u h. ap before_in (same u (in_first u h))))
    (chain_same marks other r.added r.last (λ u h. ap before_in (same u (in_added u h)))) (λ u h. ap under_in (same u (in_added u h)))
  where
    in_first : (u : ℕ) → is_in (first_of marks r) u ≡ true → is_in (first_of marks r ++ added_to marks r) u ≡ true
    in_first u h = is_in-append (first_of marks r) (added_to marks r) u ∙ or_left (is_in (first_of marks r) u) (is_in (added_to marks r) u) h

    in_added : (u : ℕ) → is_in (added_to marks r) u ≡ true → is_in (first_of marks r ++ added_to marks r) u ≡ true
    in_added u h = is_in-append (first_of marks r) (added_to marks r) u ∙ or_right (is_in (first_of marks r) u) (is_in (added_to marks r) u) h

-- so it stays where the mark of a vertex outside its sets changes
pub node_still : (marks : List (Option Mark)) (r : Region) (w : ℕ) (o : Option Mark) → is_in (node_of marks r).top.vertices w ≡ false
    → node_of (set marks w o) r ≡ node_of marks r
node_still marks r w o out =
    node_same marks (set marks w o) r
    (λ u h.
    mark_other marks w u o
    (λ e.
    both_ways (is_in (node_of marks r).top.vertices w) out (ap (is_in (node_of marks r).top.vertices) (sym e) ∙ h)))

abbrev pub AreWithout : List (Option Mark) → List Region → ℕ → Type 0
AreWithout marks regions w = (n : Node) → IsAmong n (nodes_of marks regions) → is_in n.top.vertices w ≡ false

pub nodes_still : (marks : List (Option Mark)) (regions : List Region) (w : ℕ) (o : Option Mark) → AreWithout marks regions w
    → nodes_of (set marks w o) regions ≡ nodes_of marks regions
nodes_still marks regions w o out =
    map_agree (node_of (set marks w o)) (node_of marks) regions
    (among_All (λ r. node_of (set marks w o) r ≡ node_of marks r) regions
    (λ r a. node_still marks r w o (out (node_of marks r) (map_among (node_of marks) regions r a))))

-- the marks in a set without the vertex
pub has_still : (marks : List (Option Mark)) (set_of : List ℕ) (w : ℕ) (o : Option Mark) → is_in set_of w ≡ false → HasMarks marks set_of
    → HasMarks (set marks w o) set_of
has_still marks set_of w o out has u within =
    let (m, at, is) = has u within in
    (m, mark_other marks w u o (λ e. both_ways (is_in set_of w) out (ap (is_in set_of) (sym e) ∙ within)) ∙ at, is)

-- a vertex with a mark has a place for it
pub marked_below : (marks : List (Option Mark)) (v : ℕ) (m : Mark) → mark_of marks v ≡ Some m → v < length marks
marked_below [] v m e = absurd (let clash : None ≡ Some m = e in cc)
marked_below (o ∷ os) zero m e = omega arith
marked_below (o ∷ os) (suc v) m e = omega (arith, marked_below os v m e)
