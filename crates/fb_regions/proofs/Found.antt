-- A node found by its name, and lists of nodes of which one is changed.
use Rattle.std.proofs.Common.{ℕ, zero, suc, ◌≡◌, ◌+◌, ◌<◌, ◌==◌, inl, inr, cond, true, false, List, [], ◌∷◌, ◌++◌, length, map, set, take, drop, get_or, Option, Some, None, refl, sym, ap, ◌∙◌, arith, not, nat_lt, if◌then◌else◌}
use Rattle.std.specs.List.{position, position_or_len}
use Rattle.std.proofs.lemmas.Bool.{both_ways, eqb-true, or_parts}
use Rattle.std.proofs.lemmas.List.{length-append, length-map}
use Rattle.std.proofs.lemmas.List.Quantifiers.{position-Some}
use Rattle.fb_graph.specs.Certificate.{AreDistinct}
use Rattle.fb_graph.specs.Dual.{Node, change_at, is_live, layers_at, layers_of, no_node, node_at, top_at}
use Rattle.fb_graph.proofs.Among.{IsAmong}
use Rattle.fb_graph.proofs.Nodes.{change_at-place, layers_at-place, no_place, top_at-place}
use Rattle.fb_regions.specs.declared.marks.Mark.{Mark}
use Rattle.fb_regions.specs.declared.region.Region.{Region}
use Rattle.fb_regions.specs.InternalNodes.{added_to, first_of, node_of, nodes_of, stack}
use Rattle.fb_regions.specs.InternalPlaces.{IsIndex, place_in}
use Rattle.fb_regions.specs.Moves.{node_named}
use Rattle.fb_regions.proofs.Chains.{length-chain, length-stack}

pub nodes_place : (marks : List (Option Mark)) (regions : List Region) (name : ℕ)
    → position (λ n. n.name == name) (nodes_of marks regions) ≡ position (λ r. r.name == name) regions
nodes_place marks regions name =
    let lengths : length (nodes_of marks regions) ≡ length regions = length-map regions (node_of marks) in
    ap (λ k. cond (nat_lt k (length (nodes_of marks regions))) (Some k) None) (places regions)
    ∙ ap (λ n. cond (nat_lt (position_or_len (λ r. r.name == name) regions) n) (Some (position_or_len (λ r. r.name == name) regions)) None) lengths
  where
    places : (rs : List Region) → position_or_len (λ n. n.name == name) (nodes_of marks rs) ≡ position_or_len (λ r. r.name == name) rs
    places [] = refl
    places (r ∷ rs) = ap (λ k. cond (not (r.name == name)) (1 + k) 0) (places rs)

pub not_found : (marks : List (Option Mark)) (regions : List Region) (name : ℕ)
    → position (λ r. r.name == name) regions ≡ None → is_live (nodes_of marks regions) name ≡ false
not_found marks regions name e = no_place (nodes_of marks regions) name (nodes_place marks regions name ∙ e)

-- a live node has a place
pub always_found : (marks : List (Option Mark)) (regions : List Region) (name : ℕ) → is_live (nodes_of marks regions) name ≡ true
    → position (λ r. r.name == name) regions ≡ None → ⊥
always_found marks regions name live e = both_ways (is_live (nodes_of marks regions) name) (not_found marks regions name e) live

pub no_top : (nodes : List Node) (name : ℕ) → is_live nodes name ≡ false → top_at nodes name ≡ []
no_top [] name h = refl
no_top (n ∷ ns) name h =
    let parts = or_parts (n.name == name) (is_live ns name) h in
    ap (λ b. if b then n.top.vertices else top_at ns name) parts.0 ∙ no_top ns name parts.1

pub read_at : (marks : List (Option Mark)) (regions : List Region) (i : ℕ) (r : Region) → i < length regions → r ≡ get_or regions i r
    → node_at (nodes_of marks regions) i ≡ node_of marks r
read_at marks [] i r less e = absurd (omega arith)
read_at marks (x ∷ xs) zero r less e = ap (node_of marks) (sym e)
read_at marks (x ∷ xs) (suc i) r less e = read_at marks xs i r (omega arith) e

pub among_at : (marks : List (Option Mark)) (regions : List Region) (i : ℕ) (r : Region) → i < length regions → r ≡ get_or regions i r
    → IsAmong r regions
among_at marks [] i r less e = absurd (omega arith)
among_at marks (x ∷ xs) zero r less e = inl (sym e)
among_at marks (x ∷ xs) (suc i) r less e = inr (among_at marks xs i r (omega arith) e)

-- the region at the place where its name is found
pub record IsFound (marks : List (Option Mark)) (regions : List Region) (name i : ℕ) (r : Region) : Type 0 where
  pub below : i < length regions
  pub among : IsAmong r regions
  pub node : node_at (nodes_of marks regions) i ≡ node_of marks r
  pub named : r.name ≡ name
  pub top : (node_of marks r).top.vertices ≡ top_at (nodes_of marks regions) name
  pub layers : layers_of (node_of marks r) ≡ layers_at (nodes_of marks regions) name
  pub is : node_of marks r ≡ node_named (nodes_of marks regions) name
  pub placed : (f : Node → Node) → AreDistinct (map (λ n. n.name) (nodes_of marks regions))
      → set (nodes_of marks regions) i (f (node_of marks r)) ≡ change_at name f (nodes_of marks regions)
  pub changed : (new : Region) (f : Node → Node) → AreDistinct (map (λ n. n.name) (nodes_of marks regions)) → node_of marks new ≡ f (node_of marks r)
      → nodes_of marks (set regions i new) ≡ change_at name f (nodes_of marks regions)

pub nodes_set : (marks : List (Option Mark)) (regions : List Region) (i : ℕ) (new : Region)
    → nodes_of marks (set regions i new) ≡ set (nodes_of marks regions) i (node_of marks new)
nodes_set marks [] i new = refl
nodes_set marks (x ∷ xs) zero new = refl
nodes_set marks (x ∷ xs) (suc i) new = ap (λ l. node_of marks x ∷ l) (nodes_set marks xs i new)

named-place : (nodes : List Node) (name i : ℕ) → i < length nodes → ((node_at nodes i).name == name) ≡ true
    → ((k : ℕ) → k < i → ((node_at nodes k).name == name) ≡ false) → node_at nodes i ≡ node_named nodes name
named-place [] name i less e before = absurd (omega arith)
named-place (n ∷ ns) name zero less e before = rw e refl
named-place (n ∷ ns) name (suc i) less e before =
    let no : (n.name == name) ≡ false = before zero (omega arith) in
    rw no (named-place ns name i (omega arith) e (λ k l. before (suc k) (omega arith)))

pub found : (marks : List (Option Mark)) (regions : List Region) (name i : ℕ) (r : Region) → position (λ x. x.name == name) regions ≡ Some i
    → r ≡ get_or regions i r → IsFound marks regions name i r
found marks regions name i r at e =
    let at' : position (λ n. n.name == name) (nodes_of marks regions) ≡ Some i = nodes_place marks regions name ∙ at in
    let there = position-Some (λ n. n.name == name) (nodes_of marks regions) i no_node at' in
    let below : i < length regions = omega (arith, there.0, length-map regions (node_of marks)) in
    let node : node_at (nodes_of marks regions) i ≡ node_of marks r = read_at marks regions i r below e in
    let named : r.name ≡ name = ap (λ n. n.name) (sym node) ∙ eqb-true (node_at (nodes_of marks regions) i).name name there.1 in
    record {
      below = below;
      among = among_at marks regions i r below e;
      node = node;
      named = named;
      top = ap (λ n. n.top.vertices) (sym node) ∙ top_at-place (nodes_of marks regions) name i at';
      layers = ap layers_of (sym node) ∙ layers_at-place (nodes_of marks regions) name i at';
      is = sym node ∙ named-place (nodes_of marks regions) name i there.0 there.1 there.2;
      placed = λ f distinct.
          ap (λ n. set (nodes_of marks regions) i (f n)) (sym node)
          ∙ (sym (change_at-place f (nodes_of marks regions) i distinct there.0)
          ∙ ap (λ x. change_at x f (nodes_of marks regions)) (ap (λ n. n.name) node ∙ named));
      changed = λ new f distinct same.
          nodes_set marks regions i new
          ∙ (ap (set (nodes_of marks regions) i) (same ∙ ap f (sym node))
          ∙ (sym (change_at-place f (nodes_of marks regions) i distinct there.0)
          ∙ ap (λ x. change_at x f (nodes_of marks regions)) (ap (λ n. n.name) node ∙ named)));
    }

pub names_of : (marks : List (Option Mark)) (regions : List Region) → map (λ r. r.name) regions ≡ map (λ n. n.name) (nodes_of marks regions)
names_of marks [] = refl
names_of marks (r ∷ rs) = ap (λ l. r.name ∷ l) (names_of marks rs)

-- what is read from a list behind a reference
pub read_place : (regions : List Region) (places seen : List (Option ℕ)) (name : ℕ) (o : Option ℕ) → IsIndex regions places → seen ≡ places
    → o ≡ place_in seen name → position (λ r. r.name == name) regions ≡ o
read_place regions places seen name o index e h = sym (index.entry name) ∙ (ap (λ l. place_in l name) (sym e) ∙ sym h)

pub length-layers : (marks : List (Option Mark)) (r : Region) → length (layers_of (node_of marks r)) ≡ r.added + 1
length-layers marks r =
    omega (
      arith,
      length-append (stack marks (first_of marks r) (added_to marks r)) ((node_of marks r).top ∷ []),
      length-stack marks (first_of marks r) (added_to marks r),
      length-chain marks r.added r.last,
    )

-- what a change of each element through a borrow of all leaves in the list
pub mapped_back : {X : Type 0} (f : X → X) (xs : List X) (n : ℕ) → n ≡ length xs → take n (map f xs ++ drop (length (map f xs)) xs) ≡ map f xs
mapped_back {X} f xs n e = ap (λ k. take k (map f xs ++ drop (length (map f xs)) xs)) e ∙ by xs
  where
    by : (ys : List X) → take (length ys) (map f ys ++ drop (length (map f ys)) ys) ≡ map f ys
    by [] = refl
    by (y ∷ ys) = ap (λ l. f y ∷ l) (by ys)
