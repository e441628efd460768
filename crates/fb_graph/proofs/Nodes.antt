-- Layers of nodes, and lists of nodes of which one is changed.
use Rattle.std.proofs.Common.{◌≡◌, ℕ, zero, suc, ◌<◌, ◌==◌, Bool, true, false, cond, List, [], ◌∷◌, ◌++◌, map, length, set, Some, None, refl, ◌∙◌, ap, arith, if◌then◌else◌, nat_lt}
use Rattle.std.specs.List.{flat_map, All, position, position_or_len}
use Rattle.std.proofs.lemmas.Bool.{or_left, or_parts}
use Rattle.std.proofs.lemmas.Bool.Decides.{nat_tests}
use Rattle.std.proofs.lemmas.List.Elements.{All-nil, All-cons, All-head, All-tail, All-append, All-get_or, All-from_get_or}
use Rattle.std.proofs.lemmas.List.Folds.{list_any_none}
use Rattle.std.proofs.lemmas.List.Quantifiers.{position-Some}
use Rattle.std.proofs.lemmas.List.Sums.{fails_before_first}
use Rattle.fb_graph.specs.Parity.{is_in}
use Rattle.fb_graph.specs.Certificate.{AreDistinct}
use Rattle.fb_graph.specs.declared.parts.Cut.{Cut}
use Rattle.fb_graph.specs.Dual.{Node, AreGrown, IsWithin, layers_of, all_cuts, defects_of, is_empty, first_vertices, is_live, change_at, taller_node, no_node, node_at, layers_at, top_at}
use Rattle.fb_graph.proofs.Sets.{equal_sym}
use Rattle.fb_graph.proofs.Members.{is_in_push}

-- All of the pieces of a flattened list
pub All-flat_map : {X Y : Type 0} (P : Y → Type 0) (f : X → List Y) (xs : List X) → All (λ x. All P (f x)) xs → All P (flat_map f xs)
All-flat_map P f [] h = All-nil P
All-flat_map {X} P f (x ∷ xs) h =
    let Q : X → Type 0 = λ y. All P (f y) in
    All-append P (f x) (flat_map f xs) (All-head Q x xs h) (All-flat_map P f xs (All-tail Q x xs h))

pub All-left : {Y : Type 0} (P : Y → Type 0) (ys zs : List Y) → All P (ys ++ zs) → All P ys
All-left P [] zs h = All-nil P
All-left P (y ∷ ys) zs h = All-cons P y ys (All-head P y (ys ++ zs) h) (All-left P ys zs (All-tail P y (ys ++ zs) h))

pub All-right : {Y : Type 0} (P : Y → Type 0) (ys zs : List Y) → All P (ys ++ zs) → All P zs
All-right P [] zs h = h
All-right P (y ∷ ys) zs h = All-right P ys zs (All-tail P y (ys ++ zs) h)

pub All-pieces : {X Y : Type 0} (P : Y → Type 0) (f : X → List Y) (xs : List X) → All P (flat_map f xs) → All (λ x. All P (f x)) xs
All-pieces {X} P f [] h = All-nil (λ (x : X). All P (f x))
All-pieces {X} P f (x ∷ xs) h =
    All-cons (λ (y : X). All P (f y)) x xs (All-left P (f x) (flat_map f xs) h) (All-pieces P f xs (All-right P (f x) (flat_map f xs) h))

pub All-top : {Y : Type 0} (P : Y → Type 0) (ys : List Y) (y : Y) → All P (ys ++ y ∷ []) → P y
All-top P ys y h = All-head P y [] (All-right P ys (y ∷ []) h)

pub All-below : {Y : Type 0} (P : Y → Type 0) (ys : List Y) (y : Y) → All P (ys ++ y ∷ []) → All P ys
All-below P ys y h = All-left P ys (y ∷ []) h

pub All-cuts-at : (P : Cut → Type 0) (nodes : List Node) (i : ℕ) → i < length nodes → All P (all_cuts nodes) → All P (layers_of (node_at nodes i))
All-cuts-at P nodes i lt h = All-get_or (λ (x : Node). All P (layers_of x)) nodes i no_node lt (All-pieces P layers_of nodes h)

pub AreGrown-taller_node : (below : List Cut) (top : Cut) (v : ℕ) → AreGrown (below ++ top ∷ []) → AreGrown ((below ++ top ∷ []) ++ record { value = 0; vertices = top.vertices ++ v ∷ [] } ∷ [])
AreGrown-taller_node [] top v h = ((v, refl), h)
AreGrown-taller_node (c ∷ []) top v h = (h.0, AreGrown-taller_node [] top v h.1)
AreGrown-taller_node (c ∷ d ∷ ds) top v h = (h.0, AreGrown-taller_node (d ∷ ds) top v h.1)

within_pushed : (xs : List ℕ) (y v : ℕ) → is_in xs v ≡ true → is_in (xs ++ y ∷ []) v ≡ true
within_pushed xs y v h = is_in_push xs y v ∙ or_left (is_in xs v) (y == v) h

-- each layer lies within the top one
pub layers_within : (below : List Cut) (top : Cut) → AreGrown (below ++ top ∷ []) → All (λ c. IsWithin c.vertices top.vertices) (below ++ top ∷ [])
layers_within [] top h =
    All-cons (λ (c : Cut). IsWithin c.vertices top.vertices) top [] (λ v e. e) (All-nil (λ (c : Cut). IsWithin c.vertices top.vertices))
layers_within (c ∷ []) top h =
    let P : Cut → Type 0 = λ x. IsWithin x.vertices top.vertices in
    All-cons P c (top ∷ []) (λ v e. rw (h.0).1 (within_pushed c.vertices (h.0).0 v e)) (layers_within [] top h.1)
layers_within (c ∷ d ∷ ds) top h =
    let P : Cut → Type 0 = λ x. IsWithin x.vertices top.vertices in
    let rest : All P (d ∷ ds ++ top ∷ []) = layers_within (d ∷ ds) top h.1 in
    All-cons P c (d ∷ ds ++ top ∷ []) (λ v e. All-head P d (ds ++ top ∷ []) rest v (rw (h.0).1 (within_pushed c.vertices (h.0).0 v e))) rest

-- each layer holds what the first one holds
pub layers_hold : (c : Cut) (cs : List Cut) (v : ℕ) → AreGrown (c ∷ cs) → is_in c.vertices v ≡ true → All (λ x. is_in x.vertices v ≡ true) (c ∷ cs)
layers_hold c [] v h e = All-cons (λ (x : Cut). is_in x.vertices v ≡ true) c [] e (All-nil (λ (x : Cut). is_in x.vertices v ≡ true))
layers_hold c (d ∷ ds) v h e =
    All-cons (λ (x : Cut). is_in x.vertices v ≡ true) c (d ∷ ds) e
    (layers_hold d ds v h.1 (rw (h.0).1 (within_pushed c.vertices (h.0).0 v e)))

-- the node at a place changed, said by its name
pub change_at-place : (f : Node → Node) (nodes : List Node) (i : ℕ) → AreDistinct (map (λ n. n.name) nodes) → i < length nodes
    → change_at (node_at nodes i).name f nodes ≡ set nodes i (f (node_at nodes i))
change_at-place f [] i d lt = absurd (omega arith)
change_at-place f (n ∷ ns) zero d lt =
    let here : (n.name == n.name) ≡ true = grind (arith, nat_tests) in
    let rest : change_at n.name f ns ≡ ns = unchanged n.name ns d.0 in
    rw (here, rest) refl
  where
    unchanged : (name : ℕ) (ms : List Node) → is_in (map (λ m. m.name) ms) name ≡ false → change_at name f ms ≡ ms
    unchanged name [] e = refl
    unchanged name (m ∷ ms) e =
        let no : (m.name == name) ≡ false = (or_parts (m.name == name) (is_in (map (λ x. x.name) ms) name) e).0 in
        rw no (ap (λ l. m ∷ l) (unchanged name ms (or_parts (m.name == name) (is_in (map (λ x. x.name) ms) name) e).1))
change_at-place f (n ∷ ns) (suc i) d lt =
    let lt' : i < length ns = omega arith in
    let other : (n.name == (node_at ns i).name) ≡ false =
    equal_sym n.name (node_at ns i).name ∙ absent (n.name) ns i d.0 lt' in
    rw other (ap (λ l. n ∷ l) (change_at-place f ns i d.1 lt'))
  where
    absent : (name : ℕ) (ms : List Node) (j : ℕ) → is_in (map (λ m. m.name) ms) name ≡ false → j < length ms → ((node_at ms j).name == name) ≡ false
    absent name [] j e l = absurd (omega arith)
    absent name (m ∷ ms) zero e l = (or_parts (m.name == name) (is_in (map (λ x. x.name) ms) name) e).0
    absent name (m ∷ ms) (suc j) e l = absent name ms j (or_parts (m.name == name) (is_in (map (λ x. x.name) ms) name) e).1 (omega arith)

pub defects_of-taller_node : (v : ℕ) (n : Node) → defects_of (taller_node v n) ≡ defects_of n
defects_of-taller_node v n = ap (λ l. if is_empty n.children then l else []) (first n.below)
  where
    first : (below : List Cut) → first_vertices ((below ++ n.top ∷ []) ++ (taller_node v n).top ∷ []) ≡ first_vertices (below ++ n.top ∷ [])
    first [] = refl
    first (c ∷ cs) = refl

-- where a node of the name is
pub no_place : (nodes : List Node) (name : ℕ) → position (λ n. n.name == name) nodes ≡ None → is_live nodes name ≡ false
no_place nodes name h =
    let test : Node → Bool = λ n. n.name == name in
    list_any_none test nodes (All-from_get_or (λ (n : Node). test n ≡ false) nodes no_node
    (λ i lt. fails_before_first test nodes i no_node (past (position_or_len test nodes) (length nodes) i h lt)))
  where
    past : (at all i : ℕ) → cond (nat_lt at all) (Some at) None ≡ None → i < all → i < at
    past at all i k lt = by (nat_lt at all) refl k
      where
        by : (b : Bool) → nat_lt at all ≡ b → cond b (Some at) None ≡ None → i < at
        by true e f = cc
        by false e f = grind (arith, nat_tests)

pub layers_at-place : (nodes : List Node) (name i : ℕ) → position (λ n. n.name == name) nodes ≡ Some i → layers_of (node_at nodes i) ≡ layers_at nodes name
layers_at-place nodes name i h =
    let found = position-Some (λ n. n.name == name) nodes i no_node h in
    by nodes i found.0 found.1 found.2
  where
    by : (ns : List Node) (j : ℕ) → j < length ns → ((node_at ns j).name == name) ≡ true → ((k : ℕ) → k < j → ((node_at ns k).name == name) ≡ false)
        → layers_of (node_at ns j) ≡ layers_at ns name
    by [] j lt e before = absurd (omega arith)
    by (n ∷ ns) zero lt e before = rw e refl
    by (n ∷ ns) (suc j) lt e before =
        let no : (n.name == name) ≡ false = before zero (omega arith) in
        rw no (by ns j (omega arith) e (λ k l. before (suc k) (omega arith)))

pub top_at-place : (nodes : List Node) (name i : ℕ) → position (λ n. n.name == name) nodes ≡ Some i → (node_at nodes i).top.vertices ≡ top_at nodes name
top_at-place nodes name i h =
    let found = position-Some (λ n. n.name == name) nodes i no_node h in
    by nodes i found.0 found.1 found.2
  where
    by : (ns : List Node) (j : ℕ) → j < length ns → ((node_at ns j).name == name) ≡ true → ((k : ℕ) → k < j → ((node_at ns k).name == name) ≡ false)
        → (node_at ns j).top.vertices ≡ top_at ns name
    by [] j lt e before = absurd (omega arith)
    by (n ∷ ns) zero lt e before = rw e refl
    by (n ∷ ns) (suc j) lt e before =
        let no : (n.name == name) ≡ false = before zero (omega arith) in
        rw no (by ns j (omega arith) e (λ k l. before (suc k) (omega arith)))
