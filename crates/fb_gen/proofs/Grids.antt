-- The numbers of a lattice, piece by piece, and that they break no rule of a graph.
use Rattle.std.proofs.Common.{◌≡◌, ◌≢◌, ℕ, zero, suc, ◌+◌, ◌*◌, ◌<◌, ◌≤◌, Bool, true, false, ◌&&◌, nat_lt, List, [], ◌∷◌, ◌++◌, length, All, ℤ, refl, sym, ap, ◌∙◌, add-one, append-nil, append_assoc, length-append, arith}
use Rattle.std.specs.Prelude.{None, Ok}
use Rattle.std.specs.List.{flat_map, range_with_len}
use Rattle.std.proofs.Math.Nat.{mul-le-mul_right}
use Rattle.std.proofs.lemmas.Bool.{and_parts, ltb-true, lt-leb, le-ltb, ne_eqb}
use Rattle.std.proofs.lemmas.Grind.{flat_map-append}
use Rattle.std.proofs.lemmas.List.Elements.{All-nil, All-cons, All-append, All-head, All-tail}
use Rattle.fb_graph.specs.GraphRules.{edge_fault, edges_fault, virtuals_fault, graph_fault, graph_of}
use Rattle.fb_graph.specs.Limits.{most_vertices, most_edges}
use Rattle.fb_graph.proofs.BuildSteps.{range_push}
use Rattle.fb_graph.proofs.Nodes.{All-flat_map}
use Rattle.fb_graph.proofs.Ranges.{not_in_below}
use Rattle.fb_graph.proofs.Sets.{All-from_is_in, is_in-All, range_below}
use Rattle.fb_gen.specs.Lattice.{vertex_at, vertex_count, weight_within, weight_later, entry_if, is_inner, edges_from, edges_of_row, edges_of_round, lattice_edges, virtuals_of_row, virtuals_of_round, lattice_virtuals, lattice_graph}

flat_map-range_more : {A : Type 0} (f : ℕ → List A) (n : ℕ)
    → flat_map f (range_with_len 0 (n + 1)) ≡ flat_map f (range_with_len 0 n) ++ f n
flat_map-range_more f n =
    ap (λ m. flat_map f (range_with_len 0 m)) (add-one n)
    ∙ ap (flat_map f) (range_push 0 n)
    ∙ flat_map-append f (range_with_len 0 n) ((0 + n) ∷ [])
    ∙ ap (λ xs. flat_map f (range_with_len 0 n) ++ xs) (append-nil (f (0 + n)))
    ∙ ap (λ m. flat_map f (range_with_len 0 n) ++ f m) (omega arith)

-- one piece more, after what was there before
pieces_more : {A : Type 0} (before : List A) (f : ℕ → List A) (n : ℕ)
    → before ++ flat_map f (range_with_len 0 (n + 1)) ≡ (before ++ flat_map f (range_with_len 0 n)) ++ f n
pieces_more before f n =
    ap (λ xs. before ++ xs) (flat_map-range_more f n)
    ∙ sym (append_assoc before (flat_map f (range_with_len 0 n)) (f n))

-- a piece added to those so far
pub piece_added : {A : Type 0} (before so_far more : List A) (f : ℕ → List A) (n : ℕ)
    → so_far ≡ before ++ flat_map f (range_with_len 0 n) → more ≡ so_far ++ f n
    → more ≡ before ++ flat_map f (range_with_len 0 (n + 1))
piece_added before so_far more f n told grown = grown ∙ ap (λ xs. xs ++ f n) told ∙ sym (pieces_more before f n)

pieces_suc : {A : Type 0} (f : ℕ → List A) (n : ℕ)
    → flat_map f (range_with_len 0 (suc n)) ≡ flat_map f (range_with_len 0 n) ++ f n
pieces_suc f n = ap (λ m. flat_map f (range_with_len 0 m)) (sym (add-one n)) ∙ flat_map-range_more f n

-- so many pieces of at most m entries each
pub length-pieces : {A : Type 0} (f : ℕ → List A) (m n : ℕ) → ((k : ℕ) → k < n → length (f k) ≤ m)
    → length (flat_map f (range_with_len 0 n)) ≤ n * m
length-pieces f m zero each = omega arith
length-pieces f m (suc n) each =
    rw (pieces_suc f n)
    (omega (arith, length-append (flat_map f (range_with_len 0 n)) (f n), length-pieces f m n (λ k lt. each k (omega arith)), each n (omega arith)))

-- Strictly rising numbers from `low` on, below `high`.
abbrev pub Climbs : ℕ → ℕ → List ℕ → Type 0
Climbs low high [] = Unit {0}
Climbs low high (v ∷ vs) = (low ≤ v) × (v < high) × Climbs (v + 1) high vs

pub climbs_lower : (lower low high : ℕ) (vs : List ℕ) → lower ≤ low → Climbs low high vs → Climbs lower high vs
climbs_lower lower low high [] le climbs = tt
climbs_lower lower low high (v ∷ vs) le climbs = (omega (arith, climbs.0), climbs.1, climbs.2)

pub climbs-append : (low middle high : ℕ) (vs ws : List ℕ) → low ≤ middle → middle ≤ high → Climbs low middle vs
    → Climbs middle high ws → Climbs low high (vs ++ ws)
climbs-append low middle high [] ws le more climbs then = climbs_lower low middle high ws le then
climbs-append low middle high (v ∷ vs) ws le more climbs then =
    (climbs.0, omega (arith, climbs.1), climbs-append (v + 1) middle high vs ws (omega (arith, climbs.1)) more climbs.2 then)

-- pieces that climb from one bound to the next
pub climbs-pieces : (f : ℕ → List ℕ) (bound : ℕ → ℕ) (n : ℕ)
    → ((k : ℕ) → k < n → (bound k ≤ bound (k + 1)) × Climbs (bound k) (bound (k + 1)) (f k))
    → (bound 0 ≤ bound n) × Climbs (bound 0) (bound n) (flat_map f (range_with_len 0 n))
climbs-pieces f bound zero each = (omega arith, tt)
climbs-pieces f bound (suc n) each =
    let before : (bound 0 ≤ bound n) × Climbs (bound 0) (bound n) (flat_map f (range_with_len 0 n)) =
    climbs-pieces f bound n (λ k lt. each k (omega arith)) in
    let here = rw add-one at (each n (omega arith)) in
    rw (pieces_suc f n) (
      omega (arith, before.0, here.0),
      climbs-append (bound 0) (bound n) (bound (suc n)) (flat_map f (range_with_len 0 n)) (f n) before.0 here.0 before.1 here.1,
    )

-- numbers that climb repeat none and are in range
pub no_virtuals_fault : (n low i : ℕ) (seen vs : List ℕ) → All (λ v. v < low) seen → Climbs low n vs
    → virtuals_fault n seen i vs ≡ None
no_virtuals_fault n low i seen [] below climbs = refl
no_virtuals_fault n low i seen (v ∷ vs) below climbs =
    rw (lt-leb n v climbs.1, not_in_below seen v (λ k d lt. omega (arith, climbs.0, below k d lt)))
    (no_virtuals_fault n (v + 1) (i + 1) (seen ++ v ∷ []) vs
    (All-append (λ u. u < v + 1) seen (v ∷ []) (λ k d lt. omega (arith, climbs.0, below k d lt))
    (All-cons (λ u. u < v + 1) v [] (omega arith) (All-nil (λ u. u < v + 1))))
    climbs.2)

-- an edge that breaks no rule, whatever its number
abbrev pub IsFaultless : ℕ → ℕ × ℕ × ℤ → Type 0
IsFaultless n e = (i : ℕ) → edge_fault n i e ≡ None

pub no_edges_fault : (n i : ℕ) (es : List (ℕ × ℕ × ℤ)) → All (IsFaultless n) es → edges_fault n i es ≡ None
no_edges_fault n i [] all = refl
no_edges_fault n i (e ∷ es) all =
    rw (All-head (IsFaultless n) e es all i) (no_edges_fault n (i + 1) es (All-tail (IsFaultless n) e es all))

pub faultless_within : (n u w : ℕ) → u < n → w < n → u ≢ w → IsFaultless n (u, w, weight_within)
faultless_within n u w below under apart i = rw (lt-leb n u below, lt-leb n w under, ne_eqb u w apart) refl

pub faultless_later : (n u w : ℕ) → u < n → w < n → u ≢ w → IsFaultless n (u, w, weight_later)
faultless_later n u w below under apart i = rw (lt-leb n u below, lt-leb n w under, ne_eqb u w apart) refl

pub All-entry_if : {A : Type 0} (P : A → Type 0) (b : Bool) (entry : A) → (b ≡ true → P entry) → All P (entry_if b entry)
All-entry_if P true entry h = All-cons P entry [] (h refl) (All-nil P)
All-entry_if P false entry h = All-nil P

pub length-entry_if : {A : Type 0} (b : Bool) (entry : A) → length (entry_if b entry) ≤ 1
length-entry_if true entry = omega arith
length-entry_if false entry = omega arith

pub vertex_below : (d t k r c : ℕ) → k < t → r < d → c < d + 1 → vertex_at d k r c < vertex_count d t
vertex_below d t k r c later lower right =
    digit_below (k * d + r) (t * d) c (d + 1) (digit_below k t r d later lower) right
  where
    digit_below : (a m b w : ℕ) → a < m → b < w → a * w + b < m * w
    digit_below a m b w less small = omega (arith, mul-le-mul_right {m = a + 1} {n = m} w (omega arith))

abbrev right_edge : ℕ → ℕ → ℕ → ℕ → ℕ × ℕ × ℤ
right_edge d k r c = (vertex_at d k r c, vertex_at d k r (c + 1), weight_within)

abbrev down_edge : ℕ → ℕ → ℕ → ℕ → ℕ × ℕ × ℤ
down_edge d k r c = (vertex_at d k r c, vertex_at d k (r + 1) c, weight_within)

abbrev later_edge : ℕ → ℕ → ℕ → ℕ → ℕ × ℕ × ℤ
later_edge d k r c = (vertex_at d k r c, vertex_at d (k + 1) r c, weight_later)

pub faultless_edges : (d t k r c : ℕ) → k < t → r < d → c < d + 1
    → All (IsFaultless (vertex_count d t)) (edges_from d t k r c)
faultless_edges d t k r c kt rd cd =
    All-append (IsFaultless n) (entry_if is_right (right_edge d k r c) ++ entry_if is_down (down_edge d k r c))
    (entry_if is_later (later_edge d k r c))
    (All-append (IsFaultless n) (entry_if is_right (right_edge d k r c)) (entry_if is_down (down_edge d k r c))
    (All-entry_if (IsFaultless n) is_right (right_edge d k r c)
    (λ b. let cc : c < d = ltb-true c d b in
    faultless_within n _ _ here (vertex_below d t k r (c + 1) kt rd (omega arith)) (omega arith)))
    (All-entry_if (IsFaultless n) is_down (down_edge d k r c)
    (λ b. let more : r + 1 < d = ltb-true (r + 1) d (and_parts (is_inner d c) _ b).1 in
    faultless_within n _ _ here (vertex_below d t k (r + 1) c kt more cd) (omega arith))))
    (All-entry_if (IsFaultless n) is_later (later_edge d k r c)
    (λ b. let more : k + 1 < t = ltb-true (k + 1) t (and_parts (is_inner d c) _ b).1 in
    faultless_later n _ _ here (vertex_below d t (k + 1) r c more rd cd) (omega (arith, further))))
  where
    n : ℕ
    n = vertex_count d t

    is_right : Bool
    is_right = nat_lt c d

    is_down : Bool
    is_down = is_inner d c && nat_lt (r + 1) d

    is_later : Bool
    is_later = is_inner d c && nat_lt (k + 1) t

    here : vertex_at d k r c < vertex_count d t
    here = vertex_below d t k r c kt rd cd

    further : vertex_at d k r c + d * (d + 1) ≡ vertex_at d (k + 1) r c
    further = omega arith

pub All-pieces_below : {A : Type 0} (P : A → Type 0) (f : ℕ → List A) (n : ℕ) → ((k : ℕ) → k < n → All P (f k))
    → All P (flat_map f (range_with_len 0 n))
All-pieces_below P f n each =
    All-flat_map P f (range_with_len 0 n)
    (All-from_is_in (λ k. All P (f k)) (range_with_len 0 n)
    (λ k within. each k (is_in-All (λ v. v < n) (range_with_len 0 n) (range_below n) k within)))

length-edges_from : (d t k r c : ℕ) → length (edges_from d t k r c) ≤ 3
length-edges_from d t k r c =
    omega (
      arith,
      length-append (right ++ down) later,
      length-append right down,
      length-entry_if (nat_lt c d) (right_edge d k r c),
      length-entry_if (is_inner d c && nat_lt (r + 1) d) (down_edge d k r c),
      length-entry_if (is_inner d c && nat_lt (k + 1) t) (later_edge d k r c),
    )
  where
    right : List (ℕ × ℕ × ℤ)
    right = entry_if (nat_lt c d) (right_edge d k r c)

    down : List (ℕ × ℕ × ℤ)
    down = entry_if (is_inner d c && nat_lt (r + 1) d) (down_edge d k r c)

    later : List (ℕ × ℕ × ℤ)
    later = entry_if (is_inner d c && nat_lt (k + 1) t) (later_edge d k r c)

round_climbs : (d k : ℕ) → Climbs (k * d * (d + 1)) ((k + 1) * d * (d + 1)) (virtuals_of_round d k)
round_climbs d k =
    let first : k * d * (d + 1) ≡ (k * d + 0) * (d + 1) = omega arith in
    let last : (k + 1) * d * (d + 1) ≡ (k * d + d) * (d + 1) = omega arith in
    rw (first, last)
    (climbs-pieces (virtuals_of_row d k) (λ r. (k * d + r) * (d + 1)) d
    (λ r rd. (omega arith, (omega arith, omega arith, (omega arith, omega arith, tt))))).1

pub no_lattice_fault : (d t : ℕ) → vertex_count d t ≤ most_vertices
    → graph_fault (vertex_count d t) (lattice_edges d t) (lattice_virtuals d t) ≡ None
unfolding lattice_edges lattice_virtuals
no_lattice_fault d t small =
    rw (
      le-ltb most_vertices n small,
      le-ltb most_edges (length (lattice_edges d t)) few,
      no_edges_fault n 0 (lattice_edges d t) edges,
    )
    (no_virtuals_fault n 0 0 [] (lattice_virtuals d t) (All-nil (λ v. v < 0)) virtuals)
  where
    n : ℕ
    n = vertex_count d t

    few : length (lattice_edges d t) ≤ most_edges
    few = omega (
      arith,
      length-pieces (edges_of_round d t) (d * ((d + 1) * 3)) t (λ k kt.
          length-pieces (edges_of_row d t k) ((d + 1) * 3) d (λ r rd.
          length-pieces (edges_from d t k r) 3 (d + 1) (λ c cd. length-edges_from d t k r c))),
    )

    edges : All (IsFaultless n) (lattice_edges d t)
    edges =
        All-pieces_below (IsFaultless n) (edges_of_round d t) t (λ k kt.
        All-pieces_below (IsFaultless n) (edges_of_row d t k) d (λ r rd.
        All-pieces_below (IsFaultless n) (edges_from d t k r) (d + 1) (λ c cd. faultless_edges d t k r c kt rd cd)))

    virtuals : Climbs 0 n (lattice_virtuals d t)
    virtuals =
        climbs_lower 0 (0 * d * (d + 1)) n _ (omega arith)
        (climbs-pieces (virtuals_of_round d) (λ k. k * d * (d + 1)) t (λ k kt. (omega arith, round_climbs d k))).1

-- these numbers make the lattice's graph
pub lattice_is_graph : (d t n : ℕ) (edges : List (ℕ × ℕ × ℤ)) (virtuals : List ℕ) → n ≡ vertex_count d t
    → edges ≡ lattice_edges d t → virtuals ≡ lattice_virtuals d t → n ≤ most_vertices
    → graph_of n edges virtuals ≡ Ok (lattice_graph d t)
lattice_is_graph d t n edges virtuals count same others small =
    let low : vertex_count d t ≤ most_vertices = omega (arith, count) in
    rw (count, same, others, no_lattice_fault d t low) refl
