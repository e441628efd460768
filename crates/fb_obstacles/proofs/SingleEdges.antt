-- Single defects, and the edges that a scope lists at one.
use Rattle.std.proofs.Common.{ℕ, ◌≡◌, ◌≤◌, ◌<◌, ◌==◌, ◌||◌, inl, inr, not, Bool, cond, true, false, List, [], ◌∷◌, ◌++◌, length, take, filter, get_or, All, refl, sym, ap, ◌∙◌, arith, length-append, if◌then◌else◌}
use Rattle.std.specs.List.{range_with_len}
use Rattle.std.proofs.lemmas.Bool.{eqb-true, false≢true}
use Rattle.std.proofs.lemmas.List.{take_all}
use Rattle.std.proofs.lemmas.List.Elements.{All-head, All-tail, filter_passes}
use Rattle.fb_graph.specs.Dual.{Node, is_empty, is_live, layers_at, layers_of, first_vertices, top_at}
use Rattle.fb_graph.specs.Nests.{IsFormed, IsNest}
use Rattle.fb_graph.specs.Parity.{is_in}
use Rattle.fb_graph.specs.Problem.{Problem, edge_at, touches}
use Rattle.fb_graph.specs.declared.parts.Cut.{Cut}
use Rattle.fb_graph.specs.declared.parts.Edge.{Edge}
use Rattle.fb_graph.proofs.Ranges.{filter-range_below, is_in-filter-range}
use Rattle.fb_regions.specs.Moves.{BeginsWith, node_named}
use Rattle.fb_obstacles.specs.InternalSingles.{HasRoom, is_single}
use Rattle.fb_obstacles.specs.Obstacles.{residue_of}

-- a node that joins no others and has one layer has one vertex
one_below : (below : List Cut) (top : Cut) → length (below ++ top ∷ []) ≡ 1 → length (first_vertices (below ++ top ∷ [])) ≡ 1
    → length top.vertices ≡ 1
one_below [] top layers first = first
one_below (c ∷ cs) top layers first = absurd (omega (arith, layers, length-append cs (top ∷ [])))

one_in : (n : Node) → IsFormed n → not (is_empty n.children) ≡ false → length (layers_of n) ≡ 1 → length n.top.vertices ≡ 1
one_in n (inl childless) joins layers = one_below n.below n.top layers childless.defect
one_in n (inr many) joins layers = by n.children many.three joins
  where
    by : (children : List ℕ) → 3 ≤ length children → not (is_empty children) ≡ false → length n.top.vertices ≡ 1
    by [] three none = absurd (omega (arith, three))
    by (c ∷ cs) three none = absurd (false≢true (sym none))

one_named : (nodes : List Node) (name : ℕ) → All IsFormed nodes → is_live nodes name ≡ true
    → not (is_empty (node_named nodes name).children) ≡ false → length (layers_at nodes name) ≡ 1
    → length (top_at nodes name) ≡ 1
one_named [] name formed live joins layers = absurd (false≢true live)
one_named (n ∷ ns) name formed live joins layers =
    step (n.name == name) live joins layers (one_named ns name (All-tail IsFormed n ns formed))
  where
    step : (b : Bool) → (b || is_live ns name) ≡ true → not (is_empty (cond b n (node_named ns name)).children) ≡ false
        → length (cond b (layers_of n) (layers_at ns name)) ≡ 1
        → (is_live ns name ≡ true → not (is_empty (node_named ns name).children) ≡ false
        → length (layers_at ns name) ≡ 1 → length (top_at ns name) ≡ 1)
        → length (cond b n.top.vertices (top_at ns name)) ≡ 1
    step true l j one rest = one_in n (All-head IsFormed n ns formed) j one
    step false l j one rest = rest l j one

single_is : (b : Bool) (n : ℕ) → (if b then false else (n == 1)) ≡ true → (b ≡ false) × (n ≡ 1)
single_is true n is = absurd (false≢true is)
single_is false n is = (refl, eqb-true n 1 is)

pub single_length : (p : Problem) (nodes : List Node) (name : ℕ) → IsNest p nodes → is_live nodes name ≡ true
    → is_single nodes name ≡ true → length (top_at nodes name) ≡ 1
single_length p nodes name nest live single =
    let (joins, layers) =
    single_is (not (is_empty (node_named nodes name).children)) (length (layers_at nodes name)) single in
    one_named nodes name nest.forest.formed live joins layers

begins_one : (xs : List ℕ) (v : ℕ) → BeginsWith v xs → length xs ≡ 1 → xs ≡ v ∷ []
begins_one [] v begins one = absurd begins
begins_one (x ∷ []) v begins one = ap (λ u. u ∷ []) begins
begins_one (x ∷ y ∷ ys) v begins one = absurd (omega (arith, one))

pub single_top : (p : Problem) (nodes : List Node) (name v : ℕ) → IsNest p nodes → is_live nodes name ≡ true
    → is_single nodes name ≡ true → BeginsWith v (top_at nodes name) → top_at nodes name ≡ v ∷ []
single_top p nodes name v nest live single begins =
    begins_one (top_at nodes name) v begins (single_length p nodes name nest live single)

-- the edges that a scope lists at a vertex
pub listed_below : (edges : List Edge) (v i : ℕ) (items : List ℕ)
    → items ≡ filter (λ k. touches v (edge_at edges k)) (range_with_len 0 (length edges)) → i < length items
    → get_or items i 0 < length edges
listed_below edges v i items are less =
    let all : All (λ k. k < length edges) items = rw are (filter-range_below (λ k. touches v (edge_at edges k)) (length edges)) in
    all i 0 less

pub listed_touch : (edges : List Edge) (v i : ℕ) (items : List ℕ)
    → items ≡ filter (λ k. touches v (edge_at edges k)) (range_with_len 0 (length edges)) → i < length items
    → touches v (edge_at edges (get_or items i 0)) ≡ true
listed_touch edges v i items are less =
    let all : All (λ k. touches v (edge_at edges k) ≡ true) items =
    rw are (filter_passes (λ k. touches v (edge_at edges k)) (range_with_len 0 (length edges))) in
    all i 0 less

-- the edges listed so far leave the room
abbrev pub HasRoomAt : List Edge → List Node → ℕ → ℕ → List ℕ → ℕ → Type 0
HasRoomAt edges nodes far between items room = (k : ℕ) → is_in items k ≡ true
    → (if touches far (edge_at edges k) then between else room) ≤ residue_of nodes (edge_at edges k)

pub room_of_all : (edges : List Edge) (nodes : List Node) (v far between room i : ℕ) (items : List ℕ)
    → items ≡ filter (λ k. touches v (edge_at edges k)) (range_with_len 0 (length edges)) → length items ≤ i
    → HasRoomAt edges nodes far between (take i items) room → HasRoom edges nodes v far between room
room_of_all edges nodes v far between room i items are all has k less at =
    has k (ap (λ l. is_in l k) (take_all i items all ∙ are) ∙ (is_in-filter-range (λ j. touches v (edge_at edges j)) (length edges) k less ∙ at))
