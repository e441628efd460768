-- The graph with a shot's weights beside the graph itself: only weights differ.
use Rattle.std.proofs.Common.{ℕ, zero, suc, ◌+◌, ◌%◌, ◌<◌, ◌≤◌, ◌≡◌, ◌==◌, inl, inr, Bool, true, false, List, [], ◌∷◌, length, filter, All, Option, Some, None, if◌then◌else◌, ℤ, pos, negsuc, refl, sym, ap, ◌∙◌, subst, arith}
use Rattle.std.specs.Int.{is_negative}
use Rattle.std.specs.Int.RustNames.{unsigned_abs}
use Rattle.std.specs.List.{range_with_len}
use Rattle.std.specs.List.Sorted.{IsStrictlyIncreasing}
use Rattle.std.proofs.lemmas.Bool.{false≢true, and_parts, le-ltb}
use Rattle.std.proofs.lemmas.List.Elements.{All-nil, All-cons, All-head, All-tail}
use Rattle.fb_graph.specs.Parity.{differ, is_in}
use Rattle.fb_graph.specs.Problem.{Problem, Flips, edge_at, touches}
use Rattle.fb_graph.specs.Components.{Leads, IsWalkBy, IsJoined, IsOddAt, IsFirstOdd}
use Rattle.fb_graph.specs.Limits.{AreChanges, DecodingGraph, HasWeight, IsChange, IsEdge, IsGraph, IsShot, ShotValue, detectors_of, is_real_in, most_weight, plain_shot, problem_of, signed, signed_weight}
use Rattle.fb_graph.specs.ShotGraphs.{weight_by, changed_from, changed_edges, changed_negatives, shot_graph, shot_problem, SameFirstOdd, SameFlips}
use Rattle.fb_graph.specs.declared.parts.Edge.{Edge}
use Rattle.fb_graph.proofs.ParitySums.{odd_same}
use Rattle.fb_graph.proofs.Ranges.{filter-range_rises, is_in-filter-range}
use Rattle.fb_graph.proofs.Sets.{All-from_is_in, is_in-All, is_in-filter, range_below}

-- no changes are changes of any graph
pub no_changes : (n : ℕ) → AreChanges n []
no_changes n = record { rising = λ k less. absurd (omega arith); each = All-nil (IsChange n) }

length_from : (changes : List (ℕ × ℤ)) (i : ℕ) (es : List Edge) → length (changed_from changes i es) ≡ length es
length_from changes i [] = refl
length_from changes i (e ∷ es) = ap suc (length_from changes (i + 1) es)

pub length_changed : (changes : List (ℕ × ℤ)) (es : List Edge) → length (changed_edges changes es) ≡ length es
length_changed [] es = refl
length_changed (c ∷ cs) es = length_from (c ∷ cs) 0 es

edge_from : (changes : List (ℕ × ℤ)) (i : ℕ) (es : List Edge) (k : ℕ) → k < length es
    → edge_at (changed_from changes i es) k ≡ record (edge_at es k) { weight = unsigned_abs (weight_by changes (i + k) (pos (edge_at es k).weight)) }
edge_from changes i [] k less = absurd (omega arith)
edge_from changes i (e ∷ es) zero less =
    let same : i ≡ i + 0 = omega arith in
    ap (λ j. record e { weight = unsigned_abs (weight_by changes j (pos e.weight)) }) same
edge_from changes i (e ∷ es) (suc k) less =
    let same : (i + 1) + k ≡ i + suc k = omega arith in
    edge_from changes (i + 1) es k (omega arith)
    ∙ ap (λ j. record (edge_at es k) { weight = unsigned_abs (weight_by changes j (pos (edge_at es k).weight)) }) same

-- an edge weighs what the changes give for it, or what it did
pub edge_changed : (changes : List (ℕ × ℤ)) (es : List Edge) (k : ℕ) → k < length es
    → edge_at (changed_edges changes es) k ≡ record (edge_at es k) { weight = unsigned_abs (weight_by changes k (pos (edge_at es k).weight)) }
edge_changed [] es k less = refl
edge_changed (c ∷ cs) es k less =
    let same : 0 + k ≡ k = omega arith in
    edge_from (c ∷ cs) 0 es k less
    ∙ ap (λ j. record (edge_at es k) { weight = unsigned_abs (weight_by (c ∷ cs) j (pos (edge_at es k).weight)) }) same

first_from : (changes : List (ℕ × ℤ)) (i : ℕ) (es : List Edge) (k : ℕ)
    → (edge_at (changed_from changes i es) k).first ≡ (edge_at es k).first
first_from changes i [] k = refl
first_from changes i (e ∷ es) zero = refl
first_from changes i (e ∷ es) (suc k) = first_from changes (i + 1) es k

second_from : (changes : List (ℕ × ℤ)) (i : ℕ) (es : List Edge) (k : ℕ)
    → (edge_at (changed_from changes i es) k).second ≡ (edge_at es k).second
second_from changes i [] k = refl
second_from changes i (e ∷ es) zero = refl
second_from changes i (e ∷ es) (suc k) = second_from changes (i + 1) es k

-- and keeps its ends
pub first_changed : (changes : List (ℕ × ℤ)) (es : List Edge) (k : ℕ)
    → (edge_at (changed_edges changes es) k).first ≡ (edge_at es k).first
first_changed [] es k = refl
first_changed (c ∷ cs) es k = first_from (c ∷ cs) 0 es k

pub second_changed : (changes : List (ℕ × ℤ)) (es : List Edge) (k : ℕ)
    → (edge_at (changed_edges changes es) k).second ≡ (edge_at es k).second
second_changed [] es k = refl
second_changed (c ∷ cs) es k = second_from (c ∷ cs) 0 es k

same_touches : (v : ℕ) (e f : Edge) → e.first ≡ f.first → e.second ≡ f.second → touches v e ≡ touches v f
same_touches v e f first second =
    ap (λ a. differ (v == a) (v == e.second)) first ∙ ap (λ b. differ (v == f.first) (v == b)) second

pub touches_changed : (changes : List (ℕ × ℤ)) (es : List Edge) (v k : ℕ)
    → touches v (edge_at (changed_edges changes es) k) ≡ touches v (edge_at es k)
touches_changed changes es v k =
    same_touches v (edge_at (changed_edges changes es) k) (edge_at es k) (first_changed changes es k) (second_changed changes es k)

-- what holds of all changed weights and of the graph's weight, without their signs, holds of a shot's
weight_holds : (P : ℕ → Type 0) (changes : List (ℕ × ℤ)) → All (λ (c : ℕ × ℤ). P (unsigned_abs c.1)) changes → (k : ℕ) (weight : ℤ)
    → P (unsigned_abs weight) → P (unsigned_abs (weight_by changes k weight))
weight_holds P [] all k weight h = h
weight_holds P (c ∷ cs) all k weight h =
    step (c.0 == k) (All-head (λ (d : ℕ × ℤ). P (unsigned_abs d.1)) c cs all)
    (weight_holds P cs (All-tail (λ (d : ℕ × ℤ). P (unsigned_abs d.1)) c cs all) k weight h)
  where
    step : (b : Bool) → P (unsigned_abs c.1) → P (unsigned_abs (weight_by cs k weight))
        → P (unsigned_abs (if b then c.1 else weight_by cs k weight))
    step true h rest = h
    step false h rest = rest

-- the changed weight without its sign doesn't depend on the sign in the graph
weight_without_sign : (changes : List (ℕ × ℤ)) (k : ℕ) (z y : ℤ) → unsigned_abs z ≡ unsigned_abs y
    → unsigned_abs (weight_by changes k z) ≡ unsigned_abs (weight_by changes k y)
weight_without_sign [] k z y same = same
weight_without_sign (c ∷ cs) k z y same = step (c.0 == k) (weight_without_sign cs k z y same)
  where
    step : (b : Bool) → unsigned_abs (weight_by cs k z) ≡ unsigned_abs (weight_by cs k y)
        → unsigned_abs (if b then c.1 else weight_by cs k z) ≡ unsigned_abs (if b then c.1 else weight_by cs k y)
    step true rest = refl
    step false rest = rest

pub abs-signed : (b : Bool) (w : ℕ) → unsigned_abs (signed b w) ≡ w
abs-signed true zero = refl
abs-signed true (suc w) = refl
abs-signed false w = refl

pub not_negative : (n : ℕ) → is_negative (pos n) ≡ false
not_negative n = le-ltb n 0 (omega arith)

-- a number is its sign and what it is without it
pub signed-abs : (z : ℤ) → signed (is_negative z) (unsigned_abs z) ≡ z
signed-abs (pos n) = ap (λ b. signed b n) (not_negative n)
signed-abs (negsuc n) = refl

-- a number below 0 isn't 0 without its sign
pub abs-positive : (z : ℤ) → is_negative z ≡ true → 1 ≤ unsigned_abs z
abs-positive (pos n) below = absurd (false≢true (sym (not_negative n) ∙ below))
abs-positive (negsuc n) below = omega arith

-- what an edge weighs for a shot, without its sign
pub weight_changed : (changes : List (ℕ × ℤ)) (g : DecodingGraph) (k : ℕ) → k < length g.edges
    → (edge_at (changed_edges changes g.edges) k).weight ≡ unsigned_abs (weight_by changes k (signed_weight g k))
weight_changed changes g k less =
    ap (λ (e : Edge). e.weight) (edge_changed changes g.edges k less)
    ∙ weight_without_sign changes k (pos (edge_at g.edges k).weight) (signed_weight g k)
    (sym (abs-signed (is_in g.negatives k) (edge_at g.edges k).weight))

-- what an edge weighs for a shot, with its sign
pub signed_changed : (changes : List (ℕ × ℤ)) (g : DecodingGraph) (k : ℕ) → k < length g.edges
    → weight_by changes k (signed_weight g k)
    ≡ signed (is_in (changed_negatives changes g) k) (edge_at (changed_edges changes g.edges) k).weight
signed_changed [] g k less = refl
signed_changed (c ∷ cs) g k less =
    let z : ℤ = weight_by (c ∷ cs) k (signed_weight g k) in
    let below : is_in (changed_negatives (c ∷ cs) g) k ≡ is_negative z =
    is_in-filter-range (λ j. is_negative (weight_by (c ∷ cs) j (signed_weight g j))) (length g.edges) k less in
    sym (rw (below, weight_changed (c ∷ cs) g k less) (signed-abs z))

abbrev IsFine : ℕ → Type 0
IsFine w = (w % 2 ≡ 0) × (w ≤ most_weight)

fine_changes : (n : ℕ) (changes : List (ℕ × ℤ)) → All (IsChange n) changes → All (λ (c : ℕ × ℤ). IsFine (unsigned_abs c.1)) changes
fine_changes n [] all = All-nil (λ (c : ℕ × ℤ). IsFine (unsigned_abs c.1))
fine_changes n (c ∷ cs) all =
    let here = All-head (IsChange n) c cs all in
    All-cons (λ (c : ℕ × ℤ). IsFine (unsigned_abs c.1)) c cs (here.even, here.light) (fine_changes n cs (All-tail (IsChange n) c cs all))

edges_from : (n m : ℕ) (changes : List (ℕ × ℤ)) → All (IsChange m) changes → (i : ℕ) (es : List Edge) → All (IsEdge n) es
    → All (IsEdge n) (changed_from changes i es)
edges_from n m changes are i [] all = All-nil (IsEdge n)
edges_from n m changes are i (e ∷ es) all =
    let here = All-head (IsEdge n) e es all in
    let fine = weight_holds IsFine changes (fine_changes m changes are) i (pos e.weight) (here.even, here.light) in
    All-cons (IsEdge n) (record e { weight = unsigned_abs (weight_by changes i (pos e.weight)) }) (changed_from changes (i + 1) es)
    (record { first = here.first; second = here.second; loopless = here.loopless; even = fine.0; light = fine.1 })
    (edges_from n m changes are (i + 1) es (All-tail (IsEdge n) e es all))

edges_changed : (n m : ℕ) (changes : List (ℕ × ℤ)) → All (IsChange m) changes → (es : List Edge) → All (IsEdge n) es
    → All (IsEdge n) (changed_edges changes es)
edges_changed n m [] are es all = all
edges_changed n m (c ∷ cs) are es all = edges_from n m (c ∷ cs) are 0 es all

negatives_rise : (changes : List (ℕ × ℤ)) (g : DecodingGraph) → IsGraph g → IsStrictlyIncreasing (changed_negatives changes g)
negatives_rise [] g graph = graph.negatives_rising
negatives_rise (c ∷ cs) g graph =
    filter-range_rises (λ k. is_negative (weight_by (c ∷ cs) k (signed_weight g k))) (length g.edges)

negatives_weigh : (changes : List (ℕ × ℤ)) (g : DecodingGraph) → IsGraph g
    → All (HasWeight (changed_edges changes g.edges)) (changed_negatives changes g)
negatives_weigh [] g graph = graph.negatives
negatives_weigh (c ∷ cs) g graph =
    All-from_is_in (HasWeight (changed_edges (c ∷ cs) g.edges)) (changed_negatives (c ∷ cs) g)
    (λ k within. from k (and_parts (is_in (range_with_len 0 (length g.edges)) k) (is_below k)
    (sym (is_in-filter is_below (range_with_len 0 (length g.edges)) k) ∙ within)))
  where
    is_below : ℕ → Bool
    is_below k = is_negative (weight_by (c ∷ cs) k (signed_weight g k))

    from : (k : ℕ) → (is_in (range_with_len 0 (length g.edges)) k ≡ true) × (is_below k ≡ true)
        → HasWeight (changed_edges (c ∷ cs) g.edges) k
    from k (in_range, below) =
        let less : k < length g.edges = is_in-All (λ j. j < length g.edges) (range_with_len 0 (length g.edges)) (range_below (length g.edges)) k in_range in
        record {
          within = omega (arith, length_changed (c ∷ cs) g.edges, less);
          heavy = subst (λ w. 1 ≤ w) (sym (weight_changed (c ∷ cs) g k less)) (abs-positive (weight_by (c ∷ cs) k (signed_weight g k)) below);
        }

pub shot_graph_is : (g : DecodingGraph) (shot : ShotValue) → IsGraph g → IsShot g shot → IsGraph (shot_graph g shot)
shot_graph_is g shot graph is = record {
  vertices = graph.vertices;
  edges = omega (arith, length_changed shot.changes g.edges, graph.edges);
  each_edge = edges_changed g.vertices (length g.edges) shot.changes is.changes.each g.edges graph.each_edge;
  negatives = negatives_weigh shot.changes g graph;
  negatives_rising = negatives_rise shot.changes g graph;
  virtuals = graph.virtuals;
  rising = graph.rising;
}

nothing_kept : (vs : List ℕ) → [] ≡ filter (λ v. false) vs
nothing_kept [] = refl
nothing_kept (v ∷ vs) = nothing_kept vs

-- real vertices that rise are a shot without changes
pub plain_is_shot : (g : DecodingGraph) (defects : List ℕ) → IsStrictlyIncreasing defects
    → All (λ v. is_real_in g v ≡ true) defects → IsShot g (plain_shot defects)
plain_is_shot g defects rising real = record {
  rising = rising;
  real = real;
  changes = no_changes (length g.edges);
  turned = nothing_kept (detectors_of g);
}

-- edges with the same ends
pub record HaveSameEnds (es fs : List Edge) : Type 0 where
  pub count : length es ≡ length fs
  pub first : (k : ℕ) → (edge_at es k).first ≡ (edge_at fs k).first
  pub second : (k : ℕ) → (edge_at es k).second ≡ (edge_at fs k).second

pub changed_ends : (changes : List (ℕ × ℤ)) (es : List Edge) → HaveSameEnds (changed_edges changes es) es
changed_ends changes es = record {
  count = length_changed changes es;
  first = first_changed changes es;
  second = second_changed changes es;
}

pub sym_ends : (es fs : List Edge) → HaveSameEnds es fs → HaveSameEnds fs es
sym_ends es fs same = record {
  count = sym same.count;
  first = λ k. sym (same.first k);
  second = λ k. sym (same.second k);
}

module _ (p : Problem) (fs : List Edge) (same : HaveSameEnds p.edges fs) where
  leads_same : (k a b : ℕ) → Leads (edge_at p.edges k) a b → Leads (edge_at fs k) a b
  leads_same k a b (inl (from, to)) = inl (sym (same.first k) ∙ from, sym (same.second k) ∙ to)
  leads_same k a b (inr (from, to)) = inr (sym (same.second k) ∙ from, sym (same.first k) ∙ to)

  walk_by_ends : (ks : List ℕ) (a b : ℕ) → IsWalkBy p ks a b → IsWalkBy (record p { edges = fs }) ks a b
  walk_by_ends [] a b walk = walk
  walk_by_ends (k ∷ ks) a b (next, within, leads, rest) = (
    next,
    subst (λ n. k < n) same.count within,
    leads_same k a next leads,
    walk_by_ends ks next b rest,
  )

  pub joined_by_ends : (a b : ℕ) → IsJoined p a b → IsJoined (record p { edges = fs }) a b
  joined_by_ends a b (ks, walk) = (ks, walk_by_ends ks a b walk)

  flips_by_ends : (chosen : List ℕ) → Flips p chosen → Flips (record p { edges = fs }) chosen
  flips_by_ends chosen flips v real =
      odd_same (λ k. touches v (edge_at fs k)) (λ k. touches v (edge_at p.edges k))
      (λ k. same_touches v (edge_at fs k) (edge_at p.edges k) (sym (same.first k)) (sym (same.second k))) chosen
      ∙ flips v real

odd_by_ends : (p : Problem) (fs : List Edge) → HaveSameEnds p.edges fs → (v : ℕ) → IsOddAt p v
    → IsOddAt (record p { edges = fs }) v
odd_by_ends p fs same v odd = record {
  below = odd.below;
  members = odd.members;
  component = record {
    distinct = odd.component.distinct;
    inside = λ u within. joined_by_ends p fs same v u (odd.component.inside u within);
    whole = λ u joined.
        odd.component.whole u (joined_by_ends (record p { edges = fs }) p.edges (sym_ends p.edges fs same) v u joined);
  };
  real = odd.real;
  odd = odd.odd;
}

-- edges with the same ends have the same first odd component
pub first_odd_by_ends : (p : Problem) (fs : List Edge) → HaveSameEnds p.edges fs → (r : Option ℕ) → IsFirstOdd p r
    → IsFirstOdd (record p { edges = fs }) r
first_odd_by_ends p fs same None none =
    λ v odd. none v (odd_by_ends (record p { edges = fs }) p.edges (sym_ends p.edges fs same) v odd)
first_odd_by_ends p fs same (Some v) (here, least) = (
  odd_by_ends p fs same v here,
  λ u before odd. least u before (odd_by_ends (record p { edges = fs }) p.edges (sym_ends p.edges fs same) u odd),
)

pub same_first_odd : SameFirstOdd
same_first_odd g shot r = (
  first_odd_by_ends (problem_of g shot) (changed_edges shot.changes g.edges)
      (sym_ends (changed_edges shot.changes g.edges) g.edges (changed_ends shot.changes g.edges)) r,
  first_odd_by_ends (shot_problem g shot) g.edges (changed_ends shot.changes g.edges) r,
)

pub same_flips : SameFlips
same_flips g shot chosen = (
  flips_by_ends (problem_of g shot) (changed_edges shot.changes g.edges)
      (sym_ends (changed_edges shot.changes g.edges) g.edges (changed_ends shot.changes g.edges)) chosen,
  flips_by_ends (shot_problem g shot) g.edges (changed_ends shot.changes g.edges) chosen,
)
