-- The ranges of a plan's nodes hold what the nodes own, and are few.
use Rattle.std.proofs.Common.{◌≡◌, ℕ, ◌+◌, ◌-◌, ◌<◌, ◌≤◌, ◌⊎◌, inl, inr, ◌==◌, ◌&&◌, nat_lt, Bool, true, false, List, [], ◌∷◌, ◌++◌, length, map, fold, get_or, count_by, All, refl, sym, ap, subst, ◌∙◌, arith, length-append}
use Rattle.std.specs.Prelude.{Ok}
use Rattle.std.specs.List.{range_with_len}
use Rattle.std.proofs.lemmas.Bool.{cases_lt, lt-ltb, le-ltb}
use Rattle.std.proofs.lemmas.List.{ext_get_or, get_or_append_left, get_or-append_right, get_or_past, length-map}
use Rattle.std.proofs.lemmas.Simd.{map-map}
use Rattle.std.proofs.lemmas.List.Elements.{All-nil, All-head, All-tail}
use Rattle.std.proofs.lemmas.List.FromFn.{get_or-map-range_with_len, length-range_with_len}
use Rattle.fb_graph.specs.Counts.{as_count}
use Rattle.fb_graph.specs.Parity.{is_in}
use Rattle.fb_graph.specs.Limits.{DecodingGraph, IsGraph}
use Rattle.fb_graph.proofs.Ranges.{filter-range_below, filter-range_rises, is_in-filter-range, not_in_below}
use Rattle.fb_graph.proofs.Sets.{count_equal, distinct_from_rising}
use Rattle.fb_plan.specs.Plans.{PlanTree, IsPlan, join_at, owner_of}
use Rattle.fb_plan.specs.Rules.{plan_by}
use Rattle.fb_plan.specs.Vertices.{is_node, owned_by}
use Rattle.fb_plan_in.specs.PlanText.{Fusion, plan_of}
use Rattle.fb_gen.proofs.Fusions.{count-cons}
use Rattle.fb_layers.specs.Runs.{add_vertex, is_held}
use Rattle.fb_layers.specs.InternalCovers.{IsRange, HoldOwned}
use Rattle.fb_layers.proofs.Covers.{plan_of_cover}
use Rattle.fb_layers.proofs.Extending.{count-add_vertex, ranges-add_vertex}
use Rattle.fb_plan_out.specs.PlanWriting.{ranges_at}
use Rattle.fb_plan_out.proofs.Readback.{IsSmall, IsWritable, fusion_at}

-- ---- the runs of a list

count-runs_from : (n v : ℕ) (rs : List (ℕ × ℕ)) (vs : List ℕ) → All (λ u. u < n) vs → All (IsRange n) rs
    → count_by (is_held v) (fold add_vertex rs vs) ≡ count_by (is_held v) rs + count_by (λ u. u == v) vs
count-runs_from n v rs [] below good = omega arith
count-runs_from n v rs (u ∷ us) below good =
    omega (
      arith,
      count-runs_from n v (add_vertex rs u) us (All-tail (λ w. w < n) u us below)
          (ranges-add_vertex n rs u (All-head (λ w. w < n) u us below) good),
      count-add_vertex n rs u v good,
      count-cons (λ w. w == v) u us,
    )

runs_good : (n : ℕ) (rs : List (ℕ × ℕ)) (vs : List ℕ) → All (λ u. u < n) vs → All (IsRange n) rs → All (IsRange n) (fold add_vertex rs vs)
runs_good n rs [] below good = good
runs_good n rs (u ∷ us) below good =
    runs_good n (add_vertex rs u) us (All-tail (λ w. w < n) u us below) (ranges-add_vertex n rs u (All-head (λ w. w < n) u us below) good)

length-add_vertex : (rs : List (ℕ × ℕ)) (v : ℕ) → length (add_vertex rs v) ≤ length rs + 1
length-add_vertex [] v = omega arith
length-add_vertex (r ∷ []) v = step (r.1 == v) refl
  where
    step : (b : Bool) → r.1 == v ≡ b → length (add_vertex (r ∷ []) v) ≤ 1 + 1
    step true e = rw e (omega arith)
    step false e = rw e (omega arith)
length-add_vertex (r ∷ s ∷ rs) v = omega (arith, length-add_vertex (s ∷ rs) v)

length-runs_from : (rs : List (ℕ × ℕ)) (vs : List ℕ) → length (fold add_vertex rs vs) ≤ length rs + length vs
length-runs_from rs [] = omega arith
length-runs_from rs (v ∷ vs) = omega (arith, length-runs_from (add_vertex rs v) vs, length-add_vertex rs v)

-- ---- the ranges of a node

owned_below : (t : PlanTree) (n : ℕ) → All (λ v. v < length t.owners) (owned_by t n)
owned_below t n = filter-range_below (λ v. is_node n (owner_of t v)) (length t.owners)

pub ranges_good : (t : PlanTree) (n : ℕ) → All (IsRange (length t.owners)) (ranges_at t n)
ranges_good t n = runs_good (length t.owners) [] (owned_by t n) (owned_below t n) (All-nil (IsRange (length t.owners)))

pub count-ranges_at : (t : PlanTree) (n v : ℕ)
    → count_by (is_held v) (ranges_at t n) ≡ as_count (nat_lt v (length t.owners) && is_node n (owner_of t v))
count-ranges_at t n v =
    count-runs_from (length t.owners) v [] (owned_by t n) (owned_below t n) (All-nil (IsRange (length t.owners)))
    ∙ zero_first (count_by (λ u. u == v) (owned_by t n))
    ∙ count_equal (owned_by t n) v (distinct_from_rising (owned_by t n) (filter-range_rises (λ u. is_node n (owner_of t u)) (length t.owners)))
    ∙ ap as_count (step (cases_lt v (length t.owners)))
  where
    zero_first : (k : ℕ) → 0 + k ≡ k
    zero_first k = omega arith

    step : (v < length t.owners) ⊎ (length t.owners ≤ v)
        → is_in (owned_by t n) v ≡ (nat_lt v (length t.owners) && is_node n (owner_of t v))
    step (inl less) =
        is_in-filter-range (λ u. is_node n (owner_of t u)) (length t.owners) v less
        ∙ sym (ap (λ b. b && is_node n (owner_of t v)) (lt-ltb v (length t.owners) less))
    step (inr past) =
        not_in_below (owned_by t n) v (λ k d inside. omega (arith, past, owned_below t n k d inside))
        ∙ sym (ap (λ b. b && is_node n (owner_of t v)) (le-ltb v (length t.owners) past))

-- ---- the plan that they give

ranges_held : (t : PlanTree)
    → HoldOwned (length t.owners) (length t.owners) t.owners
    (map (ranges_at t) (range_with_len 0 t.units) ++ map (λ i. ranges_at t (t.units + i)) (range_with_len 0 (length t.joins)))
ranges_held t = record {
  good = λ n. good n (cases_lt n (length units)) (cases_lt n (length (units ++ seams)));
  each = λ n v less. ap (count_by (is_held v)) (at n less (cases_lt n (length units))) ∙ count-ranges_at t n v;
}
  where
    units : List (List (ℕ × ℕ))
    units = map (ranges_at t) (range_with_len 0 t.units)

    seams : List (List (ℕ × ℕ))
    seams = map (λ i. ranges_at t (t.units + i)) (range_with_len 0 (length t.joins))

    length-units : length (map (ranges_at t) (range_with_len 0 t.units)) ≡ t.units
    length-units = length-map (range_with_len 0 t.units) (ranges_at t) ∙ length-range_with_len 0 t.units

    length-seams : length (map (λ i. ranges_at t (t.units + i)) (range_with_len 0 (length t.joins))) ≡ length t.joins
    length-seams = length-map (range_with_len 0 (length t.joins)) (λ i. ranges_at t (t.units + i)) ∙ length-range_with_len 0 (length t.joins)

    at : (n : ℕ) → n < length (units ++ seams) → (n < length units) ⊎ (length units ≤ n) → get_or (units ++ seams) n [] ≡ ranges_at t n
    at n less (inl unit) =
        get_or_append_left units seams [] n unit
        ∙ get_or-map-range_with_len (ranges_at t) 0 t.units n n [] (omega (arith, unit, length-units)) (omega arith)
    at n less (inr seam) =
        let k : n - length units < length t.joins = omega (arith, less, length-append units seams, length-seams, seam) in
        let whole : t.units + (n - length units) ≡ n = omega (arith, length-units, seam) in
        get_or-append_right units seams (length units) n [] refl seam
        ∙ get_or-map-range_with_len (λ i. ranges_at t (t.units + i)) 0 (length t.joins) (n - length units) (n - length units) [] k (omega arith)
        ∙ ap (ranges_at t) whole

    good : (n : ℕ) → (n < length units) ⊎ (length units ≤ n) → (n < length (units ++ seams)) ⊎ (length (units ++ seams) ≤ n)
        → All (IsRange (length t.owners)) (get_or (units ++ seams) n [])
    good n which (inl less) = subst (All (IsRange (length t.owners))) (sym (at n less which)) (ranges_good t n)
    good n which (inr past) = subst (All (IsRange (length t.owners))) (sym (get_or_past (units ++ seams) n [] past)) (All-nil (IsRange (length t.owners)))

same_joins : (joins : List (ℕ × ℕ)) → map (λ i. ((join_at joins i).0, (join_at joins i).1)) (range_with_len 0 (length joins)) ≡ joins
same_joins joins =
    ext_get_or (0, 0) (map (join_at joins) (range_with_len 0 (length joins))) joins as_many
    (λ i less. get_or-map-range_with_len (join_at joins) 0 (length joins) i i (0, 0) (omega (arith, less, as_many)) (omega arith))
  where
    as_many : length (map (join_at joins) (range_with_len 0 (length joins))) ≡ length joins
    as_many = length-map (range_with_len 0 (length joins)) (join_at joins) ∙ length-range_with_len 0 (length joins)

pub plan_found : (g : DecodingGraph) (t : PlanTree) → IsPlan g t
    → plan_of g (map (ranges_at t) (range_with_len 0 t.units)) (map (fusion_at t) (range_with_len 0 (length t.joins))) ≡ Ok t
unfolding plan_of
plan_found g t plan =
    ap (λ js. plan_by g units js (map (λ (f : Fusion). f.seam) fusions)) (map-map (λ (f : Fusion). (f.left, f.right)) (fusion_at t) (range_with_len 0 (length t.joins)))
    ∙ ap (plan_by g units joins) (map-map (λ (f : Fusion). f.seam) (fusion_at t) (range_with_len 0 (length t.joins)))
    ∙ plan_of_cover g t plan units joins seams
    (length-map (range_with_len 0 t.units) (ranges_at t) ∙ length-range_with_len 0 t.units)
    (length-map (range_with_len 0 (length t.joins)) (λ i. ranges_at t (t.units + i)) ∙ length-range_with_len 0 (length t.joins))
    (same_joins t.joins)
    (subst (λ n. HoldOwned n (length t.owners) t.owners (units ++ seams)) plan.count (ranges_held t))
  where
    units : List (List (ℕ × ℕ))
    units = map (ranges_at t) (range_with_len 0 t.units)

    seams : List (List (ℕ × ℕ))
    seams = map (λ i. ranges_at t (t.units + i)) (range_with_len 0 (length t.joins))

    joins : List (ℕ × ℕ)
    joins = map (λ i. ((join_at t.joins i).0, (join_at t.joins i).1)) (range_with_len 0 (length t.joins))

    fusions : List Fusion
    fusions = map (fusion_at t) (range_with_len 0 (length t.joins))

-- ---- all numbers of a plan fit

pub plan_writable : (g : DecodingGraph) (t : PlanTree) → IsGraph g → IsPlan g t → IsWritable t
plan_writable g t graph plan = record {
  units = λ n k d less.
      let range : IsRange (length t.owners) (get_or (ranges_at t n) k d) = ranges_good t n k d less in
      (omega (arith, range.0, range.1, plan.count, graph.vertices), omega (arith, range.1, plan.count, graph.vertices));
  joins = λ i. join i (cases_lt i (length t.joins));
}
  where
    join : (i : ℕ) → (i < length t.joins) ⊎ (length t.joins ≤ i) → IsSmall (join_at t.joins i)
    join i (inl less) =
        let it = plan.tree.joins i less in
        (omega (arith, it.left, plan.tree.limit, plan.tree.count, less), omega (arith, it.right, plan.tree.limit, plan.tree.count, less))
    join i (inr past) = rw (get_or_past t.joins i (0, 0) past) (omega arith, omega arith)

pub length-ranges_at : (t : PlanTree) (n : ℕ) → length (ranges_at t n) ≤ length (owned_by t n)
length-ranges_at t n = omega (arith, length-runs_from [] (owned_by t n))
