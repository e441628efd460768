-- How far the weights of rows are from 0.
use Rattle.std.proofs.Common.{◌≡◌, ℕ, zero, suc, ◌+◌, ◌*◌, ◌^◌, ◌<◌, ◌≤◌, ℤ, pos, ◌+ℤ◌, neg_ℤ, Bool, true, false, List, [], ◌∷◌, ◌++◌, length, take, get_or, All, refl, sym, ap, ◌∙◌, subst, arith}
use Rattle.std.proofs.lemmas.Int.{ints}
use Rattle.std.proofs.lemmas.List.{take_more}
use Rattle.std.proofs.lemmas.List.Elements.{All-nil, All-cons, All-head, All-tail, All-get_or}
use Rattle.std.proofs.lemmas.List.FromFn.{length-range_with_len}
use Rattle.std.specs.List.{range_with_len}
use Rattle.fb_crew.specs.Windows.{AreRows, IsShotRow}
use Rattle.fb_graph.specs.Limits.{DecodingGraph, IsEdge, IsGraph, IsShot, ShotValue, most_edges, most_weight, signed, signed_weight}
use Rattle.fb_graph.specs.Parity.{is_in}
use Rattle.fb_graph.specs.Problem.{IsEdgeSet, edge_at, no_edge}
use Rattle.fb_graph.specs.ShotGraphs.{shot_graph, shot_problem}
use Rattle.fb_graph.specs.Signs.{signed_sum, signed_weight_of}
use Rattle.fb_graph.specs.declared.parts.Row.{Row}
use Rattle.fb_graph.specs.declared.parts.Row.TheVariants as row
use Rattle.fb_graph.proofs.Sets.{distinct_from_rising, is_in-All, is_in-range, length-le_from_within, range_rises}
use Rattle.fb_graph.proofs.ShiftedShots.{shot_graph_is_graph}
use Rattle.fb_run.specs.InternalSums.{HasLowWeight, IsLow}
use Rattle.fb_run.specs.Samples.{weight_in, weights_in}

-- ---- sums

pub weights_in-append : (rows added : List Row) → weights_in (rows ++ added) ≡ weights_in rows +ℤ weights_in added
weights_in-append [] added = omega (arith, ints)
weights_in-append (r ∷ rows) added = omega (arith, ints, weights_in-append rows added)

-- one row more
pub weights_in-more : (rows : List Row) (i : ℕ) (r : Row) → i < length rows → r ≡ get_or rows i r
    → weights_in (take (i + 1) rows) ≡ weights_in (take i rows) +ℤ weight_in r
weights_in-more rows i r less is =
    let last : weight_in (get_or rows i r) ≡ weight_in r = ap weight_in (sym is) in
    omega (arith, ints, ap weights_in (take_more rows i r less), weights_in-append (take i rows) (get_or rows i r ∷ []), last)

low_signed : (below : Bool) (weight most : ℕ) → weight ≤ most → IsLow most (signed below weight)
low_signed true weight most less = record { above = omega (arith, ints, less); below = omega (arith, ints, less) }
low_signed false weight most less = record { above = omega (arith, ints, less); below = omega (arith, ints, less) }

low_sum : (weight : ℕ → ℤ) (most : ℕ) (ks : List ℕ) → All (λ k. IsLow most (weight k)) ks
    → IsLow (most * length ks) (signed_sum weight ks)
low_sum weight most [] all = record { above = omega (arith, ints); below = omega (arith, ints) }
low_sum weight most (k ∷ ks) all =
    let here = All-head (λ j. IsLow most (weight j)) k ks all in
    let rest = low_sum weight most ks (All-tail (λ j. IsLow most (weight j)) k ks all) in
    let longer : most * length (k ∷ ks) ≡ most + most * length ks = omega arith in
    subst (λ m. IsLow m (signed_sum weight (k ∷ ks))) (sym longer) (record {
      above = omega (arith, ints, here.above, rest.above);
      below = omega (arith, ints, here.below, rest.below);
    })

IsLow-more : (least most : ℕ) (x : ℤ) → least ≤ most → IsLow least x → IsLow most x
IsLow-more least most x less low =
    record { above = omega (arith, ints, less, low.above); below = omega (arith, ints, less, low.below) }

-- ---- rows

-- what an edge set of the graph weighs
low_weight : (g : DecodingGraph) (shot : ShotValue) → IsGraph g → IsShot g shot → (chosen : List ℕ)
    → IsEdgeSet (shot_problem g shot) chosen → IsLow (2 ^ 64) (signed_weight_of g shot chosen)
low_weight g shot graph is chosen set =
    IsLow-more (most_weight * length chosen) (2 ^ 64) _ (omega (arith, few))
    (low_sum (signed_weight (shot_graph g shot)) most_weight chosen each)
  where
    whole : IsGraph (shot_graph g shot)
    whole = (shot_graph_is_graph g shot graph is).0

    each : All (λ k. IsLow most_weight (signed_weight (shot_graph g shot) k)) chosen
    each = λ i d less. low_signed (is_in (shot_graph g shot).negatives (get_or chosen i d)) _ most_weight
        (All-get_or (IsEdge g.vertices) (shot_graph g shot).edges (get_or chosen i d) no_edge (set.within i d less) whole.each_edge).light

    few : length chosen ≤ most_edges
    few = omega (
      arith,
      whole.edges,
      length-range_with_len 0 (length (shot_graph g shot).edges),
      length-le_from_within chosen (range_with_len 0 (length (shot_graph g shot).edges)) (distinct_from_rising chosen set.rising)
          (distinct_from_rising _ (range_rises 0 (length (shot_graph g shot).edges)))
          (λ k within. is_in-range (length (shot_graph g shot).edges) k (is_in-All (λ j. j < length (shot_graph g shot).edges) chosen set.within k within)),
    )

low_row : (g : DecodingGraph) (shot : ShotValue) (r : Row) → IsGraph g → IsShot g shot → IsShotRow g shot r → HasLowWeight r
low_row g shot (row.Best edges base weight cuts) graph is right =
    subst (IsLow (2 ^ 64)) (sym right.1.weighs) (low_weight g shot graph is edges right.1.edge_set)
low_row g shot (row.Odd v) graph is right = record { above = omega (arith, ints); below = omega (arith, ints) }

-- the rows of shots of a graph have weights within the limit
pub low_rows : (g : DecodingGraph) (shots : List ShotValue) (rows : List Row) → IsGraph g → All (IsShot g) shots
    → AreRows g shots rows → All HasLowWeight rows
low_rows g [] [] graph each are = All-nil HasLowWeight
low_rows g [] (r ∷ rows) graph each are = absurd are
low_rows g (s ∷ shots) [] graph each are = absurd are
low_rows g (s ∷ shots) (r ∷ rows) graph each are =
    All-cons HasLowWeight r rows (low_row g s r graph (All-head (IsShot g) s shots each) are.0)
    (low_rows g shots rows graph (All-tail (IsShot g) s shots each) are.1)
