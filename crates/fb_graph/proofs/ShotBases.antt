-- What all edges that weigh less than 0 for a shot weigh together, from what they weigh in the graph and the changes.
use Rattle.std.proofs.Common.{ℕ, ◌+◌, ◌<◌, ◌≤◌, ◌≡◌, ◌==◌, Bool, true, false, cond, if◌then◌else◌, List, [], ◌∷◌, length, map, get_or, sum_by, ℤ, pos, ◌+ℤ◌, refl, sym, ap, ◌∙◌, arith}
use Rattle.std.specs.Int.RustNames.{unsigned_abs}
use Rattle.std.specs.List.{range_with_len}
use Rattle.std.proofs.lemmas.Bool.{eqb-true}
use Rattle.std.proofs.lemmas.Int.{ints}
use Rattle.std.proofs.lemmas.List.FromFn.{length-range_with_len}
use Rattle.std.proofs.lemmas.List.{length-map}
use Rattle.std.proofs.lemmas.List.Elements.{All-map}
use Rattle.std.proofs.lemmas.List.Sums.{sum_by-cons}
use Rattle.fb_graph.specs.Parity.{is_in}
use Rattle.fb_graph.specs.Problem.{edge_at}
use Rattle.fb_graph.specs.Certificate.{AreDistinct}
use Rattle.fb_graph.specs.Limits.{DecodingGraph, IsGraph, IsShot, ShotValue, most_edges, no_shot, signed_weight}
use Rattle.fb_graph.specs.ShotGraphs.{weight_by, shot_graph}
use Rattle.fb_graph.specs.Signs.{base_of, shortfall}
use Rattle.fb_graph.proofs.Sets.{distinct_from_rising, is_in-All, is_in-range, length-le_from_within, range_below, range_rises}
use Rattle.fb_graph.proofs.Shifts.{sum_at_one, sum_of_set}
use Rattle.fb_graph.proofs.ShotGraphs.{abs-signed, length_changed, signed_changed, shot_graph_is}
use Rattle.fb_graph.proofs.SignTurns.{below_zero, neither, number, within_edges}
use Rattle.fb_graph.proofs.SignedSums.{negative_sum}
use Rattle.fb_graph.proofs.Sums.{sum_add, sum_exchange, sum_same}

module _ (k : ℕ) where
  -- no change of the edge adds nothing
  nothing_at : (f : ℕ × ℤ → ℕ) (changes : List (ℕ × ℤ)) → is_in (map number changes) k ≡ false
      → sum_by (λ (c : ℕ × ℤ). cond (c.0 == k) (f c) 0) changes ≡ 0
  nothing_at f [] none = refl
  nothing_at f (c ∷ cs) none =
      let parts = neither (c.0 == k) (is_in (map number cs) k) none in
      let here : cond (c.0 == k) (f c) 0 ≡ 0 = rw parts.0 refl in
      omega (arith, sum_by-cons (λ (q : ℕ × ℤ). cond (q.0 == k) (f q) 0) c cs, here, nothing_at f cs parts.1)

  abbrev before : ℤ → ℕ × ℤ → ℕ
  before z q = cond (q.0 == k) (shortfall z) 0

  abbrev after : ℕ × ℤ → ℕ
  after q = cond (q.0 == k) (shortfall q.1) 0

  -- how far an edge is below 0 by the changes and, if it is changed, without them
  shortfall_at : (changes : List (ℕ × ℤ)) (z : ℤ) → AreDistinct (map number changes)
      → shortfall (weight_by changes k z) + sum_by (λ (c : ℕ × ℤ). cond (c.0 == k) (shortfall z) 0) changes
      ≡ shortfall z + sum_by (λ (c : ℕ × ℤ). cond (c.0 == k) (shortfall c.1) 0) changes
  shortfall_at [] z distinct = refl
  shortfall_at (c ∷ cs) z distinct = step (c.0 == k) refl (shortfall_at cs z distinct.1)
    where
      step : (b : Bool) → (c.0 == k) ≡ b
          → shortfall (weight_by cs k z) + sum_by (before z) cs ≡ shortfall z + sum_by after cs
          → shortfall (if b then c.1 else weight_by cs k z) + sum_by (λ (q : ℕ × ℤ). cond (q.0 == k) (shortfall z) 0) (c ∷ cs)
          ≡ shortfall z + sum_by (λ (q : ℕ × ℤ). cond (q.0 == k) (shortfall q.1) 0) (c ∷ cs)
      step true e rest =
          let same : c.0 ≡ k = eqb-true c.0 k e in
          let others : is_in (map number cs) k ≡ false = ap (is_in (map number cs)) (sym same) ∙ distinct.0 in
          let here : before z c ≡ shortfall z = rw e refl in
          let there : after c ≡ shortfall c.1 = rw e refl in
          omega (
            arith,
            sum_by-cons (before z) c cs,
            sum_by-cons after c cs,
            here,
            there,
            nothing_at (λ q. shortfall z) cs others,
            nothing_at (λ (q : ℕ × ℤ). shortfall q.1) cs others,
          )
      step false e rest =
          let here : before z c ≡ 0 = rw e refl in
          let there : after c ≡ 0 = rw e refl in
          omega (arith, sum_by-cons (before z) c cs, sum_by-cons after c cs, here, there, rest)

-- what the edges weigh together that weigh less than 0, over all edges
sum_of_shortfalls : (g : DecodingGraph) → IsGraph g
    → sum_by (λ k. (edge_at g.edges k).weight) g.negatives
    ≡ sum_by (λ k. shortfall (signed_weight g k)) (range_with_len 0 (length g.edges))
sum_of_shortfalls g graph =
    sum_of_set (length g.edges) g.negatives (λ k. (edge_at g.edges k).weight) (distinct_from_rising g.negatives graph.negatives_rising)
    (within_edges g.edges g.negatives graph.negatives)
    ∙ sum_same (λ k. cond (is_in g.negatives k) (edge_at g.edges k).weight 0) (λ k. shortfall (signed_weight g k))
    (range_with_len 0 (length g.edges)) (λ i d less. each (get_or (range_with_len 0 (length g.edges)) i d))
  where
    each : (k : ℕ) → cond (is_in g.negatives k) (edge_at g.edges k).weight 0 ≡ shortfall (signed_weight g k)
    each k =
        sym (ap (λ b. cond b (unsigned_abs (signed_weight g k)) 0) (below_zero g graph k)
        ∙ ap (λ w. cond (is_in g.negatives k) w 0) (abs-signed (is_in g.negatives k) (edge_at g.edges k).weight))

module _ (g : DecodingGraph) (shot : ShotValue) (graph : IsGraph g) (is : IsShot g shot) where
  abbrev all_edges : List ℕ
  all_edges = range_with_len 0 (length g.edges)

  distinct_changes : AreDistinct (map number shot.changes)
  distinct_changes = distinct_from_rising (map number shot.changes) is.changes.rising

  -- a shot changes at most as many edges as there may be
  pub few_changes : length shot.changes ≤ most_edges
  few_changes =
      omega (
        arith,
        graph.edges,
        length-map shot.changes number,
        length-range_with_len 0 (length g.edges),
        length-le_from_within (map number shot.changes) all_edges distinct_changes
            (distinct_from_rising all_edges (range_rises 0 (length g.edges)))
            (λ v within. is_in-range (length g.edges) v
            (is_in-All (λ k. k < length g.edges) (map number shot.changes)
            (All-map (λ k. k < length g.edges) number shot.changes (λ i d less. (is.changes.each i d less).within)) v within)),
      )

  shot_shortfalls : sum_by (λ k. (edge_at (shot_graph g shot).edges k).weight) (shot_graph g shot).negatives
      ≡ sum_by (λ k. shortfall (weight_by shot.changes k (signed_weight g k))) all_edges
  shot_shortfalls =
      sum_of_shortfalls (shot_graph g shot) (shot_graph_is g shot graph is)
      ∙ (ap (λ n. sum_by (λ k. shortfall (signed_weight (shot_graph g shot) k)) (range_with_len 0 n)) (length_changed shot.changes g.edges)
      ∙ sum_same (λ k. shortfall (signed_weight (shot_graph g shot) k)) (λ k. shortfall (weight_by shot.changes k (signed_weight g k)))
      all_edges (λ i d less. ap shortfall (sym (signed_changed shot.changes g (get_or all_edges i d) (range_below (length g.edges) i d less)))))

  -- a sum over the changes, edge by edge
  over_edges : (f : ℕ × ℤ → ℕ → ℕ) → sum_by (λ (c : ℕ × ℤ). f c c.0) shot.changes
      ≡ sum_by (λ k. sum_by (λ (c : ℕ × ℤ). cond (c.0 == k) (f c k) 0) shot.changes) all_edges
  over_edges f =
      sum_same (λ (c : ℕ × ℤ). f c c.0) (λ (c : ℕ × ℤ). sum_by (λ k. cond (c.0 == k) (f c k) 0) all_edges) shot.changes
      (λ i d less. sym (sum_at_one (length g.edges) (get_or shot.changes i d).0 (f (get_or shot.changes i d)) (is.changes.each i d less).within))
      ∙ sum_exchange (λ (c : ℕ × ℤ) k. cond (c.0 == k) (f c k) 0) shot.changes all_edges

  pub shot_base : base_of g shot +ℤ pos (sum_by (λ (c : ℕ × ℤ). shortfall c.1) shot.changes)
      ≡ base_of g no_shot +ℤ pos (sum_by (λ (c : ℕ × ℤ). shortfall (signed_weight g c.0)) shot.changes)
  shot_base =
      let here : ℕ → ℕ = λ k. shortfall (weight_by shot.changes k (signed_weight g k)) in
      let was : ℕ → ℕ = λ k. shortfall (signed_weight g k) in
      let before : ℕ → ℕ = λ k. sum_by (λ (c : ℕ × ℤ). cond (c.0 == k) (shortfall (signed_weight g k)) 0) shot.changes in
      let after : ℕ → ℕ = λ k. sum_by (λ (c : ℕ × ℤ). cond (c.0 == k) (shortfall c.1) 0) shot.changes in
      omega (
        arith,
        ints,
        negative_sum (shot_graph g shot) (shot_graph g shot).negatives (λ k within. within),
        negative_sum g g.negatives (λ k within. within),
        shot_shortfalls,
        sum_of_shortfalls g graph,
        over_edges (λ (c : ℕ × ℤ) k. shortfall (signed_weight g k)),
        over_edges (λ (c : ℕ × ℤ) k. shortfall c.1),
        sum_add here before all_edges,
        sum_add was after all_edges,
        sum_same (λ k. here k + before k) (λ k. was k + after k) all_edges
            (λ i d less. shortfall_at (get_or all_edges i d) shot.changes (signed_weight g (get_or all_edges i d)) distinct_changes),
      )
