-- A graph that is built is laid out as it should be.
use Rattle.std.proofs.Common.{◌≡◌, ℕ, ◌<◌, ◌≤◌, ◌&&◌, ◌⊎◌, inl, inr, Bool, true, false, not, nat_lt, List, [], length, map, get_or, All, filter, None, Ok, ℤ, pos, refl, sym, ap, ◌∙◌, subst, arith}
use Rattle.std.specs.Bool.{beq}
use Rattle.std.specs.List.{range_with_len}
use Rattle.std.specs.Int.{is_negative}
use Rattle.std.specs.List.Sorted.{IsStrictlyIncreasing}
use Rattle.std.proofs.lemmas.Bool.{and_parts, cases_lt, le-ltb, lt-ltb, ltb-true}
use Rattle.std.proofs.lemmas.List.{get_or-map, length-map}
use Rattle.fb_graph.specs.Parity.{is_in}
use Rattle.fb_graph.specs.Problem.{edge_at, no_edge}
use Rattle.fb_graph.specs.Limits.{DecodingGraph, HasWeight, IsEdge, detectors_of, most_vertices, most_edges, odd_ends}
use Rattle.fb_graph.specs.GraphRules.{graph_of, edges_fault, virtuals_fault, edge_from, is_below_zero}
use Rattle.fb_graph.specs.Adjacency.{edges_at}
use Rattle.fb_graph.specs.InternalLayout.{AreOddEnds, AreSigns, IsLaidOut}
use Rattle.fb_graph.specs.Signs.{is_odd_end}
use Rattle.fb_graph.specs.declared.parts.Edge.{Edge}
use Rattle.fb_graph.specs.declared.signs.Signs.{Signs}
use Rattle.fb_graph.proofs.Booleans.{same_bool}
use Rattle.fb_graph.proofs.Ranges.{filter-range_same, filter-range_below, filter-range_rises, is_in-filter-range}
use Rattle.fb_graph.proofs.Sets.{All-from_is_in, is_in-All, is_in-filter, is_in-range, range_below, rising_same}
use Rattle.fb_graph.proofs.ShiftedShots.{kept_rise}
use Rattle.fb_graph.proofs.ShotGraphs.{abs-positive}

-- the vertices whose flag is as wanted
abbrev pub flagged : List Bool → Bool → ℕ → List ℕ
flagged flags wanted n = filter (λ k. beq (get_or flags k false) wanted) (range_with_len 0 n)

beq-true : (b : Bool) → beq b true ≡ b
beq-true true = refl
beq-true false = refl

beq-false : (b : Bool) → beq b false ≡ not b
beq-false true = refl
beq-false false = refl

module _ (n : ℕ) (virtuals : List ℕ) (flags : List Bool)
    (known : (k : ℕ) → k < n → get_or flags k false ≡ is_in virtuals k) where
  pub virtuals_flagged : flagged flags true n ≡ filter (is_in virtuals) (range_with_len 0 n)
  virtuals_flagged = filter-range_same (λ k. beq (get_or flags k false) true) (is_in virtuals) n
      (λ k lt. beq-true (get_or flags k false) ∙ known k lt)

  pub each_flag_known : (v : ℕ) → v < n → get_or flags v false ≡ is_in (flagged flags true n) v
  each_flag_known v lt = known v lt ∙ sym (is_in-filter-range (is_in virtuals) n v lt) ∙ ap (λ xs. is_in xs v) (sym virtuals_flagged)

  pub detectors_flagged : flagged flags false n ≡ filter (λ v. not (is_in (flagged flags true n) v)) (range_with_len 0 n)
  detectors_flagged = filter-range_same (λ k. beq (get_or flags k false) false) (λ v. not (is_in (flagged flags true n) v)) n
      (λ k lt. beq-false (get_or flags k false) ∙ ap not (each_flag_known k lt))

-- a number is in the range if it is below its end
in_range_below : (n v : ℕ) → is_in (range_with_len 0 n) v ≡ nat_lt v n
in_range_below n v = same_bool (is_in (range_with_len 0 n) v) (nat_lt v n)
    (λ within. lt-ltb v n (is_in-All (λ u. u < n) (range_with_len 0 n) (range_below n) v within))
    (λ below. is_in-range n v (ltb-true v n below))

-- odd ends found by the flags are those of the graph
pub odd_ends_are : (g : DecodingGraph) (flags : List Bool) (ks ends : List ℕ) → length flags ≡ g.vertices
    → ((v : ℕ) → v < g.vertices → get_or flags v false ≡ is_in g.virtuals v) → AreOddEnds g.edges flags ks ends
    → ends ≡ odd_ends g ks
odd_ends_are g flags ks ends count known are =
    rising_same ends (odd_ends g ks) are.rising (kept_rise g (is_odd_end g ks))
    (λ v. are.each v
    ∙ (ap (λ b. b && is_odd_end g ks v) (real v (cases_lt v (length flags)))
    ∙ sym (is_in-filter (is_odd_end g ks) (detectors_of g) v
    ∙ ap (λ b. b && is_odd_end g ks v)
    (is_in-filter (λ u. not (is_in g.virtuals u)) (range_with_len 0 g.vertices) v
    ∙ ap (λ b. b && not (is_in g.virtuals v)) (in_range_below g.vertices v ∙ ap (nat_lt v) (sym count))))))
  where
    real : (v : ℕ) → (v < length flags) ⊎ (length flags ≤ v)
        → (nat_lt v (length flags) && not (get_or flags v false)) ≡ (nat_lt v (length flags) && not (is_in g.virtuals v))
    real v (inl low) = ap (λ b. nat_lt v (length flags) && not b) (known v (omega (arith, low, count)))
    real v (inr high) = rw (le-ltb v (length flags) high) refl

module _ (given : List (ℕ × ℕ × ℤ)) where
  below_zero_heavy : (k : ℕ) → is_below_zero given k ≡ true → k < length given → 1 ≤ (edge_at (map edge_from given) k).weight
  below_zero_heavy k below less =
      subst (λ (e : Edge). 1 ≤ e.weight) (sym (get_or-map edge_from given k (0, 0, pos 0) no_edge less))
      (abs-positive (get_or given k (0, 0, pos 0)).2 below)

  negatives_heavy : All (HasWeight (map edge_from given)) (filter (is_below_zero given) (range_with_len 0 (length given)))
  negatives_heavy =
      All-from_is_in (HasWeight (map edge_from given)) (filter (is_below_zero given) (range_with_len 0 (length given)))
      (λ k within. from k (and_parts (is_in (range_with_len 0 (length given)) k) (is_below_zero given k)
      (sym (is_in-filter (is_below_zero given) (range_with_len 0 (length given)) k) ∙ within)))
    where
      from : (k : ℕ) → (is_in (range_with_len 0 (length given)) k ≡ true) × (is_below_zero given k ≡ true)
          → HasWeight (map edge_from given) k
      from k (in_range, below) =
          let less : k < length given = ltb-true k (length given) (sym (in_range_below (length given) k) ∙ in_range) in
          record { within = omega (arith, less, length-map given edge_from); heavy = below_zero_heavy k below less }

-- the graph of these numbers, if they break no rule
abbrev pub built_graph : ℕ → List (ℕ × ℕ × ℤ) → List Bool → DecodingGraph
built_graph n given flags = record {
  vertices = n;
  edges = map edge_from given;
  negatives = filter (is_below_zero given) (range_with_len 0 (length given));
  virtuals = flagged flags true n;
}

pub built_is_laid_out : (n : ℕ) (given : List (ℕ × ℕ × ℤ)) (virtuals : List ℕ) (flags : List Bool) (adjacent : List (List ℕ)) (signs : Signs)
    → n ≤ most_vertices → length given ≤ most_edges → All (IsEdge n) (map edge_from given)
    → length flags ≡ n → ((k : ℕ) → k < n → get_or flags k false ≡ is_in virtuals k)
    → length adjacent ≡ n
    → ((v : ℕ) → v < n → get_or adjacent v [] ≡ edges_at (map edge_from given) (length (map edge_from given)) v)
    → AreSigns given (map edge_from given) flags signs
    → IsLaidOut (record { vertices = n; edges = map edge_from given; negatives = signs.negatives; virtuals = flagged flags true n })
    adjacent flags (flagged flags false n) signs
built_is_laid_out n given virtuals flags adjacent signs few_vertices few_edges each flag_count known adjacent_count each_vertex are = record {
  graph = record {
    vertices = few_vertices;
    edges = omega (arith, few_edges, length-map given edge_from);
    each_edge = each;
    negatives = subst (All (HasWeight (map edge_from given))) (sym are.negatives) (negatives_heavy given);
    negatives_rising = subst IsStrictlyIncreasing (sym are.negatives) (filter-range_rises (is_below_zero given) (length given));
    virtuals = filter-range_below (λ k. beq (get_or flags k false) true) n;
    rising = filter-range_rises (λ k. beq (get_or flags k false) true) n;
  };
  adjacent_count = adjacent_count;
  each_vertex = each_vertex;
  flag_count = flag_count;
  each_flag = each_flag_known n virtuals flags known;
  each_detector = detectors_flagged n virtuals flags known;
  edge_signs = record {
    flag_count = ap length are.flags ∙ (length-map given _ ∙ sym (length-map given edge_from));
    each_flag = λ k less. each_sign k (omega (arith, less, length-map given edge_from));
    turned = odd_ends_are (record { vertices = n; edges = map edge_from given; negatives = signs.negatives; virtuals = flagged flags true n })
        flags signs.negatives signs.turned flag_count (each_flag_known n virtuals flags known) are.turned;
    total = are.total;
    light = are.light;
  };
}
  where
    each_sign : (k : ℕ) → k < length given → get_or signs.flags.items k false ≡ is_in signs.negatives k
    each_sign k less =
        ap (λ fs. get_or fs k false) are.flags
        ∙ (get_or-map (λ (e : ℕ × ℕ × ℤ). is_negative e.2) given k (0, 0, pos 0) false less
        ∙ (sym (is_in-filter-range (is_below_zero given) (length given) k less) ∙ ap (λ ks. is_in ks k) (sym are.negatives)))

pub built_is_graph_of : (n : ℕ) (given : List (ℕ × ℕ × ℤ)) (virtuals : List ℕ) (flags : List Bool)
    → n ≤ most_vertices → length given ≤ most_edges → edges_fault n 0 given ≡ None → virtuals_fault n [] 0 virtuals ≡ None
    → ((k : ℕ) → k < n → get_or flags k false ≡ is_in virtuals k)
    → graph_of n given virtuals ≡ Ok (built_graph n given flags)
built_is_graph_of n given virtuals flags few_vertices few_edges good_edges good_virtuals known =
    rw (le-ltb most_vertices n few_vertices, le-ltb most_edges (length given) few_edges, good_edges, good_virtuals)
    (ap (λ vs. Ok (record {
      vertices = n;
      edges = map edge_from given;
      negatives = filter (is_below_zero given) (range_with_len 0 (length given));
      virtuals = vs;
    })) (sym (virtuals_flagged n virtuals flags known)))
