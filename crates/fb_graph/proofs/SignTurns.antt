-- The signs that a shot turns: which edges weigh less than 0 for it, and where an odd number of them end.
use Rattle.std.proofs.Common.{ℕ, zero, suc, ◌<◌, ◌≤◌, ◌≡◌, ◌==◌, ◌&&◌, ◌||◌, ◌⊎◌, inl, inr, Bool, true, false, not, nat_lt, cond, if◌then◌else◌, List, [], ◌∷◌, ◌++◌, length, map, filter, All, ℤ, pos, neg_ℤ, refl, sym, ap, ◌∙◌, arith}
use Rattle.std.specs.Int.{is_negative}
use Rattle.std.specs.List.{range_with_len}
use Rattle.std.proofs.lemmas.Bool.{false≢true, and_from, and_parts, cases_lt, eqb-true, false_from_ne_true, ltb-true}
use Rattle.fb_graph.specs.Parity.{differ, is_odd_count, is_in}
use Rattle.fb_graph.specs.Problem.{edge_at, touches}
use Rattle.fb_graph.specs.Certificate.{AreDistinct}
use Rattle.fb_graph.specs.Limits.{DecodingGraph, HasWeight, IsGraph, IsShot, ShotValue, detectors_of, is_real_in, odd_ends, signed, signed_weight, turned_edges}
use Rattle.fb_graph.specs.ShotGraphs.{weight_by, changed_negatives, shot_graph}
use Rattle.fb_graph.specs.Signs.{NegativesByTurns, ShiftedByTurns, is_odd_end, shifted_defects}
use Rattle.fb_graph.specs.declared.parts.Edge.{Edge}
use Rattle.fb_graph.proofs.ParitySums.{differ_assoc, differ-false, odd_same, odd-append, odd-differ}
use Rattle.fb_graph.proofs.Ranges.{is_in-filter-range}
use Rattle.fb_graph.proofs.Sets.{distinct_from_rising, is_in-All, is_in-filter, is_in-range}
use Rattle.fb_graph.proofs.Shifts.{and_differ, odd_of_set}
use Rattle.fb_graph.proofs.ShotGraphs.{length_changed, not_negative, shot_graph_is, touches_changed}
use Rattle.fb_graph.proofs.SignSteps.{turned_within}

-- the parity of the numbers that are in one of two lists, but not in both
pub odd_of_difference : (n : ℕ) (xs ys zs : List ℕ) (test : ℕ → Bool) → AreDistinct xs → AreDistinct ys → AreDistinct zs
    → All (λ k. k < n) xs → All (λ k. k < n) ys → All (λ k. k < n) zs
    → ((k : ℕ) → is_in zs k ≡ differ (is_in xs k) (is_in ys k))
    → is_odd_count test zs ≡ differ (is_odd_count test xs) (is_odd_count test ys)
odd_of_difference n xs ys zs test apart_x apart_y apart_z below_x below_y below_z each =
    sym (odd_of_set n zs test apart_z below_z)
    ∙ (odd_same (λ k. is_in zs k && test k) (λ k. differ (is_in xs k && test k) (is_in ys k && test k))
    (λ k. ap (λ b. b && test k) (each k) ∙ and_differ (is_in xs k) (is_in ys k) (test k)) (range_with_len 0 n)
    ∙ (odd-differ (λ k. is_in xs k && test k) (λ k. is_in ys k && test k) (range_with_len 0 n)
    ∙ (ap (λ b. differ b (is_odd_count (λ k. is_in ys k && test k) (range_with_len 0 n))) (odd_of_set n xs test apart_x below_x)
    ∙ ap (differ (is_odd_count test xs)) (odd_of_set n ys test apart_y below_y))))

-- numbers below n hold none from n on
not_beyond : (n : ℕ) (set : List ℕ) → All (λ k. k < n) set → (k : ℕ) → n ≤ k → is_in set k ≡ false
not_beyond n set below k high =
    false_from_ne_true (is_in set k) (λ within. omega (arith, high, is_in-All (λ j. j < n) set below k within))

pub within_edges : (es : List Edge) (ks : List ℕ) → All (HasWeight es) ks → All (λ k. k < length es) ks
within_edges es ks all = λ i d less. (all i d less).within

-- an edge weighs less than 0 if the graph says so
pub below_zero : (g : DecodingGraph) → IsGraph g → (k : ℕ) → is_negative (signed_weight g k) ≡ is_in g.negatives k
below_zero g graph k = step (is_in g.negatives k) refl
  where
    heavy : (w : ℕ) → 1 ≤ w → is_negative (neg_ℤ (pos w)) ≡ true
    heavy zero positive = absurd (omega arith)
    heavy (suc w) positive = refl

    step : (b : Bool) → is_in g.negatives k ≡ b → is_negative (signed b (edge_at g.edges k).weight) ≡ b
    step true e = heavy (edge_at g.edges k).weight (is_in-All (HasWeight g.edges) g.negatives graph.negatives k e).heavy
    step false e = not_negative (edge_at g.edges k).weight

pub neither : (a b : Bool) → (a || b) ≡ false → (a ≡ false) × (b ≡ false)
neither true b none = absurd (false≢true (sym none))
neither false b none = (refl, none)

differ_twice : (a b : Bool) → b ≡ differ a (differ b a)
differ_twice true true = refl
differ_twice true false = refl
differ_twice false true = refl
differ_twice false false = refl

abbrev pub number : ℕ × ℤ → ℕ
number c = c.0

module _ (g : DecodingGraph) where
  abbrev turns : ℕ × ℤ → Bool
  turns c = differ (is_negative c.1) (is_in g.negatives c.0)

  -- an edge that isn't changed isn't turned
  turned_among : (changes : List (ℕ × ℤ)) (k : ℕ) → is_in (map number changes) k ≡ false → is_in (turned_edges g changes) k ≡ false
  turned_among [] k none = refl
  turned_among (c ∷ cs) k none =
      let parts = neither (c.0 == k) (is_in (map number cs) k) none in
      step (turns c) parts.0 (turned_among cs k parts.1)
    where
      step : (b : Bool) → (c.0 == k) ≡ false → is_in (turned_edges g cs) k ≡ false
          → is_in (map number (cond b (c ∷ filter turns cs) (filter turns cs))) k ≡ false
      step true other rest = rw other rest
      step false other rest = rest

  -- whether an edge weighs less than 0 by the changes
  turned_at : (changes : List (ℕ × ℤ)) (k : ℕ) (z : ℤ) → AreDistinct (map number changes) → is_negative z ≡ is_in g.negatives k
      → is_negative (weight_by changes k z) ≡ differ (is_in g.negatives k) (is_in (turned_edges g changes) k)
  turned_at [] k z distinct same = same ∙ sym (differ-false (is_in g.negatives k))
  turned_at (c ∷ cs) k z distinct same = step (c.0 == k) refl (turned_at cs k z distinct.1 same)
    where
      here : (b : Bool) → (c.0 == k) ≡ true → is_in (turned_edges g cs) k ≡ false
          → is_in (map number (cond b (c ∷ filter turns cs) (filter turns cs))) k ≡ b
      here true e rest = rw e refl
      here false e rest = rest

      there : (b : Bool) → (c.0 == k) ≡ false
          → is_in (map number (cond b (c ∷ filter turns cs) (filter turns cs))) k ≡ is_in (turned_edges g cs) k
      there true e = rw e refl
      there false e = refl

      step : (b : Bool) → (c.0 == k) ≡ b
          → is_negative (weight_by cs k z) ≡ differ (is_in g.negatives k) (is_in (turned_edges g cs) k)
          → is_negative (if b then c.1 else weight_by cs k z)
          ≡ differ (is_in g.negatives k) (is_in (map number (cond (turns c) (c ∷ filter turns cs) (filter turns cs))) k)
      step true e rest =
          let same_edge : c.0 ≡ k = eqb-true c.0 k e in
          differ_twice (is_in g.negatives k) (is_negative c.1)
          ∙ ap (differ (is_in g.negatives k))
          (ap (λ j. differ (is_negative c.1) (is_in g.negatives j)) (sym same_edge)
          ∙ sym (here (turns c) e (turned_among cs k (ap (is_in (map number cs)) (sym same_edge) ∙ distinct.0))))
      step false e rest = rest ∙ ap (differ (is_in g.negatives k)) (sym (there (turns c) e))

  negatives_at : (changes : List (ℕ × ℤ)) → IsGraph g → AreDistinct (map number changes) → (k : ℕ) → k < length g.edges
      → is_in (changed_negatives changes g) k ≡ differ (is_in g.negatives k) (is_in (turned_edges g changes) k)
  negatives_at [] graph distinct k less = sym (differ-false (is_in g.negatives k))
  negatives_at (c ∷ cs) graph distinct k less =
      is_in-filter-range (λ j. is_negative (weight_by (c ∷ cs) j (signed_weight g j))) (length g.edges) k less
      ∙ turned_at (c ∷ cs) k (signed_weight g k) distinct (below_zero g graph k)

module _ (g : DecodingGraph) (shot : ShotValue) (graph : IsGraph g) (is : IsShot g shot) where
  abbrev below_edges : List ℕ → Type 0
  below_edges ks = All (λ k. k < length g.edges) ks

  pub turned_below : All (λ k. k < length g.edges) (turned_edges g shot.changes)
  turned_below = turned_within g (length g.edges) shot.changes (λ i d less. (is.changes.each i d less).within)

  pub negatives_below : All (λ k. k < length g.edges) (shot_graph g shot).negatives
  negatives_below = λ i d less.
      let heavy = (shot_graph_is g shot graph is).negatives i d less in
      omega (arith, heavy.within, length_changed shot.changes g.edges)

  pub by_turns : (k : ℕ) → is_in (shot_graph g shot).negatives k ≡ differ (is_in g.negatives k) (is_in (turned_edges g shot.changes) k)
  by_turns k = step (cases_lt k (length g.edges))
    where
      step : (k < length g.edges) ⊎ (length g.edges ≤ k)
          → is_in (shot_graph g shot).negatives k ≡ differ (is_in g.negatives k) (is_in (turned_edges g shot.changes) k)
      step (inl low) = negatives_at g shot.changes graph (distinct_from_rising (map number shot.changes) is.changes.rising) k low
      step (inr high) =
          rw (
            not_beyond (length g.edges) (shot_graph g shot).negatives negatives_below k high,
            not_beyond (length g.edges) g.negatives (within_edges g.edges g.negatives graph.negatives) k high,
            not_beyond (length g.edges) (turned_edges g shot.changes) turned_below k high,
          ) refl

pub negatives_by_turns : NegativesByTurns
negatives_by_turns g shot graph is k = by_turns g shot graph is k

-- a real vertex is among the detectors'
detector_from_real : (g : DecodingGraph) (v : ℕ) → is_real_in g v ≡ true → is_in (detectors_of g) v ≡ true
detector_from_real g v real =
    let parts = and_parts (nat_lt v g.vertices) (not (is_in g.virtuals v)) real in
    is_in-filter (λ u. not (is_in g.virtuals u)) (range_with_len 0 g.vertices) v
    ∙ and_from (is_in (range_with_len 0 g.vertices) v) (not (is_in g.virtuals v))
    (is_in-range g.vertices v (ltb-true v g.vertices parts.0)) parts.1

-- turned edges are different ones
turned_distinct : (g : DecodingGraph) (changes : List (ℕ × ℤ)) → AreDistinct (map number changes) → AreDistinct (turned_edges g changes)
turned_distinct g [] distinct = tt
turned_distinct g (c ∷ cs) distinct =
    step (turns g c) (turned_among g cs c.0 distinct.0) (turned_distinct g cs distinct.1)
  where
    step : (b : Bool) → is_in (turned_edges g cs) c.0 ≡ false → AreDistinct (turned_edges g cs)
        → AreDistinct (map number (cond b (c ∷ filter (turns g) cs) (filter (turns g) cs)))
    step true other rest = (other, rest)
    step false other rest = rest

module _ (g : DecodingGraph) (shot : ShotValue) (graph : IsGraph g) (is : IsShot g shot) where
  -- the parity of the shot's negative edges
  pub odd_by_turns : (test : ℕ → Bool) → is_odd_count test (shot_graph g shot).negatives
      ≡ differ (is_odd_count test g.negatives) (is_odd_count test (turned_edges g shot.changes))
  odd_by_turns test =
      odd_of_difference (length g.edges) g.negatives (turned_edges g shot.changes) (shot_graph g shot).negatives test
      (distinct_from_rising g.negatives graph.negatives_rising)
      (turned_distinct g shot.changes (distinct_from_rising (map number shot.changes) is.changes.rising))
      (distinct_from_rising (shot_graph g shot).negatives (shot_graph_is g shot graph is).negatives_rising)
      (within_edges g.edges g.negatives graph.negatives) (turned_below g shot graph is) (negatives_below g shot graph is)
      (by_turns g shot graph is)

  -- so they may be added to a list as the graph's negative edges and the turned ones
  pub odd_with_turns : (old mid new : List ℕ) → mid ≡ old ++ g.negatives → new ≡ mid ++ turned_edges g shot.changes
      → (test : ℕ → Bool) → is_odd_count test new ≡ is_odd_count test (old ++ (shot_graph g shot).negatives)
  odd_with_turns old mid new first second test =
      ap (is_odd_count test) second
      ∙ (odd-append test mid (turned_edges g shot.changes)
      ∙ (ap (λ b. differ b (is_odd_count test (turned_edges g shot.changes)))
      (ap (is_odd_count test) first ∙ odd-append test old g.negatives)
      ∙ (differ_assoc (is_odd_count test old) (is_odd_count test g.negatives) (is_odd_count test (turned_edges g shot.changes))
      ∙ (ap (differ (is_odd_count test old)) (sym (odd_by_turns test))
      ∙ sym (odd-append test old (shot_graph g shot).negatives)))))

  -- so an odd number of them end at a vertex
  odd_end_by_turns : (v : ℕ) → is_odd_end (shot_graph g shot) (shot_graph g shot).negatives v
      ≡ differ (is_odd_end g g.negatives v) (is_odd_end g (turned_edges g shot.changes) v)
  odd_end_by_turns v =
      odd_same (λ k. touches v (edge_at (shot_graph g shot).edges k)) (λ k. touches v (edge_at g.edges k))
      (λ k. touches_changed shot.changes g.edges v k) (shot_graph g shot).negatives
      ∙ odd_by_turns (λ k. touches v (edge_at g.edges k))

  pub shifted_at : (v : ℕ) → is_in (shifted_defects g shot) v
      ≡ differ (is_in shot.defects v) (differ (is_in (odd_ends g g.negatives) v) (is_in shot.turned v))
  shifted_at v =
      is_in-filter (λ u. differ (is_in shot.defects u) (is_odd_end (shot_graph g shot) (shot_graph g shot).negatives u)) (detectors_of g) v
      ∙ (together (is_in (detectors_of g) v) (is_in shot.defects v) _ _ _ (odd_end_by_turns v) only_real
      ∙ ap (differ (is_in shot.defects v))
      (sym (ap (λ b. differ b (is_in shot.turned v)) (is_in-filter (is_odd_end g g.negatives) (detectors_of g) v)
      ∙ ap (differ (is_in (detectors_of g) v && is_odd_end g g.negatives v))
      (ap (λ vs. is_in vs v) is.turned ∙ is_in-filter (is_odd_end g (turned_edges g shot.changes)) (detectors_of g) v))))
    where
      only_real : is_in (detectors_of g) v ≡ false → is_in shot.defects v ≡ false
      only_real not_real =
          false_from_ne_true (is_in shot.defects v)
          (λ within. false≢true (sym not_real ∙ detector_from_real g v (is_in-All (λ u. is_real_in g u ≡ true) shot.defects is.real v within)))

      together : (r d n a b : Bool) → n ≡ differ a b → (r ≡ false → d ≡ false) → (r && differ d n) ≡ differ d (differ (r && a) (r && b))
      together true d n a b e only = ap (differ d) e
      together false d n a b e only = rw (only refl) refl

pub shifted_by_turns : ShiftedByTurns
shifted_by_turns g shot graph is v = shifted_at g shot graph is v
