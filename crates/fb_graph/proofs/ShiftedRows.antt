-- Rows of shots with weights of either sign: a certified correction of what is solved, taken together with the negative
-- edges, is the best one of the shot.
use Rattle.std.proofs.Common.{ℕ, ◌≡◌, ◌+◌, ◌<◌, ◌≤◌, ◌&&◌, Bool, true, false, cond, not, nat_lt, List, [], ◌∷◌, length, All, Option, sum_by, refl, sym, ap, ◌∙◌, subst, arith}
use Rattle.std.proofs.Math.Bool.{and-false}
use Rattle.std.specs.Prelude.{pos, neg_ℤ, ◌+ℤ◌, ◌≤ℤ◌}
use Rattle.std.specs.List.{range_with_len}
use Rattle.std.proofs.lemmas.Bool.{and_parts, ltb-true}
use Rattle.std.proofs.lemmas.Int.{ints}
use Rattle.std.proofs.lemmas.List.Kept.{IsStrictlyIncreasing-filter}
use Rattle.std.proofs.lemmas.List.Sums.{sum_by-cons}
use Rattle.fb_graph.specs.Answers.{BestHasNoOdd, BestWeighsLeast, IsBest, UnshiftedIsBest}
use Rattle.fb_graph.specs.Certificate.{IsCertified, IsPacking, total_value}
use Rattle.fb_graph.specs.Components.{IsFirstOdd, IsOddAt}
use Rattle.fb_graph.specs.Laws.{IsPart, IsSolved}
use Rattle.fb_graph.specs.Limits.{DecodingGraph, HasWeight, IsGraph, IsShot, ShotValue, detectors_of, is_real_in, signed, signed_weight}
use Rattle.fb_graph.specs.Parity.{differ, is_in}
use Rattle.fb_graph.specs.Problem.{Flips, IsEdgeSet, Problem, edge_at, weight_of}
use Rattle.fb_graph.specs.ShotGraphs.{shot_graph, shot_problem}
use Rattle.fb_graph.specs.Signed.{IsSignedSolved, added_weight, negative_edges, shifted_problem, taken_by_all, taken_weight, unshifted_edges}
use Rattle.fb_graph.specs.declared.parts.Cut.{Cut}
use Rattle.fb_graph.specs.Signs.{IsUnshifted, SameShiftedOdd, ShotDuality, base_of, is_odd_end, shifted_defects, signed_sum, signed_weight_of, solved_problem}
use Rattle.fb_graph.proofs.ClosedSets.{packing_of_part}
use Rattle.fb_graph.proofs.Members.{is_odd_count-agree}
use Rattle.fb_graph.proofs.OddComponents.{no_correction}
use Rattle.fb_graph.proofs.Sets.{distinct_from_rising, is_in-All, is_in-filter, is_in-range, range_rises, rising_same}
use Rattle.fb_graph.proofs.ShotGraphs.{shot_graph_is}
use Rattle.fb_graph.proofs.Shifts.{first_odd_same, joined_same, shifted_first_odd, signed_duality, signed_solved}
use Rattle.fb_graph.proofs.SignedSums.{negative_sum}

abbrev taken_at : DecodingGraph → Problem → ℕ → ℕ
taken_at h p k = cond (is_in h.negatives k) (edge_at p.edges k).weight 0

abbrev added_at : DecodingGraph → Problem → ℕ → ℕ
added_at h p k = cond (is_in h.negatives k) 0 (edge_at p.edges k).weight

-- what listed edges weigh with their signs is what those that aren't negative weigh less what the others do
signed_split : (h : DecodingGraph) (p : Problem) → p.edges ≡ h.edges → (ks : List ℕ)
    → (signed_sum (signed_weight h) ks +ℤ pos (taken_weight p (is_in h.negatives) ks)) ≡ pos (added_weight p (is_in h.negatives) ks)
signed_split h p edges [] = refl
signed_split h p edges (k ∷ ks) = step (is_in h.negatives k) refl (signed_split h p edges ks)
  where
    step : (b : Bool) → is_in h.negatives k ≡ b
        → (signed_sum (signed_weight h) ks +ℤ pos (sum_by (taken_at h p) ks)) ≡ pos (sum_by (added_at h p) ks)
        → (signed_sum (signed_weight h) (k ∷ ks) +ℤ pos (sum_by (taken_at h p) (k ∷ ks))) ≡ pos (sum_by (added_at h p) (k ∷ ks))
    step true e rest =
        let here : signed_weight h k ≡ neg_ℤ (pos (edge_at h.edges k).weight) = ap (λ b. signed b (edge_at h.edges k).weight) e in
        let more : taken_at h p k ≡ (edge_at h.edges k).weight = ap (λ b. cond b (edge_at p.edges k).weight 0) e ∙ ap (λ es. (edge_at es k).weight) edges in
        let none : added_at h p k ≡ 0 = ap (λ b. cond b 0 (edge_at p.edges k).weight) e in
        let taken : sum_by (taken_at h p) (k ∷ ks) ≡ taken_at h p k + sum_by (taken_at h p) ks = sum_by-cons (taken_at h p) k ks in
        let added : sum_by (added_at h p) (k ∷ ks) ≡ added_at h p k + sum_by (added_at h p) ks = sum_by-cons (added_at h p) k ks in
        omega (arith, ints, here, more, none, rest, taken, added)
    step false e rest =
        let here : signed_weight h k ≡ pos (edge_at h.edges k).weight = ap (λ b. signed b (edge_at h.edges k).weight) e in
        let none : taken_at h p k ≡ 0 = ap (λ b. cond b (edge_at p.edges k).weight 0) e in
        let more : added_at h p k ≡ (edge_at h.edges k).weight = ap (λ b. cond b 0 (edge_at p.edges k).weight) e ∙ ap (λ es. (edge_at es k).weight) edges in
        let taken : sum_by (taken_at h p) (k ∷ ks) ≡ taken_at h p k + sum_by (taken_at h p) ks = sum_by-cons (taken_at h p) k ks in
        let added : sum_by (added_at h p) (k ∷ ks) ≡ added_at h p k + sum_by (added_at h p) ks = sum_by-cons (added_at h p) k ks in
        omega (arith, ints, here, more, none, rest, taken, added)

module _ (g : DecodingGraph) (shot : ShotValue) (graph : IsGraph g) (is : IsShot g shot) where
  abbrev h : DecodingGraph
  h = shot_graph g shot

  abbrev p : Problem
  p = shot_problem g shot

  abbrev q : Problem
  q = solved_problem g shot

  abbrev neg : ℕ → Bool
  neg = is_in (shot_graph g shot).negatives

  graph_is : IsGraph (shot_graph g shot)
  graph_is = shot_graph_is g shot graph is

  neg_within : (k : ℕ) → is_in (shot_graph g shot).negatives k ≡ true → k < length (shot_graph g shot).edges
  neg_within k within =
      (is_in-All (HasWeight (shot_graph g shot).edges) (shot_graph g shot).negatives graph_is.negatives k within).within

  -- the negative edges by either word
  negatives_are : negative_edges p neg ≡ (shot_graph g shot).negatives
  negatives_are =
      rising_same (negative_edges p neg) (shot_graph g shot).negatives
      (IsStrictlyIncreasing-filter neg (range_with_len 0 (length h.edges)) (range_rises 0 (length h.edges)))
      graph_is.negatives_rising same
    where
      same : (k : ℕ) → is_in (negative_edges p neg) k ≡ is_in (shot_graph g shot).negatives k
      same k = is_in-filter neg (range_with_len 0 (length h.edges)) k ∙ step (neg k) refl
        where
          step : (b : Bool) → neg k ≡ b → (is_in (range_with_len 0 (length h.edges)) k && neg k) ≡ neg k
          step true e = ap (λ c. c && neg k) (is_in-range (length h.edges) k (neg_within k e))
          step false e = rw e (and-false (is_in (range_with_len 0 (length h.edges)) k))

  -- shifted defects by either word
  defect_shifted : (v : ℕ) → is_real_in g v ≡ true → is_in (shifted_defects g shot) v ≡ (shifted_problem p neg).is_defect v
  defect_shifted v real =
      is_in-filter (λ u. differ (is_in shot.defects u) (is_odd_end h h.negatives u)) (detectors_of g) v
      ∙ (ap (λ b. b && differ (is_in shot.defects v) (is_odd_end h h.negatives v)) detector
      ∙ ap (λ ks. differ (is_in shot.defects v) (is_odd_end h ks v)) (sym negatives_are))
    where
      parts : (nat_lt v g.vertices ≡ true) × (not (is_in g.virtuals v) ≡ true)
      parts = and_parts (nat_lt v g.vertices) (not (is_in g.virtuals v)) real

      detector : is_in (detectors_of g) v ≡ true
      detector =
          is_in-filter (λ u. not (is_in g.virtuals u)) (range_with_len 0 g.vertices) v
          ∙ ((λ i. is_in-range g.vertices v (ltb-true v g.vertices parts.0) i && parts.1 i))

  solved_is_part : IsPart q (shifted_problem p neg)
  solved_is_part = record { edges = refl; real = λ v real. real; defects = defect_shifted }

  shifted_is_part : IsPart (shifted_problem p neg) q
  shifted_is_part = record { edges = refl; real = λ v real. real; defects = λ v real. sym (defect_shifted v real) }

  -- the base takes off what all negative edges weigh
  base_taken : (base_of g shot +ℤ pos (taken_by_all p neg)) ≡ pos 0
  base_taken =
      let base : base_of g shot ≡ neg_ℤ (pos (weight_of p (shot_graph g shot).negatives)) =
      negative_sum (shot_graph g shot) (shot_graph g shot).negatives (λ k within. within) in
      omega (arith, ints, base, ap (weight_of p) negatives_are)

  split : (ks : List ℕ) → (signed_weight_of g shot ks +ℤ pos (taken_weight p neg ks)) ≡ pos (added_weight p neg ks)
  split ks = signed_split h p refl ks

  pub shots_duality : (cuts : List Cut) (chosen : List ℕ) → IsPacking q cuts → IsEdgeSet p chosen → Flips p chosen
      → (base_of g shot +ℤ pos (total_value cuts)) ≤ℤ signed_weight_of g shot chosen
  shots_duality cuts chosen packing edge_set flips =
      let most : total_value cuts + taken_weight p neg chosen ≤ added_weight p neg chosen + taken_by_all p neg =
      signed_duality p neg cuts chosen (packing_of_part q (shifted_problem p neg) cuts solved_is_part packing)
      (distinct_from_rising chosen edge_set.rising) edge_set.within flips in
      omega (arith, ints, most, split chosen, base_taken)

  -- a solution of what is solved is one of the shifted problem
  solution : (chosen : List ℕ) (weight : ℕ) (cuts : List Cut) → IsCertified q chosen weight cuts
      → IsSolved (shifted_problem p neg) cuts chosen
  solution chosen weight cuts certified = record {
    edge_set = record { rising = certified.edge_set.rising; within = certified.edge_set.within };
    flips = λ v real. certified.flips v real ∙ defect_shifted v real;
    weighs = sym certified.weighs ∙ certified.total;
  }

  -- the edges in exactly one of two lists by either word
  exchanged : (chosen unshifted : List ℕ) → All (λ k. k < length h.edges) chosen → IsUnshifted g shot chosen unshifted
      → unshifted_edges p neg chosen ≡ unshifted
  exchanged chosen unshifted within un =
      rising_same (unshifted_edges p neg chosen) unshifted
      (IsStrictlyIncreasing-filter (λ k. differ (is_in chosen k) (neg k)) (range_with_len 0 (length h.edges)) (range_rises 0 (length h.edges)))
      un.rising same
    where
      inside : (k : ℕ) (a b : Bool) → is_in chosen k ≡ a → neg k ≡ b
          → (is_in (range_with_len 0 (length h.edges)) k && differ a b) ≡ differ a b
      inside k true b is_chosen e =
          ap (λ c. c && differ true b) (is_in-range (length h.edges) k (is_in-All (λ j. j < length h.edges) chosen within k is_chosen))
      inside k false true is_chosen e = ap (λ c. c && true) (is_in-range (length h.edges) k (neg_within k e))
      inside k false false is_chosen e = and-false (is_in (range_with_len 0 (length h.edges)) k)

      same : (k : ℕ) → is_in (unshifted_edges p neg chosen) k ≡ is_in unshifted k
      same k =
          is_in-filter (λ j. differ (is_in chosen j) (neg j)) (range_with_len 0 (length h.edges)) k
          ∙ (inside k (is_in chosen k) (neg k) refl refl ∙ sym (un.each k))

  pub best_unshifted : (chosen unshifted : List ℕ) (weight : ℕ) (cuts : List Cut) → IsCertified q chosen weight cuts
      → IsUnshifted g shot chosen unshifted → IsBest g shot unshifted (base_of g shot) (base_of g shot +ℤ pos weight) cuts
  best_unshifted chosen unshifted weight cuts certified un = record {
    edge_set = record { rising = solved.edge_set.rising; within = solved.edge_set.within };
    flips = solved.flips;
    bases = refl;
    weighs =
        let weighed : added_weight p neg unshifted + taken_by_all p neg ≡ total_value cuts + taken_weight p neg unshifted = solved.weighs in
        omega (arith, ints, weighed, split unshifted, base_taken, certified.total);
    printed = certified.printed;
    rising = certified.rising;
    fits = certified.fits;
    total = ap (λ n. base_of g shot +ℤ pos n) certified.total;
  }
    where
      solved : IsSignedSolved p neg cuts unshifted
      solved =
          subst (IsSignedSolved p neg cuts) (exchanged chosen unshifted certified.edge_set.within un)
          (signed_solved p neg cuts chosen (solution chosen weight cuts certified))

  -- odd components are those of the same edges
  odd_same : (a b : Problem) → a.edges ≡ b.edges → a.vertices ≡ b.vertices → IsPart a b → (v : ℕ) → IsOddAt a v → IsOddAt b v
  odd_same a b edges vertices part v odd = record {
    below = subst (λ n. v < n) vertices odd.below;
    members = odd.members;
    component = record {
      distinct = odd.component.distinct;
      inside = λ u within. joined_same a b edges v u (odd.component.inside u within);
      whole = λ u joined. odd.component.whole u (joined_same b a (sym edges) v u joined);
    };
    real = λ u within. part.real u (odd.real u within);
    odd =
        is_odd_count-agree b.is_defect a.is_defect odd.members (λ u within. sym (part.defects u (odd.real u within)))
        ∙ odd.odd;
  }

  pub odd_shifted_same : (v : Option ℕ) → (IsFirstOdd p v → IsFirstOdd q v) × (IsFirstOdd q v → IsFirstOdd p v)
  odd_shifted_same v = (
    λ first.
        first_odd_same (shifted_problem p neg) q (odd_same (shifted_problem p neg) q refl refl shifted_is_part)
        (odd_same q (shifted_problem p neg) refl refl solved_is_part) v ((shifted_first_odd p neg v).0 first),
    λ first.
        (shifted_first_odd p neg v).1
        (first_odd_same q (shifted_problem p neg) (odd_same q (shifted_problem p neg) refl refl solved_is_part)
        (odd_same (shifted_problem p neg) q refl refl shifted_is_part) v first),
  )

pub shot_duality : ShotDuality
shot_duality g shot cuts chosen graph is packing edge_set flips = shots_duality g shot graph is cuts chosen packing edge_set flips

pub unshifted_is_best : UnshiftedIsBest
unshifted_is_best g shot chosen unshifted weight cuts graph is certified un = best_unshifted g shot graph is chosen unshifted weight cuts certified un

pub same_shifted_odd : SameShiftedOdd
same_shifted_odd g shot v graph is = odd_shifted_same g shot graph is v

pub best_weighs_least : BestWeighsLeast
best_weighs_least g shot chosen base weight cuts graph is best other edge_set flips =
    let least : (base_of g shot +ℤ pos (total_value cuts)) ≤ℤ signed_weight_of g shot other =
    shot_duality g shot cuts other graph is (record { odd = λ k d less. (best.printed k d less).odd; fits = best.fits }) edge_set flips in
    subst (λ z. z ≤ℤ signed_weight_of g shot other) (sym (best.total ∙ ap (λ b. b +ℤ pos (total_value cuts)) best.bases)) least

pub best_has_no_odd : BestHasNoOdd
best_has_no_odd g shot chosen base weight cuts graph is best =
    λ v odd. no_correction (shot_problem g shot) v odd chosen best.edge_set.within best.flips
