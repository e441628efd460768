-- From a solved part to the row of a report.
use Rattle.std.proofs.Common.{ℕ, ◌≡◌, ◌<◌, ◌≤◌, ◌==◌, ◌&&◌, ◌⊎◌, inl, inr, true, false, length, All, flat_map, get_or, sum_by, sym, ap, ◌∙◌, subst}
use Rattle.std.specs.List.{range_with_len}
use Rattle.std.proofs.lemmas.Bool.{cases_Bool, eqb-true}
use Rattle.fb_graph.specs.Parity.{is_in, is_odd_count}
use Rattle.fb_graph.specs.Problem.{edge_at, touches, weight_of}
use Rattle.fb_graph.specs.Certificate.{load_of}
use Rattle.fb_graph.specs.Laws.{odd_ones}
use Rattle.fb_graph.specs.Dual.{all_cuts}
use Rattle.fb_graph.proofs.ClosedSets.{odd_cut_of_part}
use Rattle.fb_graph.proofs.Nodes.{All-flat_map}
use Rattle.fb_graph.proofs.OddOnes.{odd_ones_rise}
use Rattle.fb_graph.proofs.PrintedCuts.{Fits-same_loads, printed-All, printed-load, printed-total}
use Rattle.fb_graph.proofs.Sets.{All-from_is_in, member_of_odd, distinct_from_rising, is_in-All, is_in-filter, is_in-range, odd_equal, rising_same}
use Rattle.fb_laws.specs.Rows.{OddOnesOnly, OddEdgesOnly, BestOfWhole, SolvedIsBest}
use Rattle.fb_laws.proofs.HalvesKept.{positive_total}
use Rattle.fb_laws.proofs.MergedParts.{odd_in}
use Rattle.fb_graph.proofs.Walks.{walk_within}

pub odd_ones_only : OddOnesOnly
odd_ones_only n numbers ones rising below parity =
    rising_same ones (odd_ones n numbers) rising (odd_ones_rise n numbers).0
    (λ v. same v (cases_Bool (is_in ones v)) (cases_Bool (is_in (odd_ones n numbers) v)))
  where
    here : (v : ℕ) → v < n → is_in ones v ≡ is_in (odd_ones n numbers) v
    here v less =
        sym (odd_equal ones v (distinct_from_rising ones rising))
        ∙ (parity v
        ∙ (sym (ap (λ b. b && is_odd_count (λ j. j == v) numbers) (is_in-range n v less))
        ∙ sym (is_in-filter (λ k. is_odd_count (λ j. j == k) numbers) (range_with_len 0 n) v)))

    same : (v : ℕ) → (is_in ones v ≡ true) ⊎ (is_in ones v ≡ false)
        → (is_in (odd_ones n numbers) v ≡ true) ⊎ (is_in (odd_ones n numbers) v ≡ false)
        → is_in ones v ≡ is_in (odd_ones n numbers) v
    same v (inl h) k = here v (is_in-All (λ j. j < n) ones below v h)
    same v (inr h) (inl k) = here v (is_in-All (λ j. j < n) (odd_ones n numbers) (odd_ones_rise n numbers).1 v k)
    same v (inr h) (inr k) = h ∙ sym k

pub odd_edges_only : OddEdgesOnly
odd_edges_only p links ones walks rising parity =
    odd_ones_only (length p.edges) (flat_map (λ l. l.walk) links) ones rising
    (All-from_is_in (λ k. k < length p.edges) ones
    (λ k within.
    let (j, there, same) =
    member_of_odd (λ i. i == k) (flat_map (λ l. l.walk) links)
    (sym (parity k) ∙ (odd_equal ones k (distinct_from_rising ones rising) ∙ within)) in
    is_in-All (λ i. i < length p.edges) (flat_map (λ l. l.walk) links)
    (All-flat_map (λ i. i < length p.edges) (λ l. l.walk) links
    (λ i d less. walk_within p (get_or links i d).walk (get_or links i d).from (get_or links i d).to (walks i d less)))
    k (subst (λ i. is_in (flat_map (λ l. l.walk) links) i ≡ true) (eqb-true j k same) there)))
    parity

pub best_of_whole : BestOfWhole
best_of_whole part whole chosen weight cuts is all best = record {
  edge_set = record {
    rising = best.edge_set.rising;
    within = subst (λ es. All (λ k. k < length es) chosen) is.edges best.edge_set.within;
  };
  flips = λ v real.
      ap (λ es. is_odd_count (λ k. touches v (edge_at es k)) chosen) (sym is.edges)
      ∙ (best.flips v (all v real) ∙ is.defects v (all v real));
  weighs = best.weighs ∙ same_weight;
  printed = λ i d less. record {
    odd = odd_cut_of_part part whole (get_or cuts i d) is (best.printed i d less).odd;
    positive = (best.printed i d less).positive;
    rising = (best.printed i d less).rising;
  };
  rising = best.rising;
  fits = subst (All (λ e. load_of cuts e ≤ e.weight)) is.edges best.fits;
  total = best.total;
}
  where
    same_weight : weight_of part chosen ≡ weight_of whole chosen
    same_weight = ap (λ es. sum_by (λ k. (edge_at es k).weight) chosen) is.edges

pub solved_is_best : SolvedIsBest
solved_is_best p nodes chosen printed nest defects solved are rising = record {
  edge_set = solved.edge_set;
  flips = solved.flips;
  weighs = sym (solved.weighs ∙ positive_total nodes);
  printed = printed-All p (all_cuts nodes) printed are (odd_in p nodes nest.dual defects);
  rising = rising;
  fits = Fits-same_loads p (all_cuts nodes) printed (printed-load (all_cuts nodes) printed are)
      nest.dual.packing.fits;
  total = sym (printed-total (all_cuts nodes) printed are);
}
