-- Cuts in the form in which a report prints them.
use Rattle.std.proofs.Common.{ℕ, ◌+◌, ◌≡◌, ◌==◌, Bool, true, false, cond, List, [], ◌∷◌, length, get_or, All, AllPairs, filter, nat_eq, sum_by, suc, refl, sym, ap, ◌∙◌, subst, le_trans, le_of_eq, arith}
use Rattle.std.specs.List.{AllZip, IsDistinct}
use Rattle.std.specs.List.Sorted.{IsSortedBy, IsStrictlyIncreasing}
use Rattle.std.specs.Ordering.{is_lt, is_eq, ordering_reverse}
use Rattle.std.specs.declared.cmp.Ordering.{Ordering}
use Rattle.std.specs.declared.cmp.Ordering.TheVariants.{Less, Equal, Greater}
use Rattle.std.proofs.lemmas.Bool.{true≢false, both_ways, false_from_ne_true, eqb-true, ltb-true, ltb-false}
use Rattle.std.proofs.lemmas.Cmp.{nat_list_cmp_total, nat_eq_equiv, eq_by_cmp_equiv}
use Rattle.std.proofs.lemmas.List.Elements.{All-cons, All-filter, All-head, All-nil, All-tail, AllZip-get_or, filter_passes, length_all_zip, recursion_from_All}
use Rattle.std.proofs.lemmas.List.Kept.{AllPairs-filter}
use Rattle.std.proofs.lemmas.List.Sorted.{All-permutation, list_any-IsPermutation, sum_by-IsPermutation}
use Rattle.std.proofs.lemmas.List.Sums.{sum_by-cons}
use Rattle.std.proofs.lemmas.Map.Keys.{IsDistinct-IsPermutation, IsStrictlyIncreasing-from_distinct}
use Rattle.std.proofs.lemmas.Map.Text.{is_eq-slice_cmp}
use Rattle.std.proofs.lemmas.Slice.Eq.{bytes_eq-Decides}
use Rattle.fb_graph.specs.Parity.{differ, is_in}
use Rattle.fb_graph.specs.Problem.{Problem, crosses}
use Rattle.fb_graph.specs.Certificate.{AreDistinct, IsOddCut, IsPrintedCut, AreRising, Fits, load_of, total_value}
use Rattle.fb_graph.specs.InternalCutEntries.{cut_cmp, is_cut_below}
use Rattle.fb_graph.specs.Printed.{DifferAsSets, IsResorted, is_positive, HasPositiveCuts}
use Rattle.fb_graph.specs.declared.parts.Cut.{Cut}
use Rattle.fb_graph.specs.declared.parts.Edge.{Edge}
use Rattle.fb_graph.proofs.CancelledPairs.{odd-IsPermutation}
use Rattle.fb_graph.proofs.Sets.{All-from_is_in, distinct_from_rising}

abbrev are_same_lists : Cut → Cut → Bool
are_same_lists c d = is_eq (cut_cmp c d)

-- a cut and the same cut with its vertices sorted
resorted-is_in : (c d : Cut) → IsResorted c d → (v : ℕ) → is_in d.vertices v ≡ is_in c.vertices v
resorted-is_in c d same v = sym (list_any-IsPermutation (λ u. u == v) c.vertices d.vertices same.moved)

resorted-crosses : (c d : Cut) → IsResorted c d → (e : Edge) → crosses d.vertices e ≡ crosses c.vertices e
resorted-crosses c d same e =
    ap (λ b. differ b (is_in d.vertices e.second)) (resorted-is_in c d same e.first)
    ∙ ap (differ (is_in c.vertices e.first)) (resorted-is_in c d same e.second)

IsDistinct-from_distinct : (vs : List ℕ) → AreDistinct vs → IsDistinct nat_eq vs
unfolding IsDistinct
IsDistinct-from_distinct [] distinct = tt
IsDistinct-from_distinct (v ∷ vs) distinct = (
  recursion_from_All (λ u. nat_eq v u ≡ false) vs
      (All-from_is_in (λ u. nat_eq v u ≡ false) vs
      (λ u within.
      false_from_ne_true (nat_eq v u)
      (λ same. both_ways (is_in vs v) distinct.0 (subst (λ w. is_in vs w ≡ true) (sym (eqb-true v u same)) within)))),
  IsDistinct-from_distinct vs distinct.1,
)

printed_from_odd : (p : Problem) (c d : Cut) → IsResorted c d → IsOddCut p c → is_positive c ≡ true
    → IsPrintedCut p d
printed_from_odd p c d same odd positive =
    let rising : IsStrictlyIncreasing d.vertices =
    IsStrictlyIncreasing-from_distinct d.vertices same.sorted
    (IsDistinct-IsPermutation nat_eq (λ u v. nat_eq_equiv.symm u v) c.vertices d.vertices same.moved
    (IsDistinct-from_distinct c.vertices odd.distinct)) in
    record {
      odd = record {
        distinct = distinct_from_rising d.vertices rising;
        real = All-permutation (λ v. p.is_real v ≡ true) c.vertices d.vertices same.moved odd.real;
        odd = odd-IsPermutation p.is_defect c.vertices d.vertices same.moved ∙ odd.odd;
      };
      positive = omega (arith, ltb-true 0 c.value positive, same.value);
      rising = rising;
    }

resorted-All : (P Q : Cut → Type 0) → ((c d : Cut) → IsResorted c d → P c → Q d) → (cs ds : List Cut)
    → AllZip IsResorted cs ds → All P cs → All Q ds
resorted-All P Q step [] [] each all = All-nil Q
resorted-All P Q step [] (d ∷ ds) each all = absurd each
resorted-All P Q step (c ∷ cs) [] each all = absurd each
resorted-All P Q step (c ∷ cs) (d ∷ ds) each all =
    All-cons Q d ds (step c d each.0 (All-head P c cs all))
    (resorted-All P Q step cs ds each.1 (All-tail P c cs all))

resorted-sum : (f : Cut → ℕ) → ((c d : Cut) → IsResorted c d → f d ≡ f c) → (cs ds : List Cut)
    → AllZip IsResorted cs ds → sum_by f ds ≡ sum_by f cs
resorted-sum f same [] [] each = refl
resorted-sum f same [] (d ∷ ds) each = absurd each
resorted-sum f same (c ∷ cs) [] each = absurd each
resorted-sum f same (c ∷ cs) (d ∷ ds) each =
    omega (
      arith,
      sum_by-cons f c cs,
      sum_by-cons f d ds,
      same c d each.0,
      resorted-sum f same cs ds each.1,
    )

-- cuts of value 0 add nothing
positive-sum : (f : Cut → ℕ) → ((c : Cut) → c.value ≡ 0 → f c ≡ 0) → (cs : List Cut)
    → sum_by f (filter is_positive cs) ≡ sum_by f cs
positive-sum f none [] = refl
positive-sum f none (c ∷ cs) = step (is_positive c) refl (positive-sum f none cs)
  where
    step : (b : Bool) → is_positive c ≡ b → sum_by f (filter is_positive cs) ≡ sum_by f cs
        → sum_by f (cond b (c ∷ filter is_positive cs) (filter is_positive cs)) ≡ sum_by f (c ∷ cs)
    step true e ih =
        omega (arith, sum_by-cons f c (filter is_positive cs), sum_by-cons f c cs, ih)
    step false e ih =
        omega (arith, sum_by-cons f c cs, none c (omega (arith, ltb-false 0 c.value e)), ih)

printed-sum : (f : Cut → ℕ) → ((c d : Cut) → IsResorted c d → f d ≡ f c) → ((c : Cut) → c.value ≡ 0 → f c ≡ 0)
    → (cuts printed : List Cut) → HasPositiveCuts cuts printed → sum_by f printed ≡ sum_by f cuts
printed-sum f same none cuts printed by =
    sum_by-IsPermutation f by.resorted printed by.moved
    ∙ (resorted-sum f same (filter is_positive cuts) by.resorted by.each ∙ positive-sum f none cuts)

pub printed-load : (cuts printed : List Cut) → HasPositiveCuts cuts printed → (e : Edge)
    → load_of printed e ≡ load_of cuts e
printed-load cuts printed by e = printed-sum part same none cuts printed by
  where
    part : Cut → ℕ
    part c = cond (crosses c.vertices e) c.value 0

    same : (c d : Cut) → IsResorted c d → part d ≡ part c
    same c d is =
        ap (λ b. cond b d.value 0) (resorted-crosses c d is e) ∙ ap (λ n. cond (crosses c.vertices e) n 0) is.value

    none : (c : Cut) → c.value ≡ 0 → part c ≡ 0
    none c nothing = zeros (crosses c.vertices e) c.value nothing
      where
        zeros : (b : Bool) (n : ℕ) → n ≡ 0 → cond b n 0 ≡ 0
        zeros true n is = is
        zeros false n is = refl

pub printed-total : (cuts printed : List Cut) → HasPositiveCuts cuts printed → total_value printed ≡ total_value cuts
printed-total = printed-sum (λ c. c.value) (λ c d same. same.value) (λ c none. none)

pub printed-All : (p : Problem) (cuts printed : List Cut) → HasPositiveCuts cuts printed → All (IsOddCut p) cuts
    → All (IsPrintedCut p) printed
printed-All p cuts printed by odd =
    All-permutation (IsPrintedCut p) by.resorted printed by.moved
    (resorted-All (λ c. IsOddCut p c × (is_positive c ≡ true)) (IsPrintedCut p)
    (λ c d same (is, positive). printed_from_odd p c d same is positive) (filter is_positive cuts) by.resorted by.each
    (λ k d less.
    (All-filter is_positive (IsOddCut p) cuts odd k d less, filter_passes is_positive cuts k d less)))

-- cuts that differ as sets have other lists, however they are sorted
other_lists : (b c d e : Cut) → IsResorted b d → IsResorted c e → DifferAsSets b c → are_same_lists d e ≡ false
other_lists b c d e first second (v, apart) =
    false_from_ne_true (are_same_lists d e)
    (λ same.
    let lists : d.vertices ≡ e.vertices =
    (bytes_eq-Decides d.vertices e.vertices).0 (sym (is_eq-slice_cmp d.vertices e.vertices) ∙ same) in
    apart
    (sym (resorted-is_in b d first v) ∙ (ap (λ l. is_in l v) lists ∙ resorted-is_in c e second v)))

resorted-distinct : (cs ds : List Cut) → AllZip IsResorted cs ds → AllPairs DifferAsSets cs
    → IsDistinct are_same_lists ds
unfolding IsDistinct
resorted-distinct [] [] each apart = tt
resorted-distinct [] (d ∷ ds) each apart = absurd each
resorted-distinct (c ∷ cs) [] each apart = absurd each
resorted-distinct (c ∷ cs) (d ∷ ds) each apart = (
  recursion_from_All (λ e. are_same_lists d e ≡ false) ds
      (λ k x less.
      let long : length cs ≡ length ds = length_all_zip IsResorted cs ds each.1 in
      other_lists c (get_or cs k x) d (get_or ds k x) each.0
      (AllZip-get_or IsResorted cs ds k x x each.1 (omega arith)) (apart 0 (suc k) x (omega arith) (omega arith))),
  resorted-distinct cs ds each.1 (λ i j x before less. apart (suc i) (suc j) x (omega arith) (omega arith)),
)

-- the later one isn't below the earlier one, nor the same: the earlier one is below it
less_from_not_below : (o r : Ordering) → r ≡ ordering_reverse o → is_lt r ≡ false → is_eq o ≡ false → o ≡ Less
less_from_not_below Less r e below same = refl
less_from_not_below Equal r e below same = absurd (true≢false same)
less_from_not_below Greater r e below same = absurd (true≢false (sym (ap is_lt e) ∙ below))

rising_from_sorted : (cs : List Cut) → IsSortedBy is_cut_below cs → IsDistinct are_same_lists cs → AreRising cs
unfolding IsDistinct
rising_from_sorted [] sorted distinct = tt
rising_from_sorted (c ∷ []) sorted distinct = (tt, tt)
rising_from_sorted (c ∷ d ∷ ds) sorted distinct = (
  less_from_not_below (cut_cmp c d) (cut_cmp d c) (nat_list_cmp_total.antisymm d.vertices c.vertices)
      (sorted 0 c (omega arith) (omega arith)) distinct.0.0,
  rising_from_sorted (d ∷ ds)
      (λ k x low less.
      let e : suc k + 1 ≡ suc (k + 1) = omega arith in
      rw e at (sorted (suc k) x (omega arith) (omega arith)))
      distinct.1,
)

pub printed-rising : (cuts printed : List Cut) → HasPositiveCuts cuts printed → IsSortedBy is_cut_below printed
    → AllPairs DifferAsSets cuts → AreRising printed
printed-rising cuts printed by sorted apart =
    rising_from_sorted printed sorted
    (IsDistinct-IsPermutation are_same_lists
    (λ c d. (eq_by_cmp_equiv nat_list_cmp_total).symm c.vertices d.vertices) by.resorted printed by.moved
    (resorted-distinct (filter is_positive cuts) by.resorted by.each
    (AllPairs-filter DifferAsSets is_positive cuts apart)))

-- cuts with the same loads are feasible alike
pub Fits-same_loads : (p : Problem) (cuts printed : List Cut) → ((e : Edge) → load_of printed e ≡ load_of cuts e)
    → Fits p cuts → Fits p printed
Fits-same_loads p cuts printed same fits k d less =
    le_trans (le_of_eq (same (get_or p.edges k d))) (fits k d less)
