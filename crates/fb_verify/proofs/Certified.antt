-- A row has the verdict `Good` just where it is right.
use Rattle.std.proofs.Common.{ℕ, ℤ, pos, ◌+ℤ◌, ◌+◌, ◌<◌, ◌≤◌, ◌≡◌, ◌≢◌, ◌==◌, ◌&&◌, ◌↔◌, inl, inr, not, nat_lt, cond, Bool, true, false, List, [], ◌∷◌, length, get_or, All, Option, Some, None, Result, Ok, Err, IfOk, refl, sym, ap, subst, ◌∙◌, arith}
use Rattle.std.proofs.Math.Bool.{and-false}
use Rattle.std.specs.List.{find}
use Rattle.std.specs.Option.{option_map, option_or, is_some, unwrap_or}
use Rattle.std.specs.Ordering.{nat_cmp, is_lt}
use Rattle.std.specs.Cmp.Lexicographic.{slice_cmp}
use Rattle.std.specs.declared.cmp.Ordering.TheVariants.{Less}
use Rattle.std.proofs.lemmas.Bool.Decides.{Decides-int_eq}
use Rattle.std.proofs.lemmas.Bool.{cases_lt, ne_eqb, false≢true, le-ltb, ltb-false}
use Rattle.std.proofs.lemmas.List.{get_or_default}
use Rattle.std.proofs.lemmas.List.Elements.{All-head, All-tail}
use Rattle.fb_graph.specs.Answers.{IsBest, IsRight}
use Rattle.fb_graph.specs.Certificate.{AreRising, Fits, IsBefore, IsOddCut, IsPrintedCut, load_of, total_value}
use Rattle.fb_graph.specs.Components.{IsFirstOdd}
use Rattle.fb_graph.specs.Limits.{DecodingGraph, IsGraph, IsShot, ShotValue, is_real_in, problem_of}
use Rattle.fb_graph.specs.ShotGraphs.{shot_graph, shot_problem}
use Rattle.fb_graph.specs.Signs.{base_of, shifted_defects, signed_weight_of, solved_problem}
use Rattle.fb_graph.specs.Parity.{differ, is_in, is_odd_count}
use Rattle.fb_graph.specs.Problem.{Problem, Flips, edge_at, no_edge, touches}
use Rattle.fb_graph.specs.declared.parts.Cut.{Cut}
use Rattle.fb_graph.specs.declared.parts.Row.{Row}
use Rattle.fb_graph.specs.declared.parts.Row.TheVariants.{Best, Odd}
use Rattle.fb_graph.proofs.OddComponents.{no_correction}
use Rattle.fb_graph.proofs.ShiftedRows.{best_has_no_odd, best_weighs_least}
use Rattle.fb_graph.proofs.ParitySums.{differ_self, same_from_differ}
use Rattle.fb_graph.proofs.Leasts.{least_none, least_failed}
use Rattle.fb_graph.proofs.ShotGraphs.{length_changed, same_first_odd, same_flips}
use Rattle.fb_verify.specs.Verdicts.{HasPositiveValues, IsLeastWeight, IsOddVerdict, IsVerdict, best_fault, certificate_fault, choice_fault, sums_fault, cut_fault, cuts_fault, fault_of_two, fault_if, first_beyond, first_fall, has_wrong_parity, is_overloaded}
use Rattle.fb_graph.specs.Leasts.{least}
use Rattle.fb_verify.specs.declared.verdicts.Verdict.{Verdict}
use Rattle.fb_verify.specs.declared.verdicts.Verdict.TheVariants.{Good, EdgeOutOfRange, EdgesNotRising, WrongParity, WeightNotSum, BaseDiffers, CutEmpty, VertexOutOfRange, CutsNotRising, CutHoldsVirtual, CutEven, Overloaded, SumDiffers, OddWrong}
use Rattle.fb_verify.proofs.Goods.{as_cut, before_same, cuts-from_none, cuts_bad, fall-from_rising, map_bad, map_none, none-from_all, or_bad, or_none, rising-from_fall, two_bad, two_none}
use Rattle.fb_verify.proofs.Leasts.{below-from_beyond, beyond-from_below}
use Rattle.fb_verify.proofs.Marked.{real-below}

choice_bad : (g : DecodingGraph) (shot : ShotValue) (edges : List ℕ) → choice_fault g shot edges ≢ Some Good
choice_bad g shot edges =
    or_bad (option_map EdgeOutOfRange (first_beyond (length g.edges) edges)) _ (map_bad EdgeOutOfRange (λ k e. cc) (first_beyond (length g.edges) edges))
    (or_bad (option_map EdgesNotRising (first_fall edges)) _ (map_bad EdgesNotRising (λ k e. cc) (first_fall edges))
    (or_bad (option_map WrongParity (least g.vertices (has_wrong_parity (problem_of g shot) edges))) None (map_bad WrongParity (λ k e. cc) (least g.vertices (has_wrong_parity (problem_of g shot) edges))) (λ e. cc)))

sums_bad : (g : DecodingGraph) (shot : ShotValue) (edges : List ℕ) (base weight : ℤ) → sums_fault g shot edges base weight ≢ Some Good
sums_bad g shot edges base weight =
    or_bad (fault_of_two WeightNotSum weight (signed_weight_of g shot edges)) _ (two_bad WeightNotSum (λ a b e. cc) weight (signed_weight_of g shot edges))
    (or_bad (fault_of_two BaseDiffers base (base_of g shot)) None (two_bad BaseDiffers (λ a b e. cc) base (base_of g shot)) (λ e. cc))

certificate_bad : (g : DecodingGraph) (shot : ShotValue) (weight : ℤ) (cuts : List Cut) → certificate_fault g shot weight cuts ≢ Some Good
certificate_bad g shot weight cuts =
    let total : ℤ = base_of g shot +ℤ pos (total_value cuts) in
    or_bad (cuts_fault g shot 0 [] cuts) _ (cuts_bad g shot 0 [] cuts)
    (or_bad (option_map Overloaded (least (length g.edges) (is_overloaded (solved_problem g shot) cuts))) _ (map_bad Overloaded (λ k e. cc) (least (length g.edges) (is_overloaded (solved_problem g shot) cuts)))
    (or_bad (fault_of_two SumDiffers weight total) None (two_bad SumDiffers (λ a b e. cc) weight total) (λ e. cc)))

best_bad : (g : DecodingGraph) (shot : ShotValue) (edges : List ℕ) (base weight : ℤ) (cuts : List Cut)
    → best_fault g shot edges base weight cuts ≢ Some Good
best_bad g shot edges base weight cuts =
    or_bad (choice_fault g shot edges) _ (choice_bad g shot edges)
    (or_bad (sums_fault g shot edges base weight) _ (sums_bad g shot edges base weight)
    (or_bad (certificate_fault g shot weight cuts) None (certificate_bad g shot weight cuts) (λ e. cc)))

none_from_good : (o : Option Verdict) → o ≢ Some Good → unwrap_or o Good ≡ Good → o ≡ None
none_from_good None bad e = refl
none_from_good (Some v) bad e = absurd (bad (ap Some e))

flips-from_none : (g : DecodingGraph) (shot : ShotValue) (edges : List ℕ) → least g.vertices (has_wrong_parity (problem_of g shot) edges) ≡ None
    → Flips (problem_of g shot) edges
flips-from_none g shot edges none v real =
    same_from_differ (is_odd_count (λ k. touches v (edge_at g.edges k)) edges) (is_in shot.defects v)
    (step (is_real_in g v) (differ (is_odd_count (λ k. touches v (edge_at g.edges k)) edges) (is_in shot.defects v)) real
    (least_failed g.vertices (has_wrong_parity (problem_of g shot) edges) none v (real-below g v real)))
  where
    step : (a b : Bool) → a ≡ true → (a && b) ≡ false → b ≡ false
    step a b e f = ap (λ x. x && b) (sym e) ∙ f

none-from_flips : (g : DecodingGraph) (shot : ShotValue) (edges : List ℕ) → Flips (problem_of g shot) edges
    → least g.vertices (has_wrong_parity (problem_of g shot) edges) ≡ None
none-from_flips g shot edges flips =
    least_none g.vertices (has_wrong_parity (problem_of g shot) edges) (λ v less. step v (is_real_in g v) refl)
  where
    step : (v : ℕ) (b : Bool) → is_real_in g v ≡ b → has_wrong_parity (problem_of g shot) edges v ≡ false
    step v true e =
        ap (λ x. is_real_in g v && differ x (is_in shot.defects v)) (flips v e)
        ∙ (ap (λ x. is_real_in g v && x) (differ_self (is_in shot.defects v)) ∙ and-false (is_real_in g v))
    step v false e = ap (λ x. x && differ (is_odd_count (λ k. touches v (edge_at g.edges k)) edges) (is_in shot.defects v)) e

-- the graph and its view by a shot have as many edges
same_count : (g : DecodingGraph) (shot : ShotValue) → length (shot_graph g shot).edges ≡ length g.edges
same_count g shot = length_changed shot.changes g.edges

fits-from_none : (g : DecodingGraph) (shot : ShotValue) (cuts : List Cut) → least (length g.edges) (is_overloaded (solved_problem g shot) cuts) ≡ None
    → Fits (solved_problem g shot) cuts
fits-from_none g shot cuts none k d less =
    let edges = (shot_graph g shot).edges in
    subst (λ e. load_of cuts e ≤ e.weight) (get_or_default edges k no_edge d less)
    (ltb-false (edge_at edges k).weight (load_of cuts (edge_at edges k))
    (least_failed (length g.edges) (is_overloaded (solved_problem g shot) cuts) none k (subst (λ n. k < n) (same_count g shot) less)))

none-from_fits : (g : DecodingGraph) (shot : ShotValue) (cuts : List Cut) → Fits (solved_problem g shot) cuts
    → least (length g.edges) (is_overloaded (solved_problem g shot) cuts) ≡ None
none-from_fits g shot cuts fits =
    let edges = (shot_graph g shot).edges in
    least_none (length g.edges) (is_overloaded (solved_problem g shot) cuts)
    (λ k less. le-ltb (edge_at edges k).weight (load_of cuts (edge_at edges k))
    (fits k no_edge (subst (λ n. k < n) (sym (same_count g shot)) less)))

pub choice_within : (g : DecodingGraph) (shot : ShotValue) (edges : List ℕ) → choice_fault g shot edges ≡ None → All (λ k. k < length g.edges) edges
choice_within g shot edges none =
    let (beyond, rest) = or_none (option_map EdgeOutOfRange (first_beyond (length g.edges) edges)) _ none in
    below-from_beyond (length g.edges) edges (map_none EdgeOutOfRange (first_beyond (length g.edges) edges) beyond)

best-from_none : (g : DecodingGraph) (shot : ShotValue) (edges : List ℕ) (base weight : ℤ) (cuts : List Cut) → All (λ c. 1 ≤ c.value) cuts
    → best_fault g shot edges base weight cuts ≡ None → IsBest g shot edges base weight cuts
best-from_none g shot edges base weight cuts positive none =
    let total : ℤ = base_of g shot +ℤ pos (total_value cuts) in
    let (choice, others) = or_none (choice_fault g shot edges) _ none in
    let (sums, last) = or_none (sums_fault g shot edges base weight) _ others in
    let (certificate, nothing) = or_none (certificate_fault g shot weight cuts) None last in
    let (beyond, rest) = or_none (option_map EdgeOutOfRange (first_beyond (length g.edges) edges)) _ choice in
    let (fall, rest_2) = or_none (option_map EdgesNotRising (first_fall edges)) _ rest in
    let (wrong, rest_3) = or_none (option_map WrongParity (least g.vertices (has_wrong_parity (problem_of g shot) edges))) None rest_2 in
    let (sum, rest_4) = or_none (fault_of_two WeightNotSum weight (signed_weight_of g shot edges)) _ sums in
    let (differs, rest_5) = or_none (fault_of_two BaseDiffers base (base_of g shot)) None rest_4 in
    let (faulty, rest_6) = or_none (cuts_fault g shot 0 [] cuts) _ certificate in
    let (over, rest_7) = or_none (option_map Overloaded (least (length g.edges) (is_overloaded (solved_problem g shot) cuts))) _ rest_6 in
    let (adds, rest_8) = or_none (fault_of_two SumDiffers weight total) None rest_7 in
    let bases : base ≡ base_of g shot = two_none BaseDiffers base (base_of g shot) differs in
    let (listed, rising) = cuts-from_none g shot 0 [] cuts faulty in
    record {
      edge_set = record {
        rising = rising-from_fall edges (map_none EdgesNotRising (first_fall edges) fall);
        within = subst (λ n. All (λ k. k < n) edges) (sym (same_count g shot)) (choice_within g shot edges choice);
      };
      flips = (same_flips g shot edges).0
          (flips-from_none g shot edges (map_none WrongParity (least g.vertices (has_wrong_parity (problem_of g shot) edges)) wrong));
      bases = bases;
      weighs = two_none WeightNotSum weight (signed_weight_of g shot edges) sum;
      printed = λ k d less. record {
        odd = (listed k d less).odd;
        positive = positive k d less;
        rising = (listed k d less).rising;
      };
      rising = rising.1;
      fits = fits-from_none g shot cuts (map_none Overloaded (least (length g.edges) (is_overloaded (solved_problem g shot) cuts)) over);
      total = two_none SumDiffers weight total adds ∙ ap (λ (z : ℤ). z +ℤ pos (total_value cuts)) (sym bases);
    }

-- the other way round
two-same : (f : ℤ → ℤ → Verdict) (a b : ℤ) → a ≡ b → fault_of_two f a b ≡ None
two-same f a b e = ap (λ t. cond t None (Some (f a b))) ((Decides-int_eq a b).1 e)

not_empty : (p : Problem) (c : Cut) → IsOddCut p c → (length c.vertices == 0) ≡ false
not_empty p c odd = step c.vertices odd.odd
  where
    step : (vs : List ℕ) → is_odd_count p.is_defect vs ≡ true → (length vs == 0) ≡ false
    step [] e = absurd (false≢true e)
    step (v ∷ vs) e = ne_eqb (length (v ∷ vs)) 0 (λ h. absurd (omega (arith, h)))

virtual-from_real : (a b : Bool) → (a && not b) ≡ true → b ≡ false
virtual-from_real true true e = absurd (false≢true e)
virtual-from_real true false e = refl
virtual-from_real false b e = absurd (false≢true e)

none-from_cut : (g : DecodingGraph) (shot : ShotValue) (j : ℕ) (before : List ℕ) (c : Cut) → IsPrintedCut (solved_problem g shot) c
    → slice_cmp nat_cmp before c.vertices ≡ Less → cut_fault g shot j before c.vertices ≡ None
none-from_cut g shot j before c printed order =
    let empty = not_empty (solved_problem g shot) c printed.odd in
    let beyond = beyond-from_below g.vertices c.vertices (λ k d less. real-below g (get_or c.vertices k d) (printed.odd.real k d less)) in
    let fall = fall-from_rising c.vertices printed.rising in
    let virtual = none-from_all (is_in g.virtuals) c.vertices
    (λ k d less. virtual-from_real (nat_lt (get_or c.vertices k d) g.vertices) (is_in g.virtuals (get_or c.vertices k d)) (printed.odd.real k d less)) in
    none_of_six (length c.vertices == 0) (is_some (first_fall c.vertices)) (is_lt (slice_cmp nat_cmp before c.vertices))
    (is_odd_count (is_in (shifted_defects g shot)) c.vertices) (first_beyond g.vertices c.vertices) (find (is_in g.virtuals) c.vertices)
    empty (ap is_some fall) (ap is_lt order) printed.odd.odd beyond virtual
  where
    none_of_six : (a b l o : Bool) (x y : Option ℕ) → a ≡ false → b ≡ false → l ≡ true → o ≡ true → x ≡ None → y ≡ None
        → option_or (fault_if a (CutEmpty j)) (option_or (option_map VertexOutOfRange x) (option_or (fault_if b (CutsNotRising j))
        (option_or (fault_if (not l) (CutsNotRising j)) (option_or (option_map CutHoldsVirtual y)
        (option_or (fault_if (not o) (CutEven j)) None))))) ≡ None
    none_of_six false false true true None None e f h i u v = refl
    none_of_six true b l o x y e f h i u v = absurd (false≢true (sym e))
    none_of_six false true l o x y e f h i u v = absurd (false≢true (sym f))
    none_of_six false false false o x y e f h i u v = absurd (false≢true h)
    none_of_six false false true false x y e f h i u v = absurd (false≢true i)
    none_of_six false false true true (Some k) y e f h i u v = cc
    none_of_six false false true true None (Some k) e f h i u v = cc

none-from_cuts : (g : DecodingGraph) (shot : ShotValue) (j : ℕ) (before : List ℕ) (cuts : List Cut)
    → All (IsPrintedCut (solved_problem g shot)) cuts → AreRising (as_cut before ∷ cuts) → cuts_fault g shot j before cuts ≡ None
none-from_cuts g shot j before [] printed rising = refl
none-from_cuts g shot j before (c ∷ cs) printed rising =
    ap (λ o. option_or o (cuts_fault g shot (j + 1) c.vertices cs))
    (none-from_cut g shot j before c (All-head (IsPrintedCut (solved_problem g shot)) c cs printed) rising.0)
    ∙ none-from_cuts g shot (j + 1) c.vertices cs (All-tail (IsPrintedCut (solved_problem g shot)) c cs printed)
    (before_same c (as_cut c.vertices) refl cs rising.1.0, rising.1.1)

before_nothing : (p : Problem) (cuts : List Cut) → All (IsPrintedCut p) cuts → IsBefore (as_cut []) cuts
before_nothing p [] printed = tt
before_nothing p (c ∷ cs) printed = step c.vertices (All-head (IsPrintedCut p) c cs printed).odd.odd
  where
    step : (vs : List ℕ) → is_odd_count p.is_defect vs ≡ true → slice_cmp nat_cmp [] vs ≡ Less
    step [] e = absurd (false≢true e)
    step (v ∷ vs) e = refl

none_of_three : (a b c : Option Verdict) → a ≡ None → b ≡ None → c ≡ None → option_or a (option_or b (option_or c None)) ≡ None
none_of_three a b c p q r = rw p (rw q (rw r refl))

none-from_best : (g : DecodingGraph) (shot : ShotValue) (edges : List ℕ) (base weight : ℤ) (cuts : List Cut)
    → IsBest g shot edges base weight cuts → best_fault g shot edges base weight cuts ≡ None
none-from_best g shot edges base weight cuts best = none_of_three _ _ _ choice sums certificate where
  choice : choice_fault g shot edges ≡ None
  choice =
      none_of_three _ _ _
      (ap (option_map EdgeOutOfRange) (beyond-from_below (length g.edges) edges
      (subst (λ n. All (λ k. k < n) edges) (same_count g shot) best.edge_set.within)))
      (ap (option_map EdgesNotRising) (fall-from_rising edges best.edge_set.rising))
      (ap (option_map WrongParity) (none-from_flips g shot edges ((same_flips g shot edges).1 best.flips)))

  sums : sums_fault g shot edges base weight ≡ None
  sums =
      rw (two-same WeightNotSum weight (signed_weight_of g shot edges) best.weighs)
      (rw (two-same BaseDiffers base (base_of g shot) best.bases) refl)

  certificate : certificate_fault g shot weight cuts ≡ None
  certificate =
      none_of_three _ _ _
      (none-from_cuts g shot 0 [] cuts best.printed (before_nothing (solved_problem g shot) cuts best.printed, best.rising))
      (ap (option_map Overloaded) (none-from_fits g shot cuts best.fits))
      (two-same SumDiffers weight (base_of g shot +ℤ pos (total_value cuts))
      (best.total ∙ ap (λ (z : ℤ). z +ℤ pos (total_value cuts)) best.bases))

-- there is one first odd component
pub first_odd_once : (p : Problem) (a b : Option ℕ) → IsFirstOdd p a → IsFirstOdd p b → a ≡ b
first_odd_once p None None f g = refl
first_odd_once p None (Some v) f g = absurd (f v g.0)
first_odd_once p (Some u) None f g = absurd (g u f.0)
first_odd_once p (Some u) (Some v) f g =
    ap Some (elim (cases_lt u v) [ inl less ↦ absurd (g.1 u less f.0) | inr more ↦ elim (cases_lt v u) [ inl less ↦ absurd (f.1 v less g.0) | inr low ↦ omega arith ] ])

pub odd_good : (g : DecodingGraph) (shot : ShotValue) (v : ℕ) (first : Option ℕ) → IsFirstOdd (problem_of g shot) first
    → first ≡ Some v → IsOddVerdict g shot v Good
odd_good g shot v first odd same = inl (subst (IsFirstOdd (problem_of g shot)) same odd, refl)

pub odd_wrong : (g : DecodingGraph) (shot : ShotValue) (v : ℕ) (first : Option ℕ) → IsFirstOdd (problem_of g shot) first
    → first ≢ Some v → IsOddVerdict g shot v (OddWrong v)
odd_wrong g shot v first odd other =
    inr (λ f. other (first_odd_once (problem_of g shot) first (Some v) odd f), refl)

pub right-from_good : (g : DecodingGraph) (shot : ShotValue) (row : Row) (v : Verdict) → IsGraph g → IsShot g shot → HasPositiveValues row
    → IsVerdict g shot row v → v ≡ Good → IsRight g shot row
right-from_good g shot (Best edges base weight cuts) v graph own positive is good =
    let best = best-from_none g shot edges base weight cuts positive
    (none_from_good (best_fault g shot edges base weight cuts) (best_bad g shot edges base weight cuts) (sym is ∙ good)) in
    (best_has_no_odd g shot edges base weight cuts graph own best, best)
right-from_good g shot (Odd u) v graph own positive (inl (first, is)) good = (same_first_odd g shot (Some u)).0 first
right-from_good g shot (Odd u) v graph own positive (inr (other, is)) good = cc

pub good-from_right : (g : DecodingGraph) (shot : ShotValue) (row : Row) (v : Verdict) → IsVerdict g shot row v
    → IsRight g shot row → v ≡ Good
good-from_right g shot (Best edges base weight cuts) v is right =
    is ∙ ap (λ o. unwrap_or o Good) (none-from_best g shot edges base weight cuts right.1)
good-from_right g shot (Odd u) v (inl (first, is)) right = is
good-from_right g shot (Odd u) v (inr (other, is)) right = absurd (other ((same_first_odd g shot (Some u)).1 right))

pub least-from_right : (g : DecodingGraph) (shot : ShotValue) (row : Row) → IsGraph g → IsShot g shot → IsRight g shot row → IsLeastWeight g shot row
least-from_right g shot (Best edges base weight cuts) graph own right = best_weighs_least g shot edges base weight cuts graph own right.1
least-from_right g shot (Odd v) graph own right = λ other set flips. no_correction (shot_problem g shot) v right.0 other set.within flips

pub ok_good : {E : Type 0} (g : DecodingGraph) (shot : ShotValue) (row : Row) (r : Result Verdict E) → IsGraph g → IsShot g shot → HasPositiveValues row
    → IfOk r (IsVerdict g shot row) → IfOk r (λ v. v ≡ Good ↔ IsRight g shot row)
ok_good g shot row (Ok v) graph own positive is = (right-from_good g shot row v graph own positive is, good-from_right g shot row v is)
ok_good g shot row (Err e) graph own positive is = is

pub ok_least : {E : Type 0} (g : DecodingGraph) (shot : ShotValue) (row : Row) (r : Result Verdict E) → IsGraph g → IsShot g shot → HasPositiveValues row
    → IfOk r (IsVerdict g shot row) → IfOk r (λ v. v ≡ Good → IsLeastWeight g shot row)
ok_least g shot row (Ok v) graph own positive is =
    λ good. least-from_right g shot row graph own (right-from_good g shot row v graph own positive is good)
ok_least g shot row (Err e) graph own positive is = is
