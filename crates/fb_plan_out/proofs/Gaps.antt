-- The ranges of a node are the maximal runs of its vertices.
use Rattle.std.proofs.Common.{◌≡◌, ℕ, zero, suc, ◌+◌, ◌<◌, ◌≤◌, ◌⊎◌, inl, inr, ◌==◌, ◌&&◌, ◌||◌, nat_lt, Bool, true, false, cond, List, [], ◌∷◌, length, fold, get_or, count_by, All, refl, sym, ap, subst, ◌∙◌, arith}
use Rattle.std.specs.Prelude.{None}
use Rattle.std.specs.List.{list_any}
use Rattle.std.specs.List.Sorted.{IsStrictlyIncreasing}
use Rattle.std.proofs.lemmas.Bool.{cases_eq, cases_lt, eq-eqb, ne_eqb, lt-ltb, le-ltb}
use Rattle.std.proofs.lemmas.List.{get_or_past}
use Rattle.std.proofs.lemmas.List.Elements.{All-nil, All-head, All-tail}
use Rattle.fb_graph.specs.Counts.{as_count}
use Rattle.fb_graph.proofs.Ranges.{filter-range_rises}
use Rattle.fb_graph.proofs.Sets.{rising-tail}
use Rattle.fb_plan.specs.Plans.{PlanTree, owner_of}
use Rattle.fb_plan.specs.Vertices.{is_node, owned_by}
use Rattle.fb_gen.proofs.Fusions.{count-cons}
use Rattle.fb_layers.specs.Runs.{add_vertex, is_held}
use Rattle.fb_layers.specs.InternalCovers.{IsRange}
use Rattle.fb_layers.proofs.Extending.{ranges-add_vertex}
use Rattle.fb_plan_out.specs.Laws.{RangesAreRuns}
use Rattle.fb_plan_out.specs.PlanWriting.{ranges_at}
use Rattle.fb_plan_out.proofs.Owned.{count-ranges_at, ranges_good}

-- ---- gaps

abbrev AreApart : List (ℕ × ℕ) → Type 0
AreApart rs = (i : ℕ) → i + 1 < length rs → (get_or rs i (0, 0)).1 < (get_or rs (i + 1) (0, 0)).0

apart-one : (r : ℕ × ℕ) → AreApart (r ∷ [])
apart-one r i less = absurd (omega (arith, less))

apart-cons : (r s : ℕ × ℕ) (rs : List (ℕ × ℕ)) → r.1 < s.0 → AreApart (s ∷ rs) → AreApart (r ∷ s ∷ rs)
apart-cons r s rs gap rest zero less = gap
apart-cons r s rs gap rest (suc i) less =
    let e : suc i + 1 ≡ suc (i + 1) = omega arith in
    rw e (rest i (omega (arith, less)))

apart-tail : (r : ℕ × ℕ) (rs : List (ℕ × ℕ)) → AreApart (r ∷ rs) → AreApart rs
apart-tail r rs all i less =
    let e : suc i + 1 ≡ suc (i + 1) = omega arith in
    rw e at (all (suc i) (omega (arith, less)))

-- the first range begins where it did
pub record BeginsAt (low : ℕ) (rs : List (ℕ × ℕ)) : Type 0 where
  pub head : ℕ × ℕ
  pub tail : List (ℕ × ℕ)
  pub is : rs ≡ head ∷ tail
  pub begins : head.0 ≡ low

begins-add_vertex : (s : ℕ × ℕ) (rs : List (ℕ × ℕ)) (v : ℕ) → BeginsAt s.0 (add_vertex (s ∷ rs) v)
begins-add_vertex s [] v = step (s.1 == v)
  where
    step : (b : Bool) → BeginsAt s.0 (cond b ((s.0, v + 1) ∷ []) (s ∷ (v, v + 1) ∷ []))
    step true = record { head = (s.0, v + 1); tail = []; is = refl; begins = refl }
    step false = record { head = s; tail = (v, v + 1) ∷ []; is = refl; begins = refl }
begins-add_vertex s (r ∷ rs) v = record { head = s; tail = add_vertex (r ∷ rs) v; is = refl; begins = refl }

apart-add_vertex : (rs : List (ℕ × ℕ)) (v : ℕ) → All (λ r. r.1 ≤ v) rs → AreApart rs → AreApart (add_vertex rs v)
apart-add_vertex [] v ends apart = apart-one (v, v + 1)
apart-add_vertex (r ∷ []) v ends apart = step (cases_eq r.1 v)
  where
    step : (r.1 ≡ v) ⊎ (r.1 ≡ v → ⊥) → AreApart (cond (r.1 == v) ((r.0, v + 1) ∷ []) (r ∷ (v, v + 1) ∷ []))
    step (inl same) = rw (eq-eqb r.1 v same) (apart-one (r.0, v + 1))
    step (inr other) =
        rw (ne_eqb r.1 v other)
        (apart-cons r (v, v + 1) [] (omega (arith, All-head (λ q. q.1 ≤ v) r [] ends, other)) (apart-one (v, v + 1)))
apart-add_vertex (r ∷ s ∷ rs) v ends apart =
    let more : AreApart (add_vertex (s ∷ rs) v) =
    apart-add_vertex (s ∷ rs) v (All-tail (λ q. q.1 ≤ v) r (s ∷ rs) ends) (apart-tail r (s ∷ rs) apart) in
    let first : BeginsAt s.0 (add_vertex (s ∷ rs) v) = begins-add_vertex s rs v in
    subst (λ qs. AreApart (r ∷ qs)) (sym first.is)
    (apart-cons r first.head first.tail (omega (arith, first.begins, apart 0 (omega arith))) (subst AreApart first.is more))

range_within : (m n : ℕ) (rs : List (ℕ × ℕ)) → m ≤ n → All (IsRange m) rs → All (IsRange n) rs
range_within m n rs low good k d less = let range = good k d less in (range.0, omega (arith, range.1))

apart-runs_from : (a : ℕ) (rs : List (ℕ × ℕ)) (vs : List ℕ) → All (IsRange a) rs → AreApart rs
    → (0 < length vs → a ≤ get_or vs 0 0) → IsStrictlyIncreasing vs → AreApart (fold add_vertex rs vs)
apart-runs_from a rs [] good apart low rising = apart
apart-runs_from a rs (v ∷ vs) good apart low rising =
    let from : a ≤ v = low (omega arith) in
    apart-runs_from (v + 1) (add_vertex rs v) vs
    (ranges-add_vertex (v + 1) rs v (omega arith) (range_within a (v + 1) rs (omega arith) good))
    (apart-add_vertex rs v (λ k d less. omega (arith, (good k d less).1, from)) apart) (after vs rising) (rising-tail v vs rising)
  where
    after : (ws : List ℕ) → IsStrictlyIncreasing (v ∷ ws) → 0 < length ws → v + 1 ≤ get_or ws 0 0
    after [] rises some = absurd (omega (arith, some))
    after (w ∷ ws) rises some = omega (arith, rises 0 (omega arith))

-- ---- what is held

any_from_count : {X : Type 0} (p : X → Bool) (xs : List X) (b : Bool) → count_by p xs ≡ as_count b → list_any p xs ≡ b
any_from_count p [] true count = absurd (omega (arith, count))
any_from_count p [] false count = refl
any_from_count p (x ∷ xs) b count = step (p x) refl b count (any_from_count p xs b)
  where
    step : (c : Bool) → p x ≡ c → (b : Bool) → count_by p (x ∷ xs) ≡ as_count b → (count_by p xs ≡ as_count b → list_any p xs ≡ b)
        → (c || list_any p xs) ≡ b
    step true e true all rest = refl
    step true e false all rest = absurd (omega (arith, count-cons p x xs, ap as_count e, all))
    step false e d all rest = rest (omega (arith, count-cons p x xs, ap as_count e, all))

held_by_owner : (t : PlanTree) (n v : ℕ) → (nat_lt v (length t.owners) && is_node n (owner_of t v)) ≡ is_node n (owner_of t v)
held_by_owner t n v = elim (cases_lt v (length t.owners)) [
  | inl less ↦ ap (λ b. b && is_node n (owner_of t v)) (lt-ltb v (length t.owners) less)
  | inr past ↦
      ap (λ b. b && is_node n (owner_of t v)) (le-ltb v (length t.owners) past)
      ∙ sym (ap (is_node n) (get_or_past t.owners v None past))
]

pub ranges_are_runs : RangesAreRuns
ranges_are_runs t n = record {
  hold = λ v.
      any_from_count (is_held v) (ranges_at t n) (nat_lt v (length t.owners) && is_node n (owner_of t v)) (count-ranges_at t n v)
      ∙ held_by_owner t n v;
  some = λ k d less. (ranges_good t n k d less).0;
  apart = apart-runs_from 0 [] (owned_by t n) (All-nil (IsRange 0)) (λ i less. absurd (omega (arith, less))) (λ some. omega arith)
      (filter-range_rises (λ v. is_node n (owner_of t v)) (length t.owners));
}
