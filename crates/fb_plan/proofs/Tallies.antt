-- Sums over the ranges that start at a vertex, end there, or hold it.
use Rattle.std.proofs.Common.{ℕ, ◌+◌, ◌-◌, ◌*◌, ◌^◌, ◌<◌, ◌≤◌, ◌≡◌, ◌⊎◌, Bool, true, false, cond, ◌&&◌, eqb, ltb, leb, List, [], ◌∷◌, ◌++◌, length, take, set, get_or, All, refl, sym, ap, ◌∙◌, inl, inr, arith}
use Rattle.std.proofs.lemmas.Bool.{and_from, and_left, and_right, cases_eq, cases_lt, cases_order, eq-eqb, ne_eqb, le-leb, lt-leb, lt-ltb, le-ltb}
use Rattle.std.proofs.Math.Seq.{get_or-append_seam}
use Rattle.std.proofs.lemmas.List.{get_or_append_left, length-take-le, take_more, get_or-set_same, get_or-set_other}
use Rattle.std.proofs.lemmas.List.Elements.{All-head, All-tail, All-take}
use Rattle.std.proofs.lemmas.List.Sums.{sum_by-cons, sum_by_push}
use Rattle.fb_graph.proofs.Sums.{sum_add, sum_same, sum_zero}
use Rattle.fb_plan.specs.InternalLoads.{IsClaim, bounded_at, load_at, place_of, weigh, weight_of}
use Rattle.fb_plan.specs.Rules.{holds}
use Rattle.fb_plan.specs.declared.loads.Bound.{Bound}
use Rattle.fb_plan.specs.declared.loads.Bound.TheVariants.{Start, End}
use Rattle.fb_plan.specs.declared.loads.Measure.{Measure}
use Rattle.fb_plan.specs.declared.loads.Measure.TheVariants.{Ranges, Nodes}
use Rattle.fb_plan.specs.declared.parts.OwnedRange.{OwnedRange}

-- the range starts before the vertex and doesn't end before it
abbrev pub is_open_before : ℕ → OwnedRange → Bool
is_open_before v c = ltb c.start v && leb v c.end

-- the range holds the vertex or ends there
abbrev pub is_open_at : ℕ → OwnedRange → Bool
is_open_at v c = leb c.start v && leb v c.end

weight_fits : (m : Measure) (vertices : ℕ) (c : OwnedRange) → IsClaim vertices c → weight_of m c < 2 ^ 64
weight_fits Ranges vertices c is = omega arith
weight_fits Nodes vertices c is = is.node

part_fits : (m : Measure) (vertices : ℕ) (test : OwnedRange → Bool) (c : OwnedRange) → IsClaim vertices c
    → cond (test c) (weight_of m c) 0 < 2 ^ 64
part_fits m vertices test c is = step (test c)
  where
    step : (b : Bool) → cond b (weight_of m c) 0 < 2 ^ 64
    step true = weight_fits m vertices c is
    step false = omega arith

pub weigh_fits : (m : Measure) (vertices : ℕ) (test : OwnedRange → Bool) (claims : List OwnedRange) → All (IsClaim vertices) claims
    → weigh m test claims ≤ length claims * (2 ^ 64 - 1)
weigh_fits m vertices test [] each = omega arith
weigh_fits m vertices test (c ∷ claims) each =
    omega (
      arith,
      sum_by-cons (λ x. cond (test x) (weight_of m x) 0) c claims,
      part_fits m vertices test c (All-head (IsClaim vertices) c claims each),
      weigh_fits m vertices test claims (All-tail (IsClaim vertices) c claims each),
    )

weigh_split : (m : Measure) (first second both : OwnedRange → Bool) (claims : List OwnedRange)
    → All (λ c. cond (first c) (weight_of m c) 0 + cond (second c) (weight_of m c) 0 ≡ cond (both c) (weight_of m c) 0) claims
    → weigh m first claims + weigh m second claims ≡ weigh m both claims
weigh_split m first second both claims each =
    sym (sum_add (λ c. cond (first c) (weight_of m c) 0) (λ c. cond (second c) (weight_of m c) 0) claims)
    ∙ sum_same (λ c. cond (first c) (weight_of m c) 0 + cond (second c) (weight_of m c) 0) (λ c. cond (both c) (weight_of m c) 0) claims each

parts : (x : ℕ) (a b c : Bool) → (a ≡ c) × (b ≡ false) ⊎ (b ≡ c) × (a ≡ false) → cond a x 0 + cond b x 0 ≡ cond c x 0
parts x a b c (inl (same, none)) = rw (same, none) (omega arith)
parts x a b c (inr (same, none)) = rw (same, none) (omega arith)

-- those open before it and those that start there
pub opened_more : (m : Measure) (vertices v : ℕ) (claims : List OwnedRange) → All (IsClaim vertices) claims
    → weigh m (is_open_before v) claims + bounded_at m Start claims v ≡ weigh m (is_open_at v) claims
opened_more m vertices v claims each =
    weigh_split m (is_open_before v) (λ c. eqb c.start v) (is_open_at v) claims
    (λ k d less. at (get_or claims k d) (each k d less))
  where
    at : (c : OwnedRange) → IsClaim vertices c
        → cond (is_open_before v c) (weight_of m c) 0 + cond (eqb c.start v) (weight_of m c) 0 ≡ cond (is_open_at v c) (weight_of m c) 0
    at c is =
        parts (weight_of m c) _ _ _ (elim (cases_order c.start v) [
          | inl same ↦ inr (
            eq-eqb c.start v same ∙ sym (and_from _ _ (le-leb c.start v (omega arith)) (le-leb v c.end (omega (arith, is.order)))),
            and_left _ _ (le-ltb c.start v (omega arith)),
          )
          | inr (inl less) ↦ inl (
            ap (λ b. b && leb v c.end) (lt-ltb c.start v less ∙ sym (le-leb c.start v (omega arith))),
            ne_eqb c.start v (λ e. omega arith),
          )
          | inr (inr more) ↦ inl (
            and_left _ _ (le-ltb c.start v (omega arith)) ∙ sym (and_left _ _ (lt-leb c.start v more)),
            ne_eqb c.start v (λ e. omega arith),
          )
        ])

-- those that hold it and those that end there
pub closed_less : (m : Measure) (vertices v : ℕ) (claims : List OwnedRange) → All (IsClaim vertices) claims
    → load_at m claims v + bounded_at m End claims v ≡ weigh m (is_open_at v) claims
closed_less m vertices v claims each =
    weigh_split m (holds v) (λ c. eqb c.end v) (is_open_at v) claims
    (λ k d less. at (get_or claims k d) (each k d less))
  where
    at : (c : OwnedRange) → IsClaim vertices c
        → cond (holds v c) (weight_of m c) 0 + cond (eqb c.end v) (weight_of m c) 0 ≡ cond (is_open_at v c) (weight_of m c) 0
    at c is =
        parts (weight_of m c) _ _ _ (elim (cases_order c.end v) [
          | inl same ↦ inr (
            eq-eqb c.end v same ∙ sym (and_from _ _ (le-leb c.start v (omega (arith, is.order))) (le-leb v c.end (omega arith))),
            and_right _ _ (le-ltb v c.end (omega arith)),
          )
          | inr (inl less) ↦ inl (
            and_right _ _ (le-ltb v c.end (omega arith)) ∙ sym (and_right _ _ (lt-leb v c.end less)),
            ne_eqb c.end v (λ e. omega arith),
          )
          | inr (inr more) ↦ inl (
            ap (λ b. leb c.start v && b) (lt-ltb v c.end more ∙ sym (le-leb v c.end (omega arith))),
            ne_eqb c.end v (λ e. omega arith),
          )
        ])

-- those that hold a vertex are open before the next one
pub open_next : (m : Measure) (v : ℕ) (claims : List OwnedRange)
    → weigh m (is_open_before (v + 1)) claims ≡ load_at m claims v
open_next m v claims =
    sum_same (λ c. cond (is_open_before (v + 1) c) (weight_of m c) 0) (λ c. cond (holds v c) (weight_of m c) 0) claims
    (λ k d less. ap (λ b. cond b (weight_of m (get_or claims k d)) 0) (at (get_or claims k d)))
  where
    start_at : (c : OwnedRange) → ltb c.start (v + 1) ≡ leb c.start v
    start_at c =
        elim (cases_lt v c.start) [
          | inl less ↦ le-ltb c.start (v + 1) (omega arith) ∙ sym (lt-leb c.start v less)
          | inr above ↦ lt-ltb c.start (v + 1) (omega arith) ∙ sym (le-leb c.start v above)
        ]

    end_at : (c : OwnedRange) → leb (v + 1) c.end ≡ ltb v c.end
    end_at c =
        elim (cases_lt v c.end) [
          | inl less ↦ le-leb (v + 1) c.end (omega arith) ∙ sym (lt-ltb v c.end less)
          | inr above ↦ lt-leb (v + 1) c.end (omega arith) ∙ sym (le-ltb v c.end above)
        ]

    at : (c : OwnedRange) → is_open_before (v + 1) c ≡ holds v c
    at c = rw (start_at c, end_at c) refl

-- none is open before the first vertex
pub open_first : (m : Measure) (claims : List OwnedRange) → weigh m (is_open_before 0) claims ≡ 0
open_first m claims =
    sum_same (λ c. cond (is_open_before 0 c) (weight_of m c) 0) (λ c. 0) claims
    (λ k d less. ap (λ b. cond b (weight_of m (get_or claims k d)) 0)
    (and_left _ _ (le-ltb (get_or claims k d).start 0 (omega arith))))
    ∙ sum_zero claims

-- one more range put at the place where it passes
pub sums_more : (m : Measure) (bound : Bound) (sums : List ℕ) (claims : List OwnedRange) (i n : ℕ) (d : OwnedRange) (w : ℕ)
    → length sums ≡ n + 1 → i < length claims → place_of bound (get_or claims i d) ≤ n
    → ((v : ℕ) → v ≤ n → get_or sums v 0 ≡ bounded_at m bound (take i claims) v)
    → w ≡ get_or sums (place_of bound (get_or claims i d)) 0 + weight_of m (get_or claims i d)
    → (v : ℕ) → v ≤ n
    → get_or (set sums (place_of bound (get_or claims i d)) w) v 0 ≡ bounded_at m bound (take (i + 1) claims) v
sums_more m bound sums claims i n d w count less low told is v below =
    step (cases_eq v (place_of bound (get_or claims i d)))
    ∙ sym (ap (weigh m (λ c. eqb (place_of bound c) v)) (take_more claims i d less)
    ∙ sum_by_push (λ c. cond (eqb (place_of bound c) v) (weight_of m c) 0) (take i claims) (get_or claims i d))
  where
    step : (v ≡ place_of bound (get_or claims i d)) ⊎ (v ≡ place_of bound (get_or claims i d) → ⊥)
        → get_or (set sums (place_of bound (get_or claims i d)) w) v 0
        ≡ bounded_at m bound (take i claims) v + cond (eqb (place_of bound (get_or claims i d)) v) (weight_of m (get_or claims i d)) 0
    step (inl same) =
        ap (λ j. get_or (set sums (place_of bound (get_or claims i d)) w) j 0) same
        ∙ get_or-set_same sums (place_of bound (get_or claims i d)) w 0 (omega (arith, count, low))
        ∙ is
        ∙ ap (λ j. get_or sums j 0 + weight_of m (get_or claims i d)) (sym same)
        ∙ ap (λ j. j + weight_of m (get_or claims i d)) (told v below)
        ∙ ap (λ b. bounded_at m bound (take i claims) v + cond b (weight_of m (get_or claims i d)) 0)
        (sym (eq-eqb (place_of bound (get_or claims i d)) v (sym same)))
    step (inr other) =
        get_or-set_other sums (place_of bound (get_or claims i d)) v w 0 other
        ∙ told v below
        ∙ omega arith
        ∙ ap (λ b. bounded_at m bound (take i claims) v + cond b (weight_of m (get_or claims i d)) 0)
        (sym (ne_eqb (place_of bound (get_or claims i d)) v (λ e. other (sym e))))

pub place-le : (bound : Bound) (vertices : ℕ) (c : OwnedRange) → IsClaim vertices c → place_of bound c ≤ vertices
place-le Start vertices c is = omega (arith, is.order, is.end)
place-le End vertices c is = is.end

-- a sum over a front part, and one weight more
pub sum_fits : (m : Measure) (vertices i : ℕ) (test : OwnedRange → Bool) (claims : List OwnedRange) (d : OwnedRange)
    → All (IsClaim vertices) claims → i < length claims → length claims < 2 ^ 64
    → weigh m test (take i claims) + weight_of m (get_or claims i d) < 2 ^ 128
sum_fits m vertices i test claims d each less count =
    omega (
      arith,
      weigh_fits m vertices test (take i claims) (All-take (IsClaim vertices) i claims each),
      length-take-le i claims (omega arith),
      weight_fits m vertices (get_or claims i d) (each i d less),
    )

-- one more vertex's sum
pub loads_more : (m : Measure) (claims : List OwnedRange) (sums : List ℕ) (v x : ℕ) → length sums ≡ v
    → ((k : ℕ) → k < v → get_or sums k 0 ≡ load_at m claims k) → x ≡ load_at m claims v
    → (k : ℕ) → k < v + 1 → get_or (sums ++ x ∷ []) k 0 ≡ load_at m claims k
loads_more m claims sums v x count told is k below = step (cases_eq k v)
  where
    step : (k ≡ v) ⊎ (k ≡ v → ⊥) → get_or (sums ++ x ∷ []) k 0 ≡ load_at m claims k
    step (inl same) =
        ap (λ j. get_or (sums ++ x ∷ []) j 0) (same ∙ sym count)
        ∙ get_or-append_seam sums x [] 0 ∙ is ∙ ap (load_at m claims) (sym same)
    step (inr other) = get_or_append_left sums (x ∷ []) 0 k (omega (arith, count, other)) ∙ told k (omega (arith, other))
