-- The node of each layer: the seam before each unit, and one more layer.
use Rattle.std.proofs.Common.{ℕ, zero, suc, ◌+◌, ◌-◌, ◌*◌, ◌<◌, ◌≤◌, ◌≡◌, ◌⊎◌, inl, inr, ◌==◌, Bool, true, false, List, [], ◌∷◌, ◌++◌, length, get_or, set, count_by, refl, sym, ap, subst, ◌∙◌, arith, length-set}
use Rattle.std.specs.List.{range_with_len}
use Rattle.std.proofs.lemmas.Bool.{cases_eq, cases_lt, eq-eqb, eqb-true}
use Rattle.std.proofs.lemmas.List.{get_or-set_same, get_or-set_other, get_or_append_left, get_or_push}
use Rattle.fb_graph.specs.Counts.{as_count}
use Rattle.fb_plan.specs.Plans.{most_units}
use Rattle.fb_gen.specs.TimePlan.{IsRoundOf, no_fusion, first_round, time_fusions}
use Rattle.fb_gen.specs.InternalSharing.{IsShared}
use Rattle.fb_gen.specs.declared.levels.Fusion.{Fusion}
use Rattle.fb_gen.proofs.Fusions.{count-cons, seams_once}
use Rattle.fb_gen.proofs.Owners.{one_by_seam, seam_bounds}
use Rattle.fb_gen.proofs.Rounds.{first_after_all, first_later}

-- enough rounds for so many units
pub shared_anyway : (u : ℕ) → 1 ≤ u → u ≤ most_units → IsShared (2 * u) u
shared_anyway u some few = record { positive = some; limit = few; enough = omega arith }

-- the node of one more fusion at its seam
pub seams_more : (u i : ℕ) (nodes : List ℕ) → 1 ≤ u → u ≤ most_units → i < length (time_fusions u)
    → (get_or (time_fusions u) i no_fusion).seam < length nodes
    → ((k : ℕ) → k < i → get_or nodes (get_or (time_fusions u) k no_fusion).seam 0 ≡ u + k)
    → (k : ℕ) → k < i + 1
    → get_or (set nodes (get_or (time_fusions u) i no_fusion).seam (u + i)) (get_or (time_fusions u) k no_fusion).seam 0 ≡ u + k
seams_more u i nodes some few less room before k early = elim (cases_eq k i) [
  | inl same ↦
      ap (λ j. get_or (set nodes (get_or (time_fusions u) i no_fusion).seam (u + i)) (get_or (time_fusions u) j no_fusion).seam 0) same
      ∙ (get_or-set_same nodes (get_or (time_fusions u) i no_fusion).seam (u + i) 0 room ∙ ap (λ j. u + j) (sym same))
  | inr other ↦
      get_or-set_other nodes (get_or (time_fusions u) i no_fusion).seam (get_or (time_fusions u) k no_fusion).seam (u + i) 0
      (λ seam. other (one_by_seam (2 * u) u k i (shared_anyway u some few) (omega arith) less seam))
      ∙ before k (omega (arith, early, other))
]

pub seam_within : (u i : ℕ) (fusions : List Fusion) → 1 ≤ u → u ≤ most_units → fusions ≡ time_fusions u → i < length fusions
    → (get_or fusions i no_fusion).seam < u
seam_within u i fusions some few is less =
    let within : i < length (time_fusions u) = omega (arith, ap length is) in
    rw is ((seam_bounds (2 * u) u i (shared_anyway u some few) within).1)

pub seams_step : (u i : ℕ) (fusions : List Fusion) (nodes : List ℕ) → 1 ≤ u → u ≤ most_units → fusions ≡ time_fusions u
    → i < length fusions → length nodes ≡ u
    → ((k : ℕ) → k < i → get_or nodes (get_or (time_fusions u) k no_fusion).seam 0 ≡ u + k)
    → (length (set nodes (get_or fusions i no_fusion).seam (u + i)) ≡ u)
    × ((k : ℕ) → k < i + 1
    → get_or (set nodes (get_or fusions i no_fusion).seam (u + i)) (get_or (time_fusions u) k no_fusion).seam 0 ≡ u + k)
seams_step u i fusions nodes some few is less count before =
    let within : i < length (time_fusions u) = omega (arith, ap length is) in
    let room : (get_or (time_fusions u) i no_fusion).seam < length nodes =
    omega (arith, count, (seam_bounds (2 * u) u i (shared_anyway u some few) within).1) in
    rw is (
      length-set nodes (get_or (time_fusions u) i no_fusion).seam (u + i) ∙ count,
      seams_more u i nodes some few within room before,
    )

-- an element that is counted
counted : {X : Type 0} (p : X → Bool) (xs : List X) (d : X) → 1 ≤ count_by p xs
    → (i : ℕ) × (i < length xs) × (p (get_or xs i d) ≡ true)
counted p [] d some = absurd (omega (arith, some))
counted p (x ∷ xs) d some = step (p x) refl (counted p xs d)
  where
    step : (b : Bool) → p x ≡ b
        → (1 ≤ count_by p xs → (i : ℕ) × (i < length xs) × (p (get_or xs i d) ≡ true))
        → (i : ℕ) × (i < length (x ∷ xs)) × (p (get_or (x ∷ xs) i d) ≡ true)
    step true e rest = (0, omega arith, e)
    step false e rest =
        let (i, less, here) = rest (omega (arith, count-cons p x xs, ap as_count e, some)) in
        (suc i, omega arith, here)

-- each unit but the first has a fusion by the seam before it
pub seam_of : (u s : ℕ) → 1 ≤ u → 1 ≤ s → s < u
    → (i : ℕ) × (i < length (time_fusions u)) × ((get_or (time_fusions u) i no_fusion).seam ≡ s)
seam_of u s some low high =
    let (i, less, here) = counted (λ (f : Fusion). f.seam == s) (time_fusions u) no_fusion
    (omega (arith, seams_once u (λ k. k == s) some, one)) in
    (i, less, eqb-true (get_or (time_fusions u) i no_fusion).seam s here)
  where
    in_range : (a n : ℕ) → a ≤ s → s < a + n → 1 ≤ count_by (λ k. k == s) (range_with_len a n)
    in_range a zero from to = absurd (omega arith)
    in_range a (suc n) from to = elim (cases_eq a s) [
      | inl same ↦ omega (arith, count-cons (λ k. k == s) a (range_with_len (a + 1) n), ap as_count (eq-eqb a s same))
      | inr other ↦
          omega (
            arith,
            count-cons (λ k. k == s) a (range_with_len (a + 1) n),
            in_range (a + 1) n (omega (arith, from, other)) (omega arith),
          )
    ]

    one : 1 ≤ count_by (λ k. k == s) (range_with_len 1 (u - 1))
    one = in_range 1 (u - 1) low (omega arith)

-- the unit of the next layer, from that of this one
pub record IsAt (t u k j : ℕ) : Type 0 where
  pub unit : j < u
  pub low : first_round t u j ≤ k
  pub high : k < first_round t u (j + 1)

pub begins_at : (t u : ℕ) → IsShared t u → IsAt t u 0 0
begins_at t u shared = record {
  unit = omega (arith, shared.positive);
  low = omega arith;
  high = omega (arith, first_later t u 0 1 shared (omega arith));
}

-- after the last round of a unit and its seam, the next unit begins
pub next_unit : (t u k j : ℕ) → IsShared t u → k < t → IsAt t u k j → k + 1 ≡ first_round t u (j + 1)
    → (j + 1 < u) × IsAt t u (k + 1) (j + 1)
next_unit t u k j shared less at ends =
    let more : j + 1 < u = step (cases_lt (j + 1) u) in (
      more,
      record {
        unit = more;
        low = omega (arith, ends);
        high = omega (arith, ends, first_later t u (j + 1) (j + 1 + 1) shared (omega arith));
      },
    )
  where
    step : (j + 1 < u) ⊎ (u ≤ j + 1) → j + 1 < u
    step (inl more) = more
    step (inr last) =
        let same : j + 1 ≡ u = omega (arith, at.unit, last) in
        absurd (omega (arith, ap (first_round t u) same, first_after_all t u shared, ends, less))

pub same_unit : (t u k j : ℕ) → IsAt t u k j → (k + 1 ≡ first_round t u (j + 1) → ⊥) → IsAt t u (k + 1) j
same_unit t u k j at goes_on = record {
  unit = at.unit;
  low = omega (arith, at.low);
  high = omega (arith, at.high, goes_on);
}

pub unit_round : (t u k j n : ℕ) → IsAt t u k j → (k + 1 ≡ first_round t u (j + 1) → ⊥) → n ≡ j → IsRoundOf t u k n
unit_round t u k j n at goes_on is =
    subst (IsRoundOf t u k) (sym is)
    (inl (record { node = at.unit; low = at.low; high = omega (arith, at.high, goes_on) }))

pub seam_round : (t u k j n : ℕ) (seams : List ℕ) → IsShared t u → j + 1 < u
    → ((i : ℕ) → i < length (time_fusions u) → get_or seams (get_or (time_fusions u) i no_fusion).seam 0 ≡ u + i)
    → k + 1 ≡ first_round t u (j + 1) → n ≡ get_or seams (j + 1) 0 → IsRoundOf t u k n
seam_round t u k j n seams shared more each ends is =
    let (i, less, seam) = seam_of u (j + 1) shared.positive (omega arith) more in
    inr (record {
      place = i;
      within = less;
      node = is ∙ (ap (λ s. get_or seams s 0) (sym seam) ∙ each i less);
      round = ap (first_round t u) seam ∙ sym ends;
    })

-- one more layer with its node
pub rounds_more : (t u k : ℕ) (nodes : List ℕ) (n : ℕ) → length nodes ≡ k
    → ((i : ℕ) → i < k → IsRoundOf t u i (get_or nodes i 0)) → IsRoundOf t u k n
    → (i : ℕ) → i < k + 1 → IsRoundOf t u i (get_or (nodes ++ n ∷ []) i 0)
rounds_more t u k nodes n count before here i less = elim (cases_eq i k) [
  | inl same ↦
      let at : get_or (nodes ++ n ∷ []) i 0 ≡ n = get_or_push nodes n 0 i (count ∙ sym same) in
      subst (λ j. IsRoundOf t u j (get_or (nodes ++ n ∷ []) i 0)) (sym same) (subst (IsRoundOf t u k) (sym at) here)
  | inr other ↦
      let early : i < k = omega (arith, less, other) in
      subst (IsRoundOf t u i) (sym (get_or_append_left nodes (n ∷ []) 0 i (omega (arith, count, early)))) (before i early)
]
