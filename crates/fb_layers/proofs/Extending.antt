-- Ranges with one more vertex: what they hold, and the two ways in which they are made.
use Rattle.std.proofs.Common.{ℕ, suc, ◌+◌, ◌-◌, ◌<◌, ◌≤◌, ◌≡◌, ◌⊎◌, inl, inr, ◌==◌, cond, List, [], ◌∷◌, ◌++◌, length, get_or, set, count_by, All, refl, sym, ap, ◌∙◌, arith}
use Rattle.std.proofs.lemmas.Bool.{cases_eq, cases_lt, eq-eqb, ne_eqb, le-leb, lt-leb, le-ltb, lt-ltb}
use Rattle.std.proofs.lemmas.List.{get_or_default}
use Rattle.std.proofs.lemmas.List.Elements.{All-nil, All-cons, All-head, All-tail}
use Rattle.fb_graph.specs.Counts.{as_count}
use Rattle.fb_gen.proofs.Fusions.{count-cons}
use Rattle.fb_layers.specs.Runs.{add_vertex, is_held}
use Rattle.fb_layers.specs.InternalCovers.{IsRange}

abbrev pub no_range : ℕ × ℕ
no_range = (0, 0)

-- the last range goes on
pub add_extends : (rs : List (ℕ × ℕ)) (v : ℕ) → 0 < length rs → (get_or rs (length rs - 1) no_range).1 ≡ v
    → add_vertex rs v ≡ set rs (length rs - 1) ((get_or rs (length rs - 1) no_range).0, v + 1)
add_extends [] v some ends = absurd (omega arith)
add_extends (r ∷ []) v some ends = rw (eq-eqb r.1 v ends) refl
add_extends (r ∷ s ∷ rs) v some ends =
    let e : suc (suc (length rs)) - 1 ≡ suc (suc (length rs) - 1) = omega arith in
    let last : (get_or (s ∷ rs) (length (s ∷ rs) - 1) no_range).1 ≡ v = rw e at ends in
    rw e (ap (λ xs. r ∷ xs) (add_extends (s ∷ rs) v (omega arith) last))

-- or a range begins
pub add_begins : (rs : List (ℕ × ℕ)) (v : ℕ) → (0 < length rs → (get_or rs (length rs - 1) no_range).1 ≡ v → ⊥)
    → add_vertex rs v ≡ rs ++ (v, v + 1) ∷ []
add_begins [] v apart = refl
add_begins (r ∷ []) v apart = rw (ne_eqb r.1 v (λ same. apart (omega arith) same)) refl
add_begins (r ∷ s ∷ rs) v apart =
    let e : suc (suc (length rs)) - 1 ≡ suc (suc (length rs) - 1) = omega arith in
    ap (λ xs. r ∷ xs) (add_begins (s ∷ rs) v (λ some last.
    apart (omega arith) (ap (λ i. (get_or (r ∷ s ∷ rs) i no_range).1) e ∙ last)))

-- the same, by the last range as it is read
pub extends_last : (rs : List (ℕ × ℕ)) (n v w : ℕ) (r q : ℕ × ℕ) → n ≡ length rs → 0 < n → r ≡ get_or rs (n - 1) r → r.1 ≡ w
    → w ≡ v → q ≡ get_or rs (n - 1) q → set rs (n - 1) (q.0, w + 1) ≡ add_vertex rs v
extends_last rs n v w r q count some read ends same written =
    let last : get_or rs (n - 1) r ≡ get_or rs (n - 1) no_range = get_or_default rs (n - 1) r no_range (omega (arith, count, some)) in
    let also : get_or rs (n - 1) q ≡ get_or rs (n - 1) no_range = get_or_default rs (n - 1) q no_range (omega (arith, count, some)) in
    ap (λ (p : ℕ × ℕ). set rs (n - 1) (p.0, w + 1)) (written ∙ also)
    ∙ ap (λ m. set rs (m - 1) ((get_or rs (m - 1) no_range).0, w + 1)) count
    ∙ ap (λ x. set rs (length rs - 1) ((get_or rs (length rs - 1) no_range).0, x + 1)) same
    ∙ sym (add_extends rs v (omega (arith, count, some))
    (ap (λ m. (get_or rs (m - 1) no_range).1) (sym count)
    ∙ ap (λ (p : ℕ × ℕ). p.1) (sym (read ∙ last))
    ∙ ends
    ∙ same))

pub begins_new : (rs : List (ℕ × ℕ)) (n v w : ℕ) (r : ℕ × ℕ) → n ≡ length rs → r ≡ get_or rs (n - 1) r → (r.1 ≡ w → ⊥)
    → w ≡ v → 0 < n → rs ++ (w, w + 1) ∷ [] ≡ add_vertex rs v
begins_new rs n v w r count read apart same some =
    let last : get_or rs (n - 1) r ≡ get_or rs (n - 1) no_range = get_or_default rs (n - 1) r no_range (omega (arith, count, some)) in
    ap (λ x. rs ++ (x, x + 1) ∷ []) same
    ∙ sym (add_begins rs v (λ more ends.
    apart (ap (λ (p : ℕ × ℕ). p.1) (read ∙ last) ∙ ap (λ m. (get_or rs (m - 1) no_range).1) count ∙ ends ∙ sym same)))

pub begins_first : (rs : List (ℕ × ℕ)) (v w : ℕ) → length rs ≡ 0 → w ≡ v → rs ++ (w, w + 1) ∷ [] ≡ add_vertex rs v
begins_first rs v w none same =
    ap (λ x. rs ++ (x, x + 1) ∷ []) same ∙ sym (add_begins rs v (λ more ends. absurd (omega (arith, none, more))))

-- a range of one more vertex
held_more : (r : ℕ × ℕ) (v w : ℕ) → r.0 < r.1 → r.1 ≡ v
    → as_count (is_held w (r.0, v + 1)) ≡ as_count (is_held w r) + as_count (v == w)
held_more r v w some ends = elim (cases_lt w r.0) [
  | inl before ↦
      let apart : v ≡ w → ⊥ = λ same. absurd (omega (arith, same, before, some, ends)) in
      rw (lt-leb r.0 w before, ne_eqb v w apart) refl
  | inr from ↦ elim (cases_lt w v) [
    | inl inside ↦
        let apart : v ≡ w → ⊥ = λ same. absurd (omega (arith, same, inside)) in
        let low : w < v + 1 = omega arith in
        let end : w < r.1 = omega (arith, ends) in
        rw (le-leb r.0 w from, lt-ltb w (v + 1) low, lt-ltb w r.1 end, ne_eqb v w apart) refl
    | inr past ↦ elim (cases_eq v w) [
      | inl same ↦
          let low : w < v + 1 = omega (arith, same) in
          let end : r.1 ≤ w = omega (arith, ends, same) in
          rw (le-leb r.0 w from, lt-ltb w (v + 1) low, le-ltb w r.1 end, eq-eqb v w same) refl
      | inr other ↦
          let beyond : v + 1 ≤ w = omega (arith, past, other) in
          let end : r.1 ≤ w = omega (arith, ends, past) in
          rw (le-leb r.0 w from, le-ltb w (v + 1) beyond, le-ltb w r.1 end, ne_eqb v w other) refl
    ]
  ]
]

-- a range of one vertex
held_one : (v w : ℕ) → as_count (is_held w (v, v + 1)) ≡ as_count (v == w)
held_one v w = elim (cases_eq v w) [
  | inl same ↦
      let low : v ≤ w = omega (arith, same) in
      let end : w < v + 1 = omega (arith, same) in
      rw (le-leb v w low, lt-ltb w (v + 1) end, eq-eqb v w same) refl
  | inr other ↦ elim (cases_lt w v) [
    | inl before ↦ rw (lt-leb v w before, ne_eqb v w other) refl
    | inr from ↦
        let beyond : v + 1 ≤ w = omega (arith, from, other) in
        rw (le-leb v w from, le-ltb w (v + 1) beyond, ne_eqb v w other) refl
  ]
]

-- ranges with one more vertex hold it and what they held before
pub count-add_vertex : (n : ℕ) (rs : List (ℕ × ℕ)) (v w : ℕ) → All (IsRange n) rs
    → count_by (is_held w) (add_vertex rs v) ≡ count_by (is_held w) rs + as_count (v == w)
count-add_vertex n [] v w good = omega (arith, count-cons (is_held w) (v, v + 1) [], held_one v w)
count-add_vertex n (r ∷ []) v w good = step (cases_eq r.1 v)
  where
    step : (r.1 ≡ v) ⊎ (r.1 ≡ v → ⊥)
        → count_by (is_held w) (cond (r.1 == v) ((r.0, v + 1) ∷ []) (r ∷ (v, v + 1) ∷ []))
        ≡ count_by (is_held w) (r ∷ []) + as_count (v == w)
    step (inl ends) =
        rw (eq-eqb r.1 v ends)
        (omega (
          arith,
          count-cons (is_held w) (r.0, v + 1) [],
          count-cons (is_held w) r [],
          held_more r v w (All-head (IsRange n) r [] good).0 ends,
        ))
    step (inr other) =
        rw (ne_eqb r.1 v other)
        (omega (
          arith,
          count-cons (is_held w) r ((v, v + 1) ∷ []),
          count-cons (is_held w) (v, v + 1) [],
          count-cons (is_held w) r [],
          held_one v w,
        ))
count-add_vertex n (r ∷ s ∷ rs) v w good =
    omega (
      arith,
      count-cons (is_held w) r (add_vertex (s ∷ rs) v),
      count-cons (is_held w) r (s ∷ rs),
      count-add_vertex n (s ∷ rs) v w (All-tail (IsRange n) r (s ∷ rs) good),
    )

-- and stay ranges of vertices
pub ranges-add_vertex : (n : ℕ) (rs : List (ℕ × ℕ)) (v : ℕ) → v < n → All (IsRange n) rs → All (IsRange n) (add_vertex rs v)
ranges-add_vertex n [] v below good =
    All-cons (IsRange n) (v, v + 1) [] (omega arith, omega arith) (All-nil (IsRange n))
ranges-add_vertex n (r ∷ []) v below good = step (cases_eq r.1 v)
  where
    head : IsRange n r
    head = All-head (IsRange n) r [] good

    step : (r.1 ≡ v) ⊎ (r.1 ≡ v → ⊥) → All (IsRange n) (cond (r.1 == v) ((r.0, v + 1) ∷ []) (r ∷ (v, v + 1) ∷ []))
    step (inl ends) =
        rw (eq-eqb r.1 v ends)
        (All-cons (IsRange n) (r.0, v + 1) [] (omega (arith, head.0, ends), omega arith) (All-nil (IsRange n)))
    step (inr other) =
        rw (ne_eqb r.1 v other)
        (All-cons (IsRange n) r ((v, v + 1) ∷ []) head
        (All-cons (IsRange n) (v, v + 1) [] (omega arith, omega arith) (All-nil (IsRange n))))
ranges-add_vertex n (r ∷ s ∷ rs) v below good =
    All-cons (IsRange n) r (add_vertex (s ∷ rs) v) (All-head (IsRange n) r (s ∷ rs) good)
    (ranges-add_vertex n (s ∷ rs) v below (All-tail (IsRange n) r (s ∷ rs) good))
