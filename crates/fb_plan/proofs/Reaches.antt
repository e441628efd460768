-- The reaches of all nodes, as the vertices are passed one after another.
use Rattle.std.proofs.Common.{ℕ, ◌+◌, ◌-◌, ◌<◌, ◌≤◌, ◌==◌, ◌≡◌, ◌≢◌, ◌⊎◌, cond, List, length, take, set, get_or, Option, Some, None, sym, ap, ◌∙◌, subst, inl, inr, arith}
use Rattle.std.proofs.lemmas.Bool.{cases_eq, cases_lt, cond-true, cond-false, eq-eqb, ne_eqb}
use Rattle.std.proofs.lemmas.List.{get_or-set_same, get_or-set_other, get_or-take, get_or_past, length-take-le}
use Rattle.std.proofs.lemmas.Option.{none-some}
use Rattle.fb_plan.specs.Reaches.{IsReach, reach_at, widened_reach}
use Rattle.fb_plan.specs.declared.reach.Reach.{Reach}

-- what is known of one of the first vertices holds of all
of_all : (owners : List (Option ℕ)) (i v n : ℕ) → i ≤ length owners → get_or (take i owners) v None ≡ Some n
    → (v < i) × (get_or owners v None ≡ Some n)
of_all owners i v n within own =
    elim (cases_lt v i) [
      | inl less ↦ (less, sym (get_or-take i owners v None less) ∙ own)
      | inr above ↦ absurd (none-some n (sym (get_or_past (take i owners) v None (omega (arith, above, length-take-le i owners within))) ∙ own))
    ]

-- what is known of one of the first vertices holds where one more is passed
of_more : (owners : List (Option ℕ)) (i v n : ℕ) → i < length owners → get_or (take i owners) v None ≡ Some n
    → get_or (take (i + 1) owners) v None ≡ Some n
of_more owners i v n less own =
    let all = of_all owners i v n (omega (arith, less)) own in
    get_or-take (i + 1) owners v None (omega (arith, all.0)) ∙ all.1

-- a vertex among one more that isn't the last of them is among the first ones
of_fewer : (owners : List (Option ℕ)) (i v n : ℕ) → v < i + 1 → v ≢ i → get_or owners v None ≡ Some n
    → get_or (take i owners) v None ≡ Some n
of_fewer owners i v n less differ own = get_or-take i owners v None (omega (arith, less, differ)) ∙ own

-- a vertex is passed that isn't the node's own
pub reach_same : (owners : List (Option ℕ)) (i n : ℕ) (r : Reach) → i < length owners → get_or owners i None ≢ Some n
    → IsReach (take i owners) n r → IsReach (take (i + 1) owners) n r
reach_same owners i n r less other is = record {
  order = is.order;
  least = λ some. of_more owners i r.first n less (is.least some);
  greatest = λ some. of_more owners i (r.end - 1) n less (is.greatest some);
  each = each;
}
  where
    each : (v : ℕ) → get_or (take (i + 1) owners) v None ≡ Some n → (r.first ≤ v) × (v < r.end)
    each v own =
        let all = of_all owners (i + 1) v n (omega (arith, less)) own in
        is.each v (of_fewer owners i v n all.0 (λ same. other (subst (λ k. get_or owners k None ≡ Some n) same all.1)) all.1)

-- a vertex is passed that is the node's own
pub reach_more : (owners : List (Option ℕ)) (i n : ℕ) (r : Reach) → i < length owners → get_or owners i None ≡ Some n
    → IsReach (take i owners) n r → IsReach (take (i + 1) owners) n (widened_reach r i)
reach_more owners i n r less here is = step (cases_eq r.first r.end)
  where
    last : get_or (take (i + 1) owners) i None ≡ Some n
    last = get_or-take (i + 1) owners i None (omega arith) ∙ here

    from : (first : ℕ) → (cond (r.first == r.end) i r.first) ≡ first
        → IsReach (take (i + 1) owners) n (record { first = first; end = i + 1 })
        → IsReach (take (i + 1) owners) n (widened_reach r i)
    from first e reach = subst (λ k. IsReach (take (i + 1) owners) n (record { first = k; end = i + 1 })) (sym e) reach

    greatest : get_or (take (i + 1) owners) (i + 1 - 1) None ≡ Some n
    greatest = subst (λ k. get_or (take (i + 1) owners) k None ≡ Some n) (omega arith) last

    step : (r.first ≡ r.end) ⊎ (r.first ≢ r.end) → IsReach (take (i + 1) owners) n (widened_reach r i)
    step (inl same) =
        from i (cond-true (r.first == r.end) i r.first (eq-eqb r.first r.end same))
        (record {
          order = omega arith;
          least = λ some. last;
          greatest = λ some. greatest;
          each = alone;
        })
      where
        alone : (v : ℕ) → get_or (take (i + 1) owners) v None ≡ Some n → (i ≤ v) × (v < i + 1)
        alone v own =
            let all = of_all owners (i + 1) v n (omega (arith, less)) own in
            elim (cases_eq v i) [
              | inl at ↦ (omega (arith, at), all.0)
              | inr differ ↦
                  let within = is.each v (of_fewer owners i v n all.0 differ all.1) in
                  absurd (omega (arith, within.0, within.1, same))
            ]
    step (inr differ) =
        from r.first (cond-false (r.first == r.end) i r.first (ne_eqb r.first r.end differ))
        (record {
          order = omega (arith, before);
          least = λ some_more. of_more owners i r.first n less (is.least some);
          greatest = λ some_more. greatest;
          each = each;
        })
      where
        some : r.first < r.end
        some = omega (arith, is.order, differ)

        before : r.first < i
        before = (of_all owners i r.first n (omega (arith, less)) (is.least some)).0

        each : (v : ℕ) → get_or (take (i + 1) owners) v None ≡ Some n → (r.first ≤ v) × (v < i + 1)
        each v own =
            let all = of_all owners (i + 1) v n (omega (arith, less)) own in
            elim (cases_eq v i) [
              | inl at ↦ (omega (arith, at, before), all.0)
              | inr other ↦ ((is.each v (of_fewer owners i v n all.0 other all.1)).0, all.0)
            ]

-- the reaches of all nodes, one more vertex being passed
pub reaches_same : (owners : List (Option ℕ)) (nodes i : ℕ) (reaches : List Reach) → i < length owners
    → get_or owners i None ≡ None
    → ((n : ℕ) → n < nodes → IsReach (take i owners) n (reach_at reaches n))
    → (n : ℕ) → n < nodes → IsReach (take (i + 1) owners) n (reach_at reaches n)
reaches_same owners nodes i reaches less none are n node =
    reach_same owners i n (reach_at reaches n) less (λ own. none-some n (sym none ∙ own)) (are n node)

pub reaches_more : (owners : List (Option ℕ)) (nodes i m : ℕ) (reaches : List Reach) (r : Reach) → i < length owners
    → get_or owners i None ≡ Some m → length reaches ≡ nodes → r ≡ widened_reach (reach_at reaches m) i
    → ((n : ℕ) → n < nodes → IsReach (take i owners) n (reach_at reaches n))
    → (n : ℕ) → n < nodes → IsReach (take (i + 1) owners) n (reach_at (set reaches m r) n)
reaches_more owners nodes i m reaches r less here count is are n node = step (cases_eq n m)
  where
    none : Reach
    none = record { first = 0; end = 0 }

    own : (k : ℕ) → get_or owners i None ≡ Some k → k ≡ m
    own k e = let both : Some k ≡ Some m = sym e ∙ here in cc

    step : (n ≡ m) ⊎ (n ≢ m) → IsReach (take (i + 1) owners) n (reach_at (set reaches m r) n)
    step (inl same) =
        subst (IsReach (take (i + 1) owners) n)
        (sym (ap (λ k. get_or (set reaches m r) k none) same
        ∙ (get_or-set_same reaches m r none (omega (arith, count, node, same)) ∙ (is ∙ ap (λ k. widened_reach (reach_at reaches k) i) (sym same)))))
        (reach_more owners i n (reach_at reaches n) less (here ∙ ap Some (sym same)) (are n node))
    step (inr differ) =
        subst (IsReach (take (i + 1) owners) n) (sym (get_or-set_other reaches m n r none differ))
        (reach_same owners i n (reach_at reaches n) less (λ e. differ (own n e)) (are n node))
