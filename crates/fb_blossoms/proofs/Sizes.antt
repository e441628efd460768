-- How long legs may become.
use Rattle.std.proofs.Common.{◌≡◌, ◌≢◌, inl, inr, ℕ, zero, suc, ◌+◌, ◌-◌, ◌*◌, ◌<◌, ◌≤◌, ◌==◌, ◌||◌, if◌then◌else◌, Bool, true, false, List, [], ◌∷◌, ◌++◌, length, Option, refl, sym, ◌∙◌, ap, arith, length-append}
use Rattle.std.proofs.lemmas.Bool.{both_ways, cases_Bool, eq-eqb, eqb-true, or_cases, or_left, or_right}
use Rattle.fb_links.specs.declared.walk.Step.{Step}
use Rattle.fb_links.specs.declared.cycle.CycleStep.{CycleStep}
use Rattle.fb_blossoms.specs.declared.legs.Leg.{Leg}
use Rattle.fb_blossoms.specs.Nodes.{IsNested, Node, cycle_at, defects_along, defects_at, is_on}
use Rattle.fb_blossoms.specs.Links.{AreLinked, node_after}
use Rattle.fb_blossoms.specs.InternalLegs.{legs_size}
use Rattle.fb_blossoms.proofs.Rounds.{cycle_kept, on_round, round_differs}

pub length_some : (xs : List ℕ) → xs ≢ [] → 1 ≤ length xs
length_some [] h = absurd (h refl)
length_some (x ∷ xs) h = omega arith

module _ (nodes : List (Option Node)) where
  pub size_append : (xs ys : List Leg) → legs_size nodes (xs ++ ys) ≡ legs_size nodes xs + legs_size nodes ys
  size_append [] ys = omega arith
  size_append (x ∷ xs) ys = omega (arith, size_append xs ys)

  -- how many defects the node has beside one
  abbrev pub more_at : ℕ → ℕ
  more_at x = length (defects_at nodes x) - 1

  -- the same of the nodes passed on a way round a cycle, together
  abbrev pub passed : List CycleStep → Bool → ℕ → ℕ → ℕ
  passed cycle onward s zero = 0
  passed cycle onward s (suc k) = passed cycle onward s k + more_at (node_after cycle onward s k)

  -- and of the nodes of a cycle that have a mark
  abbrev pub marked : (ℕ → Bool) → List CycleStep → ℕ
  marked mark [] = 0
  marked mark (s ∷ ss) = (if mark s.node then more_at s.node else 0) + marked mark ss

  marked_less : (a b : ℕ → Bool) (ss : List CycleStep) → ((x : ℕ) → a x ≡ true → b x ≡ true) → marked a ss ≤ marked b ss
  marked_less a b [] h = omega arith
  marked_less a b (s ∷ ss) h =
      let rest : marked a ss ≤ marked b ss = marked_less a b ss h in
      elim (cases_Bool (a s.node)) [
        | inl e ↦ rw (e, h s.node e) (omega (arith, rest))
        | inr e ↦ rw e (omega (arith, rest))
      ]

  mark_more : (mark : ℕ → Bool) (x : ℕ) (ss : List CycleStep) → is_on ss x ≡ true → mark x ≡ false
      → marked mark ss + more_at x ≤ marked (λ v. (x == v) || mark v) ss
  mark_more mark x [] on new = absurd (both_ways false refl on)
  mark_more mark x (s ∷ ss) on new =
      elim (cases_Bool (s.node == x)) [
        | inl e ↦
            let same : s.node ≡ x = eqb-true s.node x e in
            let rest : marked mark ss ≤ marked (λ v. (x == v) || mark v) ss = marked_less mark (λ v. (x == v) || mark v) ss (λ v h. or_right (x == v) (mark v) h) in
            rw (same, new, eq-eqb x x refl) (omega (arith, rest))
        | inr e ↦
            let on_rest : is_on ss x ≡ true = ap (λ b. b || is_on ss x) (sym e) ∙ on in
            let rest : marked mark ss + more_at x ≤ marked (λ v. (x == v) || mark v) ss = mark_more mark x ss on_rest new in
            elim (cases_Bool (mark s.node)) [
              | inl m ↦ rw (m, or_right (x == s.node) true refl) (omega (arith, rest))
              | inr m ↦ rw m (omega (arith, rest))
            ]
      ]

  all_marked : (ss : List CycleStep) → ((x : ℕ) → is_on ss x ≡ true → defects_at nodes x ≢ []) → marked (λ _. true) ss + length ss ≤ length (defects_along nodes ss)
  all_marked [] h = omega arith
  all_marked (s ∷ ss) h =
      let some : 1 ≤ length (defects_at nodes s.node) = length_some (defects_at nodes s.node) (h s.node (or_left (s.node == s.node) (is_on ss s.node) (eq-eqb s.node s.node refl))) in
      let rest : marked (λ _. true) ss + length ss ≤ length (defects_along nodes ss) = all_marked ss (λ x on. h x (or_right (s.node == x) (is_on ss x) on)) in
      omega (arith, some, rest, length-append (defects_at nodes s.node) (defects_along nodes ss))

-- the node was passed
abbrev seen : List CycleStep → Bool → ℕ → ℕ → ℕ → Bool
seen cycle onward s zero v = false
seen cycle onward s (suc k) v = (node_after cycle onward s k == v) || seen cycle onward s k v

seen_at : (cycle : List CycleStep) (onward : Bool) (s k v : ℕ) → seen cycle onward s k v ≡ true → (i : ℕ) × (i < k) × (node_after cycle onward s i ≡ v)
seen_at cycle onward s zero v h = absurd (both_ways false refl h)
seen_at cycle onward s (suc k) v h =
    elim (or_cases (node_after cycle onward s k == v) (seen cycle onward s k v) h) [
      | inl e ↦ (k, omega arith, eqb-true _ v e)
      | inr e ↦ let r = seen_at cycle onward s k v e in (r.0, omega (arith, r.1), r.2)
    ]

module _ (links : List (Option (List Step))) (nodes : List (Option Node)) (nested : IsNested nodes) (name s : ℕ)
    (linked : AreLinked links nodes (cycle_at nodes name)) (start : s < length (cycle_at nodes name)) (onward : Bool) where
  passed_marked : (k : ℕ) → k ≤ length (cycle_at nodes name)
      → passed nodes (cycle_at nodes name) onward s k ≤ marked nodes (seen (cycle_at nodes name) onward s k) (cycle_at nodes name)
  passed_marked zero small = omega arith
  passed_marked (suc k) small =
      let less : k < length (cycle_at nodes name) = omega arith in
      let before : k ≤ length (cycle_at nodes name) = omega arith in
      let new : seen (cycle_at nodes name) onward s k (node_after (cycle_at nodes name) onward s k) ≡ false =
      elim (cases_Bool (seen (cycle_at nodes name) onward s k (node_after (cycle_at nodes name) onward s k))) [
        | inl e ↦ let r = seen_at (cycle_at nodes name) onward s k _ e in absurd (round_differs links nodes nested name s linked start onward r.0 k r.1 less r.2)
        | inr e ↦ e
      ] in
      omega (
        arith,
        passed_marked k before,
        mark_more nodes (seen (cycle_at nodes name) onward s k) (node_after (cycle_at nodes name) onward s k) (cycle_at nodes name)
            (on_round links nodes nested name s linked start onward k less) new,
      )

  -- the legs of a way round the cycle are shorter together than one inside the node
  pub round_shorter : (k : ℕ) → k < length (cycle_at nodes name)
      → 3 * passed nodes (cycle_at nodes name) onward s (suc k) + 2 * k + 1 < 3 * (length (defects_at nodes name) - 1) + 1
  round_shorter k less =
      let next : suc k ≤ length (cycle_at nodes name) = omega arith in
      let kept = cycle_kept nodes nested name _ (on_round links nodes nested name s linked start onward k less) in
      omega (
        arith,
        kept.0.three,
        ap length kept.1,
        passed_marked (suc k) next,
        marked_less nodes (seen (cycle_at nodes name) onward s (suc k)) (λ _. true) (cycle_at nodes name) (λ x h. refl),
        all_marked nodes (cycle_at nodes name) (λ x on. nested.holding x (kept.0.live x on)),
      )
