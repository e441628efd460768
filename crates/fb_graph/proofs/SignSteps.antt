-- The loops that find which edges weigh less than 0, and where an odd number of them end.
use Rattle.std.proofs.Common.{ℕ, ◌+◌, ◌<◌, ◌≤◌, ◌≡◌, ◌==◌, ◌&&◌, ◌⊎◌, inl, inr, Bool, true, false, not, nat_lt, if◌then◌else◌, List, [], ◌∷◌, ◌++◌, length, map, take, get_or, filter, All, ℤ, pos, refl, sym, ap, ◌∙◌, arith}
use Rattle.std.proofs.Math.Bool.{and-false}
use Rattle.std.specs.Int.{is_negative}
use Rattle.std.specs.List.Sorted.{IsStrictlyIncreasing}
use Rattle.std.proofs.lemmas.Bool.{eq-eqb, ne_eqb, cases_eq, cases_lt, lt-ltb}
use Rattle.std.proofs.lemmas.List.{take_more, map-append}
use Rattle.std.proofs.lemmas.List.Elements.{All-filter, All-map, filter-append}
use Rattle.fb_graph.specs.Parity.{differ, is_odd_count, is_in}
use Rattle.fb_graph.specs.Problem.{edge_at, no_edge, touches}
use Rattle.fb_graph.specs.Limits.{DecodingGraph, IsEdge, turned_edges}
use Rattle.fb_graph.specs.InternalLayout.{AreOddEnds}
use Rattle.fb_graph.specs.declared.parts.Edge.{Edge}
use Rattle.fb_graph.proofs.ParitySums.{differ_assoc, odd_agree, odd_none, odd-append}
use Rattle.fb_graph.proofs.Sets.{distinct_from_rising, odd_equal}

-- a real end
abbrev pub kept : List Bool → ℕ → List ℕ
kept virtuals u = if not (get_or virtuals u false) then u ∷ [] else []

module _ (virtuals : List Bool) where
  is_real : ℕ → Bool
  is_real v = not (get_or virtuals v false)

  kept_parity : (u v : ℕ) → is_odd_count (λ w. w == v) (kept virtuals u) ≡ (is_real v && (v == u))
  unfolding is_real
  kept_parity u v = step (cases_eq v u)
    where
      same : (b : Bool) → is_odd_count (λ w. w == u) (if b then u ∷ [] else []) ≡ (b && (u == u))
      same true = ap (λ b. differ b false) (eq-eqb u u refl) ∙ sym (eq-eqb u u refl)
      same false = refl

      other : (b r : Bool) → (u == v) ≡ false → (v == u) ≡ false → is_odd_count (λ w. w == v) (if b then u ∷ [] else []) ≡ (r && (v == u))
      other true r e f = rw (e, f) (sym (and-false r))
      other false r e f = rw f (sym (and-false r))

      step : (v ≡ u) ⊎ (v ≡ u → ⊥) → is_odd_count (λ w. w == v) (kept virtuals u) ≡ (not (get_or virtuals v false) && (v == u))
      step (inl e) = rw e (same (not (get_or virtuals u false)))
      step (inr apart) =
          other (not (get_or virtuals u false)) (not (get_or virtuals v false)) (ne_eqb u v (λ e. apart (sym e))) (ne_eqb v u apart)

  -- one more edge, with both its real ends
  pub odd_ends_more : (edges : List Edge) (listed : List ℕ) (i : ℕ) (old mid new : List ℕ) → i < length listed
      → ((v : ℕ) → is_odd_count (λ w. w == v) old
      ≡ (not (get_or virtuals v false) && is_odd_count (λ k. touches v (edge_at edges k)) (take i listed)))
      → mid ≡ old ++ kept virtuals (edge_at edges (get_or listed i 0)).first
      → new ≡ mid ++ kept virtuals (edge_at edges (get_or listed i 0)).second
      → (v : ℕ) → is_odd_count (λ w. w == v) new
      ≡ (not (get_or virtuals v false) && is_odd_count (λ k. touches v (edge_at edges k)) (take (i + 1) listed))
  unfolding is_real
  odd_ends_more edges listed i old mid new less known first second v =
      ap (is_odd_count equals) second
      ∙ (odd-append equals mid (kept virtuals e.second)
      ∙ (ap (λ b. differ b (is_odd_count equals (kept virtuals e.second)))
      (ap (is_odd_count equals) first ∙ odd-append equals old (kept virtuals e.first))
      ∙ (together (not (get_or virtuals v false)) (is_odd_count equals old) (is_odd_count equals (kept virtuals e.first))
      (is_odd_count equals (kept virtuals e.second)) before (v == e.first) (v == e.second) (known v)
      (kept_parity e.first v) (kept_parity e.second v)
      ∙ ap (λ b. not (get_or virtuals v false) && b)
      (sym (ap (is_odd_count ends) (take_more listed i 0 less)
      ∙ (odd-append ends (take i listed) (get_or listed i 0 ∷ []) ∙ ap (differ before) (last (touches v e))))))))
    where
      e : Edge
      e = edge_at edges (get_or listed i 0)

      equals : ℕ → Bool
      equals w = w == v

      ends : ℕ → Bool
      ends k = touches v (edge_at edges k)

      before : Bool
      before = is_odd_count ends (take i listed)

      last : (b : Bool) → differ b false ≡ b
      last true = refl
      last false = refl

      together : (r p a b q x y : Bool) → p ≡ (r && q) → a ≡ (r && x) → b ≡ (r && y)
          → differ (differ p a) b ≡ (r && differ q (differ x y))
      together true p a b q x y ep ea eb = rw (ep, ea, eb) (differ_assoc q x y)
      together false p a b q x y ep ea eb = rw (ep, ea, eb) refl

  -- the ends that are left when pairs of equal ones are taken off
  pub ends_are_odd : (edges : List Edge) (listed ends odd : List ℕ) → All (IsEdge (length virtuals)) edges
      → All (λ k. k < length edges) listed
      → ((v : ℕ) → is_odd_count (λ w. w == v) ends
      ≡ (not (get_or virtuals v false) && is_odd_count (λ k. touches v (edge_at edges k)) listed))
      → IsStrictlyIncreasing odd → ((test : ℕ → Bool) → is_odd_count test odd ≡ is_odd_count test ends)
      → AreOddEnds edges virtuals listed odd
  ends_are_odd edges listed ends odd each within known rising parity = record {
    rising = rising;
    each = λ v. sym (odd_equal odd v (distinct_from_rising odd rising)) ∙ (parity (λ w. w == v) ∙ (known v ∙ in_range v (cases_lt v (length virtuals))));
  }
    where
      beyond : (v : ℕ) → length virtuals ≤ v → is_odd_count (λ k. touches v (edge_at edges k)) listed ≡ false
      beyond v high =
          odd_agree (λ k. touches v (edge_at edges k)) (λ k. false) listed
          (λ i d less.
          let here = each (get_or listed i d) no_edge (within i d less) in
          touches_none v (edge_at edges (get_or listed i d)) (λ e. omega (arith, e, here.first, high)) (λ e. omega (arith, e, here.second, high)))
          ∙ odd_none listed
        where
          touches_none : (v : ℕ) (e : Edge) → (v ≡ e.first → ⊥) → (v ≡ e.second → ⊥) → touches v e ≡ false
          touches_none v e first second = rw (ne_eqb v e.first first, ne_eqb v e.second second) refl

      in_range : (v : ℕ) → (v < length virtuals) ⊎ (length virtuals ≤ v)
          → (not (get_or virtuals v false) && is_odd_count (λ k. touches v (edge_at edges k)) listed)
          ≡ ((nat_lt v (length virtuals) && not (get_or virtuals v false)) && is_odd_count (λ k. touches v (edge_at edges k)) listed)
      in_range v (inl low) = rw (lt-ltb v (length virtuals) low) refl
      in_range v (inr high) = rw (beyond v high) (and-false _ ∙ sym (and-false _))

-- one more changed edge, if its sign turns
pub turned_more : (g : DecodingGraph) (changes : List (ℕ × ℤ)) (i : ℕ) (old new : List ℕ) → i < length changes
    → old ≡ turned_edges g (take i changes)
    → new ≡ old
    ++ (if differ (is_negative (get_or changes i (0, pos 0)).1) (is_in g.negatives (get_or changes i (0, pos 0)).0)
    then (get_or changes i (0, pos 0)).0 ∷ [] else [])
    → new ≡ turned_edges g (take (i + 1) changes)
turned_more g changes i old new less known made =
    made
    ∙ (ap (λ xs. xs ++ (if turns c then c.0 ∷ [] else [])) known
    ∙ sym (ap (turned_edges g) (take_more changes i (0, pos 0) less)
    ∙ (ap (map number) (filter-append turns (take i changes) (c ∷ []))
    ∙ (map-append number (filter turns (take i changes)) (filter turns (c ∷ []))
    ∙ ap (λ xs. turned_edges g (take i changes) ++ xs) (one (turns c))))))
  where
    c : ℕ × ℤ
    c = get_or changes i (0, pos 0)

    number : ℕ × ℤ → ℕ
    number q = q.0

    turns : ℕ × ℤ → Bool
    turns q = differ (is_negative q.1) (is_in g.negatives q.0)

    one : (b : Bool) → map number (if b then c ∷ [] else []) ≡ (if b then c.0 ∷ [] else [])
    one true = refl
    one false = refl

pub turned_within : (g : DecodingGraph) (n : ℕ) (changes : List (ℕ × ℤ)) → All (λ (c : ℕ × ℤ). c.0 < n) changes
    → All (λ k. k < n) (turned_edges g changes)
turned_within g n changes all =
    All-map (λ k. k < n) (λ (c : ℕ × ℤ). c.0) (filter turns changes) (All-filter turns (λ (c : ℕ × ℤ). c.0 < n) changes all)
  where
    turns : ℕ × ℤ → Bool
    turns c = differ (is_negative c.1) (is_in g.negatives c.0)
