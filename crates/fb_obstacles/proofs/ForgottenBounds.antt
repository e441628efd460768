-- A watch in which nothing is known of the slack of one edge, which may be new.
use Rattle.std.proofs.Common.{ℕ, zero, suc, ◌≡◌, ◌≤◌, ◌<◌, ◌==◌, ◌⊎◌, inl, inr, Bool, true, false, cond, List, [], ◌∷◌, ◌++◌, length, get_or, set, refl, sym, ap, ◌∙◌, subst, length-append, le_refl, arith}
use Rattle.std.proofs.lemmas.Bool.{both_ways, cases_eq, cases_lt, ne_eqb}
use Rattle.std.proofs.lemmas.List.{get_or-set_same, get_or-set_other, get_or_append_left, get_or_push}
use Rattle.fb_graph.specs.Parity.{is_in}
use Rattle.fb_graph.specs.Certificate.{AreDistinct}
use Rattle.fb_graph.proofs.Sets.{is_in_at}
use Rattle.fb_obstacles.specs.Watched.{Watched}
use Rattle.fb_obstacles.specs.InternalWatch.{StaysRight, StaysRightAbove}

-- limits that are kept but at some edges, and then but at others
pub right_twice : (First Both : ℕ → Type 0) (test : ℕ → Bool) (a b c : Watched) → ((k : ℕ) → test k ≡ false → First k → Both k)
    → StaysRight First a b → StaysRight (λ k. test k ≡ false) b c → StaysRight Both a c
right_twice First Both test a b c kept first second before after less right =
    second between after (λ k out. subst (λ t. cond t (before k) (after k) ≤ after k) (sym out) (le_refl (after k)))
    (first before between (λ k was. by k was (test k) refl) right)
  where
    between : ℕ → ℕ
    between k = cond (test k) (before k) (after k)

    by : (k : ℕ) → First k → (t : Bool) → test k ≡ t → before k ≤ cond t (before k) (after k)
    by k was true is = le_refl (before k)
    by k was false is = less k (kept k is was)

-- limits that are kept but at some edges, where they are at least these, and then but at others
pub bounded_twice : (slack : ℕ → ℕ) (one two both : ℕ → Bool) (a b c : Watched) → ((k : ℕ) → one k ≡ true → both k ≡ true)
    → ((k : ℕ) → two k ≡ true → both k ≡ true) → ((k : ℕ) → one k ≡ false → two k ≡ false → both k ≡ false)
    → StaysRightAbove slack one a b → StaysRightAbove slack two b c → StaysRightAbove slack both a c
bounded_twice slack one two both a b c early late neither first second before after less enough right =
    second between after (λ k out. later k out (one k) refl) (λ k in_it. enough k (late k in_it))
    (first before between (λ k out. subst (λ t. before k ≤ cond t (after k) (before k)) (sym out) (le_refl (before k)))
    (λ k in_it. subst (λ t. slack k ≤ cond t (after k) (before k)) (sym in_it) (enough k (early k in_it))) right)
  where
    between : ℕ → ℕ
    between k = cond (one k) (after k) (before k)

    later : (k : ℕ) → two k ≡ false → (t : Bool) → one k ≡ t → cond t (after k) (before k) ≤ after k
    later k out true is = le_refl (after k)
    later k out false is = less k (neither k is out)

-- distinct numbers stand at one place each
distinct_places : (xs : List ℕ) (i j : ℕ) → AreDistinct xs → i < length xs → j < length xs → get_or xs i 0 ≡ get_or xs j 0 → i ≡ j
distinct_places [] i j distinct first second same = absurd (omega (arith, first))
distinct_places (x ∷ xs) zero zero distinct first second same = refl
distinct_places (x ∷ xs) zero (suc j) distinct first second same =
    absurd (both_ways (is_in xs x) distinct.0 (ap (is_in xs) same ∙ is_in_at xs j 0 (omega (arith, second))))
distinct_places (x ∷ xs) (suc i) zero distinct first second same =
    absurd (both_ways (is_in xs x) distinct.0 (ap (is_in xs) (sym same) ∙ is_in_at xs i 0 (omega (arith, first))))
distinct_places (x ∷ xs) (suc i) (suc j) distinct first second same =
    ap suc (distinct_places xs i j distinct.1 (omega (arith, first)) (omega (arith, second)) same)

-- the bound of the edge is forgotten
pub right_forgotten : (w : Watched) (edge place x : ℕ) → AreDistinct w.edges → length w.bounds ≡ length w.edges
    → place < length w.edges → get_or w.edges place 0 ≡ edge → x ≤ 0
    → StaysRight (λ k. (k == edge) ≡ false) w (record w { bounds = set w.bounds place x })
right_forgotten w edge place x distinct even within at none before after less right i inside = step (cases_eq i place)
  where
    step : (i ≡ place) ⊎ (i ≡ place → ⊥) → get_or (set w.bounds place x) i 0 ≤ after (get_or w.edges i 0)
    step (inl same) =
        omega (
          arith,
          none,
          ap (λ k. get_or (set w.bounds place x) k 0) same,
          get_or-set_same w.bounds place x 0 (omega (arith, even, within)),
        )
    step (inr other) =
        omega (
          arith,
          get_or-set_other w.bounds place i x 0 other,
          right i inside,
          less (get_or w.edges i 0)
              (ne_eqb (get_or w.edges i 0) edge (λ e. other (distinct_places w.edges i place distinct inside within (e ∙ sym at)))),
        )

-- the edge is new
pub right_begun : (w : Watched) (edge : ℕ) → length w.bounds ≡ length w.edges → is_in w.edges edge ≡ false
    → StaysRight (λ k. (k == edge) ≡ false) w (record w { edges = w.edges ++ edge ∷ []; bounds = w.bounds ++ 0 ∷ [] })
right_begun w edge even absent before after less right i inside = step (cases_lt i (length w.edges))
  where
    step : (i < length w.edges) ⊎ (length w.edges ≤ i)
        → get_or (w.bounds ++ 0 ∷ []) i 0 ≤ after (get_or (w.edges ++ edge ∷ []) i 0)
    step (inl early) =
        omega (
          arith,
          get_or_append_left w.bounds (0 ∷ []) 0 i (omega (arith, even, early)),
          right i early,
          less (get_or w.edges i 0)
              (ne_eqb (get_or w.edges i 0) edge
              (λ e. both_ways (is_in w.edges edge) absent (ap (is_in w.edges) (sym e) ∙ is_in_at w.edges i 0 early))),
          ap after (get_or_append_left w.edges (edge ∷ []) 0 i early),
        )
    step (inr late) =
        let last : length w.bounds ≡ i = omega (arith, even, late, inside, length-append w.edges (edge ∷ [])) in
        omega (arith, get_or_push w.bounds 0 0 i last)
