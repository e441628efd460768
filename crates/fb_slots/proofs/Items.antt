-- What a step does to the items' words and slots.
use Rattle.std.proofs.Common.{ℕ, ◌≡◌, ◌≢◌, ◌+◌, ◌<◌, ◌≤◌, ◌==◌, min, Bool, true, false, cond, Option, Some, None, List, length, ◌⊎◌, inl, inr, refl, sym, ap, subst, ◌∙◌, arith}
use Rattle.std.proofs.lemmas.Bool.{cases_eq, eq-eqb, eqb-true, false≢true, true≢false, or_left, or_right, or_cases}
use Rattle.std.proofs.lemmas.Bool.Decides.{nat_tests}
use Rattle.std.specs.Prelude.{slice_index}
use mathlib.Core.Option.{some}
use lib.ListN.{get_elem?}
use Rattle.fb_book.specs.Machine.{is_child}
use Rattle.fb_slots.specs.Slots.{Layout, IsLayout, AreItems, once_below, over_kids}

-- one word of a list changes
pub record IsWordSet (i n : ℕ) (words words' : List ℕ) : Type 0 where
  pub size : length words' ≡ length words
  pub here : slice_index words' i ≡ n
  pub others : (j : ℕ) → j ≢ i → slice_index words' j ≡ slice_index words j

-- one more at one place
pub record IsMore (k : ℕ) (f f' : ℕ → ℕ) : Type 0 where
  pub here : f' k ≡ f k + 1
  pub others : (j : ℕ) → j ≢ k → f' j ≡ f j

pub min_of : (a b c d : ℕ) → a ≡ c → b ≡ d → min a b ≡ min c d
min_of a b c d p q = λ i. min (p i) (q i)

pub once_self : (n : ℕ) → once_below n n ≡ 0
once_self n = grind (arith, nat_tests)

pub once_next : (n : ℕ) → once_below n (n + 1) ≡ 1
once_next n = grind (arith, nat_tests)

pub once_else : (x n : ℕ) → x ≢ n → once_below x (n + 1) ≡ once_below x n
once_else x n ne = grind (arith, nat_tests, ne)

pub once_low : (x n : ℕ) → x < n → once_below x n ≡ 1
once_low x n h = grind (arith, nat_tests, h)

-- a child is one of the two
pub child_is : (pair : ℕ × ℕ) (c : ℕ) → is_child (Some pair) c ≡ true → (c ≡ pair.0) ⊎ (c ≡ pair.1)
child_is pair c h = elim (or_cases (pair.0 == c) (pair.1 == c) h) [
  | inl e ↦ inl (sym (eqb-true pair.0 c e))
  | inr e ↦ inr (sym (eqb-true pair.1 c e))
]

pub left_is : (o : Option (ℕ × ℕ)) (pair : ℕ × ℕ) → o ≡ Some pair → is_child o pair.0 ≡ true
left_is o pair e = ap (λ x. is_child x pair.0) e ∙ or_left (pair.0 == pair.0) (pair.1 == pair.0)
    (eq-eqb pair.0 pair.0 refl)

pub right_is : (o : Option (ℕ × ℕ)) (pair : ℕ × ℕ) → o ≡ Some pair → is_child o pair.1 ≡ true
right_is o pair e = ap (λ x. is_child x pair.1) e ∙ or_right (pair.0 == pair.1) (pair.1 == pair.1)
    (eq-eqb pair.1 pair.1 refl)

-- no child: neither of the two
pub none_is : (o : Option (ℕ × ℕ)) (pair : ℕ × ℕ) (c : ℕ) → o ≡ Some pair → is_child o c ≡ false
    → (pair.0 ≢ c) × (pair.1 ≢ c)
none_is o pair c e h = (
  (λ s. absurd (true≢false (sym (left_is o pair e) ∙ (ap (λ x. is_child o x) s ∙ h)))),
  (λ s. absurd (true≢false (sym (right_is o pair e) ∙ (ap (λ x. is_child o x) s ∙ h)))),
)

-- the sum over an item's children, where one place more is given
pub kids_more : (o : Option (ℕ × ℕ)) (k : ℕ) (f f' : ℕ → ℕ) → IsMore k f f'
    → ((pair : ℕ × ℕ) → o ≡ Some pair → (pair.0 == pair.1) ≡ false)
    → is_child o k ≡ true → over_kids f' o ≡ over_kids f o + 1
kids_more None k f f' m differ h = absurd (false≢true h)
kids_more (Some pair) k f f' m differ h = elim (child_is pair k h) [
  | inl e ↦
      let ne : pair.1 ≢ k =
      λ s. absurd (true≢false (sym (eq-eqb pair.0 pair.1 (sym e ∙ sym s)) ∙ differ pair refl))
      in
      let a : f' pair.0 ≡ f pair.0 + 1 = subst (λ x. f' x ≡ f x + 1) e m.here in
      let c : f' pair.1 ≡ f pair.1 = m.others pair.1 ne in
      omega (arith, a, c)
  | inr e ↦
      let ne : pair.0 ≢ k =
      λ s. absurd (true≢false (sym (eq-eqb pair.0 pair.1 (s ∙ e)) ∙ differ pair refl)) in
      let a : f' pair.1 ≡ f pair.1 + 1 = subst (λ x. f' x ≡ f x + 1) e m.here in
      let c : f' pair.0 ≡ f pair.0 = m.others pair.0 ne in
      omega (arith, a, c)
]

pub kids_same : (o : Option (ℕ × ℕ)) (k : ℕ) (f f' : ℕ → ℕ) → IsMore k f f' → is_child o k ≡ false
    → over_kids f' o ≡ over_kids f o
kids_same None k f f' m h = refl
kids_same (Some pair) k f f' m h =
    let n = none_is (Some pair) pair k refl h in
    let a : f' pair.0 ≡ f pair.0 = m.others pair.0 n.0 in
    let c : f' pair.1 ≡ f pair.1 = m.others pair.1 n.1 in
    omega (arith, a, c)

pub kids_equal : (o : Option (ℕ × ℕ)) (f f' : ℕ → ℕ) → ((j : ℕ) → f' j ≡ f j)
    → over_kids f' o ≡ over_kids f o
kids_equal None f f' same = refl
kids_equal (Some pair) f f' same = let a = same pair.0 in let c = same pair.1 in omega (arith, a, c)

pub root_part : (r : Bool) (x y : ℕ) → x ≡ y → cond r x 0 ≡ cond r y 0
root_part r x y e = ap (λ z. cond r z 0) e

module _ {P : Type 0} (IsPiece : ℕ → P → Type 0) (b : Layout) (is : IsLayout b) where
  -- a parent is no root's
  pub no_root : (j k : ℕ) → is_child (b.kids j) k ≡ true → b.is_root k ≡ false
  no_root j k h = step (b.is_root k) refl
    where
      step : (r : Bool) → b.is_root k ≡ r → r ≡ false
      step true e = absurd (true≢false (sym h ∙ is.root j k e))
      step false e = refl

  -- a unit is taken
  pub items_claim : (taken given taken' given' : ℕ → ℕ) (words words' : List ℕ)
      (homes homes' : List (mathlib.Core.Option.Option (Option P)))
      → AreItems IsPiece b taken given words homes → slice_index words 0 < b.units
      → IsWordSet 0 (slice_index words 0 + 1) words words'
      → IsMore (b.unit_at (slice_index words 0)) taken taken' → ((j : ℕ) → given' j ≡ given j)
      → ((j : ℕ) → j ≢ b.unit_at (slice_index words 0) → get_elem? homes' j ≡ get_elem? homes j)
      → AreItems IsPiece b taken' given' words' homes'
  items_claim taken given taken' given' words words' homes homes' it low ws tk gv hs = record {
    size = ws.size ∙ it.size;
    unit = λ u less. unit u less (cases_eq u n);
    fusion = λ j pair e less. tk.others j (apart j pair e)
        ∙ (it.fusion j pair e less ∙ sym (min_of (given' pair.0) (given' pair.1) (given pair.0)
        (given pair.1) (gv pair.0) (gv pair.1)));
    word = λ j less.
        let old = it.word j less in
        let w : slice_index words' (j + 2) ≡ slice_index words (j + 2) =
        ws.others (j + 2) (λ e. absurd (omega (arith, e))) in
        let ks = kids_equal (b.kids j) given given' gv in
        let r = root_part (b.is_root j) (given' j) (given j) (gv j) in
        omega (arith, old, w, ks, r);
    once = λ j. once j (cases_eq j k);
    first = λ j. first j (cases_eq j k);
    free = λ j less none. free j less none (cases_eq j k);
    kept = λ j less one above. kept j less one above (cases_eq j k);
  }
    where
      n : ℕ
      n = slice_index words 0

      k : ℕ
      k = b.unit_at n

      untaken : taken k ≡ 0
      untaken = it.unit n low ∙ once_self n

      apart : (j : ℕ) (pair : ℕ × ℕ) → b.kids j ≡ Some pair → j ≢ k
      apart j pair e s = let u = is.unit n low in let f : b.kids k ≡ Some pair =
          subst (λ x. b.kids x ≡ Some pair) s e in cc

      unit : (u : ℕ) → u < b.units → (u ≡ n) ⊎ (u ≢ n) → taken' (b.unit_at u) ≡ once_below u
          (slice_index words' 0)
      unit u less (inl e) =
          let t : taken' k ≡ 1 = let h = tk.here in omega (arith, h, untaken) in
          let o = once_next n in
          ap (λ x. taken' (b.unit_at x)) e
          ∙ (t ∙ (sym o ∙ sym (ap (once_below u) ws.here ∙ ap (λ x. once_below x (n + 1)) e)))
      unit u less (inr ne) =
          let other : b.unit_at u ≢ k = λ s. ne (is.once u n less low s) in
          tk.others (b.unit_at u) other
          ∙ (it.unit u less ∙ (sym (once_else u n ne) ∙ ap (once_below u) (sym ws.here)))

      once : (j : ℕ) → (j ≡ k) ⊎ (j ≢ k) → taken' j ≤ 1
      once j (inl e) = let h : taken' j ≡ taken j + 1 = subst (λ x. taken' x ≡ taken x + 1) (sym e)
          tk.here in let z : taken j ≡ 0 = ap taken e ∙ untaken in omega (arith, h, z)
      once j (inr ne) = let h = tk.others j ne in let o = it.once j in omega (arith, h, o)

      first : (j : ℕ) → (j ≡ k) ⊎ (j ≢ k) → given' j ≤ taken' j
      first j (inl e) = let h : taken' j ≡ taken j + 1 = subst (λ x. taken' x ≡ taken x + 1) (sym e)
          tk.here in let o = it.first j in let g = gv j in omega (arith, h, o, g)
      first j (inr ne) = let h = tk.others j ne in let o = it.first j in let g = gv j in
          omega (arith, h, o, g)

      free : (j : ℕ) → j < b.count → taken' j ≡ 0 → (j ≡ k) ⊎ (j ≢ k)
          → get_elem? homes' j ≡ some (some None)
      free j less none (inl e) = let h : taken' j ≡ taken j + 1 =
          subst (λ x. taken' x ≡ taken x + 1) (sym e) tk.here in absurd (omega (arith, h, none))
      free j less none (inr ne) = hs j ne ∙ it.free j less (sym (tk.others j ne) ∙ none)

      above' : (j : ℕ) → ((i : ℕ) → is_child (b.kids i) j ≡ true → taken' i ≡ 0) → (i : ℕ)
          → is_child (b.kids i) j ≡ true → taken i ≡ 0
      above' j above i h = elim (cases_eq i k) [
        | inl e ↦ ap taken e ∙ untaken
        | inr ne ↦ sym (tk.others i ne) ∙ above i h
      ]

      kept : (j : ℕ) → j < b.count → given' j ≡ 1 → ((i : ℕ) → is_child (b.kids i) j ≡ true
          → taken' i ≡ 0) → (j ≡ k) ⊎ (j ≢ k)
          → (p : P) × (get_elem? homes' j ≡ some (some (Some p))) × IsPiece j p
      kept j less one above (inl e) =
          let f = it.first j in let g = gv j in let z : taken j ≡ 0 = ap taken e ∙ untaken in
          absurd (omega (arith, one, f, g, z))
      kept j less one above (inr ne) =
          let old = it.kept j less (sym (gv j) ∙ one) (above' j above) in
          (old.0, hs j ne ∙ old.1, old.2)

  -- a claim finds no unit left
  pub items_end : (taken given taken' given' : ℕ → ℕ) (words words' : List ℕ)
      (homes : List (mathlib.Core.Option.Option (Option P)))
      → AreItems IsPiece b taken given words homes → b.units ≤ slice_index words 0
      → IsWordSet 0 (slice_index words 0 + 1) words words' → ((j : ℕ) → taken' j ≡ taken j)
      → ((j : ℕ) → given' j ≡ given j)
      → AreItems IsPiece b taken' given' words' homes
  items_end taken given taken' given' words words' homes it high ws tk gv = record {
    size = ws.size ∙ it.size;
    unit = λ u less.
        let n : ℕ = slice_index words 0 in
        let old : taken' (b.unit_at u) ≡ 1 = tk (b.unit_at u)
        ∙ (it.unit u less ∙ once_low u n (omega (arith, less, high))) in
        let new : once_below u (slice_index words' 0) ≡ 1 = ap (once_below u) ws.here
        ∙ once_low u (n + 1) (omega (arith, less, high)) in
        old ∙ sym new;
    fusion = λ j pair e less. tk j
        ∙ (it.fusion j pair e less ∙ sym (min_of (given' pair.0) (given' pair.1) (given pair.0)
        (given pair.1) (gv pair.0) (gv pair.1)));
    word = λ j less.
        let old = it.word j less in
        let w : slice_index words' (j + 2) ≡ slice_index words (j + 2) =
        ws.others (j + 2) (λ e. absurd (omega (arith, e))) in
        let ks = kids_equal (b.kids j) given given' gv in
        let r = root_part (b.is_root j) (given' j) (given j) (gv j) in
        omega (arith, old, w, ks, r);
    once = λ j. let h = tk j in let o = it.once j in omega (arith, h, o);
    first = λ j. let h = tk j in let g = gv j in let o = it.first j in omega (arith, h, g, o);
    free = λ j less none. it.free j less (sym (tk j) ∙ none);
    kept = λ j less one above. it.kept j less (sym (gv j) ∙ one) (λ i h. sym (tk i) ∙ above i h);
  }
