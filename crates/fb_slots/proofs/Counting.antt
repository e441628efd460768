-- What giving an item does to the items' words and slots.
use Rattle.std.proofs.Common.{ℕ, ◌≡◌, ◌≢◌, ◌+◌, ◌<◌, ◌≤◌, min, Bool, true, false, cond, Option, Some, None, List, ◌⊎◌, inl, inr, refl, sym, ap, subst, ◌∙◌, arith}
use Rattle.std.proofs.lemmas.Bool.{cases_eq, eq-eqb, false≢true, true≢false}
use Rattle.std.specs.Prelude.{slice_index}
use mathlib.Core.Option.{some}
use lib.ListN.{get_elem?}
use Rattle.fb_book.specs.Machine.{is_child}
use Rattle.fb_slots.specs.Slots.{Layout, IsLayout, AreItems, once_below, over_kids, CountsAt, parent, root}
use Rattle.fb_slots.proofs.Items.{IsWordSet, IsMore, min_of, child_is, none_is, kids_more, kids_same, kids_equal, root_part, no_root}

module _ {P : Type 0} (IsPiece : ℕ → P → Type 0) (b : Layout) (is : IsLayout b) where
  -- the words after item k was given
  words_count : (taken given given' : ℕ → ℕ) (words words' : List ℕ)
      (homes : List (mathlib.Core.Option.Option (Option P))) (k c : ℕ)
      → AreItems IsPiece b taken given words homes → CountsAt b k c
      → IsWordSet (c + 2) (slice_index words (c + 2) + 1) words words' → IsMore k given given'
      → (j : ℕ) → j < b.count → slice_index words' (j + 2) ≡ over_kids given' (b.kids j) + cond
      (b.is_root j) (given' j) 0
  words_count taken given given' words words' homes k c it counts ws gv j less =
      step counts (cases_eq j c) (cases_eq j k)
    where
      old : slice_index words (j + 2) ≡ over_kids given (b.kids j) + cond (b.is_root j) (given j) 0
      old = it.word j less

      here : j ≡ c → slice_index words' (j + 2) ≡ slice_index words (j + 2) + 1
      here e = subst (λ x. slice_index words' (x + 2) ≡ slice_index words (x + 2) + 1) (sym e)
          ws.here

      others : j ≢ c → slice_index words' (j + 2) ≡ slice_index words (j + 2)
      others ne = ws.others (j + 2) (λ e. ne (omega (arith, e)))

      -- k is no child of any item but its parent
      childless : (r : Bool) → is_child (b.kids j) k ≡ r → (is_child (b.kids j) k ≡ true → ⊥)
          → over_kids given' (b.kids j) ≡ over_kids given (b.kids j)
      childless true e never = absurd (never e)
      childless false e never = kids_same (b.kids j) k given given' gv e

      at_root : (r : Bool) → b.is_root j ≡ r → r ≡ true → given' j ≡ given j + 1
          → cond (b.is_root j) (given' j) 0 ≡ cond (b.is_root j) (given j) 0 + 1
      at_root true e t g = ap (λ x. cond x (given' j) 0) e
          ∙ (g ∙ sym (ap (λ x. cond x (given j) 0 + 1) e))
      at_root false e t g = absurd (false≢true t)

      below_root : (r : Bool) → b.is_root j ≡ r → r ≡ false → cond (b.is_root j) (given' j) 0 ≡ cond
          (b.is_root j) (given j) 0
      below_root true e t = absurd (true≢false t)
      below_root false e t = ap (λ x. cond x (given' j) 0) e ∙ sym (ap (λ x. cond x (given j) 0) e)

      step : CountsAt b k c → (j ≡ c) ⊎ (j ≢ c) → (j ≡ k) ⊎ (j ≢ k)
          → slice_index words' (j + 2) ≡ over_kids given' (b.kids j) + cond (b.is_root j) (given' j)
          0
      step (parent child) (inl e) (inl f) = let below : k < c = is.forest.before c k child in
          absurd (omega (arith, e, f, below))
      step (parent child) (inl e) (inr ne) =
          let mine : is_child (b.kids j) k ≡ true = subst (λ x. is_child (b.kids x) k ≡ true)
          (sym e) child in
          let ks = kids_more (b.kids j) k given given' gv (is.forest.differ j) mine in
          let r = root_part (b.is_root j) (given' j) (given j) (gv.others j ne) in
          let w = here e in
          omega (arith, old, ks, r, w)
      step (parent child) (inr ne) g =
          let never : is_child (b.kids j) k ≡ true → ⊥ = λ h. ne (is.forest.once j c k h child) in
          let ks = childless (is_child (b.kids j) k) refl never in
          let w = others ne in
          elim g [
            | inl f ↦
                let r = below_root (b.is_root j) refl (ap b.is_root f ∙ no_root IsPiece b is c k
                child) in
                omega (arith, old, ks, r, w)
            | inr nf ↦
                let r = root_part (b.is_root j) (given' j) (given j) (gv.others j nf) in
                omega (arith, old, ks, r, w)
          ]
      step (root same at) g f =
          let ks = childless (is_child (b.kids j) k) refl
          (λ h. absurd (true≢false (sym h ∙ is.root j k at))) in
          elim f [
            | inl e ↦
                let more : given' j ≡ given j + 1 = subst (λ x. given' x ≡ given x + 1) (sym e)
                gv.here in
                let r = at_root (b.is_root j) refl (ap b.is_root e ∙ at) more in
                let w = here (e ∙ sym same) in
                omega (arith, old, ks, r, w)
            | inr ne ↦
                let r = root_part (b.is_root j) (given' j) (given j) (gv.others j ne) in
                let w = others (λ e. ne (e ∙ same)) in
                omega (arith, old, ks, r, w)
          ]

  -- a child of a taken item was given, and so it was taken
  pub child_taken : (taken given : ℕ → ℕ) (words : List ℕ)
      (homes : List (mathlib.Core.Option.Option (Option P))) (k j : ℕ)
      → AreItems IsPiece b taken given words homes → k < b.count → taken k ≡ 1
      → is_child (b.kids k) j ≡ true → (given j ≡ 1) × (taken j ≡ 1)
  child_taken taken given words homes k j it less one h = step (b.kids k) refl
    where
      level : given j ≡ 1 → (given j ≡ 1) × (taken j ≡ 1)
      level g = let f = it.first j in let o = it.once j in (g, omega (arith, g, f, o))

      step : (o : Option (ℕ × ℕ)) → b.kids k ≡ o → (given j ≡ 1) × (taken j ≡ 1)
      step None e = absurd (false≢true (ap (λ x. is_child x j) (sym e) ∙ h))
      step (Some pair) e =
          let t = it.fusion k pair e less in
          let a = it.first pair.0 in let c = it.first pair.1 in let a' = it.once pair.0 in let c' =
          it.once pair.1 in
          elim (child_is pair j (ap (λ x. is_child x j) (sym e) ∙ h)) [
            | inl f ↦ level (ap given f ∙ (let g : given pair.0 ≡ 1 =
                omega (arith, t, one, a, c, a', c') in g))
            | inr f ↦ level (ap given f ∙ (let g : given pair.1 ≡ 1 =
                omega (arith, t, one, a, c, a', c') in g))
          ]

  -- item k is given, and its parent, if there is one, has no given child yet
  pub items_give : (taken given taken' given' : ℕ → ℕ) (words words' : List ℕ)
      (homes homes' : List (mathlib.Core.Option.Option (Option P))) (k c : ℕ) (p : P)
      → AreItems IsPiece b taken given words homes → CountsAt b k c → k < b.count → taken k ≡ 1
      → given k ≡ 0
      → ((j : ℕ) → is_child (b.kids j) k ≡ true → over_kids given (b.kids j) ≡ 0)
      → IsWordSet (c + 2) (slice_index words (c + 2) + 1) words words' → IsMore k given given'
      → ((j : ℕ) → taken' j ≡ taken j)
      → get_elem? homes' k ≡ some (some (Some p)) → IsPiece k p
      → ((j : ℕ) → j ≢ k → is_child (b.kids k) j ≡ false → get_elem? homes' j ≡ get_elem? homes j)
      → AreItems IsPiece b taken' given' words' homes'
  items_give taken given taken' given' words words' homes homes' k c p it counts k_less k_taken
      k_open alone ws gv tk here of hs = record {
        size = ws.size ∙ it.size;
        unit = λ u less. tk (b.unit_at u)
            ∙ (it.unit u less
            ∙ ap (once_below u) (sym (ws.others 0 (λ e. absurd (omega (arith, e))))));
        fusion = λ j pair e less. tk j
            ∙ (it.fusion j pair e less ∙ fusion j pair e (is_child (b.kids j) k) refl);
        word = words_count taken given given' words words' homes k c it counts ws gv;
        once = λ j. let h = tk j in let o = it.once j in omega (arith, h, o);
        first = λ j. first j (cases_eq j k);
        free = λ j less none. free j less (sym (tk j) ∙ none) (is_child (b.kids k) j) refl;
        kept = λ j less one above. kept j less one (λ i h. sym (tk i) ∙ above i h) (cases_eq j k);
      }
    where
      fusion : (j : ℕ) (pair : ℕ × ℕ) → b.kids j ≡ Some pair → (r : Bool)
          → is_child (b.kids j) k ≡ r
          → min (given pair.0) (given pair.1) ≡ min (given' pair.0) (given' pair.1)
      fusion j pair e true h =
          let zero_sum : given pair.0 + given pair.1 ≡ 0 = ap (over_kids given) (sym e)
          ∙ alone j h in
          let differ = is.forest.differ j pair e in
          elim (child_is pair k (ap (λ x. is_child x k) (sym e) ∙ h)) [
            | inl f ↦
                let ne : pair.1 ≢ k =
                λ s. absurd (true≢false (sym (eq-eqb pair.0 pair.1 (sym f ∙ sym s))
                ∙ differ)) in
                let o = gv.others pair.1 ne in
                omega (arith, zero_sum, o)
            | inr f ↦
                let ne : pair.0 ≢ k =
                λ s. absurd (true≢false (sym (eq-eqb pair.0 pair.1 (s ∙ f)) ∙ differ)) in
                let o = gv.others pair.0 ne in
                omega (arith, zero_sum, o)
          ]
      fusion j pair e false h =
          let n = none_is (b.kids j) pair k e h in
          sym (min_of (given' pair.0) (given' pair.1) (given pair.0) (given pair.1)
          (gv.others pair.0 n.0) (gv.others pair.1 n.1))

      first : (j : ℕ) → (j ≡ k) ⊎ (j ≢ k) → given' j ≤ taken' j
      first j (inl e) =
          let g : given' j ≡ given j + 1 = subst (λ x. given' x ≡ given x + 1) (sym e) gv.here in
          let z : given j ≡ 0 = ap given e ∙ k_open in
          let t : taken' j ≡ 1 = tk j ∙ (ap taken e ∙ k_taken) in
          omega (arith, g, z, t)
      first j (inr ne) = let g = gv.others j ne in let t = tk j in let o = it.first j in
          omega (arith, g, t, o)

      free : (j : ℕ) → j < b.count → taken j ≡ 0 → (r : Bool) → is_child (b.kids k) j ≡ r
          → get_elem? homes' j ≡ some (some None)
      free j less none true h = let t =
          (child_taken taken given words homes k j it k_less k_taken h).1 in
          absurd (omega (arith, t, none))
      free j less none false h =
          let ne : j ≢ k = λ e. let t : taken j ≡ 1 = ap taken e ∙ k_taken in
          absurd (omega (arith, t, none)) in
          hs j ne h ∙ it.free j less none

      kept : (j : ℕ) → j < b.count → given' j ≡ 1 → ((i : ℕ) → is_child (b.kids i) j ≡ true
          → taken i ≡ 0) → (j ≡ k) ⊎ (j ≢ k)
          → (p : P) × (get_elem? homes' j ≡ some (some (Some p))) × IsPiece j p
      kept j less one above (inl e) =
          (p, ap (get_elem? homes') e ∙ here, subst (λ x. IsPiece x p) (sym e) of)
      kept j less one above (inr ne) =
          let old = it.kept j less (sym (gv.others j ne) ∙ one) above in
          (old.0, hs j ne (never (is_child (b.kids k) j) refl) ∙ old.1, old.2)
        where
          never : (r : Bool) → is_child (b.kids k) j ≡ r → r ≡ false
          never true h = let z = above k h in absurd (omega (arith, z, k_taken))
          never false h = refl

  -- Item k is given, whose parent's other child was given before, and the parent is taken: its slot
  -- and its children's are out.
  pub items_join : (taken given taken' given' : ℕ → ℕ) (words words' : List ℕ)
      (homes homes' : List (mathlib.Core.Option.Option (Option P))) (k c : ℕ)
      → AreItems IsPiece b taken given words homes → is_child (b.kids c) k ≡ true → k < b.count
      → c < b.count → taken k ≡ 1 → given k ≡ 0
      → over_kids given (b.kids c) ≡ 1 → taken c ≡ 0
      → IsWordSet (c + 2) (slice_index words (c + 2) + 1) words words' → IsMore k given given'
      → IsMore c taken taken'
      → ((j : ℕ) → j ≢ c → is_child (b.kids c) j ≡ false → is_child (b.kids k) j ≡ false
      → get_elem? homes' j ≡ get_elem? homes j)
      → AreItems IsPiece b taken' given' words' homes'
  items_join taken given taken' given' words words' homes homes' k c it child k_less c_less k_taken
      k_open other c_open ws gv tk hs = record {
        size = ws.size ∙ it.size;
        unit = λ u less.
            let ne : b.unit_at u ≢ c =
            λ s. absurd (false≢true (ap (λ x. is_child x k) (sym (is.unit u less))
            ∙ (ap (λ x. is_child (b.kids x) k) s ∙ child))) in
            tk.others (b.unit_at u) ne
            ∙ (it.unit u less ∙ ap (once_below u)
            (sym (ws.others 0 (λ e. absurd (omega (arith, e))))));
        fusion = λ j pair e less. fusion j pair e less (cases_eq j c);
        word = words_count taken given given' words words' homes k c it (parent child) ws gv;
        once = λ j. once j (cases_eq j c);
        first = λ j. first j (cases_eq j k) (cases_eq j c);
        free = λ j less none. free j less none (cases_eq j c);
        kept = λ j less one above. kept j less one above (cases_eq j k);
      }
    where
      below : k < c
      below = is.forest.before c k child

      fusion : (j : ℕ) (pair : ℕ × ℕ) → b.kids j ≡ Some pair → j < b.count → (j ≡ c) ⊎ (j ≢ c)
          → taken' j ≡ min (given' pair.0) (given' pair.1)
      fusion j pair e less (inl f) =
          let t : taken' j ≡ taken j + 1 = subst (λ x. taken' x ≡ taken x + 1) (sym f) tk.here in
          let z : taken j ≡ 0 = ap taken f ∙ c_open in
          let mine : is_child (b.kids j) k ≡ true = subst (λ x. is_child (b.kids x) k ≡ true)
          (sym f) child in
          let sum : given pair.0 + given pair.1 ≡ 1 = ap (over_kids given) (sym e)
          ∙ (ap (λ x. over_kids given (b.kids x)) f ∙ other) in
          let differ = is.forest.differ j pair e in
          let more : given' k ≡ given k + 1 = gv.here in
          elim (child_is pair k (ap (λ x. is_child x k) (sym e) ∙ mine)) [
            | inl g ↦
                let ne : pair.1 ≢ k =
                λ s. absurd (true≢false (sym (eq-eqb pair.0 pair.1 (sym g ∙ sym s))
                ∙ differ)) in
                let o = gv.others pair.1 ne in
                let a : given' pair.0 ≡ given' k = ap given' (sym g) in
                let a' : given pair.0 ≡ given k = ap given (sym g) in
                omega (arith, t, z, sum, o, more, a, a', k_open)
            | inr g ↦
                let ne : pair.0 ≢ k =
                λ s. absurd (true≢false (sym (eq-eqb pair.0 pair.1 (s ∙ g)) ∙ differ)) in
                let o = gv.others pair.0 ne in
                let a : given' pair.1 ≡ given' k = ap given' (sym g) in
                let a' : given pair.1 ≡ given k = ap given (sym g) in
                omega (arith, t, z, sum, o, more, a, a', k_open)
          ]
      fusion j pair e less (inr ne) = tk.others j ne
          ∙ (it.fusion j pair e less ∙ level (is_child (b.kids j) k) refl)
        where
          level : (r : Bool) → is_child (b.kids j) k ≡ r → min (given pair.0) (given pair.1) ≡ min
              (given' pair.0) (given' pair.1)
          level true h = absurd (ne (is.forest.once j c k h child))
          level false h =
              let n = none_is (b.kids j) pair k e h in
              sym (min_of (given' pair.0) (given' pair.1) (given pair.0) (given pair.1)
              (gv.others pair.0 n.0) (gv.others pair.1 n.1))

      once : (j : ℕ) → (j ≡ c) ⊎ (j ≢ c) → taken' j ≤ 1
      once j (inl e) =
          let t : taken' j ≡ taken j + 1 = subst (λ x. taken' x ≡ taken x + 1) (sym e) tk.here in
          let z : taken j ≡ 0 = ap taken e ∙ c_open in omega (arith, t, z)
      once j (inr ne) = let t = tk.others j ne in let o = it.once j in omega (arith, t, o)

      rises : (j : ℕ) → (j ≡ c) ⊎ (j ≢ c) → taken j ≤ taken' j
      rises j (inl e) = let t : taken' j ≡ taken j + 1 = subst (λ x. taken' x ≡ taken x + 1) (sym e)
          tk.here in omega (arith, t)
      rises j (inr ne) = let t = tk.others j ne in omega (arith, t)

      first : (j : ℕ) → (j ≡ k) ⊎ (j ≢ k) → (j ≡ c) ⊎ (j ≢ c) → given' j ≤ taken' j
      first j (inl e) f =
          let g : given' j ≡ given j + 1 = subst (λ x. given' x ≡ given x + 1) (sym e) gv.here in
          let z : given j ≡ 0 = ap given e ∙ k_open in
          let t : taken j ≡ 1 = ap taken e ∙ k_taken in
          let r = rises j f in
          omega (arith, g, z, t, r)
      first j (inr ne) f = let g = gv.others j ne in let o = it.first j in let r = rises j f in
          omega (arith, g, o, r)

      -- the children of c: k, and the other one, which is given and taken
      kid_taken : (j : ℕ) → is_child (b.kids c) j ≡ true → taken j ≡ 1
      kid_taken j h = step (cases_eq j k) (b.kids c) refl
        where
          step : (j ≡ k) ⊎ (j ≢ k) → (o : Option (ℕ × ℕ)) → b.kids c ≡ o → taken j ≡ 1
          step (inl e) o f = ap taken e ∙ k_taken
          step (inr ne) None f = absurd (false≢true (ap (λ x. is_child x j) (sym f) ∙ h))
          step (inr ne) (Some pair) f =
              let sum : given pair.0 + given pair.1 ≡ 1 = ap (over_kids given) (sym f) ∙ other in
              let o = it.once j in let r = it.first j in
              let j_is = child_is pair j (ap (λ x. is_child x j) (sym f) ∙ h) in
              let k_is = child_is pair k (ap (λ x. is_child x k) (sym f) ∙ child) in
              elim j_is [
                | inl jl ↦ elim k_is [
                  | inl kl ↦ absurd (ne (jl ∙ sym kl))
                  | inr kr ↦
                      let a : given pair.0 ≡ given j = ap given (sym jl) in
                      let d : given pair.1 ≡ given k = ap given (sym kr) in
                      omega (arith, sum, a, d, k_open, o, r)
                ]
                | inr jr ↦ elim k_is [
                  | inl kl ↦
                      let a : given pair.1 ≡ given j = ap given (sym jr) in
                      let d : given pair.0 ≡ given k = ap given (sym kl) in
                      omega (arith, sum, a, d, k_open, o, r)
                  | inr kr ↦ absurd (ne (jr ∙ sym kr))
                ]
              ]

      free : (j : ℕ) → j < b.count → taken' j ≡ 0 → (j ≡ c) ⊎ (j ≢ c)
          → get_elem? homes' j ≡ some (some None)
      free j less none (inl e) = let t : taken' j ≡ taken j + 1 =
          subst (λ x. taken' x ≡ taken x + 1) (sym e) tk.here in absurd (omega (arith, t, none))
      free j less none (inr ne) =
          let was : taken j ≡ 0 = sym (tk.others j ne) ∙ none in
          hs j ne (no_kid (is_child (b.kids c) j) refl was) (no_own (is_child (b.kids k) j) refl
          was) ∙ it.free j less was
        where
          no_kid : (r : Bool) → is_child (b.kids c) j ≡ r → taken j ≡ 0 → r ≡ false
          no_kid true h was = let t = kid_taken j h in absurd (omega (arith, t, was))
          no_kid false h was = refl

          no_own : (r : Bool) → is_child (b.kids k) j ≡ r → taken j ≡ 0 → r ≡ false
          no_own true h was = let t =
              (child_taken taken given words homes k j it k_less k_taken h).1 in
              absurd (omega (arith, t, was))
          no_own false h was = refl

      kept : (j : ℕ) → j < b.count → given' j ≡ 1 → ((i : ℕ) → is_child (b.kids i) j ≡ true
          → taken' i ≡ 0) → (j ≡ k) ⊎ (j ≢ k)
          → (p : P) × (get_elem? homes' j ≡ some (some (Some p))) × IsPiece j p
      kept j less one above (inl e) =
          let t = above c (subst (λ x. is_child (b.kids c) x ≡ true) (sym e) child) in let m =
          tk.here in absurd (omega (arith, t, m))
      kept j less one above (inr ne) =
          let was : given j ≡ 1 = sym (gv.others j ne) ∙ one in
          let j_taken : taken j ≡ 1 = let f = it.first j in let o = it.once j in
          omega (arith, was, f, o) in
          let ne' : j ≢ c = λ e. let z : taken j ≡ 0 = ap taken e ∙ c_open in
          absurd (omega (arith, z, j_taken)) in
          let old = it.kept j less was (λ i h. let t = above i h in let r =
          rises i (cases_eq i c) in omega (arith, t, r)) in (
            old.0,
            hs j ne' (no_kid (is_child (b.kids c) j) refl) (no_own (is_child (b.kids k) j)
                refl) ∙ old.1,
            old.2,
          )
        where
          no_kid : (r : Bool) → is_child (b.kids c) j ≡ r → r ≡ false
          no_kid true h = let t = above c h in let m = tk.here in absurd (omega (arith, t, m))
          no_kid false h = refl

          no_own : (r : Bool) → is_child (b.kids k) j ≡ r → r ≡ false
          no_own true h = let t = above k h in let r = rises k (cases_eq k c) in
              absurd (omega (arith, t, r, k_taken))
          no_own false h = refl

  -- an item that is held is left
  pub items_mark : (taken given taken' given' : ℕ → ℕ) (words words' : List ℕ)
      (homes homes' : List (mathlib.Core.Option.Option (Option P))) (k n : ℕ)
      → AreItems IsPiece b taken given words homes → k < b.count → taken k ≡ 1 → given k ≡ 0
      → IsWordSet 1 n words words' → ((j : ℕ) → taken' j ≡ taken j) → ((j : ℕ) → given' j ≡ given j)
      → ((j : ℕ) → j ≢ k → is_child (b.kids k) j ≡ false → get_elem? homes' j ≡ get_elem? homes j)
      → AreItems IsPiece b taken' given' words' homes'
  items_mark taken given taken' given' words words' homes homes' k n it k_less k_taken k_open ws tk
      gv hs = record {
        size = ws.size ∙ it.size;
        unit = λ u less. tk (b.unit_at u)
            ∙ (it.unit u less
            ∙ ap (once_below u) (sym (ws.others 0 (λ e. absurd (omega (arith, e))))));
        fusion = λ j pair e less. tk j
            ∙ (it.fusion j pair e less ∙ sym (min_of (given' pair.0) (given' pair.1) (given pair.0)
            (given pair.1) (gv pair.0) (gv pair.1)));
        word = λ j less.
            let old = it.word j less in
            let w : slice_index words' (j + 2) ≡ slice_index words (j + 2) =
            ws.others (j + 2) (λ e. absurd (omega (arith, e))) in
            let ks = kids_equal (b.kids j) given given' gv in
            let r = root_part (b.is_root j) (given' j) (given j) (gv j) in
            omega (arith, old, w, ks, r);
        once = λ j. let h = tk j in let o = it.once j in omega (arith, h, o);
        first = λ j. let h = tk j in let g = gv j in let o = it.first j in omega (arith, h, g, o);
        free = λ j less none. free j less (sym (tk j) ∙ none) (is_child (b.kids k) j) refl;
        kept = λ j less one above. kept j less (sym (gv j) ∙ one) (λ i h. sym (tk i) ∙ above i h)
            (is_child (b.kids k) j) refl;
      }
    where
      free : (j : ℕ) → j < b.count → taken j ≡ 0 → (r : Bool) → is_child (b.kids k) j ≡ r
          → get_elem? homes' j ≡ some (some None)
      free j less none true h = let t =
          (child_taken taken given words homes k j it k_less k_taken h).1 in
          absurd (omega (arith, t, none))
      free j less none false h =
          let ne : j ≢ k = λ e. let t : taken j ≡ 1 = ap taken e ∙ k_taken in
          absurd (omega (arith, t, none)) in
          hs j ne h ∙ it.free j less none

      kept : (j : ℕ) → j < b.count → given j ≡ 1 → ((i : ℕ) → is_child (b.kids i) j ≡ true
          → taken i ≡ 0) → (r : Bool) → is_child (b.kids k) j ≡ r
          → (p : P) × (get_elem? homes' j ≡ some (some (Some p))) × IsPiece j p
      kept j less one above true h = let z = above k h in absurd (omega (arith, z, k_taken))
      kept j less one above false h =
          let ne : j ≢ k = λ e. let g : given j ≡ 0 = ap given e ∙ k_open in
          absurd (omega (arith, g, one)) in
          let old = it.kept j less one above in
          (old.0, hs j ne h ∙ old.1, old.2)
