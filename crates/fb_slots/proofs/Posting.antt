-- To give an item, and to leave one, keeps the rule.
use Rattle.std.proofs.Common.{ℕ, ◌≡◌, ◌≢◌, ◌+◌, ◌-◌, ◌%◌, ◌^◌, ◌<◌, ◌≤◌, min, Bool, true, false, cond, Option, Some, None, List, [], ◌∷◌, length, ◌⊎◌, inl, inr, refl, sym, ap, subst, ◌∙◌, arith, zero, suc}
use Rattle.std.proofs.Math.Nat.{mod-eq_of_lt}
use Rattle.std.proofs.lemmas.Bool.{cases_eq, true≢false, false≢true, eq-eqb}
use Rattle.std.specs.Prelude.{slice_index, slice_set, bit_or}
use mathlib.Core.Option.{some, none}
use lib.ListN.{get_elem?}
use Rattle.atomic_table.specs.Table.{State, Me, Act, takes, chain, Allows, Valid, carried_after, homes_after, stepped, step}
use Rattle.atomic_table.proofs.Lists.{set_else}
use Rattle.fb_book.specs.declared.entries.EntryKind.TheVariants.{Took, Gave, Left}
use Rattle.fb_book.specs.Machine.{is_child}
use Rattle.fb_slots.specs.declared.views.Hand.{Hand}
use Rattle.fb_book.specs.InternalBoard.{entry_at}
use Rattle.fb_slots.specs.Slots.{Layout, IsLayout, weigh, as_taken, as_given, total, in_hand, losses, over_kids, IsHand, AreItems, IsRuled, all_taken, all_given, with_entry, out_of, Counts, TakesParent, Marks, CountsAt, parent, root, IsHeld}
use Rattle.fb_slots.proofs.Items.{IsMore, IsWordSet, child_is, left_is, right_is, none_is}
use Rattle.fb_slots.proofs.Counting.{items_give, items_join, items_mark}
use Rattle.fb_slots.proofs.Hands.{total_at, total_alone, in_more, in_same, in_none, hands_more, hands_same, done_most, losses-append, hand_took, hand_gave, hand_left, hands_entry, hands_mark, trace_same}
use Rattle.fb_slots.proofs.Acts.{word_set, give_all, all_back, valid_give, carried_give, homes_give, back_here, back_else}
use Rattle.fb_slots.proofs.Steps.{untaken}

module _ {P : Type 0} (IsPiece : ℕ → P → Type 0) (b : Layout) (is : IsLayout b) where
  -- an item that one seat holds is taken, and not given
  held_taken : (s : State (Option P) Hand) → IsRuled IsPiece b s → (id : ℕ) (v : Hand)
      → get_elem? s.views id ≡ some v → (k : ℕ) → IsHeld b v k → all_taken b s.views k ≡ 1
  held_taken s r id v at k h =
      let low = total_at (in_hand as_taken b.nodes k) s.views id v at in
      let one : in_hand as_taken b.nodes k v ≡ 1 = ap (weigh as_taken) h.took in
      let most = r.items.once k in omega (arith, low, one, most)

  held_open : (s : State (Option P) Hand) → IsRuled IsPiece b s → (id : ℕ) (v : Hand)
      → get_elem? s.views id ≡ some v → (k : ℕ) → IsHeld b v k → all_given b s.views k ≡ 0
  held_open s r id v at k h =
      let one : in_hand as_taken b.nodes k v ≡ 1 = ap (weigh as_taken) h.took in
      total_alone (in_hand as_given b.nodes k) (in_hand as_taken b.nodes k) s.views id v at
      (held_taken s r id v at k h ∙ sym one)
      (λ j u e z. let m = done_most ((r.hands.each j u e).done k) in omega (arith, m, z))
      ∙ ap (weigh as_given) h.took

  -- A seat holds the slot of its item, with x in it, and the empty ones of the item's children.
  abbrev pub holding : ℕ → Option P → List (ℕ × Option P)
  holding k x = (k, x) ∷ out_of (b.kids k)

  -- the two kinds of count
  pub data Found (given : ℕ → ℕ) (k c n : ℕ) : Type 0 where
    alone : (n ≡ 1 → ⊥) → ((j : ℕ) → is_child (b.kids j) k ≡ true → over_kids given (b.kids j) ≡ 0)
        → Found given k c n
    second : n ≡ 1 → is_child (b.kids c) k ≡ true → over_kids given (b.kids c) ≡ 1
        → Found given k c n

  -- what the word of the counted item tells: it is below 4
  pub record Reads (taken given : ℕ → ℕ) (k c n : ℕ) : Type 0 where
    pub few : n < 4
    pub found : Found given k c n

  reads : (taken given : ℕ → ℕ) (words : List ℕ)
      (homes : List (mathlib.Core.Option.Option (Option P))) (k c : ℕ)
      → AreItems IsPiece b taken given words homes
      → CountsAt b k c → k < b.count → c < b.count → taken k ≡ 1 → given k ≡ 0
      → Reads taken given k c (slice_index words (c + 2))
  reads taken given words homes k c it counts k_less c_less k_taken k_open =
      go counts (b.kids c) refl (b.is_root c) refl
    where
      n : ℕ
      n = slice_index words (c + 2)

      level : (x : ℕ) → given x ≤ 1
      level x = let f = it.first x in let o = it.once x in omega (arith, f, o)

      part : (r : Bool) → b.is_root c ≡ r → n ≡ over_kids given (b.kids c) + cond r (given c) 0
      part r e = it.word c c_less ∙ ap (λ x. over_kids given (b.kids c) + cond x (given c) 0) e

      -- the parent of an item that isn't given isn't taken
      unready : (pair : ℕ × ℕ) → b.kids c ≡ Some pair → is_child (b.kids c) k ≡ true → given c ≡ 0
      unready pair e h =
          let t = it.fusion c pair e c_less in let f = it.first c in
          elim (child_is pair k (ap (λ x. is_child x k) (sym e) ∙ h)) [
            | inl g ↦ let z : given pair.0 ≡ 0 = ap given (sym g) ∙ k_open in omega (arith, t, f, z)
            | inr g ↦ let z : given pair.1 ≡ 0 = ap given (sym g) ∙ k_open in omega (arith, t, f, z)
          ]

      -- one of the two children is k
      one_kid : (pair : ℕ × ℕ) → b.kids c ≡ Some pair → is_child (b.kids c) k ≡ true
          → given pair.0 + given pair.1 ≤ 1
      one_kid pair e h = elim (child_is pair k (ap (λ x. is_child x k) (sym e) ∙ h)) [
        | inl g ↦ let z : given pair.0 ≡ 0 = ap given (sym g) ∙ k_open in let o = level pair.1 in
            omega (arith, z, o)
        | inr g ↦ let z : given pair.1 ≡ 0 = ap given (sym g) ∙ k_open in let o = level pair.0 in
            omega (arith, z, o)
      ]

      cond_none : (r : Bool) → given c ≡ 0 → cond r (given c) 0 ≡ 0
      cond_none true z = z
      cond_none false z = refl

      go : CountsAt b k c → (o : Option (ℕ × ℕ)) → b.kids c ≡ o → (r : Bool) → b.is_root c ≡ r
          → Reads taken given k c n
      go (parent h) None e r f = absurd (false≢true (ap (λ x. is_child x k) (sym e) ∙ h))
      go (parent h) (Some pair) e r f =
          let z = cond_none r (unready pair e h) in
          let p = part r f in
          let sum : over_kids given (b.kids c) ≡ given pair.0 + given pair.1 =
          ap (over_kids given) e in
          let most = one_kid pair e h in
          record {
            few = omega (arith, z, p, sum, most);
            found = elim (cases_eq n 1) [
              | inl one ↦ second one h (omega (arith, one, p, z))
              | inr ne ↦ alone ne (λ j g. let same : j ≡ c = is.forest.once j c k g h in
                  ap (λ x. over_kids given (b.kids x)) same
                  ∙ (let q : over_kids given (b.kids c) ≡ 0 = omega (arith, ne, p, z, sum, most) in
                  q))
            ];
          }
      go (root same at) None e r f =
          let p = part r f in
          let sum : over_kids given (b.kids c) ≡ 0 = ap (over_kids given) e in
          let z = cond_none r (ap given same ∙ k_open) in
          record {
            few = omega (arith, p, sum, z);
            found = alone (λ one. omega (arith, one, p, sum, z))
                (λ j g. absurd (true≢false (sym g ∙ is.root j k at)));
          }
      go (root same at) (Some pair) e r f =
          let p = part r f in
          let sum : over_kids given (b.kids c) ≡ given pair.0 + given pair.1 =
          ap (over_kids given) e in
          let z = cond_none r (ap given same ∙ k_open) in
          let t : taken k ≡ min (given pair.0) (given pair.1) =
          it.fusion k pair (ap b.kids (sym same) ∙ e) k_less in
          let a = level pair.0 in let d = level pair.1 in
          record {
            few = omega (arith, p, sum, z, a, d);
            found = alone (λ one. omega (arith, one, p, sum, z, t, k_taken, a, d))
                (λ j g. absurd (true≢false (sym g ∙ is.root j k at)));
          }

  -- an item isn't its own child
  pub not_own : (k : ℕ) → is_child (b.kids k) k ≡ false
  not_own k = go (is_child (b.kids k) k) refl
    where
      go : (r : Bool) → is_child (b.kids k) k ≡ r → r ≡ false
      go true h = let less : k < k = is.forest.before k k h in absurd (omega (arith, less))
      go false h = refl

  count_held : (slots id : ℕ) (v : Hand) (k c : ℕ) (p : P) → slots ≡ b.count → IsHeld b v k
      → c < b.count → CountsAt b k c → IsPiece k p
      → Allows (IsRuled IsPiece b) slots id (v, holding k (Some p)) (c + 2) (λ n. (n + 1) % 2 ^ 64)
      (Counts IsPiece b (step slots (c + 2) 1 0 none) (v, holding k (Some p)))
  count_held slots id v k c p room h c_less counts of s r homes at fits = go reading.found
    where
      n : ℕ
      n = slice_index s.words (c + 2)

      k_taken : all_taken b s.views k ≡ 1
      k_taken = held_taken s r id v at k h

      k_open : all_given b s.views k ≡ 0
      k_open = held_open s r id v at k h

      reading : Reads (all_taken b s.views) (all_given b s.views) k c n
      reading = reads (all_taken b s.views) (all_given b s.views) s.words s.homes k c r.items counts
          h.less c_less k_taken k_open

      words' : List ℕ
      words' = slice_set s.words (c + 2) ((n + 1) % 2 ^ 64)

      ws : IsWordSet (c + 2) (n + 1) s.words words'
      ws = let size = r.items.size in let few = reading.few in
          word_set s.words (c + 2) ((n + 1) % 2 ^ 64) (n + 1) (omega (arith, size, c_less))
          (mod-eq_of_lt (let lt : n + 1 < 2 ^ 64 = omega (arith, few) in lt))

      zero_same : slice_index words' 0 ≡ slice_index s.words 0
      zero_same = ws.others 0 (λ e. absurd (omega (arith, e)))

      one_same : slice_index words' 1 ≡ slice_index s.words 1
      one_same = ws.others 1 (λ e. absurd (omega (arith, e)))

      inside : k < length s.homes
      inside = let less = h.less in omega (arith, less, homes, room)

      -- the slots once the item and its children are back
      mid : List (mathlib.Core.Option.Option (Option P))
      mid = all_back s.homes (holding k (Some p))

      mid_here : get_elem? mid k ≡ some (some (Some p))
      mid_here = back_here s.homes k (Some p) (b.kids k) (not_own k) inside

      mid_else : (j : ℕ) → j ≢ k → is_child (b.kids k) j ≡ false
          → get_elem? mid j ≡ get_elem? s.homes j
      mid_else j ne f = back_else s.homes k (Some p) (b.kids k) j ne f

      w : Hand
      w = with_entry b Gave k v

      Rule : State (Option P) Hand → Type 0
      Rule = IsRuled IsPiece b

      Answer : Type 0
      Answer = (w : Hand) × (a : Act (Option P)) × Valid s.homes (holding k (Some p)) a
          × Rule (stepped s (c + 2) ((n + 1) % 2 ^ 64) id (holding k (Some p)) w a)
          × Counts IsPiece b (step slots (c + 2) 1 0 none) (v, holding k (Some p)) n
          (w, carried_after (holding k (Some p)) a)

      no_loss : losses w.entries ≡ losses v.entries
      no_loss = let l = losses-append v.entries (entry_at Gave v.worker b.nodes k ∷ []) in
          omega (arith, l)

      give : (n ≡ 1 → ⊥) → ((j : ℕ) → is_child (b.kids j) k ≡ true → over_kids (all_given b s.views)
          (b.kids j) ≡ 0) → Answer
      give ne sums = (
        w,
        give_all (holding k (Some p)),
        valid_give s.homes (holding k (Some p)),
        record {
          items = subst (λ hs. AreItems IsPiece b (all_taken b (slice_set s.views id w))
              (all_given b (slice_set s.views id w)) words' hs)
              (sym (homes_give s.homes (holding k (Some p))))
              (items_give IsPiece b is (all_taken b s.views) (all_given b s.views)
              (all_taken b (slice_set s.views id w)) (all_given b (slice_set s.views id w))
              s.words words' s.homes mid k c p
              r.items counts h.less k_taken k_open sums ws
              (hands_more b s.views id v w at as_given k (λ j ne. in_same b as_given Gave k j v ne)
              (in_more b as_given Gave k v))
              (hands_same b s.views id v w at as_taken (λ j. in_none b as_taken Gave k j v refl))
              mid_here of mid_else);
          hands = hands_entry b is s.words words' s.views id v w r.hands at
              (hand_gave b is k v (r.hands.each id v at) h.seated h.less h.took) refl refl refl
              no_loss zero_same one_same;
        },
        ((λ e. absurd (ne e)), (λ e i. (w, carried_give (holding k (Some p)) i))),
      )

      go : Found (all_given b s.views) k c n → Answer
      go (alone ne sum) = give ne sum
      go (second one child other) = pieces (b.kids c) refl
        where
          below : k < c
          below = is.forest.before c k child

          c_open : all_taken b s.views c ≡ 0
          c_open = by_kids (b.kids c) refl
            where
              by_kids : (o : Option (ℕ × ℕ)) → b.kids c ≡ o → all_taken b s.views c ≡ 0
              by_kids None e = absurd (false≢true (ap (λ x. is_child x k) (sym e) ∙ child))
              by_kids (Some pair) e =
                  let t = r.items.fusion c pair e c_less in
                  elim (child_is pair k (ap (λ x. is_child x k) (sym e) ∙ child)) [
                    | inl g ↦ let z : all_given b s.views pair.0 ≡ 0 =
                        ap (all_given b s.views) (sym g) ∙ k_open in omega (arith, t, z)
                    | inr g ↦ let z : all_given b s.views pair.1 ≡ 0 =
                        ap (all_given b s.views) (sym g) ∙ k_open in omega (arith, t, z)
                  ]

          -- c is no child of k, nor is another child of c
          c_apart : is_child (b.kids k) c ≡ false
          c_apart = by_test (is_child (b.kids k) c) refl
            where
              by_test : (x : Bool) → is_child (b.kids k) c ≡ x → x ≡ false
              by_test true f = let less : c < k = is.forest.before k c f in
                  absurd (omega (arith, less, below))
              by_test false f = refl

          kid_apart : (x : ℕ) → is_child (b.kids c) x ≡ true → is_child (b.kids k) x ≡ false
          kid_apart x g = by_kid (is_child (b.kids k) x) refl
            where
              by_kid : (y : Bool) → is_child (b.kids k) x ≡ y → y ≡ false
              by_kid true f = let same : k ≡ c = is.forest.once k c x f g in
                  absurd (omega (arith, same, below))
              by_kid false f = refl

          c_mid : get_elem? mid c ≡ some (some None)
          c_mid = mid_else c (λ e. absurd (omega (arith, e, below))) c_apart ∙ r.items.free c c_less
              c_open

          -- the piece at a child of c
          piece : (x y : ℕ) → is_child (b.kids c) x ≡ true → ((x ≡ k) ⊎ (all_given b s.views x ≡ 1))
              → (q : P) × (get_elem? mid x ≡ some (some (Some q))) × IsPiece x q
          piece x y g (inl e) =
              (p, ap (get_elem? mid) e ∙ mid_here, subst (λ z. IsPiece z p) (sym e) of)
          piece x y g (inr f) =
              let ne : x ≢ k = λ e. let z : all_given b s.views x ≡ 0 = ap (all_given b s.views) e
              ∙ k_open in absurd (omega (arith, z, f)) in
              let less : x < c = is.forest.before c x g in
              let old = r.items.kept x (omega (arith, less, c_less)) f
              (λ j m. ap (all_taken b s.views) (is.forest.once j c x m g) ∙ c_open) in
              (old.0, mid_else x ne (kid_apart x g) ∙ old.1, old.2)

          pieces : (o : Option (ℕ × ℕ)) → b.kids c ≡ o → Answer
          pieces None e = absurd (false≢true (ap (λ x. is_child x k) (sym e) ∙ child))
          pieces (Some pair) e = answer
            where
              sum : all_given b s.views pair.0 + all_given b s.views pair.1 ≡ 1
              sum = ap (over_kids (all_given b s.views)) (sym e) ∙ other

              l_in : is_child (b.kids c) pair.0 ≡ true
              l_in = left_is (b.kids c) pair e

              r_in : is_child (b.kids c) pair.1 ≡ true
              r_in = right_is (b.kids c) pair e

              k_is : (k ≡ pair.0) ⊎ (k ≡ pair.1)
              k_is = child_is pair k (ap (λ x. is_child x k) (sym e) ∙ child)

              which : ((pair.0 ≡ k) × (all_given b s.views pair.1 ≡ 1))
                  ⊎ ((pair.1 ≡ k) × (all_given b s.views pair.0 ≡ 1))
              which = elim k_is [
                | inl g ↦ let z : all_given b s.views pair.0 ≡ 0 = ap (all_given b s.views) (sym g)
                    ∙ k_open in inl (sym g, omega (arith, sum, z))
                | inr g ↦ let z : all_given b s.views pair.1 ≡ 0 = ap (all_given b s.views) (sym g)
                    ∙ k_open in inr (sym g, omega (arith, sum, z))
              ]

              l_piece : (q : P) × (get_elem? mid pair.0 ≡ some (some (Some q))) × IsPiece pair.0 q
              l_piece = elim which [
                | inl f ↦ piece pair.0 0 l_in (inl f.0)
                | inr f
                    ↦ piece pair.0 0 l_in (inr f.1)
              ]

              r_piece : (q : P) × (get_elem? mid pair.1 ≡ some (some (Some q))) × IsPiece pair.1 q
              r_piece = elim which [
                | inl f ↦ piece pair.1 0 r_in (inr f.1)
                | inr f
                    ↦ piece pair.1 0 r_in (inl f.0)
              ]

              l_less : pair.0 < c
              l_less = is.forest.before c pair.0 l_in

              r_less : pair.1 < c
              r_less = is.forest.before c pair.1 r_in

              apart : pair.0 ≢ pair.1
              apart = λ f. absurd (true≢false (sym (eq-eqb pair.0 pair.1 f) ∙ is.forest.differ c
                  pair e))

              l_not_c : pair.0 ≢ c
              l_not_c = λ f. absurd (omega (arith, f, l_less))

              r_not_c : pair.1 ≢ c
              r_not_c = λ f. absurd (omega (arith, f, r_less))

              outer : Act (Option P)
              outer = chain (takes c None) (chain (takes pair.1 (Some r_piece.0))
                  (takes pair.0 (Some l_piece.0)))

              end : List (mathlib.Core.Option.Option (Option P))
              end = slice_set (slice_set (slice_set mid c none) pair.1 none) pair.0 none

              end_else : (j : ℕ) → j ≢ c → is_child (b.kids c) j ≡ false
                  → is_child (b.kids k) j ≡ false → get_elem? end j ≡ get_elem? s.homes j
              end_else j ne f g =
                  let m = none_is (b.kids c) pair j e f in
                  let nk : j ≢ k =
                  λ q. absurd
                  (true≢false (sym child ∙ (ap (λ x. is_child (b.kids c) x) (sym q) ∙ f))) in
                  set_else (slice_set (slice_set mid c none) pair.1 none) pair.0 j none
                  (λ q. m.0 (sym q))
                  ∙ (set_else (slice_set mid c none) pair.1 j none (λ q. m.1 (sym q))
                  ∙ (set_else mid c j none ne ∙ mid_else j nk g))

              w2 : Hand
              w2 = with_entry b Took c w

              valid_outer : (hs : List (mathlib.Core.Option.Option (Option P)))
                  (held : List (ℕ × Option P)) → hs ≡ mid → Valid hs held outer
              valid_outer hs held same =
                  subst (λ x. Valid x held outer) (sym same) (
                    c_mid,
                    (
                      set_else mid c pair.1 none r_not_c ∙ r_piece.1,
                      set_else (slice_set mid c none) pair.1 pair.0 none apart
                          ∙ (set_else mid c pair.0 none l_not_c ∙ l_piece.1),
                    ),
                  )

              no_loss2 : losses w2.entries ≡ losses v.entries
              no_loss2 = let l = losses-append w.entries (entry_at Took w.worker b.nodes c ∷ []) in
                  omega (arith, l, no_loss)

              first_given : IsMore k (all_given b s.views) (all_given b (slice_set s.views id w2))
              first_given = hands_more b s.views id v w2 at as_given k
                  (λ j ne. in_none b as_given Took c j w refl ∙ in_same b as_given Gave k j v ne)
                  (in_none b as_given Took c k w refl ∙ in_more b as_given Gave k v)

              then_taken : IsMore c (all_taken b s.views) (all_taken b (slice_set s.views id w2))
              then_taken = hands_more b s.views id v w2 at as_taken c
                  (λ j ne. in_same b as_taken Took c j w ne ∙ in_none b as_taken Gave k j v refl)
                  (in_more b as_taken Took c w ∙ (let z = in_none b as_taken Gave k c v refl in
                  let g : in_hand as_taken b.nodes c w + 1 ≡ in_hand as_taken b.nodes c v + 1 =
                  omega (arith, z) in g))

              w_hand : IsHand b w
              w_hand = hand_gave b is k v (r.hands.each id v at) h.seated h.less h.took

              w2_hand : IsHand b w2
              w2_hand = hand_took b is c w w_hand h.seated c_less
                  (trace_same b Gave k c v (λ q. absurd (omega (arith, q, below))) ∙ untaken IsPiece
                  b is s r id v at c c_open)

              joins : TakesParent IsPiece b k c v (
                w2,
                carried_after (holding k (Some p))
                    (chain (give_all (holding k (Some p))) outer),
              )
              joins = record {
                left = pair.0;
                right = pair.1;
                first = l_piece.0;
                second = r_piece.0;
                kids = e;
                less = below;
                fresh = untaken IsPiece b is s r id v at c c_open;
                view = refl;
                held = ap (λ x. (pair.0, Some l_piece.0) ∷ (pair.1, Some r_piece.0) ∷ (c, None) ∷ x)
                    (carried_give (holding k (Some p)));
                first_is = l_piece.2;
                second_is = r_piece.2;
              }

              c_is : c + 2 - 2 ≡ c
              c_is = omega arith

              answer : Answer
              answer = (
                w2,
                chain (give_all (holding k (Some p))) outer,
                (
                  valid_give s.homes (holding k (Some p)),
                  valid_outer
                      (homes_after s.homes (holding k (Some p)) (give_all (holding k (Some p))))
                      (carried_after (holding k (Some p)) (give_all (holding k (Some p))))
                      (homes_give s.homes (holding k (Some p))),
                ),
                record {
                  items = subst (λ hs. AreItems IsPiece b (all_taken b (slice_set s.views id w2))
                      (all_given b (slice_set s.views id w2)) words'
                      (slice_set (slice_set (slice_set hs c none) pair.1 none) pair.0 none))
                      (sym (homes_give s.homes (holding k (Some p))))
                      (items_join IsPiece b is (all_taken b s.views) (all_given b s.views)
                      (all_taken b (slice_set s.views id w2))
                      (all_given b (slice_set s.views id w2)) s.words words' s.homes end k c
                      r.items child h.less c_less k_taken k_open other c_open ws first_given
                      then_taken end_else);
                  hands = hands_entry b is s.words words' s.views id v w2 r.hands at w2_hand refl
                      refl refl no_loss2 zero_same one_same;
                },
                (
                  (λ q. subst (λ x. TakesParent IsPiece b k x v (
                    w2,
                    carried_after (holding k (Some p)) (chain (give_all (holding k (Some p)))
                        outer),
                  )) (sym c_is) joins),
                  (λ ne. absurd (ne one)),
                ),
              )

  -- the same for a seat of this list
  pub count_allows : (slots id : ℕ) (me : Me (Option P) Hand) (k c : ℕ) (p : P) → slots ≡ b.count
      → IsHeld b me.0 k → c < b.count → CountsAt b k c → IsPiece k p
      → me.1 ≡ holding k (Some p) → Allows (IsRuled IsPiece b) slots id me (c + 2)
      (λ n. (n + 1) % 2 ^ 64) (Counts IsPiece b (step slots (c + 2) 1 0 none) me)
  count_allows slots id me k c p room h c_less counts of e =
      subst (λ x. Allows (IsRuled IsPiece b) slots id (me.0, x) (c + 2) (λ n. (n + 1) % 2 ^ 64)
      (Counts IsPiece b (step slots (c + 2) 1 0 none) (me.0, x))) (sym e)
      (count_held slots id me.0 k c p room h c_less counts of)

  -- an item that a seat holds is left
  pub mark_allows : (slots id : ℕ) (me : Me (Option P) Hand) (k : ℕ) (x : Option P)
      → IsHeld b me.0 k → me.1 ≡ holding k x
      → Allows (IsRuled IsPiece b) slots id me 1 (λ n. bit_or n 1) (Marks b (step slots 1 1 0 none)
      me)
  mark_allows slots id me k x h e =
      subst (λ y. Allows (IsRuled IsPiece b) slots id (me.0, y) 1 (λ n. bit_or n 1)
      (Marks b (step slots 1 1 0 none) (me.0, y))) (sym e) held
    where
      v : Hand
      v = me.0

      w : Hand
      w = with_entry b Left k v

      set_one : (n m : ℕ) → n ≡ min m 1 → bit_or n 1 ≡ 1
      set_one zero m e = refl
      set_one (suc zero) m e = refl
      set_one (suc (suc n)) m e = absurd (omega (arith, e))

      held : Allows (IsRuled IsPiece b) slots id (v, holding k x) 1 (λ n. bit_or n 1)
          (Marks b (step slots 1 1 0 none) (v, holding k x))
      held s r homes at fits =
          let words' = slice_set s.words 1 (bit_or (slice_index s.words 1) 1) in
          let mark : bit_or (slice_index s.words 1) 1 ≡ 1 = set_one (slice_index s.words 1)
          (total (λ u. losses u.entries) s.views) r.hands.mark in
          let ws : IsWordSet 1 1 s.words words' = let size = r.items.size in
          word_set s.words 1 (bit_or (slice_index s.words 1) 1) 1 (omega (arith, size)) mark in
          let lost = losses-append v.entries (entry_at Left v.worker b.nodes k ∷ []) in (
            w,
            give_all (holding k x),
            valid_give s.homes (holding k x),
            record {
              items = subst (λ hs. AreItems IsPiece b (all_taken b (slice_set s.views id w))
                  (all_given b (slice_set s.views id w)) words' hs)
                  (sym (homes_give s.homes (holding k x)))
                  (items_mark IsPiece b is (all_taken b s.views) (all_given b s.views)
                  (all_taken b (slice_set s.views id w)) (all_given b (slice_set s.views id w))
                  s.words words' s.homes (all_back s.homes (holding k x)) k 1
                  r.items h.less (held_taken s r id v at k h) (held_open s r id v at k h) ws
                  (hands_same b s.views id v w at as_taken (λ j. in_none b as_taken Left k j v
                  refl))
                  (hands_same b s.views id v w at as_given (λ j. in_none b as_given Left k j v
                  refl))
                  (λ j ne f. back_else s.homes k x (b.kids k) j ne f));
              hands = hands_mark b is s.words words' s.views id v w r.hands at
                  (hand_left b is k v (r.hands.each id v at) h.seated h.less h.took) refl refl refl
                  (omega (arith, lost)) (ws.others 0 (λ q. absurd (omega (arith, q)))) ws.here;
            },
            (λ i. (w, carried_give (holding k x) i)),
          )
