-- Each step keeps the rule.
use Rattle.std.proofs.Common.{ℕ, ◌≡◌, ◌+◌, ◌%◌, ◌^◌, ◌<◌, ◌≤◌, Option, None, [], ◌∷◌, ◌⊎◌, inl, inr, refl, ◌∙◌, arith}
use Rattle.std.proofs.Math.Nat.{mod-eq_of_lt}
use Rattle.std.proofs.lemmas.Bool.{cases_lt}
use Rattle.std.specs.Prelude.{slice_index, slice_set}
use mathlib.Core.Option.{some, none}
use lib.ListN.{get_elem?}
use Rattle.atomic_table.specs.Table.{State, Me, Act, keeps, takes, Allows, Valid, carried_after, stepped, step}
use Rattle.atomic_table.proofs.Lists.{set_else}
use Rattle.fb_book.specs.declared.entries.EntryKind.TheVariants.{Took}
use Rattle.fb_book.specs.Machine.{trace}
use Rattle.fb_slots.specs.declared.views.Hand.{Hand}
use Rattle.fb_book.specs.InternalBoard.{entry_at}
use Rattle.fb_slots.specs.Slots.{Layout, IsLayout, as_taken, as_given, in_hand, IsRuled, all_taken, all_given, Claims, with_unit, with_end}
use Rattle.fb_slots.proofs.Items.{IsWordSet, items_claim, items_end, once_self}
use Rattle.fb_slots.proofs.Hands.{total_at, total_most, in_more, in_same, in_none, hands_more, hands_same, done_none, losses-append, hand_took, hands_claim, hands_end}
use Rattle.fb_slots.proofs.Acts.{word_set}

module _ {P : Type 0} (IsPiece : ℕ → P → Type 0) (b : Layout) (is : IsLayout b) where
  -- word 0 doesn't wrap
  word_fits : (s : State (Option P) Hand) → IsRuled IsPiece b s → (slice_index s.words 0 + 1) % 2 ^
      64 ≡ slice_index s.words 0 + 1
  word_fits s r =
      let few = total_most (λ v. v.ends) (λ v. v.seats) s.views
      (λ j u h. (r.hands.each j u h).ends) in
      let bound = r.hands.bound in let seats = r.hands.seats in let most = is.few in
      mod-eq_of_lt (let lt : slice_index s.words 0 + 1 < 2 ^ 64 =
      omega (arith, few, bound, seats, most) in lt)

  -- an item that is in no view is in none of them
  pub untaken : (s : State (Option P) Hand) → IsRuled IsPiece b s → (id : ℕ) (v : Hand)
      → get_elem? s.views id ≡ some v → (k : ℕ) → all_taken b s.views k ≡ 0
      → trace b.nodes k v.entries ≡ []
  untaken s r id v at k z =
      let low = total_at (in_hand as_taken b.nodes k) s.views id v at in
      done_none ((r.hands.each id v at).done k) (omega (arith, low, z))

  pub claim_allows : (slots id : ℕ) (me : Me (Option P) Hand) → me.0.ends < me.0.seats
      → Allows (IsRuled IsPiece b) slots id me 0 (λ n. (n + 1) % 2 ^ 64)
      (Claims b (step slots 0 1 0 none) me)
  claim_allows slots id me open_end s r homes at fits = pick (cases_lt n b.units)
    where
      v : Hand
      v = me.0

      n : ℕ
      n = slice_index s.words 0

      k : ℕ
      k = b.unit_at n

      ws : IsWordSet 0 (n + 1) s.words (slice_set s.words 0 ((n + 1) % 2 ^ 64))
      ws = let size = r.items.size in word_set s.words 0 ((n + 1) % 2 ^ 64) (n + 1)
          (omega (arith, size)) (word_fits s r)

      one_same : slice_index (slice_set s.words 0 ((n + 1) % 2 ^ 64)) 1 ≡ slice_index s.words 1
      one_same = ws.others 1 (λ e. absurd (omega (arith, e)))

      pick : (n < b.units) ⊎ (b.units ≤ n)
          → (w : Hand) × (a : Act (Option P)) × Valid s.homes me.1 a × IsRuled IsPiece b
          (stepped s 0 ((n + 1) % 2 ^ 64) id me.1 w a) × Claims b (step slots 0 1 0 none) me n
          (w, carried_after me.1 a)
      pick (inl low) =
          let w = with_unit b k v in
          let less = is.unit_in n low in
          let z : all_taken b s.views k ≡ 0 = r.items.unit n low ∙ once_self n in
          let seated : 0 < v.seats = omega (arith, open_end) in
          let t = untaken s r id v at k z in
          let one = total_at (λ u. u.drawn) s.views id v at in
          let all = r.hands.drawn in
          let drawn : v.drawn ≤ n = omega (arith, one, all) in (
            w,
            takes k None,
            r.items.free k less z,
            record {
              items = items_claim IsPiece b is (all_taken b s.views) (all_given b s.views)
                  (all_taken b (slice_set s.views id w)) (all_given b (slice_set s.views id w))
                  s.words (slice_set s.words 0 ((n + 1) % 2 ^ 64)) s.homes
                  (slice_set s.homes k none)
                  r.items low ws
                  (hands_more b s.views id v w at as_taken k (λ j ne. in_same b as_taken Took k j v
                  ne) (in_more b as_taken Took k v))
                  (hands_same b s.views id v w at as_given (λ j. in_none b as_given Took k j v
                  refl))
                  (λ j ne. set_else s.homes k j none ne);
              hands = hands_claim b is s.words (slice_set s.words 0 ((n + 1) % 2 ^ 64)) s.views id v
                  w r.hands at
                  (let h = hand_took b is k v (r.hands.each id v at) seated less t in
                  record {
                    worker = h.worker;
                    ends = h.ends;
                    done = h.done;
                    within =
                        h.within;
                    spent = h.spent;
                  }) refl refl refl
                  (let l = losses-append v.entries (entry_at Took v.worker b.nodes k ∷ []) in
                  omega (arith, l)) low ws.here one_same;
            },
            ((λ h. (refl, t, omega (arith, drawn))), (λ h. absurd (omega (arith, h, low)))),
          )
      pick (inr high) =
          let w = with_end v in (
            w,
            keeps,
            tt,
            record {
              items = items_end IsPiece b is (all_taken b s.views) (all_given b s.views)
                  (all_taken b (slice_set s.views id w)) (all_given b (slice_set s.views id w))
                  s.words (slice_set s.words 0 ((n + 1) % 2 ^ 64)) s.homes
                  r.items high ws
                  (hands_same b s.views id v w at as_taken (λ j. refl))
                  (hands_same b s.views id v w at as_given (λ j. refl));
              hands = hands_end b is s.words (slice_set s.words 0 ((n + 1) % 2 ^ 64)) s.views id v
                  r.hands at open_end high ws.here one_same;
            },
            ((λ h. absurd (omega (arith, h, high))), (λ h. refl)),
          )
