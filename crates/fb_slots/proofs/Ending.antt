-- The first state keeps the rule, so do a new seat and two that become one; and what the last seat
-- knows.
use Rattle.std.proofs.Common.{ℕ, ◌≡◌, ◌≢◌, ◌+◌, ◌-◌, ◌<◌, ◌≤◌, ◌==◌, min, Bool, true, false, cond, Option, Some, None, List, [], ◌∷◌, ◌++◌, length, map, filter, replicate, ◌⊎◌, inl, inr, refl, sym, ap, subst, ◌∙◌, arith, zero, suc}
use Rattle.std.proofs.lemmas.Bool.{cases_lt, true≢false}
use Rattle.std.proofs.lemmas.Bool.Decides.{nat_tests}
use Rattle.std.proofs.lemmas.List.{append-nil, length-replicate}
use Rattle.std.proofs.lemmas.List.Elements.{All-append, All-nil}
use Rattle.std.specs.Prelude.{slice_index, slice_set}
use mathlib.Core.Option.{some, none, some-injective, some-ne-none}
use lib.ListN.{get_elem?}
use Rattle.atomic_table.specs.Table.{State, Splits, Joins, opening, Final, Seen}
use Rattle.atomic_table.proofs.Lists.{at_set, at_snoc, set_else}
use Rattle.fb_book.specs.declared.entries.EntryKind.{EntryKind}
use Rattle.fb_book.specs.declared.entries.EntryKind.TheVariants.{Took, Gave, Left}
use Rattle.fb_book.specs.declared.entries.Entry.{Entry}
use Rattle.fb_book.specs.Machine.{is_child, place, trace, is_loss}
use Rattle.fb_slots.specs.declared.views.Hand.{Hand}
use Rattle.fb_slots.specs.Listed.{IsOrdered, IsWhole}
use Rattle.fb_slots.specs.Slots.{Layout, IsLayout, weigh, as_taken, as_given, as_left, total, in_hand, in_hands, losses, over_kids, once_below, IsDone, nothing, holds, gave, left, IsWithin, IsHand, AreItems, IsRuled, all_taken, all_given, hand, first_hand, with_less, with_other}
use Rattle.fb_slots.proofs.Items.{once_low, left_is, right_is}
use Rattle.fb_slots.proofs.Hands.{total_set, total_at, total_alone, trace-append, weigh-append, losses-append, done_none}

total_snoc : (f : Hand → ℕ) (vs : List Hand) (v : Hand) → total f (vs ++ v ∷ []) ≡ total f vs + f v
total_snoc f [] v = omega arith
total_snoc f (x ∷ vs) v = let r = total_snoc f vs v in omega (arith, r)

-- two seats together have no more than all
total_two : (f : Hand → ℕ) (vs : List Hand) (i j : ℕ) (v u : Hand) → get_elem? vs i ≡ some v
    → get_elem? vs j ≡ some u → i ≢ j → f v + f u ≤ total f vs
total_two f [] i j v u h g ne = absurd (some-ne-none v (sym h))
total_two f (x ∷ vs) zero zero v u h g ne = absurd (ne refl)
total_two f (x ∷ vs) zero (suc j) v u h g ne = let e : f x ≡ f v = ap f (some-injective x v h) in
    let r = total_at f vs j u g in omega (arith, e, r)
total_two f (x ∷ vs) (suc i) zero v u h g ne = let e : f x ≡ f u = ap f (some-injective x u g) in
    let r = total_at f vs i v h in omega (arith, e, r)
total_two f (x ∷ vs) (suc i) (suc j) v u h g ne = let r =
    total_two f vs i j v u h g (λ e. ne (ap suc e)) in omega (arith, r)

index_zero : (n i : ℕ) → slice_index (replicate n 0) i ≡ 0
index_zero zero i = refl
index_zero (suc n) zero = refl
index_zero (suc n) (suc i) = index_zero n i

vacant_at : {P : Type 0} (n k : ℕ) → k < n
    → ◌≡◌ {A = mathlib.Core.Option.Option (mathlib.Core.Option.Option (Option P))}
    (get_elem? (map some (replicate n None)) k) (some (some None))
vacant_at zero k h = absurd (omega (arith, h))
vacant_at (suc n) zero h = refl
vacant_at (suc n) (suc k) h = vacant_at n k (omega (arith, h))

only_first : (v u : Hand) (id : ℕ) → get_elem? (v ∷ []) id ≡ some u → u ≡ v
only_first v u zero h = sym (some-injective v u h)
only_first v u (suc id) h = absurd (some-ne-none u (sym h))

zero_kids : (o : Option (ℕ × ℕ)) → over_kids (λ k. 0) o ≡ 0
zero_kids None = refl
zero_kids (Some pair) = refl

zero_part : (r : Bool) → ◌≡◌ {A = ℕ} (cond r 0 0) 0
zero_part true = refl
zero_part false = refl

below_none : (u : ℕ) → once_below u 0 ≡ 0
below_none u = grind (arith, nat_tests)

module _ {P : Type 0} (IsPiece : ℕ → P → Type 0) (b : Layout) (is : IsLayout b) where
  pub opens : (words : List ℕ) (slots : ℕ) → words ≡ replicate (b.count + 2) 0 → slots ≡ b.count
      → IsRuled IsPiece b (opening words (replicate slots None) (first_hand b))
  opens words slots zeros room = record {
    items = record {
      size = ap length zeros ∙ length-replicate (b.count + 2) 0;
      unit = λ u less. sym (ap (once_below u) (at 0) ∙ below_none u);
      fusion = λ k pair e less. refl;
      word = λ k less. at (k + 2) ∙ sym (let a = zero_kids (b.kids k) in let c =
          zero_part (b.is_root k) in let sum : over_kids (λ x. 0) (b.kids k) + cond (b.is_root k) 0
          0 ≡ 0 = omega (arith, a, c) in sum);
      once = λ k. omega arith;
      first = λ k. omega arith;
      free = λ k less e. vacant_at slots k (omega (arith, less, room));
      kept = λ k less one above. absurd (omega (arith, one));
    };
    hands = record {
      bound = let z = at 0 in omega (arith, z);
      over = λ h. absurd (omega (arith, h));
      drawn = omega arith;
      seats = omega arith;
      mark = at 1;
      each = λ id v h. subst (IsHand b) (sym (only_first (first_hand b) v id h)) (record {
        worker = omega arith;
        ends = omega arith;
        done = λ k. nothing;
        within = All-nil (IsWithin b);
        spent = λ z. refl;
      });
    };
  }
    where
      at : (i : ℕ) → slice_index words i ≡ 0
      at i = ap (λ ws. slice_index ws i) zeros ∙ index_zero (b.count + 2) i

  -- what is the same in all places makes the same items
  items_like : (taken given taken' given' : ℕ → ℕ) (words : List ℕ)
      (homes : List (mathlib.Core.Option.Option (Option P)))
      → ((j : ℕ) → taken' j ≡ taken j) → ((j : ℕ) → given' j ≡ given j)
      → AreItems IsPiece b taken given words homes → AreItems IsPiece b taken' given' words
      homes
  items_like taken given taken' given' words homes t g it =
      let te : taken ≡ taken' = λ i j. sym (t j) i in
      let ge : given ≡ given' = λ i j. sym (g j) i in
      subst (λ x. AreItems IsPiece b x given' words homes) te
      (subst (λ x. AreItems IsPiece b taken x words homes) ge it)

  -- a seat cuts off a new one
  pub splits : (id : ℕ) (v : Hand) → v.ends + 1 < v.seats
      → Splits {S = Option P} (IsRuled IsPiece b) id v (with_less v) (hand (v.seats - 1) [] 0 1 0)
  splits id v more s r at =
      let l = with_less v in
      let n = hand (v.seats - 1) [] 0 1 0 in
      let mid = slice_set s.views id l in
      let two : (f : Hand → ℕ) → total f (mid ++ n ∷ []) + f v ≡ total f s.views + f l + f n =
      λ f. let one = total_set f s.views id v l at in let next = total_snoc f mid n in
      omega (arith, one, next) in
      let same : (f : EntryKind → ℕ) (j : ℕ) → in_hands f b.nodes (mid ++ n ∷ []) j ≡ in_hands f b.nodes
      s.views j =
      λ f j. let t = two (in_hand f b.nodes j) in omega (arith, t) in
      let ends = two (λ u. u.ends) in
      let seats = two (λ u. u.seats) in
      let lost = two (λ u. losses u.entries) in
      let h = r.hands.each id v at in
      let low = total_at (λ u. u.seats) s.views id v at in
      record {
        items = items_like (all_taken b s.views) (all_given b s.views) (all_taken b (mid ++ n ∷ []))
            (all_given b (mid ++ n ∷ [])) s.words s.homes (same as_taken) (same as_given) r.items;
        hands = record {
          bound = let z = r.hands.bound in omega (arith, ends, z);
          over = λ e. r.hands.over (omega (arith, ends, e));
          drawn = let z = r.hands.drawn in let d = two (λ u. u.drawn) in omega (arith, d, z);
          seats = let z = r.hands.seats in omega (arith, seats, z, more);
          mark = r.hands.mark ∙ (let l0 : total (λ u. losses u.entries) s.views ≡ total
              (λ u. losses u.entries) (mid ++ n ∷ []) = omega (arith, lost) in
              ap (λ x. min x 1) l0);
          each = λ j u e. elim (at_snoc mid n u j e) [
            | inl q ↦ elim (at_set s.views id j l u q) [
              | inl t ↦ subst (IsHand b) t.1 (record {
                worker = h.worker;
                ends =
                    omega (arith, more);
                done = h.done;
                within = h.within;
                spent =
                    λ z. absurd (omega (arith, z, more));
              })
              | inr t ↦ r.hands.each j u t.1
            ]
            | inr q ↦ subst (IsHand b) q (record {
              worker = let z = r.hands.seats in omega (arith, z, low);
              ends = omega arith;
              done = λ k. nothing;
              within = All-nil (IsWithin b);
              spent = λ z. refl;
            })
          ];
        };
      }

  -- two views become one, the second one's entries first
  pub joins : (id other : ℕ) (v w : Hand)
      → Joins {S = Option P} (IsRuled IsPiece b) id v other w (with_other v w) (hand 0 [] 0 0 0)
  joins id other v w s r at ne other_at =
      let m = with_other v w in
      let e = hand 0 [] 0 0 0 in
      let mid = slice_set s.views id m in
      let end = slice_set mid other e in
      let was : get_elem? s.views other ≡ some w = sym (set_else s.views id other m ne)
      ∙ other_at in
      let two : (f : Hand → ℕ) → total f end + f w + f v ≡ total f s.views + f m + f e =
      λ f. let one = total_set f s.views id v m at in let next =
      total_set f mid other w e other_at in omega (arith, one, next) in
      let sum : (f : EntryKind → ℕ) (j : ℕ) → in_hand f b.nodes j m ≡ in_hand f b.nodes j w + in_hand f
      b.nodes j v =
      λ f j. ap (weigh f) (trace-append b.nodes j w.entries v.entries)
      ∙ weigh-append f (trace b.nodes j w.entries) (trace b.nodes j v.entries) in
      let same : (f : EntryKind → ℕ) (j : ℕ) → in_hands f b.nodes end j ≡ in_hands f b.nodes s.views j =
      λ f j. let t = two (in_hand f b.nodes j) in let q = sum f j in omega (arith, t, q) in
      let ends = two (λ u. u.ends) in
      let seats = two (λ u. u.seats) in
      let lost = two (λ u. losses u.entries) in
      let lost_both = losses-append w.entries v.entries in
      let hv = r.hands.each id v at in
      let hw = r.hands.each other w was in
      record {
        items = items_like (all_taken b s.views) (all_given b s.views) (all_taken b end)
            (all_given b end) s.words s.homes (same as_taken) (same as_given) r.items;
        hands = record {
          bound = let z = r.hands.bound in omega (arith, ends, z);
          over = λ h. r.hands.over (omega (arith, ends, h));
          drawn = let z = r.hands.drawn in let d = two (λ u. u.drawn) in omega (arith, d, z);
          seats = let z = r.hands.seats in omega (arith, seats, z);
          mark = r.hands.mark ∙ (let l0 : total (λ u. losses u.entries) s.views ≡ total
              (λ u. losses u.entries) end = omega (arith, lost, lost_both) in ap (λ x. min x 1) l0);
          each = λ j u h. elim (at_set mid other j e u h) [
            | inl q ↦ subst (IsHand b) q.1 (record {
              worker = omega arith;
              ends =
                  omega arith;
              done = λ k. nothing;
              within = All-nil (IsWithin b);
              spent =
                  λ z. refl;
            })
            | inr q ↦ elim (at_set s.views id j m u q.1) [
              | inl t ↦ subst (IsHand b) t.1 (record {
                worker = hv.worker;
                ends = let a = hv.ends in let c = hw.ends in omega (arith, a, c);
                done = λ k. both k hv hw was (cases_lt 0 (in_hand as_taken b.nodes k v));
                within = All-append (IsWithin b) w.entries v.entries hw.within hv.within;
                spent = λ z.
                    let ze : w.entries ≡ [] = hw.spent (omega (arith, z)) in
                    let ve : v.entries ≡ [] = hv.spent (omega (arith, z)) in
                    λ i. ze i ++ ve i;
              })
              | inr t ↦ r.hands.each j u t.1
            ]
          ];
        };
      }
    where
      both : (k : ℕ) → IsHand b v → IsHand b w → get_elem? s.views other ≡ some w
          → (0 < in_hand as_taken b.nodes k v) ⊎ (in_hand as_taken b.nodes k v ≤ 0)
          → IsDone (trace b.nodes k (w.entries ++ v.entries))
      both k hv hw was (inl pos) =
          let sum = total_two (in_hand as_taken b.nodes k) s.views id other v w at was
          (λ q. ne (sym q)) in
          let most = r.items.once k in
          let z : trace b.nodes k w.entries ≡ [] =
          done_none (hw.done k) (omega (arith, sum, most, pos)) in
          subst IsDone (sym (trace-append b.nodes k w.entries v.entries
          ∙ ap (λ x. x ++ trace b.nodes k v.entries) z)) (hv.done k)
      both k hv hw was (inr low) =
          let z : trace b.nodes k v.entries ≡ [] = done_none (hv.done k) (omega (arith, low)) in
          subst IsDone (sym (trace-append b.nodes k w.entries v.entries
          ∙ (ap (λ x. trace b.nodes k w.entries ++ x) z
          ∙ append-nil (trace b.nodes k w.entries)))) (hw.done k)

-- a loss of an item is one of all
left_most : (n k : ℕ) (es : List Entry) → weigh as_left (trace n k es) ≤ losses es
left_most n k [] = omega arith
left_most n k (e ∷ es) = step (place n e == k) refl e.kind refl (left_most n k es)
  where
    step : (t : Bool) → (place n e == k) ≡ t → (kind : EntryKind) → e.kind ≡ kind
        → weigh as_left (trace n k es) ≤ losses es → weigh as_left (trace n k (e ∷ es)) ≤ losses
        (e ∷ es)
    step true h kind f rest =
        let a : trace n k (e ∷ es) ≡ (e.kind, e.worker) ∷ trace n k es =
        ap (λ t. map (λ (x : Entry). (x.kind, x.worker))
        (cond t (e ∷ filter (λ x. place n x == k) es) (filter (λ x. place n x == k) es))) h in
        let c = ap (weigh as_left) a in
        let d = one e.kind in
        omega (arith, c, d, rest)
      where
        one : (kind : EntryKind) → as_left kind ≤ cond (Rattle.fb_book.specs.Machine.is_loss_kind kind) 1
            0
        one Took = omega arith
        one Gave = omega arith
        one Left = omega arith
    step false h kind f rest =
        let a : trace n k (e ∷ es) ≡ trace n k es =
        ap (λ t. map (λ (x : Entry). (x.kind, x.worker))
        (cond t (e ∷ filter (λ x. place n x == k) es) (filter (λ x. place n x == k) es))) h in
        let c = ap (weigh as_left) a in
        omega (arith, c, rest)

-- what was done with an item that was given
done_given : {xs : List (EntryKind × ℕ)} → IsDone xs → weigh as_given xs ≡ 1
    → (w : ℕ) × (xs ≡ (Took, w) ∷ (Gave, w) ∷ [])
done_given nothing e = absurd (omega (arith, e))
done_given (holds w) e = absurd (omega (arith, e))
done_given (gave w) e = (w, refl)
done_given (left w) e = absurd (omega (arith, e))

-- all that the last seat knows
pub record KnowsAll (b : Layout) (v : Hand) : Type 0 where
  pub seats : v.seats ≡ b.workers + 1
  pub ended : 0 < v.ends
  pub closed : (k : ℕ) → in_hand as_taken b.nodes k v ≡ in_hand as_given b.nodes k v + in_hand
      as_left b.nodes k v

pub knows_all : (b : Layout) (v : Hand) {seats ends : ℕ} → v.seats ≡ seats → seats ≡ b.workers + 1
    → v.ends ≡ ends → 0 < ends
    → ((k : ℕ) → in_hand as_taken b.nodes k v ≡ in_hand as_given b.nodes k v + in_hand as_left
    b.nodes k v)
    → KnowsAll b v
knows_all b v same every ended positive closed =
    record { seats = same ∙ every; ended = omega (arith, ended, positive); closed = closed }

module _ {P : Type 0} (IsPiece : ℕ → P → Type 0) (b : Layout) (is : IsLayout b)
    (s : State (Option P) Hand) (r : IsRuled IsPiece b s)
    (id : ℕ) (v : Hand) (at : get_elem? s.views id ≡ some v) (all : KnowsAll b v) where
  in_all : (f : EntryKind → ℕ) (k : ℕ) → in_hands f b.nodes s.views k ≡ in_hand f b.nodes k v
  in_all f k = total_alone (in_hand f b.nodes k) (λ u. u.seats) s.views id v at (r.hands.seats
      ∙ sym all.seats)
      (λ j u h z. ap (λ es. weigh f (trace b.nodes k es)) ((r.hands.each j u h).spent z))

  no_losses : slice_index s.words 1 ≡ 0 → losses v.entries ≡ 0
  no_losses z =
      let low = total_at (λ u. losses u.entries) s.views id v at in
      let m = r.hands.mark in omega (arith, z, m, low)

  -- without a loss every item is given, children first
  given_all : slice_index s.words 1 ≡ 0 → (n k : ℕ) → k < n → k < b.count
      → all_given b s.views k ≡ 1
  given_all z zero k less inside = absurd (omega (arith, less))
  given_all z (suc n) k less inside = level (go (λ j l i. given_all z n j l i) (b.kids k) refl)
    where
      level : all_taken b s.views k ≡ 1 → all_given b s.views k ≡ 1
      level t =
          let a = in_all as_taken k in let g = in_all as_given k in
          let c = all.closed k in
          let l = left_most b.nodes k v.entries in let nl = no_losses z in
          omega (arith, t, a, g, c, l, nl)

      go : ((j : ℕ) → j < n → j < b.count → all_given b s.views j ≡ 1) → (o : Option (ℕ × ℕ))
          → b.kids k ≡ o → all_taken b s.views k ≡ 1
      go below None e =
          let u = is.all k inside e in
          let ends = total_at (λ x. x.ends) s.views id v at in
          let some_end = all.ended in
          let over = r.hands.over (omega (arith, ends, some_end)) in
          let u_less = u.1 in
          ap (all_taken b s.views) (sym u.2)
          ∙ (r.items.unit u.0 u.1 ∙ once_low u.0 (slice_index s.words 0)
          (omega (arith, u_less, over)))
      go below (Some pair) e =
          let l_less = is.forest.before k pair.0 (left_is (b.kids k) pair e) in
          let r_less = is.forest.before k pair.1 (right_is (b.kids k) pair e) in
          let l = below pair.0 (omega (arith, l_less, less)) (omega (arith, l_less, inside)) in
          let q = below pair.1 (omega (arith, r_less, less)) (omega (arith, r_less, inside)) in
          let t = r.items.fusion k pair e inside in
          omega (arith, t, l, q)

  pub whole : slice_index s.words 1 ≡ 0 → IsWhole b v.entries
  whole z = record {
    each = λ k less. done_given ((r.hands.each id v at).done k) (sym (in_all as_given k)
        ∙ given_all z (suc k) k (omega arith) less);
    within = (r.hands.each id v at).within;
  }

  -- and the piece of each root is at home
  pub root_piece : slice_index s.words 1 ≡ 0 → (k : ℕ) → k < b.count → b.is_root k ≡ true
      → (p : P) × (get_elem? s.homes k ≡ some (some (Some p))) × IsPiece k p
  root_piece z k less at_root =
      r.items.kept k less (given_all z (suc k) k (omega arith) less)
      (λ j h. absurd (true≢false (sym h ∙ is.root j k at_root)))

  -- a mark tells of a loss
  pub some_loss : (slice_index s.words 1 ≡ 0 → ⊥) → 0 < losses v.entries
  some_loss nz =
      let m = r.hands.mark in
      let a : total (λ u. losses u.entries) s.views ≡ losses v.entries =
      total_alone (λ u. losses u.entries) (λ u. u.seats) s.views id v at (r.hands.seats
      ∙ sym all.seats)
      (λ j u h z. ap losses ((r.hands.each j u h).spent z)) in
      omega (arith, nz, m, a)

  -- the entries are in an order that the machine allows
  pub ordered : IsOrdered b v.entries
  ordered = record {
    done = (r.hands.each id v at).done;
    ready = λ k pair less kids taken.
        let t = r.items.fusion k pair kids less in
        let a = in_all as_taken k in
        let l = in_all as_given pair.0 in let q = in_all as_given pair.1 in
        let l1 = r.items.first pair.0 in let l2 = r.items.once pair.0 in
        let q1 = r.items.first pair.1 in let q2 = r.items.once pair.1 in
        (omega (arith, t, a, l, taken, l1, l2), omega (arith, t, a, q, taken, q1, q2));
  }

word_is : (ws : List ℕ) (i a : ℕ) → get_elem? ws i ≡ some a → slice_index ws i ≡ a
word_is [] i a e = absurd (some-ne-none a (sym e))
word_is (w ∷ ws) zero a e = some-injective w a e
word_is (w ∷ ws) (suc i) a e = word_is ws i a e

-- what is found once the table is closed
module _ {P : Type 0} (IsPiece : ℕ → P → Type 0) (b : Layout) (is : IsLayout b) (id : ℕ) (v : Hand)
    (ws : List ℕ) (xs : List (Option P))
    (f : Final (Seen (IsRuled IsPiece b) id v) ws xs) (all : KnowsAll b v) where
  mark_at : (a : ℕ) → get_elem? ws 1 ≡ some a → slice_index f.0.words 1 ≡ a
  mark_at a e = ap (λ x. slice_index x 1) f.2 ∙ word_is ws 1 a e

  pub whole_at : (a : ℕ) → get_elem? ws 1 ≡ some a → a ≡ 0 → IsWhole b v.entries
  whole_at a e z = whole IsPiece b is f.0 f.1.0 id v f.1.1 all (mark_at a e ∙ z)

  pub root_at : (a : ℕ) → get_elem? ws 1 ≡ some a → a ≡ 0 → (k : ℕ) → k < b.count
      → b.is_root k ≡ true → (p : P) × (get_elem? xs k ≡ some (Some p)) × IsPiece k p
  root_at a e z k less at_root =
      let h = root_piece IsPiece b is f.0 f.1.0 id v f.1.1 all (mark_at a e ∙ z) k less at_root in
      (h.0, f.4 k (Some h.0) h.1, h.2)

  pub loss_at : (a : ℕ) → get_elem? ws 1 ≡ some a → (a ≡ 0 → ⊥) → 0 < losses v.entries
  loss_at a e nz = some_loss IsPiece b is f.0 f.1.0 id v f.1.1 all (λ z. nz (sym (mark_at a e) ∙ z))

  pub ordered_at : IsOrdered b v.entries
  ordered_at = ordered IsPiece b is f.0 f.1.0 id v f.1.1 all
