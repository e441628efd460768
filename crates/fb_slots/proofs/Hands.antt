-- What a step does to the views of all seats.
use Rattle.std.proofs.Common.{ℕ, ◌≡◌, ◌≢◌, ◌+◌, ◌<◌, ◌≤◌, ◌==◌, min, cond, List, [], ◌∷◌, ◌++◌, map, filter, inl, inr, refl, sym, ap, subst, ◌∙◌, arith, zero, suc}
use Rattle.std.proofs.lemmas.Bool.{cases_eq, eq-eqb, ne_eqb}
use Rattle.std.proofs.lemmas.Nat.{div-add-mod', mod_below}
use Rattle.std.proofs.lemmas.List.{map-append, append-nil}
use Rattle.std.proofs.lemmas.List.Elements.{filter-append, All-push}
use Rattle.std.specs.Prelude.{slice_index, slice_set}
use mathlib.Core.Option.{some, some-injective, some-ne-none}
use lib.ListN.{get_elem?}
use Rattle.atomic_table.proofs.Lists.{at_set}
use Rattle.fb_book.specs.declared.entries.EntryKind.{EntryKind}
use Rattle.fb_book.specs.declared.entries.EntryKind.TheVariants.{Took, Gave, Left}
use Rattle.fb_book.specs.declared.entries.Entry.{Entry}
use Rattle.fb_book.specs.Machine.{place, trace}
use Rattle.fb_slots.specs.declared.views.Hand.{Hand}
use Rattle.fb_book.specs.InternalBoard.{entry_at}
use Rattle.fb_slots.specs.Slots.{Layout, IsLayout, weigh, as_taken, as_given, as_left, total, in_hand, in_hands, losses, IsDone, nothing, holds, gave, left, IsWithin, IsHand, AreHands, with_entry, with_end}
use Rattle.fb_slots.proofs.Items.{IsMore}

pub total_set : (f : Hand → ℕ) (vs : List Hand) (i : ℕ) (v w : Hand) → get_elem? vs i ≡ some v
    → total f (slice_set vs i w) + f v ≡ total f vs + f w
total_set f [] i v w h = absurd (some-ne-none v (sym h))
total_set f (x ∷ vs) zero v w h = let e : f x ≡ f v = ap f (some-injective x v h) in
    omega (arith, e)
total_set f (x ∷ vs) (suc i) v w h = let r = total_set f vs i v w h in omega (arith, r)

pub total_at : (f : Hand → ℕ) (vs : List Hand) (i : ℕ) (v : Hand) → get_elem? vs i ≡ some v
    → f v ≤ total f vs
total_at f [] i v h = absurd (some-ne-none v (sym h))
total_at f (x ∷ vs) zero v h = let e : f x ≡ f v = ap f (some-injective x v h) in omega (arith, e)
total_at f (x ∷ vs) (suc i) v h = let r = total_at f vs i v h in omega (arith, r)

-- one sum is at most the other, view by view
pub total_most : (f g : Hand → ℕ) (vs : List Hand) → ((j : ℕ) (u : Hand) → get_elem? vs j ≡ some u
    → f u ≤ g u) → total f vs ≤ total g vs
total_most f g [] each = omega arith
total_most f g (x ∷ vs) each =
    let here = each 0 x refl in
    let rest = total_most f g vs (λ j u h. each (suc j) u h) in omega (arith, here, rest)

-- where one view has all of g, and f is at most g in each, that view has all of f
pub total_alone : (f g : Hand → ℕ) (vs : List Hand) (i : ℕ) (v : Hand) → get_elem? vs i ≡ some v
    → total g vs ≡ g v
    → ((j : ℕ) (u : Hand) → get_elem? vs j ≡ some u → g u ≡ 0 → f u ≡ 0) → total f vs ≡ f v
total_alone f g [] i v at all each = absurd (some-ne-none v (sym at))
total_alone f g (x ∷ vs) zero v at all each =
    let e : x ≡ v = some-injective x v at in
    let fe = ap f e in let ge = ap g e in
    let none = total_none f g vs (omega (arith, all, ge)) (λ j u h. each (suc j) u h) in
    omega (arith, fe, none)
  where
    total_none : (f g : Hand → ℕ) (vs : List Hand) → total g vs ≡ 0
        → ((j : ℕ) (u : Hand) → get_elem? vs j ≡ some u → g u ≡ 0 → f u ≡ 0) → total f vs ≡ 0
    total_none f g [] z each = refl
    total_none f g (x ∷ vs) z each =
        let a : g x ≡ 0 = omega (arith, z) in let c : total g vs ≡ 0 = omega (arith, z) in
        let here = each 0 x refl a in
        let rest = total_none f g vs c (λ j u h. each (suc j) u h) in omega (arith, here, rest)
total_alone f g (x ∷ vs) (suc i) v at all each =
    let low = total_at g vs i v at in
    let none : g x ≡ 0 = omega (arith, all, low) in
    let here = each 0 x refl none in
    let rest = total_alone f g vs i v at (omega (arith, all, none)) (λ j u h. each (suc j) u h) in
    omega (arith, here, rest)

pub weigh-append : (f : EntryKind → ℕ) (xs ys : List (EntryKind × ℕ))
    → weigh f (xs ++ ys) ≡ weigh f xs + weigh f ys
weigh-append f [] ys = omega arith
weigh-append f (x ∷ xs) ys = let r = weigh-append f xs ys in omega (arith, r)

pub trace-append : (n k : ℕ) (es fs : List Entry) → trace n k (es ++ fs) ≡ trace n k es ++ trace n k
    fs
trace-append n k es fs =
    ap (map (λ x. (x.kind, x.worker))) (filter-append (λ x. place n x == k) es fs)
    ∙ map-append (λ x. (x.kind, x.worker)) (filter (λ x. place n x == k) es)
    (filter (λ x. place n x == k) fs)

pub losses-append : (es fs : List Entry) → losses (es ++ fs) ≡ losses es + losses fs
losses-append [] fs = omega arith
losses-append (e ∷ es) fs = let r = losses-append es fs in omega (arith, r)

-- the entry at place k stands there, and nowhere else
pub place_entry : (kind : EntryKind) (w n k : ℕ) → place n (entry_at kind w n k) ≡ k
place_entry kind w n k = div-add-mod' k n

pub trace_entry : (kind : EntryKind) (w n k : ℕ) → trace n k (entry_at kind w n k ∷ []) ≡ (kind, w) ∷ []
trace_entry kind w n k =
    ap (λ t. map (λ (x : Entry). (x.kind, x.worker)) (cond t (entry_at kind w n k ∷ []) []))
    (eq-eqb (place n (entry_at kind w n k)) k (place_entry kind w n k))

pub trace_else : (kind : EntryKind) (w n k j : ℕ) → j ≢ k → trace n j (entry_at kind w n k ∷ []) ≡ []
trace_else kind w n k j ne =
    ap (λ t. map (λ (x : Entry). (x.kind, x.worker)) (cond t (entry_at kind w n k ∷ []) []))
    (ne_eqb (place n (entry_at kind w n k)) j (λ e. ne (sym e ∙ place_entry kind w n k)))

-- the traces of a view with one more entry
pub trace_more : (b : Layout) (kind : EntryKind) (k : ℕ) (v : Hand)
    → trace b.nodes k (with_entry b kind k v).entries ≡ trace b.nodes k
    v.entries ++ (kind, v.worker) ∷ []
trace_more b kind k v =
    trace-append b.nodes k v.entries (entry_at kind v.worker b.nodes k ∷ [])
    ∙ ap (λ t. trace b.nodes k v.entries ++ t) (trace_entry kind v.worker b.nodes k)

pub trace_same : (b : Layout) (kind : EntryKind) (k j : ℕ) (v : Hand) → j ≢ k
    → trace b.nodes j (with_entry b kind k v).entries ≡ trace b.nodes j v.entries
trace_same b kind k j v ne =
    trace-append b.nodes j v.entries (entry_at kind v.worker b.nodes k ∷ [])
    ∙ (ap (λ t. trace b.nodes j v.entries ++ t) (trace_else kind v.worker b.nodes k j ne)
    ∙ append-nil (trace b.nodes j v.entries))

-- how often item j stands in a view with one more entry
pub in_more : (b : Layout) (f : EntryKind → ℕ) (kind : EntryKind) (k : ℕ) (v : Hand)
    → in_hand f b.nodes k (with_entry b kind k v) ≡ in_hand f b.nodes k v + f kind
in_more b f kind k v =
    let a = ap (weigh f) (trace_more b kind k v) ∙ weigh-append f (trace b.nodes k v.entries)
    ((kind, v.worker) ∷ []) in omega (arith, a)

pub in_same : (b : Layout) (f : EntryKind → ℕ) (kind : EntryKind) (k j : ℕ) (v : Hand) → j ≢ k
    → in_hand f b.nodes j (with_entry b kind k v) ≡ in_hand f b.nodes j v
in_same b f kind k j v ne = ap (weigh f) (trace_same b kind k j v ne)

-- and where the kind weighs nothing
pub in_none : (b : Layout) (f : EntryKind → ℕ) (kind : EntryKind) (k j : ℕ) (v : Hand) → f kind ≡ 0
    → in_hand f b.nodes j (with_entry b kind k v) ≡ in_hand f b.nodes j v
in_none b f kind k j v z = elim (cases_eq j k) [
  | inl e ↦
      let a = in_more b f kind k v in
      let a' : in_hand f b.nodes k (with_entry b kind k v) ≡ in_hand f b.nodes k v =
      omega (arith, a, z) in
      subst (λ x. in_hand f b.nodes x (with_entry b kind k v) ≡ in_hand f b.nodes x v) (sym e) a'
  | inr ne ↦ in_same b f kind k j v ne
]

module _ (b : Layout) (vs : List Hand) (id : ℕ) (v w : Hand) (at : get_elem? vs id ≡ some v)
    (f : EntryKind → ℕ) where
  -- the sums over all views follow those of the view that changes
  pub hands_more : (k : ℕ) → ((j : ℕ) → j ≢ k → in_hand f b.nodes j w ≡ in_hand f b.nodes j v)
      → in_hand f b.nodes k w ≡ in_hand f b.nodes k v + 1
      → IsMore k (in_hands f b.nodes vs) (in_hands f b.nodes (slice_set vs id w))
  hands_more k same more = record {
    here = let t = total_set (in_hand f b.nodes k) vs id v w at in omega (arith, t, more);
    others = λ j ne. let t = total_set (in_hand f b.nodes j) vs id v w at in let s = same j ne in
        omega (arith, t, s);
  }

  pub hands_same : ((j : ℕ) → in_hand f b.nodes j w ≡ in_hand f b.nodes j v) → (j : ℕ)
      → in_hands f b.nodes (slice_set vs id w) j ≡ in_hands f b.nodes vs j
  hands_same same j = let t = total_set (in_hand f b.nodes j) vs id v w at in let s = same j in
      omega (arith, t, s)

-- what was done with an item that was not taken, and of others how the counts go
pub done_none : {xs : List (EntryKind × ℕ)} → IsDone xs → weigh as_taken xs ≡ 0 → xs ≡ []
done_none nothing z = refl
done_none (holds w) z = absurd (omega (arith, z))
done_none (gave w) z = absurd (omega (arith, z))
done_none (left w) z = absurd (omega (arith, z))

pub done_most : {xs : List (EntryKind × ℕ)} → IsDone xs → weigh as_given xs + weigh as_left xs ≤ weigh
    as_taken xs
done_most nothing = omega arith
done_most (holds w) = omega arith
done_most (gave w) = omega arith
done_most (left w) = omega arith

module _ (b : Layout) (is : IsLayout b) where
  -- a view after an entry
  hand_with : (kind : EntryKind) (k : ℕ) (v : Hand) → IsHand b v → 0 < v.seats → k < b.count
      → IsDone (trace b.nodes k v.entries ++ (kind, v.worker) ∷ [])
      → IsHand b (with_entry b kind k v)
  hand_with kind k v h seated less done = record {
    worker = h.worker;
    ends = h.ends;
    done = λ j. elim (cases_eq j k) [
      | inl e ↦ subst (λ x. IsDone (trace b.nodes x (with_entry b kind k v).entries)) (sym e)
          (subst IsDone (sym (trace_more b kind k v)) done)
      | inr ne ↦ subst IsDone (sym (trace_same b kind k j v ne)) (h.done j)
    ];
    within = All-push (IsWithin b) v.entries (entry_at kind v.worker b.nodes k) h.within (
      mod_below k b.nodes is.some,
      subst (λ x. x < b.count)
          (sym (place_entry kind v.worker b.nodes k)) less,
      h.worker,
    );
    spent = λ z. absurd (omega (arith, z, seated));
  }

  pub hand_took : (k : ℕ) (v : Hand) → IsHand b v → 0 < v.seats → k < b.count
      → trace b.nodes k v.entries ≡ [] → IsHand b (with_entry b Took k v)
  hand_took k v h seated less t = hand_with Took k v h seated less
      (subst (λ x. IsDone (x ++ (Took, v.worker) ∷ [])) (sym t) (holds v.worker))

  pub hand_gave : (k : ℕ) (v : Hand) → IsHand b v → 0 < v.seats → k < b.count
      → trace b.nodes k v.entries ≡ (Took, v.worker) ∷ [] → IsHand b (with_entry b Gave k v)
  hand_gave k v h seated less t = hand_with Gave k v h seated less
      (subst (λ x. IsDone (x ++ (Gave, v.worker) ∷ [])) (sym t) (gave v.worker))

  pub hand_left : (k : ℕ) (v : Hand) → IsHand b v → 0 < v.seats → k < b.count
      → trace b.nodes k v.entries ≡ (Took, v.worker) ∷ [] → IsHand b (with_entry b Left k v)
  hand_left k v h seated less t = hand_with Left k v h seated less
      (subst (λ x. IsDone (x ++ (Left, v.worker) ∷ [])) (sym t) (left v.worker))

  each_set : (vs : List Hand) (id : ℕ) (w : Hand) → ((j : ℕ) (u : Hand) → get_elem? vs j ≡ some u
      → IsHand b u) → IsHand b w
      → (j : ℕ) (u : Hand) → get_elem? (slice_set vs id w) j ≡ some u → IsHand b u
  each_set vs id w each new j u h = elim (at_set vs id j w u h) [
    | inl q ↦ subst (IsHand b) q.1 new
    | inr q ↦ each j u q.1
  ]

  -- a view changes, and word 0 and word 1 don't
  pub hands_entry : (words words' : List ℕ) (vs : List Hand) (id : ℕ) (v w : Hand)
      → AreHands b words vs → get_elem? vs id ≡ some v → IsHand b w
      → w.ends ≡ v.ends → w.seats ≡ v.seats → w.drawn ≡ v.drawn
      → losses w.entries ≡ losses v.entries
      → slice_index words' 0 ≡ slice_index words 0 → slice_index words' 1 ≡ slice_index words 1
      → AreHands b words' (slice_set vs id w)
  hands_entry words words' vs id v w a at new ends seats draws lost zero_same one_same =
      let e = total_set (λ u. u.ends) vs id v w at in
      let s = total_set (λ u. u.seats) vs id v w at in
      let d = total_set (λ u. u.drawn) vs id v w at in
      let l = total_set (λ u. losses u.entries) vs id v w at in
      record {
        bound = let o = a.bound in omega (arith, o, e, ends, zero_same);
        over = λ h. let o = a.over (omega (arith, h, e, ends)) in omega (arith, o, zero_same);
        drawn = let o = a.drawn in omega (arith, o, d, draws, zero_same);
        seats = let o = a.seats in omega (arith, o, s, seats);
        mark =
            let same : total (λ u. losses u.entries) (slice_set vs id w) ≡ total
            (λ u. losses u.entries) vs = omega (arith, l, lost) in
            one_same ∙ (a.mark ∙ ap (λ x. min x 1) (sym same));
        each = each_set vs id w a.each new;
      }

  -- a unit is taken
  pub hands_claim : (words words' : List ℕ) (vs : List Hand) (id : ℕ) (v w : Hand)
      → AreHands b words vs → get_elem? vs id ≡ some v → IsHand b w
      → w.ends ≡ v.ends → w.seats ≡ v.seats → w.drawn ≡ v.drawn + 1
      → losses w.entries ≡ losses v.entries → slice_index words 0 < b.units
      → slice_index words' 0 ≡ slice_index words 0 + 1 → slice_index words' 1 ≡ slice_index words 1
      → AreHands b words' (slice_set vs id w)
  hands_claim words words' vs id v w a at new ends seats draws lost low zero_more one_same =
      let e = total_set (λ u. u.ends) vs id v w at in
      let s = total_set (λ u. u.seats) vs id v w at in
      let d = total_set (λ u. u.drawn) vs id v w at in
      let l = total_set (λ u. losses u.entries) vs id v w at in
      record {
        bound = omega (arith, low, zero_more);
        over = λ h. let o = a.over (omega (arith, h, e, ends)) in absurd (omega (arith, o, low));
        drawn = let o = a.drawn in omega (arith, o, d, draws, zero_more);
        seats = let o = a.seats in omega (arith, o, s, seats);
        mark =
            let same : total (λ u. losses u.entries) (slice_set vs id w) ≡ total
            (λ u. losses u.entries) vs = omega (arith, l, lost) in
            one_same ∙ (a.mark ∙ ap (λ x. min x 1) (sym same));
        each = each_set vs id w a.each new;
      }

  -- no unit is left
  pub hands_end : (words words' : List ℕ) (vs : List Hand) (id : ℕ) (v : Hand) → AreHands b words vs
      → get_elem? vs id ≡ some v → v.ends < v.seats
      → b.units ≤ slice_index words 0 → slice_index words' 0 ≡ slice_index words 0 + 1
      → slice_index words' 1 ≡ slice_index words 1
      → AreHands b words' (slice_set vs id (with_end v))
  hands_end words words' vs id v a at open_end high zero_more one_same =
      let w = with_end v in
      let e = total_set (λ u. u.ends) vs id v w at in
      let s = total_set (λ u. u.seats) vs id v w at in
      let d = total_set (λ u. u.drawn) vs id v w at in
      let l = total_set (λ u. losses u.entries) vs id v w at in
      let h = a.each id v at in
      record {
        bound = let o = a.bound in omega (arith, o, e, zero_more);
        over = λ h. omega (arith, high, zero_more);
        drawn = let o = a.drawn in omega (arith, o, d, zero_more);
        seats = let o = a.seats in omega (arith, o, s);
        mark =
            let same : total (λ u. losses u.entries) (slice_set vs id w) ≡ total
            (λ u. losses u.entries) vs = omega (arith, l) in
            one_same ∙ (a.mark ∙ ap (λ x. min x 1) (sym same));
        each = each_set vs id w a.each (record {
          worker = h.worker;
          ends =
              omega (arith, open_end);
          done = h.done;
          within = h.within;
          spent = h.spent;
        });
      }

  -- an item is left
  pub hands_mark : (words words' : List ℕ) (vs : List Hand) (id : ℕ) (v w : Hand)
      → AreHands b words vs → get_elem? vs id ≡ some v → IsHand b w
      → w.ends ≡ v.ends → w.seats ≡ v.seats → w.drawn ≡ v.drawn
      → losses w.entries ≡ losses v.entries + 1
      → slice_index words' 0 ≡ slice_index words 0 → slice_index words' 1 ≡ 1
      → AreHands b words' (slice_set vs id w)
  hands_mark words words' vs id v w a at new ends seats draws lost zero_same one_is =
      let e = total_set (λ u. u.ends) vs id v w at in
      let s = total_set (λ u. u.seats) vs id v w at in
      let d = total_set (λ u. u.drawn) vs id v w at in
      let l = total_set (λ u. losses u.entries) vs id v w at in
      record {
        bound = let o = a.bound in omega (arith, o, e, ends, zero_same);
        over = λ h. let o = a.over (omega (arith, h, e, ends)) in omega (arith, o, zero_same);
        drawn = let o = a.drawn in omega (arith, o, d, draws, zero_same);
        seats = let o = a.seats in omega (arith, o, s, seats);
        mark =
            let one : 1 ≤ total (λ u. losses u.entries) (slice_set vs id w) =
            omega (arith, l, lost) in
            omega (arith, one_is, one);
        each = each_set vs id w a.each new;
      }
