-- Rising lists of numbers put together.
use Rattle.std.proofs.Common.{ℕ, ◌≡◌, ◌≢◌, ◌<◌, ◌||◌, ◌==◌, Bool, true, false, List, [], ◌∷◌, ◌++◌, All, append-nil, append_assoc, refl, sym, ap, ◌∙◌, subst, inl, inr, ◌⊎◌, take, drop, length, get_or}
use Rattle.std.proofs.lemmas.List.{take-append-drop}
use Rattle.std.specs.List.Sorted.{IsStrictlyIncreasing}
use Rattle.std.proofs.lemmas.List.Elements.{All-head, All-tail}
use Rattle.fb_graph.specs.Parity.{is_in}
use Rattle.fb_graph.proofs.Members.{is_in-append}
use Rattle.fb_graph.proofs.Sets.{is_in-head, is_in-tail, rising-cons, rising-nil, rising-one, rising-tail, rising_above}
use Rattle.fb_half.specs.InternalUnions.{AreMerging, IsRisingUnion}

head_below : (a b : ℕ) (bs : List ℕ) → IsStrictlyIncreasing (a ∷ b ∷ bs) → a < b
head_below a b bs rising = rising_above a (b ∷ bs) rising b (is_in-head b bs)

-- what is behind a rising list and above it
pub rising_behind : (us : List ℕ) (y : ℕ) (ys : List ℕ) → IsStrictlyIncreasing us → All (λ v. v < y) us → IsStrictlyIncreasing (y ∷ ys)
    → IsStrictlyIncreasing (us ++ y ∷ ys)
rising_behind [] y ys rising below rest = rest
rising_behind (a ∷ []) y ys rising below rest = rising-cons a y ys (All-head (λ v. v < y) a [] below) rest
rising_behind (a ∷ b ∷ us) y ys rising below rest =
    rising-cons a b (us ++ y ∷ ys) (head_below a b us rising)
    (rising_behind (b ∷ us) y ys (rising-tail a (b ∷ us) rising) (All-tail (λ v. v < y) a (b ∷ us) below) rest)

-- of two numbers that may follow, the lower one goes first
pub rising_between : (us : List ℕ) (x y : ℕ) (bs cs : List ℕ) → x < y → IsStrictlyIncreasing (us ++ x ∷ bs) → IsStrictlyIncreasing (us ++ y ∷ cs)
    → IsStrictlyIncreasing (us ++ x ∷ y ∷ cs)
rising_between [] x y bs cs less one two = rising-cons x y cs less two
rising_between (a ∷ []) x y bs cs less one two =
    rising-cons a x (y ∷ cs) (head_below a x bs one) (rising-cons x y cs less (rising-tail a (y ∷ cs) two))
rising_between (a ∷ b ∷ us) x y bs cs less one two =
    rising-cons a b (us ++ x ∷ y ∷ cs) (head_below a b (us ++ x ∷ bs) one)
    (rising_between (b ∷ us) x y bs cs less (rising-tail a (b ∷ us ++ x ∷ bs) one) (rising-tail a (b ∷ us ++ y ∷ cs) two))

-- a rising list without one of its numbers
pub rising_without : (us : List ℕ) (y : ℕ) (cs : List ℕ) → IsStrictlyIncreasing (us ++ y ∷ cs) → IsStrictlyIncreasing (us ++ cs)
rising_without [] y cs rising = rising-tail y cs rising
rising_without (a ∷ []) y [] rising = rising-one a
rising_without (a ∷ []) y (c ∷ cs) rising =
    rising-cons a c cs (rising_above a (y ∷ c ∷ cs) rising c (is_in-tail y (c ∷ cs) c (is_in-head c cs)))
    (rising-tail y (c ∷ cs) (rising-tail a (y ∷ c ∷ cs) rising))
rising_without (a ∷ b ∷ us) y cs rising =
    rising-cons a b (us ++ cs) (head_below a b (us ++ y ∷ cs) rising) (rising_without (b ∷ us) y cs (rising-tail a (b ∷ us ++ y ∷ cs) rising))

moved : (d x f s : Bool) → (((d || x) || f) || s) ≡ ((d || (x || f)) || s)
moved true x f s = refl
moved false x f s = refl

exchanged : (d x f s : Bool) → (((d || x) || f) || s) ≡ ((d || f) || (x || s))
exchanged true x f s = refl
exchanged false true true s = refl
exchanged false true false s = refl
exchanged false false f s = refl

twice : (d x f s : Bool) → ((d || (x || f)) || s) ≡ ((d || (x || f)) || (x || s))
twice true x f s = refl
twice false true f s = refl
twice false false f s = refl

or-false : (b : Bool) → (b || false) ≡ b
or-false true = refl
or-false false = refl

alone : (y v : ℕ) → is_in (y ∷ []) v ≡ (y == v)
alone y v = or-false (y == v)

-- nothing yet
pub unmerged : (done xs ys : List ℕ) → IsStrictlyIncreasing (done ++ xs) → IsStrictlyIncreasing (done ++ ys) → AreMerging (done ++ xs) ys done xs ys
unmerged done xs ys first second = record { first_rises = first; second_rises = second; members = λ v. refl }

module _ (xs ys done first second : List ℕ) where
  -- the lower number of the first list goes on
  pub first_pushed : (x y : ℕ) → x < y → AreMerging xs ys done (x ∷ first) (y ∷ second) → AreMerging xs ys (done ++ x ∷ []) first (y ∷ second)
  first_pushed x y less m = record {
    first_rises = subst IsStrictlyIncreasing (sym (append_assoc done (x ∷ []) first)) m.first_rises;
    second_rises =
        subst IsStrictlyIncreasing (sym (append_assoc done (x ∷ []) (y ∷ second)))
        (rising_between done x y first second less m.first_rises m.second_rises);
    members = λ v. ap (λ l. is_in l v || is_in (y ∷ second) v) (append_assoc done (x ∷ []) first) ∙ m.members v;
  }

  -- or that of the second
  pub second_pushed : (x y : ℕ) → y < x → AreMerging xs ys done (x ∷ first) (y ∷ second) → AreMerging xs ys (done ++ y ∷ []) (x ∷ first) second
  second_pushed x y less m = record {
    first_rises =
        subst IsStrictlyIncreasing (sym (append_assoc done (y ∷ []) (x ∷ first)))
        (rising_between done y x second first less m.second_rises m.first_rises);
    second_rises = subst IsStrictlyIncreasing (sym (append_assoc done (y ∷ []) second)) m.second_rises;
    members = λ v.
        ap (λ b. b || is_in second v) (is_in-append (done ++ y ∷ []) (x ∷ first) v ∙ ap (λ b. b || is_in (x ∷ first) v) (is_in-append done (y ∷ []) v ∙ ap (λ b. is_in done v || b) (alone y v)))
        ∙ (exchanged (is_in done v) (y == v) (is_in (x ∷ first) v) (is_in second v)
        ∙ (ap (λ b. b || is_in (y ∷ second) v) (sym (is_in-append done (x ∷ first) v)) ∙ m.members v));
  }

  -- a number of both is left out once
  pub both_passed : (x y : ℕ) → x ≡ y → AreMerging xs ys done (x ∷ first) (y ∷ second) → AreMerging xs ys done (x ∷ first) second
  both_passed x y same m = record {
    first_rises = m.first_rises;
    second_rises = rising_without done y second m.second_rises;
    members = λ v.
        ap (λ b. b || is_in second v) (is_in-append done (x ∷ first) v ∙ ap (λ z. is_in done v || (z == v || is_in first v)) same)
        ∙ (twice (is_in done v) (y == v) (is_in first v) (is_in second v)
        ∙ (ap (λ z. (is_in done v || (z == v || is_in first v)) || is_in (y ∷ second) v) (sym same)
        ∙ (ap (λ b. b || is_in (y ∷ second) v) (sym (is_in-append done (x ∷ first) v)) ∙ m.members v)));
  }

  -- where one of them has nothing left, the other one's rest ends the list
  pub merged_whole : ((first ≡ []) ⊎ (second ≡ [])) → AreMerging xs ys done first second → IsRisingUnion xs ys ((done ++ first) ++ second)
  merged_whole over m = record {
    rising = rises over;
    members = λ v. is_in-append (done ++ first) second v ∙ m.members v;
  }
    where
      rises : (first ≡ []) ⊎ (second ≡ []) → IsStrictlyIncreasing ((done ++ first) ++ second)
      rises (inl none) =
          subst (λ l. IsStrictlyIncreasing ((done ++ l) ++ second)) (sym none)
          (subst (λ l. IsStrictlyIncreasing (l ++ second)) (sym (append-nil done)) m.second_rises)
      rises (inr none) =
          subst (λ l. IsStrictlyIncreasing ((done ++ first) ++ l)) (sym none)
          (subst IsStrictlyIncreasing (sym (append-nil (done ++ first))) m.first_rises)

-- the first part of a rising list
pub rising_front : (us vs : List ℕ) → IsStrictlyIncreasing (us ++ vs) → IsStrictlyIncreasing us
rising_front [] vs rising = rising-nil
rising_front (u ∷ []) vs rising = rising-one u
rising_front (u ∷ w ∷ us) vs rising =
    rising-cons u w us (head_below u w (us ++ vs) rising) (rising_front (w ∷ us) vs (rising-tail u (w ∷ us ++ vs) rising))

-- a rising list in which the numbers from a place on have made way for others, which are above those before it
pub rising_replaced : (xs : List ℕ) (i : ℕ) (ys : List ℕ) → IsStrictlyIncreasing xs → length ys ≢ 0 → All (λ v. v < get_or ys 0 0) (take i xs)
    → IsStrictlyIncreasing ys → IsStrictlyIncreasing (take i xs ++ ys)
rising_replaced xs i [] rising some below rest = absurd (some refl)
rising_replaced xs i (y ∷ ys) rising some below rest =
    rising_behind (take i xs) y ys (rising_front (take i xs) (drop i xs) (subst IsStrictlyIncreasing (sym (take-append-drop i xs)) rising)) below rest

-- nothing added
pub union_with_none : (xs ys : List ℕ) → IsStrictlyIncreasing xs → ys ≡ [] → IsRisingUnion xs ys xs
union_with_none xs ys rising none = record { rising = rising; members = λ v. sym (ap (λ l. is_in xs v || is_in l v) none ∙ or-false (is_in xs v)) }
