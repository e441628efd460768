-- The place of a node by its name, as nodes come and go.
use Rattle.std.proofs.Common.{ℕ, zero, suc, ◌≡◌, ◌+◌, ◌<◌, ◌==◌, ◌||◌, cond, not, nat_lt, Bool, true, false, List, [], ◌∷◌, ◌++◌, length, map, set, drop, get_or, Option, Some, None, refl, sym, ap, ◌∙◌, subst, arith}
use Rattle.std.specs.List.{position, position_or_len, remove}
use Rattle.std.specs.Prelude.{option_map}
use Rattle.std.proofs.lemmas.Grind.{common_steps}
use Rattle.std.proofs.lemmas.Bool.{both_ways, false≢true, false_from_ne_true, eq-eqb, eqb-true, or_left, or_parts, or_right}
use Rattle.std.proofs.Math.Seq.{take-nil}
use Rattle.fb_graph.specs.Parity.{is_in}
use Rattle.fb_graph.specs.Certificate.{AreDistinct}
use Rattle.fb_regions.specs.declared.region.Region.{Region}

abbrev pub names : List Region → List ℕ
names rs = map (λ r. r.name) rs

-- the place of the first node of this name
abbrev pub placed : ℕ → List Region → Option ℕ
placed k rs = position (λ r. r.name == k) rs

abbrev chosen : ℕ → ℕ → Option ℕ
chosen i n = cond (nat_lt i n) (Some i) None

abbrev first : ℕ → List Region → ℕ
first k rs = position_or_len (λ r. r.name == k) rs

chosen_next : (i n : ℕ) → chosen (1 + i) (suc n) ≡ option_map suc (chosen i n)
chosen_next i n = grind (arith, common_steps)

pub placed_here : (r : Region) (rs : List Region) (k : ℕ) → (r.name == k) ≡ true → placed k (r ∷ rs) ≡ Some 0
placed_here r rs k e =
    ap (λ b. chosen (cond (not b) (1 + first k rs) 0) (suc (length rs))) e ∙ grind (arith, common_steps)

pub placed_past : (r : Region) (rs : List Region) (k : ℕ) → (r.name == k) ≡ false → placed k (r ∷ rs) ≡ option_map suc (placed k rs)
placed_past r rs k e =
    ap (λ b. chosen (cond (not b) (1 + first k rs) 0) (suc (length rs))) e ∙ chosen_next (first k rs) (length rs)

pub first_placed : (rs : List Region) (k i : ℕ) → placed k rs ≡ Some i → (i < length rs) × (first k rs ≡ i)
first_placed rs k i e =
    let at : first k rs ≡ i = grind (arith, common_steps) in
    let inside : i < length rs = grind (arith, common_steps) in
    (inside, at)

placed_cons : (r s : Region) (rs ss : List Region) (k : ℕ) → r.name ≡ s.name → placed k rs ≡ placed k ss → placed k (r ∷ rs) ≡ placed k (s ∷ ss)
placed_cons r s rs ss k named rest = by (r.name == k) refl
  where
    by : (b : Bool) → (r.name == k) ≡ b → placed k (r ∷ rs) ≡ placed k (s ∷ ss)
    by true e = placed_here r rs k e ∙ sym (placed_here s ss k (ap (λ n. n == k) (sym named) ∙ e))
    by false e = placed_past r rs k e ∙ (ap (option_map suc) rest ∙ sym (placed_past s ss k (ap (λ n. n == k) (sym named) ∙ e)))

pub not_placed : (rs : List Region) (k : ℕ) → is_in (names rs) k ≡ false → placed k rs ≡ None
not_placed [] k out = refl
not_placed (r ∷ rs) k out =
    let parts = or_parts (r.name == k) (is_in (names rs) k) out in
    placed_past r rs k parts.0 ∙ ap (option_map suc) (not_placed rs k parts.1)

pub placed_known : (rs : List Region) (k i : ℕ) → placed k rs ≡ Some i → is_in (names rs) k ≡ true
placed_known rs k i at = by (is_in (names rs) k) refl
  where
    by : (b : Bool) → is_in (names rs) k ≡ b → b ≡ true
    by true e = refl
    by false e = absurd (let clash : None ≡ Some i = sym (not_placed rs k e) ∙ at in cc)

-- a node of this name is found
pub known_placed : (rs : List Region) (k : ℕ) → is_in (names rs) k ≡ true → (i : ℕ) × (placed k rs ≡ Some i)
known_placed [] k h = absurd (false≢true h)
known_placed (r ∷ rs) k h = by (r.name == k) refl h (known_placed rs k)
  where
    by : (b : Bool) → (r.name == k) ≡ b → is_in (names (r ∷ rs)) k ≡ true → (is_in (names rs) k ≡ true → (i : ℕ) × (placed k rs ≡ Some i))
        → (i : ℕ) × (placed k (r ∷ rs) ≡ Some i)
    by true e h' rest = (0, placed_here r rs k e)
    by false e h' rest =
        let (i, at) = rest (sym (ap (λ b. b || is_in (names rs) k) e) ∙ h') in
        (suc i, placed_past r rs k e ∙ ap (option_map suc) at)

pub placed_push_own : (rs : List Region) (new : Region) → is_in (names rs) new.name ≡ false → placed new.name (rs ++ new ∷ []) ≡ Some (length rs)
placed_push_own [] new out = placed_here new [] new.name (eq-eqb new.name new.name refl)
placed_push_own (r ∷ rs) new out =
    let parts = or_parts (r.name == new.name) (is_in (names rs) new.name) out in
    placed_past r (rs ++ new ∷ []) new.name parts.0 ∙ ap (option_map suc) (placed_push_own rs new parts.1)

pub placed_push : (rs : List Region) (new : Region) (k : ℕ) → (new.name == k) ≡ false → placed k (rs ++ new ∷ []) ≡ placed k rs
placed_push [] new k other = placed_past new [] k other
placed_push (r ∷ rs) new k other = placed_cons r r (rs ++ new ∷ []) rs k refl (placed_push rs new k other)

pub placed_set : (rs : List Region) (i k : ℕ) (old new : Region) → old ≡ get_or rs i old → i < length rs → new.name ≡ old.name
    → placed k (set rs i new) ≡ placed k rs
placed_set [] i k old new at less named = absurd (omega arith)
placed_set (r ∷ rs) zero k old new at less named = placed_cons new r rs rs k (named ∙ ap (λ y. y.name) at) refl
placed_set (r ∷ rs) (suc i) k old new at less named = placed_cons r r (set rs i new) rs k refl (placed_set rs i k old new at (omega arith) named)

pub placed_mapped : (f : Region → Region) → ((r : Region) → (f r).name ≡ r.name) → (rs : List Region) (k : ℕ) → placed k (map f rs) ≡ placed k rs
placed_mapped f named [] k = refl
placed_mapped f named (r ∷ rs) k = placed_cons (f r) r (map f rs) rs k (named r) (placed_mapped f named rs k)

pub name_known : (rs : List Region) (i : ℕ) (r : Region) → r ≡ get_or rs i r → i < length rs → is_in (names rs) r.name ≡ true
name_known [] i r at less = absurd (omega arith)
name_known (x ∷ rs) zero r at less = or_left (x.name == r.name) (is_in (names rs) r.name) (eq-eqb x.name r.name (ap (λ y. y.name) (sym at)))
name_known (x ∷ rs) (suc i) r at less = or_right (x.name == r.name) (is_in (names rs) r.name) (name_known rs i r at (omega arith))

-- where names are distinct
pub other_name : (x : Region) (rs : List Region) (k : ℕ) → is_in (names rs) x.name ≡ false → is_in (names rs) k ≡ true → (x.name == k) ≡ false
other_name x rs k out known =
    false_from_ne_true (x.name == k) (λ e. both_ways (is_in (names rs) x.name) out (ap (is_in (names rs)) (eqb-true x.name k e) ∙ known))

pub placed_own : (rs : List Region) (i : ℕ) (r : Region) → AreDistinct (names rs) → r ≡ get_or rs i r → i < length rs → placed r.name rs ≡ Some i
placed_own [] i r distinct at less = absurd (omega arith)
placed_own (x ∷ rs) zero r distinct at less = placed_here x rs r.name (eq-eqb x.name r.name (ap (λ y. y.name) (sym at)))
placed_own (x ∷ rs) (suc i) r distinct at less =
    placed_past x rs r.name (other_name x rs r.name distinct.0 (name_known rs i r at (omega arith)))
    ∙ ap (option_map suc) (placed_own rs i r distinct.1 at (omega arith))

-- a node taken away
pub removed_out : (rs : List Region) (i : ℕ) (k : ℕ) → is_in (names rs) k ≡ false → is_in (names (remove rs i)) k ≡ false
removed_out [] i k out = ap (λ l. is_in (names (l ++ [])) k) (take-nil i)
removed_out (r ∷ rs) zero k out = (or_parts (r.name == k) (is_in (names rs) k) out).1
removed_out (r ∷ rs) (suc i) k out =
    let parts = or_parts (r.name == k) (is_in (names rs) k) out in
    ap (λ b. b || is_in (names (remove rs i)) k) parts.0 ∙ removed_out rs i k parts.1

pub removed_own : (rs : List Region) (i : ℕ) (old : Region) → AreDistinct (names rs) → old ≡ get_or rs i old → i < length rs
    → is_in (names (remove rs i)) old.name ≡ false
removed_own [] i old distinct at less = absurd (omega arith)
removed_own (r ∷ rs) zero old distinct at less = ap (λ y. is_in (names rs) y.name) at ∙ distinct.0
removed_own (r ∷ rs) (suc i) old distinct at less =
    ap (λ b. b || is_in (names (remove rs i)) old.name) (other_name r rs old.name distinct.0 (name_known rs i old at (omega arith)))
    ∙ removed_own rs i old distinct.1 at (omega arith)

pub removed_distinct : (rs : List Region) (i : ℕ) → AreDistinct (names rs) → AreDistinct (names (remove rs i))
removed_distinct [] i distinct = subst (λ l. AreDistinct (names (l ++ []))) (sym (take-nil i)) tt
removed_distinct (r ∷ rs) zero distinct = distinct.1
removed_distinct (r ∷ rs) (suc i) distinct = (removed_out rs i r.name distinct.0, removed_distinct rs i distinct.1)

pub placed_removed : (rs : List Region) (i k : ℕ) (old : Region) → old ≡ get_or rs i old → i < length rs → (old.name == k) ≡ false
    → is_in (names (drop i (remove rs i))) k ≡ false → placed k rs ≡ placed k (remove rs i)
placed_removed [] i k old at less other out = absurd (omega arith)
placed_removed (r ∷ rs) zero k old at less other out =
    placed_past r rs k (ap (λ y. y.name == k) (sym at) ∙ other) ∙ (ap (option_map suc) (not_placed rs k out) ∙ sym (not_placed rs k out))
placed_removed (r ∷ rs) (suc i) k old at less other out =
    placed_cons r r rs (remove rs i) k refl (placed_removed rs i k old at (omega arith) other out)
