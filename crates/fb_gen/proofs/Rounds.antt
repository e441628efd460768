-- Where the units of a plan by time begin, and which node has a round.
use Rattle.std.proofs.Common.{◌≡◌, ℕ, zero, suc, ◌+◌, ◌*◌, ◌/◌, ◌%◌, ◌<◌, ◌≤◌, ◌⊎◌, inl, inr, min, List, [], ◌∷◌, ◌++◌, length, map, take, get_or, sym, ap, ◌∙◌, arith, add-one}
use Rattle.std.specs.List.{range_with_len}
use Rattle.std.proofs.Math.Nat.{div-add-mod}
use Rattle.std.proofs.lemmas.Bool.{cases_lt, lt-ltb, le-ltb}
use Rattle.std.proofs.lemmas.List.{map-append, map_more}
use Rattle.fb_graph.proofs.BuildSteps.{range_push}
use Rattle.fb_gen.specs.TimePlan.{shared_rounds, rounds_of_unit, first_round}
use Rattle.fb_gen.specs.InternalSharing.{IsShared}

-- each unit has a round
pub round_of_unit : (t u j : ℕ) → IsShared t u → 1 ≤ rounds_of_unit t u j
round_of_unit t u j shared = omega (arith, some)
  where
    some : 1 ≤ shared_rounds t u / u
    some = step (cases_lt 0 (shared_rounds t u / u))
      where
        step : (0 < shared_rounds t u / u) ⊎ (shared_rounds t u / u ≤ 0) → 1 ≤ shared_rounds t u / u
        step (inl more) = omega arith
        step (inr none) =
            let nothing : shared_rounds t u / u ≡ 0 = omega arith in
            let whole : u * 0 + shared_rounds t u % u ≡ shared_rounds t u = ap (λ q. u * q + shared_rounds t u % u) (sym nothing) ∙ div-add-mod (shared_rounds t u) u in
            absurd (omega (arith, whole, shared.positive, shared.enough))

pub first_suc : (t u j : ℕ) → first_round t u (j + 1) ≡ first_round t u j + rounds_of_unit t u j + 1
first_suc t u j = ap (first_round t u) (add-one j)

-- each unit begins at least two rounds after the one before it
pub first_later : (t u j k : ℕ) → IsShared t u → j < k → first_round t u j + 2 ≤ first_round t u k
first_later t u j zero shared less = absurd (omega arith)
first_later t u j (suc k) shared less = elim (cases_lt j k) [
  | inl before ↦ omega (arith, first_later t u j k shared before)
  | inr here ↦
      let same : j ≡ k = omega arith in
      let some : 1 ≤ rounds_of_unit t u k = round_of_unit t u k shared in
      rw same (omega arith)
]

-- the first round of a unit by arithmetic
pub first_closed : (t u j : ℕ)
    → first_round t u j ≡ j * (shared_rounds t u / u + 1) + min j (shared_rounds t u % u)
first_closed t u zero = omega arith
first_closed t u (suc j) = elim (cases_lt j (shared_rounds t u % u)) [
  | inl more ↦ rw (lt-ltb j (shared_rounds t u % u) more) (omega (arith, first_closed t u j))
  | inr even ↦ rw (le-ltb j (shared_rounds t u % u) even) (omega (arith, first_closed t u j))
]

-- after the last unit all rounds are given
pub first_after_all : (t u : ℕ) → IsShared t u → first_round t u u ≡ t + 1
first_after_all t u shared =
    omega (arith, first_closed t u u, div-add-mod (shared_rounds t u) u, shared.positive, shared.enough)

pub first_within : (t u j : ℕ) → IsShared t u → j < u → first_round t u j < t
first_within t u j shared less = omega (arith, first_later t u j u shared less, first_after_all t u shared)

-- no unit begins after the last round's end, but that which would come after the last one
pub first_bound : (t u j : ℕ) → IsShared t u → j ≤ u → first_round t u j ≤ t + 1
first_bound t u j shared le = elim (cases_lt j u) [
  | inl less ↦ omega (arith, first_within t u j shared less)
  | inr last ↦ let same : j ≡ u = omega arith in rw same (omega (arith, first_after_all t u shared))
]

map-range_more : {A : Type 0} (f : ℕ → A) (n : ℕ) → map f (range_with_len 0 (n + 1)) ≡ map f (range_with_len 0 n) ++ f n ∷ []
map-range_more f n =
    ap (λ m. map f (range_with_len 0 m)) (add-one n)
    ∙ ap (map f) (range_push 0 n)
    ∙ map-append f (range_with_len 0 n) ((0 + n) ∷ [])
    ∙ ap (λ m. map f (range_with_len 0 n) ++ f m ∷ []) (omega arith)

-- one more element, as one more number gives
pub pushed_more : {X A : Type 0} (g : X → A) (f : ℕ → A) (n : ℕ) (found more : List X) (x : X) → more ≡ found ++ x ∷ []
    → map g found ≡ map f (range_with_len 0 n) → g x ≡ f n → map g more ≡ map f (range_with_len 0 (n + 1))
pushed_more g f n found more x e told is =
    ap (map g) e
    ∙ map-append g found (x ∷ [])
    ∙ ap (λ ys. ys ++ g x ∷ []) told
    ∙ ap (λ y. map f (range_with_len 0 n) ++ y ∷ []) is
    ∙ sym (map-range_more f n)

-- one more element, as one more of a list gives
pub pushed_after : {X Y A : Type 0} (g : X → A) (f : Y → A) (ys : List Y) (i : ℕ) (d : Y) → i < length ys
    → (found more : List X) (x : X) → more ≡ found ++ x ∷ [] → map g found ≡ map f (take i ys) → g x ≡ f (get_or ys i d)
    → map g more ≡ map f (take (i + 1) ys)
pushed_after g f ys i d less found more x e told is =
    ap (map g) e
    ∙ map-append g found (x ∷ [])
    ∙ ap (λ zs. zs ++ g x ∷ []) told
    ∙ ap (λ y. map f (take i ys) ++ y ∷ []) is
    ∙ sym (map_more f ys i d less)
