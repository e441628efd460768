-- Parts read as digits.
use Rattle.std.proofs.Common.{ℕ, ◌≡◌, ◌+◌, ◌*◌, ◌≤◌, ◌<◌, ◌⊎◌, inl, inr, suc, true, false, List, [], ◌∷◌, length, All, count_by, refl, ap, ◌∙◌, arith}
use Rattle.std.proofs.lemmas.Bool.{false≢true}
use Rattle.std.proofs.lemmas.List.Elements.{All-head, All-tail}
use Rattle.std.proofs.lemmas.List.Sums.{sum_by-cons}
use Rattle.std.proofs.Math.Nat.{mul-le-mul_right}
use Rattle.fb_graph.specs.Parity.{is_in}
use Rattle.fb_graph.proofs.Sets.{is_in-cases}
use Rattle.fb_graph.proofs.Booleans.{as_count-mono}
use Rattle.fb_graph.proofs.Sums.{count_by-le}
use Rattle.fb_graph.specs.Counts.{as_count}
use Rattle.fb_laws.specs.Measures.{scale_of, rank_of, IsLower, RankFalls, CountFalls}

rank-le : (bound : ℕ) (xs : List ℕ) → All (λ x. x < bound) xs → rank_of bound xs + 1 ≤ scale_of bound xs
rank-le bound [] below = omega arith
rank-le bound (x ∷ xs) below =
    let less : x + 1 ≤ bound = (let h : x < bound = All-head (λ y. y < bound) x xs below in omega arith) in
    let grown : (x + 1) * scale_of bound xs ≤ bound * scale_of bound xs = mul-le-mul_right (scale_of bound xs) less in
    omega (arith, grown, rank-le bound xs (All-tail (λ y. y < bound) x xs below))

same_scale : (bound : ℕ) (xs ys : List ℕ) → length xs ≡ length ys → scale_of bound xs ≡ scale_of bound ys
same_scale bound [] [] same = refl
same_scale bound (x ∷ xs) (y ∷ ys) same =
    ap (λ n. bound * n) (same_scale bound xs ys (let h : suc (length xs) ≡ suc (length ys) = same in omega arith))
same_scale bound [] (y ∷ ys) same = let h : 0 ≡ suc (length ys) = same in absurd (omega arith)
same_scale bound (x ∷ xs) [] same = let h : suc (length xs) ≡ 0 = same in absurd (omega arith)

pub rank_falls : RankFalls
rank_falls bound [] before same below lower = absurd lower
rank_falls bound (x ∷ xs) [] same below lower = absurd lower
rank_falls bound (x ∷ xs) (y ∷ ys) same below lower = step lower (rank_falls bound xs ys tails rest)
  where
    tails : length xs ≡ length ys
    tails = let h : suc (length xs) ≡ suc (length ys) = same in omega arith

    rest : All (λ z. z < bound) xs
    rest = All-tail (λ z. z < bound) x xs below

    step : (x < y) ⊎ ((x ≤ y) × IsLower xs ys) → (IsLower xs ys → rank_of bound xs < rank_of bound ys)
        → x * scale_of bound xs + rank_of bound xs < y * scale_of bound ys + rank_of bound ys
    step (inl less) ih =
        let next : x + 1 ≤ y = omega arith in
        let grown : (x + 1) * scale_of bound xs ≤ y * scale_of bound xs = mul-le-mul_right (scale_of bound xs) next in
        omega (arith, grown, rank-le bound xs rest, ap (λ n. y * n) (same_scale bound xs ys tails))
    step (inr (le, lower_)) ih =
        let grown : x * scale_of bound xs ≤ y * scale_of bound xs = mul-le-mul_right (scale_of bound xs) le in
        omega (arith, grown, ih lower_, ap (λ n. y * n) (same_scale bound xs ys tails))

pub count_falls : CountFalls
count_falls test before [] x narrower within out old = absurd (false≢true within)
count_falls test before (y ∷ ys) x narrower within out old =
    step (is_in-cases y ys x within) (count_falls test before ys x narrower)
  where
    step : (y ≡ x) ⊎ (is_in ys x ≡ true)
        → (is_in ys x ≡ true → test x ≡ false → before x ≡ true → count_by test ys < count_by before ys)
        → count_by test (y ∷ ys) < count_by before (y ∷ ys)
    step (inl e) ih =
        omega (
          arith,
          sum_by-cons (λ z. as_count (test z)) y ys,
          sum_by-cons (λ z. as_count (before z)) y ys,
          count_by-le test before ys narrower,
          ap as_count (ap test e ∙ out),
          ap as_count (ap before e ∙ old),
        )
    step (inr h) ih =
        omega (
          arith,
          sum_by-cons (λ z. as_count (test z)) y ys,
          sum_by-cons (λ z. as_count (before z)) y ys,
          ih h out old,
          as_count-mono (test y) (before y) (narrower y),
        )
