-- Names taken off a list: what stays is the same by the law's filter and in the code's order.
use Rattle.std.proofs.Common.{ℕ, ◌≡◌, ◌==◌, ◌+◌, ◌≤◌, ◌||◌, ◌&&◌, ◌⊎◌, inl, inr, not, false, List, [], ◌∷◌, ◌++◌, length, sym, ap, subst, ◌∙◌, arith}
use Rattle.std.proofs.Math.Bool.{and-true, and-false}
use Rattle.std.specs.List.Sorted.{IsPermutation}
use Rattle.std.proofs.lemmas.Bool.{cases_eq, eq-eqb, false≢true, ne_eqb}
use Rattle.std.proofs.lemmas.List.Sorted.{IsPermutation-cons, IsPermutation-middle, IsPermutation-refl, IsPermutation-sym, IsPermutation-trans, length_permutation}
use Rattle.fb_graph.specs.Parity.{is_in}
use Rattle.fb_graph.specs.Certificate.{AreDistinct}
use Rattle.fb_graph.proofs.Sets.{distinct-filter, is_in-filter, is_in-head}
use Rattle.fb_laws.specs.Works.{names_without}
use Rattle.fb_laws.proofs.OpenedBlossoms.{distinct_permuted, same_permuted}
use Rattle.fb_laws.proofs.CycleWays.{split_in}

-- distinct lists with the same elements differ in their order alone
pub same_members : (xs ys : List ℕ) → AreDistinct xs → AreDistinct ys → ((v : ℕ) → is_in xs v ≡ is_in ys v) → IsPermutation xs ys
same_members [] [] first second same = IsPermutation-refl []
same_members [] (y ∷ ys) first second same = absurd (false≢true (same y ∙ is_in-head y ys))
same_members (x ∷ xs) ys (new, first) second same =
    let (b, a, is) = split_in ys x (sym (same x) ∙ is_in-head x xs) in
    let moved : IsPermutation ys (x ∷ (b ++ a)) = subst (λ l. IsPermutation l (x ∷ (b ++ a))) (sym is) (IsPermutation-middle b x a) in
    let apart : AreDistinct (x ∷ (b ++ a)) = distinct_permuted ys (x ∷ (b ++ a)) moved second in
    let alike : (v : ℕ) → is_in (x ∷ xs) v ≡ is_in (x ∷ (b ++ a)) v = λ v. same v ∙ sym (same_permuted ys (x ∷ (b ++ a)) moved v) in
    IsPermutation-trans _ _ _
    (IsPermutation-cons x xs (b ++ a) (same_members xs (b ++ a) first apart.1 (λ v. beside (b ++ a) apart.0 v (alike v) (cases_eq x v))))
    (IsPermutation-sym _ _ moved)
  where
    beside : (others : List ℕ) → is_in others x ≡ false → (v : ℕ) → is_in (x ∷ xs) v ≡ is_in (x ∷ others) v
        → (x ≡ v) ⊎ (x ≡ v → ⊥) → is_in xs v ≡ is_in others v
    beside others out v both (inl e) = ap (is_in xs) (sym e) ∙ (new ∙ (sym out ∙ ap (is_in others) e))
    beside others out v both (inr ne) =
        sym (ap (λ t. t || is_in xs v) (ne_eqb x v ne)) ∙ (both ∙ ap (λ t. t || is_in others v) (ne_eqb x v ne))

-- an element taken off a distinct list
pub without_taken : (name : ℕ) (names rest : List ℕ) → AreDistinct names → IsPermutation names (name ∷ rest)
    → IsPermutation (names_without name names) rest
without_taken name names rest distinct moved =
    same_members (names_without name names) rest (distinct-filter (λ n. not (n == name)) names distinct) apart.1
    (λ v. is_in-filter (λ n. not (n == name)) names v ∙ by v (cases_eq v name))
  where
    apart : (is_in rest name ≡ false) × AreDistinct rest
    apart = distinct_permuted names (name ∷ rest) moved distinct

    by : (v : ℕ) → (v ≡ name) ⊎ (v ≡ name → ⊥) → (is_in names v && not (v == name)) ≡ is_in rest v
    by v (inl e) =
        ap (λ t. is_in names v && not t) (eq-eqb v name e) ∙ (and-false (is_in names v) ∙ (sym apart.0 ∙ ap (is_in rest) (sym e)))
    by v (inr ne) =
        ap (λ t. is_in names v && not t) (ne_eqb v name ne)
        ∙ (and-true (is_in names v)
        ∙ (sym (same_permuted names (name ∷ rest) moved v) ∙ ap (λ t. t || is_in rest v) (ne_eqb name v (λ e. ne (sym e)))))

-- at most two elements taken off a list
pub one_taken : (name : ℕ) (names rest : List ℕ) → IsPermutation names (name ∷ rest) → length names ≤ length rest + 2
one_taken name names rest moved = omega (arith, length_permutation names (name ∷ rest) moved)

pub two_taken : (first second : ℕ) (names between rest : List ℕ) → IsPermutation names (first ∷ between)
    → IsPermutation between (second ∷ rest) → length names ≤ length rest + 2
two_taken first second names between rest one two =
    omega (arith, length_permutation names (first ∷ between) one, length_permutation between (second ∷ rest) two)
