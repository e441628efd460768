-- Sets apart from one another, taken together.
use Rattle.std.proofs.Common.{ℕ, ◌≡◌, ◌%◌, Bool, true, false, List, [], ◌∷◌, ◌++◌, length, All, refl, ap, ◌∙◌, arith}
use Rattle.std.specs.List.{concat}
use Rattle.std.proofs.lemmas.Bool.{or_from}
use Rattle.std.proofs.lemmas.List.Elements.{All-head, All-tail}
use Rattle.fb_graph.specs.Parity.{differ, is_odd_count, is_in}
use Rattle.fb_graph.specs.Certificate.{AreDistinct}
use Rattle.fb_graph.specs.Dual.{AreApart}
use Rattle.fb_graph.proofs.Members.{is_in-append}
use Rattle.fb_graph.proofs.Sets.{is_in-head, is_in-tail}
use Rattle.fb_graph.proofs.ParitySums.{odd-append, differ-false}
use Rattle.fb_graph.specs.Ends.{AreAllApart}
use Rattle.fb_graph.proofs.EndSums.{apart_union}

pub distinct_append : (xs ys : List ℕ) → AreDistinct xs → AreDistinct ys → AreApart xs ys → AreDistinct (xs ++ ys)
distinct_append [] ys d e apart = e
distinct_append (x ∷ xs) ys d e apart = (
  is_in-append xs ys x ∙ or_from (is_in xs x) (is_in ys x) d.0 (apart x (is_in-head x xs)),
  distinct_append xs ys d.1 e (λ v h. apart v (is_in-tail x xs v h)),
)

pub distinct_union : (sets : List (List ℕ)) → All AreDistinct sets → AreAllApart sets → AreDistinct (concat sets)
distinct_union [] all apart = tt
distinct_union (s ∷ ss) all apart =
    distinct_append s (concat ss) (All-head AreDistinct s ss all) (distinct_union ss (All-tail AreDistinct s ss all) apart.1)
    (apart_union s ss apart.0)

-- an odd number of sets, each with an odd number of members that pass the test, have an odd number together
pub odd_union : (test : ℕ → Bool) (sets : List (List ℕ)) → length sets % 2 ≡ 1 → All (λ s. is_odd_count test s ≡ true) sets
    → is_odd_count test (concat sets) ≡ true
odd_union test [] odd all = absurd (omega arith)
odd_union test (s ∷ []) odd all =
    odd-append test s [] ∙ (differ-false (is_odd_count test s) ∙ All-head (λ x. is_odd_count test x ≡ true) s [] all)
odd_union test (s ∷ t ∷ ss) odd all =
    odd-append test s (t ++ concat ss)
    ∙ (ap (λ b. differ b (is_odd_count test (t ++ concat ss))) (All-head Odd s (t ∷ ss) all)
    ∙ (ap (differ true) (odd-append test t (concat ss) ∙ ap (λ b. differ b (is_odd_count test (concat ss))) (All-head Odd t ss (All-tail Odd s (t ∷ ss) all)))
    ∙ (twice (is_odd_count test (concat ss)) ∙ odd_union test ss (omega arith) (All-tail Odd t ss (All-tail Odd s (t ∷ ss) all)))))
  where
    Odd : List ℕ → Type 0
    Odd x = is_odd_count test x ≡ true

    twice : (b : Bool) → differ true (differ true b) ≡ b
    twice true = refl
    twice false = refl
