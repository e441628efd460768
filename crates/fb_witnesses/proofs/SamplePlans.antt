-- A plan of a line of five real vertices.
use Rattle.std.proofs.Common.{ℕ, zero, suc, ◌≡◌, ◌+◌, ◌<◌, ◌⊎◌, inl, inr, true, false, Some, refl, arith}
use Rattle.std.specs.Prelude.{is_some}
use Rattle.std.proofs.lemmas.Bool.{le-ltb}
use Rattle.std.proofs.lemmas.List.Elements.{All-from_recursion}
use Rattle.fb_graph.specs.Limits.{is_real_in}
use Rattle.fb_plan.proofs.Trees.{names_cases}
use Rattle.fb_plan.specs.Plans.{IsJoin, IsPlan, goes_across, join_at, names, owner_of}
use Rattle.fb_witnesses.specs.SeamWitnesses.{PlanWitness, line_graph, line_plan}

joins_are : (i : ℕ) → i < 2 → IsJoin (3 + i) (join_at line_plan.joins i)
joins_are zero less = record { left = omega arith; right = omega arith; differ = λ e. omega (arith, e) }
joins_are (suc zero) less = record { left = omega arith; right = omega arith; differ = λ e. omega (arith, e) }
joins_are (suc (suc i)) less = absurd (omega arith)

owned : (v : ℕ) → is_some (owner_of line_plan v) ≡ is_real_in line_graph v
owned zero = refl
owned (suc zero) = refl
owned (suc (suc zero)) = refl
owned (suc (suc (suc zero))) = refl
owned (suc (suc (suc (suc zero)))) = refl
owned (suc (suc (suc (suc (suc zero))))) = refl
owned (suc (suc (suc (suc (suc (suc zero)))))) = refl
owned (suc (suc (suc (suc (suc (suc (suc v))))))) =
    rw (le-ltb (suc (suc (suc (suc (suc (suc (suc v))))))) 7 (omega arith)) refl

owners : (v n : ℕ) → owner_of line_plan v ≡ Some n → n < 5
owners zero n e = absurd cc
owners (suc zero) n e = let h : 0 ≡ n = cc in omega arith
owners (suc (suc zero)) n e = let h : 3 ≡ n = cc in omega arith
owners (suc (suc (suc zero))) n e = let h : 1 ≡ n = cc in omega arith
owners (suc (suc (suc (suc zero)))) n e = let h : 4 ≡ n = cc in omega arith
owners (suc (suc (suc (suc (suc zero))))) n e = let h : 2 ≡ n = cc in omega arith
owners (suc (suc (suc (suc (suc (suc zero)))))) n e = absurd cc
owners (suc (suc (suc (suc (suc (suc (suc v))))))) n e = absurd cc

-- no node is a child of both fusions
parted : (n : ℕ) → names (0, 1) n ≡ true → names (3, 2) n ≡ true → ⊥
parted n first second = step (names_cases (0, 1) n first) (names_cases (3, 2) n second)
  where
    step : (0 ≡ n) ⊎ (1 ≡ n) → (3 ≡ n) ⊎ (2 ≡ n) → ⊥
    step (inl a) (inl b) = omega (arith, a, b)
    step (inl a) (inr b) = omega (arith, a, b)
    step (inr a) (inl b) = omega (arith, a, b)
    step (inr a) (inr b) = omega (arith, a, b)

once : (i k n : ℕ) → i < 2 → k < 2 → names (join_at line_plan.joins i) n ≡ true
    → names (join_at line_plan.joins k) n ≡ true → i ≡ k
once zero zero n i_below k_below first second = refl
once (suc zero) (suc zero) n i_below k_below first second = refl
once zero (suc zero) n i_below k_below first second = absurd (parted n first second)
once (suc zero) zero n i_below k_below first second = absurd (parted n second first)
once (suc (suc i)) k n i_below k_below first second = absurd (omega arith)
once zero (suc (suc k)) n i_below k_below first second = absurd (omega arith)
once (suc zero) (suc (suc k)) n i_below k_below first second = absurd (omega arith)

plan_is : IsPlan line_graph line_plan
plan_is = record {
  tree = record { limit = omega arith; count = refl; joins = joins_are; once = once };
  count = refl;
  owned = owned;
  owners = owners;
  edges =
      All-from_recursion (λ e. goes_across line_plan e ≡ false) line_graph.edges
      (refl, (refl, (refl, (refl, (refl, (refl, tt))))));
}

pub plan_witness : PlanWitness
plan_witness = (plan_is, refl, refl, omega arith, refl, refl, refl, refl, refl, refl, refl, refl)
