use Rattle.std.proofs.Common.{ℕ, ◌≡◌, ◌+◌, ◌<◌, ◌∙◌, ◌++◌, List, [], ◌∷◌, inl, inr, ap, get_or, length, length-append, sym, arith}
use Rattle.std.proofs.lemmas.Bool.{cases_lt}
use Rattle.std.proofs.lemmas.List.{get_or_append_left, get_or_push}
use Rattle.fb_gen.specs.TimePlan.{first_round}
use Rattle.fb_gen.proofs.Rounds.{first_bound, first_suc}
use Rattle.fb_gen.proofs.shares.first_rounds.Goals as goal

-- the first rounds of one more unit
firsts_more : (t u : ℕ) (firsts : List ℕ) (j first : ℕ) → length firsts ≡ j + 1 → first ≡ first_round t u (j + 1)
    → ((k : ℕ) → k < j + 1 → get_or firsts k 0 ≡ first_round t u k)
    → (k : ℕ) → k < j + 1 + 1 → get_or (firsts ++ first ∷ []) k 0 ≡ first_round t u k
firsts_more t u firsts j first count is told k low =
    elim (cases_lt k (j + 1)) [
      | inl less ↦ get_or_append_left firsts (first ∷ []) 0 k (omega (arith, less, count)) ∙ told k less
      | inr above ↦
          let same : k ≡ j + 1 = omega (arith, low, above) in
          get_or_push firsts first 0 k (omega (arith, count, same)) ∙ (is ∙ ap (first_round t u) (sym same))
    ]

pub overflow_add-first-in-loop-j : goal.overflow_add-first-in-loop-j
overflow_add-first-in-loop-j c =
    omega (
      arith,
      c.loop-j.invariant.1,
      first_bound c.args.rounds c.args.units c.loop-j.j c.requires.shared (omega arith),
    )

pub loop-j-preserved : goal.loop-j-preserved
loop-j-preserved c =
    let first : c.loop-j.first + (c.rounds_of_unit.result + 1) ≡ first_round c.args.rounds c.args.units (c.loop-j.j + 1) =
    omega (arith, c.loop-j.invariant.1, c.rounds_of_unit.ensures.value, first_suc c.args.rounds c.args.units c.loop-j.j) in (
      omega (
        arith,
        ap length c.in_ok-push-2.ensures.items,
        length-append c.loop-j.found.items ((c.loop-j.first + (c.rounds_of_unit.result + 1)) ∷ []),
        c.loop-j.invariant.0,
      ),
      first,
      λ k low. ap (λ s. get_or s k 0) c.in_ok-push-2.ensures.items
          ∙ firsts_more c.args.rounds c.args.units c.loop-j.found.items c.loop-j.j _ c.loop-j.invariant.0 first c.loop-j.invariant.2 k low,
    )
