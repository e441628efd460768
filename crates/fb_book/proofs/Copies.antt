-- Tables as they are copied, and pieces as they are taken out.
use Rattle.std.proofs.Common.{ℕ, ◌≡◌, ◌+◌, ◌-◌, ◌*◌, ◌<◌, ◌≤◌, Option, Some, None, List, [], ◌∷◌, ◌++◌, length, take, get_or, slice_get, sym, ap, ◌∙◌, arith, suc}
use Rattle.std.proofs.Math.Seq.{take-suc}
use Rattle.fb_plan.specs.Plans.{PlanTree, children_of}
use Rattle.fb_book.proofs.Trees.{joined}

pub joins_more : (t : PlanTree) (k : ℕ) (pair : ℕ × ℕ) (xs : List (ℕ × ℕ)) → xs ≡ take (k - t.units) t.joins
    → children_of t k ≡ Some pair → xs ++ pair ∷ [] ≡ take (k + 1 - t.units) t.joins
joins_more t k pair xs e child =
    let j = joined t.units t.joins k pair child in
    let above : t.units ≤ k = j.above in
    let at : k + 1 - t.units ≡ suc (k - t.units) = omega (arith, above) in
    ap (λ ys. ys ++ pair ∷ []) e
    ∙ (ap (λ p. take (k - t.units) t.joins ++ p ∷ []) (sym j.is)
    ∙ (sym (take-suc t.joins (k - t.units) (0, 0) j.less) ∙ ap (λ n. take n t.joins) (sym at)))

-- The roots of the slots before one are out, in their order; the others wait.
pub record AreOut {P : Type 0} (parked now : List (Option P)) (roots : List P) (nodes slot slots : ℕ) : Type 0 where
  pub count : length roots ≡ slot
  pub size : length now ≡ length parked
  pub each : (s : ℕ) → s < slot → get_or parked (s * nodes + (nodes - 1)) None ≡ slice_get roots s
  pub wait : (s : ℕ) → slot ≤ s → get_or now (s * nodes + (nodes - 1)) None ≡ get_or parked (s * nodes + (nodes - 1)) None
