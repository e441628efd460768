-- The least edge of shares whose load is above its weight, the loads being in a table.
use Rattle.std.proofs.Common.{ℕ, ◌<◌, ◌≤◌, ◌≡◌, ◌⊎◌, ◌∙◌, inl, inr, nat_lt, if◌then◌else◌, cond, Bool, true, false, List, [], ◌∷◌, ◌++◌, length, All, Option, Some, None, refl, ap, subst, arith}
use Rattle.std.proofs.lemmas.Bool.{cases_lt, cases_eq, ne_eqb, ltb-true, ltb-false}
use Rattle.std.proofs.lemmas.List.Elements.{All-head, All-push, All-tail}
use Rattle.std.proofs.lemmas.List.Sums.{sum_by-cons}
use Rattle.fb_graph.specs.Limits.{DecodingGraph, ShotValue}
use Rattle.fb_graph.specs.Problem.{edge_at}
use Rattle.fb_graph.specs.ShotGraphs.{shot_graph}
use Rattle.fb_graph.specs.Signs.{solved_problem}
use Rattle.fb_graph.specs.Leasts.{least}
use Rattle.fb_graph.specs.declared.parts.Cut.{Cut}
use Rattle.fb_verify.specs.InternalLoads.{AreShares, IsLeastOver, added_load, lesser_edge, load_in}
use Rattle.fb_verify.specs.Verdicts.{is_overloaded}
use Rattle.fb_verify.specs.declared.shares.Share.{Share}
use Rattle.fb_verify.proofs.Overloads.{Overs, least_by, load_in-below}

-- ---- one more share

module _ (weight total : ℕ → ℕ) (xs : List Share) (s : Share) where
  pub least_over_more : (r : Option ℕ) → IsLeastOver weight total xs r → weight s.edge < total s.edge
      → IsLeastOver weight total (xs ++ s ∷ []) (Some (lesser_edge r s.edge))
  least_over_more None h over =
      (over, All-push (λ t. t.edge < s.edge → total t.edge ≤ weight t.edge) xs s (λ i d less below. h i d less) (λ below. absurd (omega (arith, below))))
  least_over_more (Some e) h over = step (nat_lt e s.edge) refl
    where
      step : (b : Bool) → nat_lt e s.edge ≡ b → IsLeastOver weight total (xs ++ s ∷ []) (Some (if b then e else s.edge))
      step true before =
          (h.0, All-push (λ t. t.edge < e → total t.edge ≤ weight t.edge) xs s h.1 (λ below. absurd (omega (arith, below, ltb-true e s.edge before))))
      step false behind = (
        over,
        All-push (λ t. t.edge < s.edge → total t.edge ≤ weight t.edge) xs s
            (λ i d less below. h.1 i d less (omega (arith, below, ltb-false e s.edge behind))) (λ below. absurd (omega (arith, below))),
      )

  pub least_over_kept : (r : Option ℕ) → IsLeastOver weight total xs r → total s.edge ≤ weight s.edge → IsLeastOver weight total (xs ++ s ∷ []) r
  least_over_kept None h low = All-push (λ t. total t.edge ≤ weight t.edge) xs s h low
  least_over_kept (Some e) h low = (h.0, All-push (λ t. t.edge < e → total t.edge ≤ weight t.edge) xs s h.1 (λ below. low))

-- ---- the same totals

pub least_over-same : (weight t u : ℕ → ℕ) (n : ℕ) (xs : List Share) (r : Option ℕ) → All (λ s. s.edge < n) xs → ((k : ℕ) → k < n → t k ≡ u k)
    → ((k : ℕ) → n ≤ k → t k ≡ 0) → IsLeastOver weight t xs r → IsLeastOver weight u xs r
least_over-same weight t u n xs None within same none h = λ i d less. omega (arith, h i d less, same _ (within i d less))
least_over-same weight t u n xs (Some e) within same none h = (
  omega (arith, h.0, same e inside),
  λ i d less below. omega (arith, h.1 i d less below, same _ (within i d less)),
)
  where
    inside : e < n
    inside = elim (cases_lt e n) [ inl less ↦ less | inr more ↦ absurd (omega (arith, h.0, none e (omega (arith, more)))) ]

-- ---- an edge of no share has no load

covered : (P : ℕ → Type 0) (xs : List Share) (k : ℕ) → All (λ s. P s.edge) xs → (load_in xs k ≡ 0) ⊎ P k
covered P [] k h = inl refl
covered P (s ∷ ss) k h = step (cases_eq s.edge k) (covered P ss k (All-tail (λ t. P t.edge) s ss h))
  where
    step : (s.edge ≡ k) ⊎ (s.edge ≡ k → ⊥) → (load_in ss k ≡ 0) ⊎ P k → (load_in (s ∷ ss) k ≡ 0) ⊎ P k
    step (inl e) rest = inr (subst P e (All-head (λ t. P t.edge) s ss h))
    step (inr other) (inr p) = inr p
    step (inr other) (inl zero) =
        inl (sum_by-cons (added_load k) s ss ∙ omega (arith, zero, ap (λ b. cond b s.value 0) (ne_eqb s.edge k other)))

low_if : (n m k : ℕ) → (n ≡ 0) ⊎ (n ≤ m) → n ≤ m
low_if n m k (inl e) = omega (arith, e)
low_if n m k (inr h) = h

low_before : (n m k v : ℕ) → k < v → (n ≡ 0) ⊎ (k < v → n ≤ m) → n ≤ m
low_before n m k v less (inl e) = omega (arith, e)
low_before n m k v less (inr h) = h less

overs : (weight : ℕ → ℕ) (xs : List Share) (r : Option ℕ) → IsLeastOver weight (load_in xs) xs r → Overs weight (load_in xs) r
overs weight xs None h = λ k. low_if _ _ k (covered (λ j. load_in xs j ≤ weight j) xs k h)
overs weight xs (Some v) h = (h.0, λ k less. low_before _ _ k v less (covered (λ j. j < v → load_in xs j ≤ weight j) xs k h.1))

pub least_loaded : (g : DecodingGraph) (shot : ShotValue) (cuts : List Cut) (shares : List Share) (r : Option ℕ) → AreShares g cuts shares
    → IsLeastOver (λ k. (edge_at (shot_graph g shot).edges k).weight) (load_in shares) shares r
    → r ≡ least (length g.edges) (is_overloaded (solved_problem g shot) cuts)
least_loaded g shot cuts shares r are h =
    least_by g shot cuts (load_in shares) are.loads (λ k more. load_in-below shares (length g.edges) k are.within more) r
    (overs (λ k. (edge_at (shot_graph g shot).edges k).weight) shares r h)
