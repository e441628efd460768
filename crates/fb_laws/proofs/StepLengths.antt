-- The greatest length of a step.
use Rattle.std.proofs.Common.{ℕ, zero, suc, ◌≡◌, ◌+◌, ◌-◌, ◌*◌, ◌≤◌, ◌<◌, ◌&&◌, ◌⊎◌, inl, inr, Bool, true, false, cond, List, [], ◌∷◌, length, All, get_or, refl, ap, ◌∙◌, subst, arith}
use Rattle.std.proofs.lemmas.Bool.{false≢true, cases_lt, and_from}
use Rattle.std.proofs.lemmas.List.Elements.{All-nil, All-cons, All-head, All-tail}
use Rattle.std.proofs.lemmas.List.Sums.{get_or-le-sum_by}
use Rattle.std.proofs.Math.Nat.{mul-le-mul_left}
use Rattle.fb_graph.specs.Problem.{Problem, crosses, edge_at, no_edge}
use Rattle.fb_graph.specs.Certificate.{IsPacking, IsOddCut, load_of}
use Rattle.fb_graph.specs.Laws.{HasNoOddClosed}
use Rattle.fb_graph.specs.Dual.{Node, all_cuts, node_at, no_node}
use Rattle.fb_graph.specs.declared.parts.Edge.{Edge}
use Rattle.fb_graph.proofs.Nodes.{All-cuts-at, All-top}
use Rattle.fb_graph.proofs.ClosedSets.{edge_leaves, none_or_some}
use Rattle.fb_graph.proofs.Sums.{sum_same, sum_zero}
use Rattle.fb_graph.specs.Steps.{Roles, AreExclusive, gains, losses, MayStep}
use Rattle.fb_laws.specs.Lengths.{HasPlus, NoLength, GreatestStep, GreatestBounds, AfterGreatest}
use Rattle.fb_graph.proofs.StepLoads.{steps_add, steps_split}

pub no_length : NoLength
no_length p roles nodes packing = record {
  edges = λ i d less. let h = packing.fits i d less in omega arith;
  tops = λ i d less is. omega arith;
}

All_or_not : {X : Type 0} (P : X → Type 0) → ((x : X) → P x ⊎ (P x → ⊥)) → (xs : List X) → All P xs ⊎ (All P xs → ⊥)
All_or_not P each [] = inl (All-nil P)
All_or_not P each (x ∷ xs) = step (each x) (All_or_not P each xs)
  where
    step : P x ⊎ (P x → ⊥) → All P xs ⊎ (All P xs → ⊥) → All P (x ∷ xs) ⊎ (All P (x ∷ xs) → ⊥)
    step (inl here) (inl rest) = inl (All-cons P x xs here rest)
    step (inl here) (inr denied) = inr (λ all. denied (All-tail P x xs all))
    step (inr denied) rest = inr (λ all. denied (All-head P x xs all))

le_or_not : (m n : ℕ) → (m ≤ n) ⊎ (m ≤ n → ⊥)
le_or_not m n = step (cases_lt n m)
  where
    step : (n < m) ⊎ (m ≤ n) → (m ≤ n) ⊎ (m ≤ n → ⊥)
    step (inl more) = inr (λ le. absurd (omega arith))
    step (inr le) = inl le

where_or_not : (b : Bool) (m n : ℕ) → (b ≡ true → m ≤ n) ⊎ ((b ≡ true → m ≤ n) → ⊥)
where_or_not false m n = inl (λ e. absurd (false≢true e))
where_or_not true m n = step (le_or_not m n)
  where
    step : (m ≤ n) ⊎ (m ≤ n → ⊥) → (true ≡ true → m ≤ n) ⊎ ((true ≡ true → m ≤ n) → ⊥)
    step (inl le) = inl (λ e. le)
    step (inr denied) = inr (λ h. denied (h refl))

may_or_not : (p : Problem) (roles : Roles) (nodes : List Node) (k : ℕ) → MayStep p roles nodes k ⊎ (MayStep p roles nodes k → ⊥)
may_or_not p roles nodes k =
    step
    (All_or_not Bears (λ e. le_or_not (load_of (all_cuts nodes) e + k * gains roles nodes e) (e.weight + k * losses roles nodes e)) p.edges)
    (All_or_not Low (λ n. where_or_not (roles.is_minus n.name) k n.top.value) nodes)
  where
    Bears : Edge → Type 0
    Bears e = load_of (all_cuts nodes) e + k * gains roles nodes e ≤ e.weight + k * losses roles nodes e

    Low : Node → Type 0
    Low n = roles.is_minus n.name ≡ true → k ≤ n.top.value

    step : All Bears p.edges ⊎ (All Bears p.edges → ⊥) → All Low nodes ⊎ (All Low nodes → ⊥)
        → MayStep p roles nodes k ⊎ (MayStep p roles nodes k → ⊥)
    step (inl edges) (inl tops) = inl (record { edges = edges; tops = tops })
    step (inr denied) tops = inr (λ may. denied may.edges)
    step (inl edges) (inr denied) = inr (λ may. denied may.tops)

-- a last number with a property that no number from a bound on has
last_below : (P : ℕ → Type 0) → ((k : ℕ) → P k ⊎ (P k → ⊥)) → (n j : ℕ) → P j → ((m : ℕ) → n + j ≤ m → P m → ⊥)
    → (k : ℕ) × (j ≤ k) × P k × (P (k + 1) → ⊥)
last_below P each zero j here none = absurd (none j (omega arith) here)
last_below P each (suc n) j here none = step (each (j + 1)) (last_below P each n (j + 1))
  where
    step : P (j + 1) ⊎ (P (j + 1) → ⊥)
        → (P (j + 1) → ((m : ℕ) → n + (j + 1) ≤ m → P m → ⊥) → (k : ℕ) × (j + 1 ≤ k) × P k × (P (k + 1) → ⊥))
        → (k : ℕ) × (j ≤ k) × P k × (P (k + 1) → ⊥)
    step (inr denied) rest = (j, omega arith, here, denied)
    step (inl next) rest =
        let (k, more, holds, last) = rest next (λ m le. none m (omega arith)) in
        (k, omega arith, holds, last)

-- a length that no step exceeds
bound : (p : Problem) (roles : Roles) (nodes : List Node) → AreExclusive roles → HasPlus roles nodes
    → HasNoOddClosed p → IsPacking p (all_cuts nodes)
    → (most : ℕ) × ((k : ℕ) → MayStep p roles nodes k → k ≤ most)
bound p roles nodes apart (i, less, plus) even packing =
    step (none_or_some (λ n. roles.is_minus n.name) nodes no_node)
  where
    odd : IsOddCut p (node_at nodes i).top
    odd =
        All-top (IsOddCut p) (node_at nodes i).below (node_at nodes i).top
        (All-cuts-at (IsOddCut p) nodes i less packing.odd)

    step : All (λ n. roles.is_minus n.name ≡ false) nodes
        ⊎ (j : ℕ) × (j < length nodes) × (roles.is_minus (get_or nodes j no_node).name ≡ true)
        → (most : ℕ) × ((k : ℕ) → MayStep p roles nodes k → k ≤ most)
    step (inr (j, below, minus)) = ((node_at nodes j).top.value, λ k may. may.tops j no_node below minus)
    step (inl none) =
        let (m, within, leaves) = edge_leaves p (node_at nodes i).top even odd in
        let e : Edge = edge_at p.edges m in
        let g : Node → ℕ = λ n. cond (roles.is_plus n.name && crosses n.top.vertices e) 1 0 in
        let part : g (node_at nodes i) ≤ gains roles nodes e = get_or-le-sum_by g nodes i no_node less in
        let one : g (node_at nodes i) ≡ 1 =
        ap (λ b. cond b 1 0)
        (and_from (roles.is_plus (node_at nodes i).name) (crosses (node_at nodes i).top.vertices e) plus leaves) in
        let no_loss : losses roles nodes e ≡ 0 =
        sum_same (λ n. cond (roles.is_minus n.name && crosses n.top.vertices e) 1 0) (λ n. 0) nodes
        (λ j d below. ap (λ b. cond (b && crosses (get_or nodes j d).top.vertices e) 1 0) (none j d below))
        ∙ sum_zero nodes in (
          e.weight,
          λ k may.
              let bears = may.edges m no_edge within in
              let gain : 1 ≤ gains roles nodes e = omega arith in
              let grown : k * 1 ≤ k * gains roles nodes e = mul-le-mul_left k gain in
              omega (arith, bears, grown, ap (λ x. k * x) no_loss),
        )

pub greatest_step : GreatestStep
greatest_step p roles nodes j apart plus even packing may =
    let (most, bounds) = bound p roles nodes apart plus even packing in
    let (k, more, holds, last) =
    last_below (MayStep p roles nodes) (may_or_not p roles nodes) (most + 1) j may
    (λ m le allowed. let h = bounds m allowed in absurd (omega arith)) in
    (k, more, record { allowed = holds; greatest = last })

pub greatest_bounds : GreatestBounds
greatest_bounds p roles nodes k j apart packing greatest may = step (cases_lt k j)
  where
    step : (k < j) ⊎ (j ≤ k) → j ≤ k
    step (inr le) = le
    step (inl more) =
        let e : j ≡ (k + 1) + (j - (k + 1)) = omega arith in
        absurd
        (greatest.greatest
        (steps_split p roles nodes (k + 1) (j - (k + 1)) apart packing (subst (λ x. MayStep p roles nodes x) e may)).0)

pub after_greatest : AfterGreatest
after_greatest p roles nodes k apart greatest may =
    greatest.greatest (steps_add p roles nodes k 1 apart greatest.allowed may)
