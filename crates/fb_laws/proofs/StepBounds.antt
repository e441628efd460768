-- How far an alternating tree may step, by each edge's ends.
use Rattle.std.proofs.Common.{ℕ, ◌≡◌, ◌+◌, ◌*◌, ◌≤◌, ◌<◌, ◌⊎◌, inl, inr, Bool, true, false, List, get_or, refl, sym, ap, arith}
use Rattle.std.proofs.lemmas.Bool.{false≢true, cases_Bool}
use Rattle.fb_graph.specs.Problem.{Problem}
use Rattle.fb_graph.specs.Certificate.{load_of}
use Rattle.fb_graph.specs.Dual.{Node, IsDual, all_cuts, cover_of, AreUnderOne}
use Rattle.fb_graph.specs.declared.parts.Edge.{Edge}
use Rattle.fb_graph.specs.Counts.{as_count}
use Rattle.fb_graph.specs.Steps.{Roles, gains, losses}
use Rattle.fb_graph.specs.Covers.{AreRoles, is_covered_by}
use Rattle.fb_laws.specs.Bounds.{Bears, BoundedSteps, StepsBounded, NoObstacleBefore}
use Rattle.fb_graph.proofs.Crossings.{crossings_by_cover, level_within, under_or_not, exclusive_over}

-- what an edge gains and loses with these tests of its ends
abbrev Allows : ℕ → ℕ → ℕ → ℕ → ℕ → Type 0
Allows k load weight gain loss = load + k * gain ≤ weight + k * loss

-- the bounds by the tests of both ends
abbrev BearsBy : Bool → Bool → Bool → Bool → ℕ → ℕ → ℕ → Type 0
BearsBy p m q n k load weight =
    (p ≡ true → q ≡ false → n ≡ false → load + k ≤ weight)
    × (q ≡ true → p ≡ false → m ≡ false → load + k ≤ weight)
    × (p ≡ true → q ≡ true → load + 2 * k ≤ weight)

allows : (p m q n : Bool) (k load weight : ℕ) → load ≤ weight → (p ≡ true → m ≡ false) → (q ≡ true → n ≡ false)
    → BearsBy p m q n k load weight
    → Allows k load weight (as_count p + as_count q) (as_count m + as_count n)
allows true true q n k load weight light a b bears = absurd (false≢true (sym (a refl)))
allows true false true true k load weight light a b bears = absurd (false≢true (sym (b refl)))
allows true false true false k load weight light a b bears = let h = bears.2 refl refl in omega (arith, h)
allows true false false true k load weight light a b bears = omega arith
allows true false false false k load weight light a b bears = let h = bears.0 refl refl refl in omega (arith, h)
allows false m true true k load weight light a b bears = absurd (false≢true (sym (b refl)))
allows false true true false k load weight light a b bears = omega arith
allows false false true false k load weight light a b bears = let h = bears.1 refl refl refl in omega (arith, h)
allows false m false n k load weight light a b bears = omega arith

-- where it loses nothing, it bears the length as often as it gains it
bears_gain : (k load weight gain loss n : ℕ) → Allows k load weight gain loss → gain ≡ n → loss ≡ 0 → load + k * n ≤ weight
bears_gain k load weight gain loss n allowed gains_n none =
    omega (arith, allowed, ap (λ x. k * x) gains_n, ap (λ x. k * x) none)

bears : (p m q n : Bool) (k load weight : ℕ) → (p ≡ true → m ≡ false) → (q ≡ true → n ≡ false)
    → Allows k load weight (as_count p + as_count q) (as_count m + as_count n)
    → BearsBy p m q n k load weight
bears p m q n k load weight a b allowed = (
  λ plus other none.
      let h = once (omega (arith, ap as_count plus, ap as_count other)) (omega (arith, ap as_count (a plus), ap as_count none)) in
      omega (arith, h),
  λ plus other none.
      let h = once (omega (arith, ap as_count plus, ap as_count other)) (omega (arith, ap as_count (b plus), ap as_count none)) in
      omega (arith, h),
  λ plus more.
      let h = bears_gain k load weight (as_count p + as_count q) (as_count m + as_count n) 2 allowed
      (omega (arith, ap as_count plus, ap as_count more)) (omega (arith, ap as_count (a plus), ap as_count (b more))) in
      omega (arith, h),
)
  where
    once : as_count p + as_count q ≡ 1 → as_count m + as_count n ≡ 0 → load + k * 1 ≤ weight
    once = bears_gain k load weight (as_count p + as_count q) (as_count m + as_count n) 1 allowed

-- an edge within one node allows each step, and any other just those that it bears
pub edge_within_allows : (p : Problem) (roles : Roles) (nodes : List Node) (k : ℕ) (e : Edge) → IsDual p nodes
    → AreRoles roles nodes → load_of (all_cuts nodes) e ≤ e.weight → AreUnderOne nodes e.first e.second
    → load_of (all_cuts nodes) e + k * gains roles nodes e ≤ e.weight + k * losses roles nodes e
edge_within_allows p roles nodes k e dual are light under =
    omega (arith, light, ap (λ m. k * m) (level_within roles nodes e dual.apart dual.names are under))

pub edge_allows : (p : Problem) (roles : Roles) (nodes : List Node) (k : ℕ) (e : Edge) → IsDual p nodes
    → AreRoles roles nodes → load_of (all_cuts nodes) e ≤ e.weight
    → ¬ AreUnderOne nodes e.first e.second → Bears roles nodes k e
    → load_of (all_cuts nodes) e + k * gains roles nodes e ≤ e.weight + k * losses roles nodes e
edge_allows p roles nodes k e dual are light differs bear =
    let h = allows (is_covered_by roles.is_plus nodes e.first) (is_covered_by roles.is_minus nodes e.first)
    (is_covered_by roles.is_plus nodes e.second) (is_covered_by roles.is_minus nodes e.second) k
    (load_of (all_cuts nodes) e) e.weight light
    (exclusive_over roles (cover_of nodes e.first) are.exclusive)
    (exclusive_over roles (cover_of nodes e.second) are.exclusive)
    (bear.first, bear.second, bear.both) in
    omega (
      arith,
      h,
      ap (λ m. k * m) (crossings_by_cover roles.is_plus nodes e dual.apart are.plus differs),
      ap (λ m. k * m) (crossings_by_cover roles.is_minus nodes e dual.apart are.minus differs),
    )

pub edge_bears : (p : Problem) (roles : Roles) (nodes : List Node) (k : ℕ) (e : Edge) → IsDual p nodes
    → AreRoles roles nodes → ¬ AreUnderOne nodes e.first e.second
    → load_of (all_cuts nodes) e + k * gains roles nodes e ≤ e.weight + k * losses roles nodes e
    → Bears roles nodes k e
edge_bears p roles nodes k e dual are differs allowed =
    let h = bears (is_covered_by roles.is_plus nodes e.first) (is_covered_by roles.is_minus nodes e.first)
    (is_covered_by roles.is_plus nodes e.second) (is_covered_by roles.is_minus nodes e.second) k
    (load_of (all_cuts nodes) e) e.weight
    (exclusive_over roles (cover_of nodes e.first) are.exclusive)
    (exclusive_over roles (cover_of nodes e.second) are.exclusive)
    (omega (
      arith,
      allowed,
      ap (λ m. k * m) (crossings_by_cover roles.is_plus nodes e dual.apart are.plus differs),
      ap (λ m. k * m) (crossings_by_cover roles.is_minus nodes e dual.apart are.minus differs),
    )) in
    record { first = h.0; second = h.1; both = h.2 }

pub bounded_steps : BoundedSteps
bounded_steps p roles nodes k dual are bounded = record {
  edges = λ i d less.
      step (get_or p.edges i d) (dual.packing.fits i d less) (bounded.edges i d less)
      (under_or_not nodes (get_or p.edges i d).first (get_or p.edges i d).second);
  tops = bounded.layers;
}
  where
    step : (e : Edge) → load_of (all_cuts nodes) e ≤ e.weight
        → (¬ AreUnderOne nodes e.first e.second → Bears roles nodes k e)
        → AreUnderOne nodes e.first e.second ⊎ (AreUnderOne nodes e.first e.second → ⊥)
        → load_of (all_cuts nodes) e + k * gains roles nodes e ≤ e.weight + k * losses roles nodes e
    step e light bear (inl under) = edge_within_allows p roles nodes k e dual are light under
    step e light bear (inr differs) = edge_allows p roles nodes k e dual are light differs (bear differs)

pub steps_bounded : StepsBounded
steps_bounded p roles nodes k dual are may = record {
  edges = λ i d less differs. edge_bears p roles nodes k (get_or p.edges i d) dual are differs (may.edges i d less);
  layers = may.tops;
}

clear_by : (p m q n : Bool) (k load weight : ℕ) → 1 ≤ k → BearsBy p m q n k load weight
    → (p ≡ true → n ≡ false → load < weight) × (q ≡ true → m ≡ false → load < weight)
clear_by p m q n k load weight some bear = (
  λ plus none. by q (cases_Bool q) (λ more. bear.2 plus more) (λ other. bear.0 plus other none),
  λ plus none. by p (cases_Bool p) (λ more. bear.2 more plus) (λ other. bear.1 plus other none),
)
  where
    by : (b : Bool) → (b ≡ true) ⊎ (b ≡ false) → (b ≡ true → load + 2 * k ≤ weight) → (b ≡ false → load + k ≤ weight)
        → load < weight
    by b (inl with_plus) twice once = let h = twice with_plus in omega (arith, h)
    by b (inr without) twice once = let h = once without in omega (arith, h)

pub no_obstacle_before : NoObstacleBefore
no_obstacle_before p roles nodes k dual are some may = record {
  edges = λ i d less differs.
      let bear = edge_bears p roles nodes k (get_or p.edges i d) dual are differs (may.edges i d less) in
      let e : Edge = get_or p.edges i d in
      let h = clear_by (is_covered_by roles.is_plus nodes e.first) (is_covered_by roles.is_minus nodes e.first)
      (is_covered_by roles.is_plus nodes e.second) (is_covered_by roles.is_minus nodes e.second) k
      (load_of (all_cuts nodes) e) e.weight some (bear.first, bear.second, bear.both) in
      record { first = h.0; second = h.1 };
  layers = λ i d less minus. let h = may.tops i d less minus in omega (arith, h);
}
