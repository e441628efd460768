-- Parities of potentials.
use Rattle.std.proofs.Common.{ℕ, ◌≡◌, ◌+◌, ◌*◌, ◌%◌, ◌==◌, ◌⊎◌, inl, inr, Bool, true, false, List, Some, refl, sym, ap, ◌∙◌, arith}
use Rattle.std.proofs.lemmas.Bool.{eqb-true, or_cases}
use Rattle.fb_graph.specs.Parity.{is_in}
use Rattle.fb_graph.specs.Problem.{Problem}
use Rattle.fb_graph.specs.Components.{Leads}
use Rattle.fb_graph.specs.Dual.{Node, IsDual, all_cuts, leaves, cover_of, height_of, AreOuterApart}
use Rattle.fb_graph.specs.Counts.{as_count}
use Rattle.fb_graph.specs.Steps.{Roles, AllowShrinking, stepped_nodes}
use Rattle.fb_graph.specs.Covers.{AreRoles, HaveParity, is_covered_by, passes}
use Rattle.fb_graph.specs.Links.{pair}
use Rattle.fb_laws.specs.Parities.{HaveOneParity, CoveredParity, MetParity, LinkedParity, ParitiesJoined, TreeParityStepped, OtherParityStepped, OneParityStepped}
use Rattle.fb_graph.proofs.Crossings.{parity_of_covered, exclusive_over, exclusive_under}
use Rattle.fb_graph.proofs.StepHeights.{cover_stepped, leaves_stepped, height_stepped}
use Rattle.fb_graph.proofs.TightLinks.{link_parity}

pub covered_parity : CoveredParity
covered_parity = parity_of_covered

-- one vertex of the parity makes all defects under its node have it
spread : (p : Problem) (nodes : List Node) (r v name : ℕ) → IsDual p nodes → HaveOneParity nodes
    → cover_of nodes v ≡ Some name → height_of (all_cuts nodes) v % 2 ≡ r → HaveParity (λ n. n == name) nodes r
spread p nodes r v name dual one cover parity d other leaf under named =
    let (e, among, covered, same) = dual.parity v name cover in
    one d e name leaf among (under ∙ ap Some (eqb-true other name named)) covered ∙ (same ∙ parity)

pub met_parity : MetParity
met_parity p test nodes r e u v name dual one parity leads even full differs over cover =
    spread p nodes r v name dual one cover (omega (arith, near, even, full, dual.loads e differs, both leads))
  where
    near : height_of (all_cuts nodes) u % 2 ≡ r
    near = covered_parity p test nodes r u dual parity over

    both : Leads e u v
        → height_of (all_cuts nodes) e.first + height_of (all_cuts nodes) e.second
        ≡ height_of (all_cuts nodes) u + height_of (all_cuts nodes) v
    both (inl (first, second)) = omega (arith, ap (height_of (all_cuts nodes)) first, ap (height_of (all_cuts nodes)) second)
    both (inr (second, first)) = omega (arith, ap (height_of (all_cuts nodes)) first, ap (height_of (all_cuts nodes)) second)

pub linked_parity : LinkedParity
linked_parity p test nodes r l name dual one parity even tight differs over cover =
    spread p nodes r l.to name dual one cover
    (sym (link_parity p (all_cuts nodes) l even tight (dual.loads (pair l.from l.to) differs))
    ∙ covered_parity p test nodes r l.from dual parity over)

pub parities_joined : ParitiesJoined
parities_joined test other nodes r first second d name leaf cover passing =
    step (or_cases (test name) (other name) passing)
  where
    step : (test name ≡ true) ⊎ (other name ≡ true) → height_of (all_cuts nodes) d % 2 ≡ r
    step (inl e) = first d name leaf cover e
    step (inr e) = second d name leaf cover e

module _ (roles : Roles) (nodes : List Node) (k : ℕ) (apart : AreOuterApart nodes) (are : AreRoles roles nodes) (low : AllowShrinking roles nodes k) where
  before : (d name : ℕ) → cover_of (stepped_nodes roles k nodes) d ≡ Some name → cover_of nodes d ≡ Some name
  before d name cover = sym (cover_stepped roles nodes k d) ∙ cover

  leaf_before : (d : ℕ) → is_in (leaves (stepped_nodes roles k nodes)) d ≡ true → is_in (leaves nodes) d ≡ true
  leaf_before d leaf = ap (λ l. is_in l d) (sym (leaves_stepped roles nodes k)) ∙ leaf

  pub tree_parity : (test : ℕ → Bool) (r : ℕ) → ((n : ℕ) → test n ≡ true → (roles.is_plus n ≡ true) ⊎ (roles.is_minus n ≡ true))
      → HaveParity test nodes r → HaveParity test (stepped_nodes roles k nodes) ((r + k) % 2)
  tree_parity test r within parity d name leaf cover passing = step (within name passing)
    where
      old : height_of (all_cuts nodes) d % 2 ≡ r
      old = parity d name (leaf_before d leaf) (before d name cover) passing

      step : (roles.is_plus name ≡ true) ⊎ (roles.is_minus name ≡ true) → height_of (all_cuts (stepped_nodes roles k nodes)) d % 2 ≡ (r + k) % 2
      step (inl plus) =
          let over : is_covered_by roles.is_plus nodes d ≡ true = ap (passes roles.is_plus) (before d name cover) ∙ plus in
          omega (
            arith,
            old,
            height_stepped roles nodes k d apart are low,
            ap (λ b. k * as_count b) over,
            ap (λ b. k * as_count b) (exclusive_over roles (cover_of nodes d) are.exclusive over),
          )
      step (inr minus) =
          let over : is_covered_by roles.is_minus nodes d ≡ true = ap (passes roles.is_minus) (before d name cover) ∙ minus in
          omega (
            arith,
            old,
            height_stepped roles nodes k d apart are low,
            ap (λ b. k * as_count b) over,
            ap (λ b. k * as_count b) (exclusive_under roles (cover_of nodes d) are.exclusive over),
          )

  pub other_parity : (test : ℕ → Bool) (r : ℕ) → ((n : ℕ) → test n ≡ true → (roles.is_plus n ≡ false) × (roles.is_minus n ≡ false))
      → HaveParity test nodes r → HaveParity test (stepped_nodes roles k nodes) r
  other_parity test r outside parity d name leaf cover passing =
      let old : height_of (all_cuts nodes) d % 2 ≡ r = parity d name (leaf_before d leaf) (before d name cover) passing in
      omega (
        arith,
        old,
        height_stepped roles nodes k d apart are low,
        ap (λ b. k * as_count b) (ap (passes roles.is_plus) (before d name cover) ∙ (outside name passing).0),
        ap (λ b. k * as_count b) (ap (passes roles.is_minus) (before d name cover) ∙ (outside name passing).1),
      )

  pub one_parity : HaveOneParity nodes → HaveOneParity (stepped_nodes roles k nodes)
  one_parity one d e name leaf among cover covered =
      let same : cover_of nodes d ≡ cover_of nodes e = before d name cover ∙ sym (before e name covered) in
      let old : height_of (all_cuts nodes) d % 2 ≡ height_of (all_cuts nodes) e % 2 =
      one d e name (leaf_before d leaf) (leaf_before e among) (before d name cover) (before e name covered) in
      step (passes roles.is_plus (cover_of nodes e)) (passes roles.is_minus (cover_of nodes e)) old
      (height_stepped roles nodes k d apart are low) (height_stepped roles nodes k e apart are low)
      (ap (passes roles.is_plus) same) (ap (passes roles.is_minus) same) refl refl
    where
      step : (a b : Bool) → height_of (all_cuts nodes) d % 2 ≡ height_of (all_cuts nodes) e % 2
          → height_of (all_cuts (stepped_nodes roles k nodes)) d + k * as_count (is_covered_by roles.is_minus nodes d)
          ≡ height_of (all_cuts nodes) d + k * as_count (is_covered_by roles.is_plus nodes d)
          → height_of (all_cuts (stepped_nodes roles k nodes)) e + k * as_count (is_covered_by roles.is_minus nodes e)
          ≡ height_of (all_cuts nodes) e + k * as_count (is_covered_by roles.is_plus nodes e)
          → is_covered_by roles.is_plus nodes d ≡ is_covered_by roles.is_plus nodes e
          → is_covered_by roles.is_minus nodes d ≡ is_covered_by roles.is_minus nodes e
          → is_covered_by roles.is_plus nodes e ≡ a → is_covered_by roles.is_minus nodes e ≡ b
          → height_of (all_cuts (stepped_nodes roles k nodes)) d % 2 ≡ height_of (all_cuts (stepped_nodes roles k nodes)) e % 2
      step a b old first second plus minus p m =
          omega (
            arith,
            old,
            first,
            second,
            ap (λ x. k * as_count x) plus,
            ap (λ x. k * as_count x) minus,
          )

pub tree_parity_stepped : TreeParityStepped
tree_parity_stepped roles test nodes k r apart are low within parity = tree_parity roles nodes k apart are low test r within parity

pub other_parity_stepped : OtherParityStepped
other_parity_stepped roles test nodes k r apart are low outside parity = other_parity roles nodes k apart are low test r outside parity

pub one_parity_stepped : OneParityStepped
one_parity_stepped roles nodes k apart are low one = one_parity roles nodes k apart are low one
