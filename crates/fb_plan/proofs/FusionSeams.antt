-- The real vertices of a fusion: its children's and its own.
use Rattle.std.proofs.Common.{ℕ, ◌+◌, ◌<◌, ◌≡◌, ◌==◌, Bool, true, false, ◌&&◌, ◌||◌, Option, Some, None, refl, sym, ap, ◌∙◌, arith}
use Rattle.std.proofs.lemmas.Bool.{and_parts, both_ways, eqb-true, false_from_ne_true}
use Rattle.fb_graph.specs.Limits.{is_real_in}
use Rattle.fb_plan.specs.Plans.{PlanTree, IsTree, children_of, is_owner_within, is_within, owner_of, problem_at}
use Rattle.fb_plan.specs.Seams.{FusionIsParts, SeamIsApart, UnitIsOwn, is_owner}
use Rattle.fb_plan.proofs.SubProblems.{fusion_of}
use Rattle.fb_plan.proofs.Trees.{within-le, within_of_fusion, within_of_unit}

pub unit_is_own : UnitIsOwn
unit_is_own g t n v shot unit = ap (λ b. is_real_in g v && b) (by (owner_of t v))
  where
    by : (owner : Option ℕ) → is_owner_within t n owner ≡ is_owner n owner
    by None = refl
    by (Some m) = within_of_unit t n m unit

-- what lies within a fusion lies within a child or is the fusion
within_parts : (t : PlanTree) → IsTree t → (n left right m : ℕ) → children_of t n ≡ Some (left, right)
    → is_within t n m ≡ (is_within t left m || (is_within t right m || n == m))
within_parts t tree n left right m children =
    let (i, less, is, join) = fusion_of t n left right children in
    ap (λ k. is_within t k m) is
    ∙ (within_of_fusion t tree i m less
    ∙ (ap (λ j. is_within t j.0 m || (is_within t j.1 m || (t.units + i) == m)) join
    ∙ ap (λ k. is_within t left m || (is_within t right m || k == m)) (sym is)))

pub fusion_is_parts : FusionIsParts
fusion_is_parts g t n left right v shot plan children =
    ap (λ b. is_real_in g v && b) (by (owner_of t v))
    ∙ spread (is_real_in g v) (is_owner_within t left (owner_of t v)) (is_owner_within t right (owner_of t v)) (is_owner n (owner_of t v))
  where
    by : (owner : Option ℕ) → is_owner_within t n owner ≡ (is_owner_within t left owner || (is_owner_within t right owner || is_owner n owner))
    by None = refl
    by (Some m) = within_parts t plan.tree n left right m children

    spread : (a x y z : Bool) → (a && (x || (y || z))) ≡ ((a && x) || (a && y) || (a && z))
    spread false x y z = refl
    spread true true y z = refl
    spread true false true z = refl
    spread true false false z = refl

pub seam_is_apart : SeamIsApart
seam_is_apart g t n left right v shot plan children own = (apart left below_left, apart right below_right)
  where
    join_below : (left < n) × (right < n)
    join_below =
        let (i, less, is, join) = fusion_of t n left right children in (
          omega (arith, is, (plan.tree.joins i less).left, ap (λ j. j.0) join),
          omega (arith, is, (plan.tree.joins i less).right, ap (λ j. j.1) join),
        )

    below_left : left < n
    below_left = join_below.0

    below_right : right < n
    below_right = join_below.1

    not_within : (child : ℕ) (owner : Option ℕ) → child < n → is_owner n owner ≡ true → is_owner_within t child owner ≡ true → ⊥
    not_within child None less is within = both_ways false refl is
    not_within child (Some m) less is within = omega (arith, less, eqb-true n m is, within-le t plan.tree child m within)

    apart : (child : ℕ) → child < n → (problem_at g t child shot).is_real v ≡ false
    apart child less =
        false_from_ne_true ((problem_at g t child shot).is_real v)
        (λ real.
        not_within child (owner_of t v) less (and_parts (is_real_in g v) (is_owner n (owner_of t v)) own).1
        (and_parts (is_real_in g v) (is_owner_within t child (owner_of t v)) real).1)
