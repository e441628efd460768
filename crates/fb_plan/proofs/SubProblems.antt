-- How the sub-problems of the nodes of a plan lie to each other.
use Rattle.std.proofs.Common.{ℕ, ◌+◌, ◌-◌, ◌<◌, ◌≤◌, ◌≡◌, ◌⊎◌, true, false, ◌&&◌, ◌||◌, length, get_or, Option, Some, None, is_some, refl, sym, ap, ◌∙◌, subst, inl, inr, arith}
use Rattle.std.proofs.Math.Bool.{and_self}
use Rattle.std.proofs.lemmas.Bool.{and_from, and_parts, both_ways, cases_lt, cond-true, cond-false, false_from_ne_true, lt-ltb, le-ltb, ltb-true, not-false, or_cases}
use Rattle.std.proofs.lemmas.Option.{slice_get-get_or, slice_get_past, same_Some, none-some}
use Rattle.fb_graph.specs.Limits.{DecodingGraph, ShotValue, is_real_in, problem_of}
use Rattle.fb_graph.specs.Laws.{IsPart}
use Rattle.fb_graph.specs.declared.parts.Edge.{Edge}
use Rattle.fb_graph.proofs.ClosedComponents.{no_odd_component}
use Rattle.fb_graph.proofs.ClosedSets.{part_has_no_odd_closed}
use Rattle.fb_plan.specs.Plans.{PlanTree, IsTree, are_unrelated, children_of, goes_across, is_owner_within, is_within, join_at, owner_of, problem_at, root_of}
use Rattle.fb_plan.specs.Laws.{AllBelowRoot, Ancestors, ChildIsPart, ChildrenAreSeparated, CountOfNodes, Nesting, NodeHasNoOddClosed, NodeIsPart, OneParent, RootIsWhole}
use Rattle.fb_plan.proofs.Roots.{below_root, has_parent, root_has_no_parent}
use Rattle.fb_plan.proofs.Trees.{chain, named_below, siblings_apart, within-trans, within_left, within_right}

pub node_is_part : NodeIsPart
node_is_part g t n shot = record {
  edges = refl;
  real = λ v real. (and_parts _ _ real).0;
  defects = λ v real. refl;
}

pub node_has_no_odd_closed : NodeHasNoOddClosed
node_has_no_odd_closed g t n shot none =
    part_has_no_odd_closed (problem_at g t n shot) (problem_of g shot) (node_is_part g t n shot)
    (no_odd_component (problem_of g shot) (λ v real. ltb-true v g.vertices (and_parts _ _ real).0) none)

-- a node with children is a fusion
pub fusion_of : (t : PlanTree) (n left right : ℕ) → children_of t n ≡ Some (left, right)
    → (i : ℕ) × (i < length t.joins) × (n ≡ t.units + i) × (join_at t.joins i ≡ (left, right))
fusion_of t n left right told = step (cases_lt n t.units) (cases_lt (n - t.units) (length t.joins))
  where
    step : (n < t.units) ⊎ (t.units ≤ n) → (n - t.units < length t.joins) ⊎ (length t.joins ≤ n - t.units)
        → (i : ℕ) × (i < length t.joins) × (n ≡ t.units + i) × (join_at t.joins i ≡ (left, right))
    step (inl unit) any =
        absurd (none-some (left, right) (sym (cond-true _ None _ (lt-ltb n t.units unit)) ∙ told))
    step (inr above) (inl less) = (
      n - t.units,
      less,
      omega arith,
      same_Some _ _ (sym (slice_get-get_or t.joins (n - t.units) (0, 0) less) ∙ sym (cond-false _ None _ (le-ltb n t.units above)) ∙ told),
    )
    step (inr above) (inr beyond) =
        absurd (none-some (left, right)
        (sym (cond-false _ None _ (le-ltb n t.units above) ∙ slice_get_past t.joins (n - t.units) beyond) ∙ told))

owned_up : (t : PlanTree) (a b : ℕ) (owner : Option ℕ) → ((m : ℕ) → is_within t a m ≡ true → is_within t b m ≡ true)
    → is_owner_within t a owner ≡ true → is_owner_within t b owner ≡ true
owned_up t a b None lifts owned = owned
owned_up t a b (Some m) lifts owned = lifts m owned

part_of_owned : (g : DecodingGraph) (t : PlanTree) (a b : ℕ) (shot : ShotValue)
    → ((m : ℕ) → is_within t a m ≡ true → is_within t b m ≡ true)
    → IsPart (problem_at g t a shot) (problem_at g t b shot)
part_of_owned g t a b shot lifts = record {
  edges = refl;
  real = λ v real. and_from _ _ (and_parts _ _ real).0 (owned_up t a b (owner_of t v) lifts (and_parts _ _ real).1);
  defects = λ v real. refl;
}

pub child_is_part : ChildIsPart
child_is_part g t n left right shot plan told =
    let (i, less, is, join) = fusion_of t n left right told in (
      part_of_owned g t left n shot
          (λ m within. subst (λ k. is_within t k m ≡ true) (sym is) (within_left t plan.tree i m less
          (subst (λ k. is_within t k m ≡ true) (sym (ap (λ j. j.0) join)) within))),
      part_of_owned g t right n shot
          (λ m within. subst (λ k. is_within t k m ≡ true) (sym is) (within_right t plan.tree i m less
          (subst (λ k. is_within t k m ≡ true) (sym (ap (λ j. j.1) join)) within))),
    )

-- no node lies within both
abbrev ShareNone : PlanTree → ℕ → ℕ → Type 0
ShareNone t a b = (m : ℕ) → is_within t a m ≡ true → is_within t b m ≡ true → ⊥

owned_once : (t : PlanTree) (a b : ℕ) (owner : Option ℕ) → ShareNone t a b → is_owner_within t a owner ≡ true
    → is_owner_within t b owner ≡ true → ⊥
owned_once t a b None apart owned again = both_ways false refl owned
owned_once t a b (Some m) apart owned again = apart m owned again

unrelated : (t : PlanTree) → IsTree t → (a b : ℕ) (first second : Option ℕ) → ShareNone t a b
    → is_owner_within t a first ≡ true → is_owner_within t b second ≡ true → are_unrelated t first second ≡ false → ⊥
unrelated t tree a b None second apart in_a in_b related = both_ways false refl in_a
unrelated t tree a b (Some m) None apart in_a in_b related = both_ways false refl in_b
unrelated t tree a b (Some m) (Some n) apart in_a in_b related =
    elim (or_cases (is_within t m n) (is_within t n m) (not-false (is_within t m n || is_within t n m) related)) [
      | inl below ↦ apart n (within-trans t tree a m n in_a below) in_b
      | inr below ↦ apart m in_a (within-trans t tree b n m in_b below)
    ]

pub children_are_separated : ChildrenAreSeparated
children_are_separated g t n left right shot plan told = record {
  vertices = λ v in_left. false_from_ne_true _ (λ in_right.
      owned_once t left right (owner_of t v) apart (and_parts _ _ in_left).1 (and_parts _ _ in_right).1);
  edges = λ k d less some_left. false_from_ne_true _ (λ some_right.
      linked (get_or g.edges k d) (plan.edges k d less)
      (or_cases _ _ some_left) (or_cases _ _ some_right));
}
  where
    apart : ShareNone t left right
    apart m in_left in_right =
        let (i, less, is, join) = fusion_of t n left right told in
        siblings_apart t plan.tree i m less
        (subst (λ k. is_within t k m ≡ true) (sym (ap (λ j. j.0) join)) in_left)
        (subst (λ k. is_within t k m ≡ true) (sym (ap (λ j. j.1) join)) in_right)

    linked : (e : Edge) → goes_across t e ≡ false
        → ((problem_at g t left shot).is_real e.first ≡ true) ⊎ ((problem_at g t left shot).is_real e.second ≡ true)
        → ((problem_at g t right shot).is_real e.first ≡ true) ⊎ ((problem_at g t right shot).is_real e.second ≡ true)
        → ⊥
    linked e related (inl a) (inl b) = owned_once t left right (owner_of t e.first) apart (and_parts _ _ a).1 (and_parts _ _ b).1
    linked e related (inr a) (inr b) = owned_once t left right (owner_of t e.second) apart (and_parts _ _ a).1 (and_parts _ _ b).1
    linked e related (inl a) (inr b) =
        unrelated t plan.tree left right (owner_of t e.first) (owner_of t e.second) apart (and_parts _ _ a).1 (and_parts _ _ b).1 related
    linked e related (inr a) (inl b) =
        unrelated t plan.tree right left (owner_of t e.first) (owner_of t e.second) (λ m x y. apart m y x) (and_parts _ _ b).1 (and_parts _ _ a).1 related

pub root_is_whole : RootIsWhole
root_is_whole g t v shot plan =
    ap (λ b. is_real_in g v && b) (owned (owner_of t v) refl ∙ plan.owned v) ∙ and_self (is_real_in g v)
  where
    owned : (owner : Option ℕ) → owner_of t v ≡ owner → is_owner_within t (root_of t) owner ≡ is_some owner
    owned None is = refl
    owned (Some m) is = below_root t plan.tree m (plan.owners v m is)

pub count_of_nodes : CountOfNodes
count_of_nodes t tree = omega (arith, tree.count)

pub one_parent : OneParent
one_parent t tree = (
  root_has_no_parent t tree (root_of t) (omega arith),
  λ n below.
      let (i, less, named, parent) = has_parent t tree n below in
      (t.units + i, parent, named_below t tree i n less named, omega (arith, less)),
)

pub all_below_root : AllBelowRoot
all_below_root t tree n node = below_root t tree n node

pub nesting : Nesting
nesting t tree a b n outer inner = within-trans t tree a b n outer inner

pub ancestors : Ancestors
ancestors t tree a b n in_a in_b = chain t tree a b n in_a in_b
