-- Each node but the root has one parent, so that every node lies within the root.
use Rattle.std.proofs.Common.{ℕ, zero, suc, ◌+◌, ◌<◌, ◌≤◌, ◌≡◌, ◌≢◌, ◌⊎◌, true, false, ltb, List, [], ◌∷◌, length, Option, Some, None, refl, sym, ap, ◌∙◌, subst, inl, inr, arith, is_some, IfSome}
use Rattle.std.specs.List.{range_with_len}
use Rattle.std.proofs.lemmas.Bool.{both_ways, cases_Bool, cases_lt, cond-true, cond-false, false_from_ne_true, le-ltb, lt-ltb}
use Rattle.std.proofs.lemmas.List.FromFn.{length-range_with_len}
use Rattle.fb_graph.specs.Parity.{is_in}
use Rattle.fb_graph.specs.Certificate.{AreDistinct}
use Rattle.fb_graph.proofs.Sets.{distinct_from_rising, is_in-cases, is_in-range, length-le_from_within, range_rises}
use Rattle.fb_plan.specs.Plans.{PlanTree, IsTree, join_at, names, node_count, root_of, is_within, parent_from, parent_of}
use Rattle.fb_plan.proofs.Trees.{names_left, names_right, named_below, named_within, within_self, within-trans}

-- none of the fusions names the node
abbrev pub IsUnnamed : List (ℕ × ℕ) → ℕ → Type 0
IsUnnamed joins n = (i : ℕ) → i < length joins → names (join_at joins i) n ≡ false

-- the first fusion that names the node, the list's first one being node a
abbrev pub ParentCases : ℕ → List (ℕ × ℕ) → ℕ → Type 0
ParentCases a joins n = (IsUnnamed joins n × (parent_from a joins n ≡ None))
    ⊎ ((i : ℕ) × (i < length joins) × (names (join_at joins i) n ≡ true) × (parent_from a joins n ≡ Some (a + i)))

pub parent_cases : (a : ℕ) (joins : List (ℕ × ℕ)) (n : ℕ) → ParentCases a joins n
parent_cases a [] n = inl ((λ i less. absurd (omega arith)), refl)
parent_cases a (join ∷ joins) n = step (cases_Bool (names join n)) (parent_cases (a + 1) joins n)
  where
    unnamed : names join n ≡ false → IsUnnamed joins n → IsUnnamed (join ∷ joins) n
    unnamed here rest zero less = here
    unnamed here rest (suc i) less = rest i (omega arith)

    step : (names join n ≡ true) ⊎ (names join n ≡ false) → ParentCases (a + 1) joins n → ParentCases a (join ∷ joins) n
    step (inl here) rest =
        inr (0, omega arith, here, cond-true (names join n) (Some a) _ here ∙ ap Some (omega arith))
    step (inr here) (inl (rest, none)) = inl (unnamed here rest, cond-false (names join n) (Some a) _ here ∙ none)
    step (inr here) (inr (i, less, named, found)) =
        inr (suc i, omega arith, named, cond-false (names join n) (Some a) _ here ∙ found ∙ ap Some (omega arith))

children : List (ℕ × ℕ) → List ℕ
children [] = []
children (join ∷ joins) = join.0 ∷ join.1 ∷ children joins

length-children : (joins : List (ℕ × ℕ)) → length (children joins) ≡ length joins + length joins
unfolding children
length-children [] = omega arith
length-children (join ∷ joins) = omega (arith, length-children joins)

-- two different children each, and none of two fusions
abbrev AreOnce : List (ℕ × ℕ) → Type 0
AreOnce joins = ((i : ℕ) → i < length joins → (join_at joins i).0 ≢ (join_at joins i).1)
    × ((i k n : ℕ) → i < length joins → k < length joins → names (join_at joins i) n ≡ true
    → names (join_at joins k) n ≡ true → i ≡ k)

once_rest : (join : ℕ × ℕ) (joins : List (ℕ × ℕ)) → AreOnce (join ∷ joins) → AreOnce joins
once_rest join joins once = (
  λ i less. once.0 (suc i) (omega arith),
  λ i k n less_i less_k named_i named_k.
      let same : suc i ≡ suc k = once.1 (suc i) (suc k) n (omega arith) (omega arith) named_i named_k in omega arith,
)

named_child : (joins : List (ℕ × ℕ)) (n : ℕ) → is_in (children joins) n ≡ true
    → (i : ℕ) × (i < length joins) × (names (join_at joins i) n ≡ true)
unfolding children
named_child [] n held = absurd (both_ways false refl held)
named_child (join ∷ joins) n held = step (is_in-cases join.0 (join.1 ∷ children joins) n held) (named_child joins n)
  where
    later : (i : ℕ) × (i < length joins) × (names (join_at joins i) n ≡ true)
        → (i : ℕ) × (i < length (join ∷ joins)) × (names (join_at (join ∷ joins) i) n ≡ true)
    later (i, less, named) = (suc i, omega arith, named)

    second : (join.1 ≡ n) ⊎ (is_in (children joins) n ≡ true)
        → (is_in (children joins) n ≡ true → (i : ℕ) × (i < length joins) × (names (join_at joins i) n ≡ true))
        → (i : ℕ) × (i < length (join ∷ joins)) × (names (join_at (join ∷ joins) i) n ≡ true)
    second (inl same) rest = (0, omega arith, subst (λ k. names join k ≡ true) same (names_right join))
    second (inr held) rest = later (rest held)

    step : (join.0 ≡ n) ⊎ (is_in (join.1 ∷ children joins) n ≡ true)
        → (is_in (children joins) n ≡ true → (i : ℕ) × (i < length joins) × (names (join_at joins i) n ≡ true))
        → (i : ℕ) × (i < length (join ∷ joins)) × (names (join_at (join ∷ joins) i) n ≡ true)
    step (inl same) rest = (0, omega arith, subst (λ k. names join k ≡ true) same (names_left join))
    step (inr held) rest = second (is_in-cases join.1 (children joins) n held) rest

distinct_children : (joins : List (ℕ × ℕ)) → AreOnce joins → AreDistinct (children joins)
unfolding children
distinct_children [] once = tt
distinct_children (join ∷ joins) once = (
  false_from_ne_true (is_in (join.1 ∷ children joins) join.0) (λ held.
      elim (is_in-cases join.1 (children joins) join.0 held) [
        | inl same ↦ once.0 0 (omega arith) (sym same)
        | inr later ↦ not_later join.0 (names_left join) (named_child joins join.0 later)
      ]),
  (
    false_from_ne_true (is_in (children joins) join.1) (λ held. not_later join.1 (names_right join) (named_child joins join.1 held)),
    distinct_children joins (once_rest join joins once),
  ),
)
  where
    not_later : (n : ℕ) → names join n ≡ true → (i : ℕ) × (i < length joins) × (names (join_at joins i) n ≡ true) → ⊥
    not_later n named (i, less, again) =
        let same : 0 ≡ suc i = once.1 0 (suc i) n (omega arith) (omega arith) named again in omega arith

-- As many children as there are nodes below the root, and no two the same: so each node below the root is one.
pub has_parent : (t : PlanTree) → IsTree t → (n : ℕ) → n < root_of t
    → (i : ℕ) × (i < length t.joins) × (names (join_at t.joins i) n ≡ true) × (parent_of t n ≡ Some (t.units + i))
has_parent t tree n below = step (parent_cases t.units t.joins n)
  where
    unnamed : IsUnnamed t.joins n → is_in (children t.joins) n ≡ false
    unnamed none =
        false_from_ne_true (is_in (children t.joins) n)
        (λ held. let (i, less, named) = named_child t.joins n held in both_ways _ (none i less) named)

    inside : (v : ℕ) → is_in (n ∷ children t.joins) v ≡ true → is_in (range_with_len 0 (root_of t)) v ≡ true
    inside v held =
        elim (is_in-cases n (children t.joins) v held) [
          | inl same ↦ is_in-range (root_of t) v (subst (λ k. k < root_of t) same below)
          | inr child ↦
              let (i, less, named) = named_child t.joins v child in
              is_in-range (root_of t) v (omega (arith, named_below t tree i v less named, tree.count))
        ]

    step : ParentCases t.units t.joins n
        → (i : ℕ) × (i < length t.joins) × (names (join_at t.joins i) n ≡ true) × (parent_of t n ≡ Some (t.units + i))
    step (inl (none, _)) =
        let distinct : AreDistinct (children t.joins) =
        distinct_children t.joins ((λ i less. (tree.joins i less).differ), tree.once) in
        absurd (omega (
          arith,
          tree.count,
          length-children t.joins,
          length-range_with_len 0 (root_of t),
          length-le_from_within (n ∷ children t.joins) (range_with_len 0 (root_of t)) (unnamed none, distinct)
              (distinct_from_rising (range_with_len 0 (root_of t)) (range_rises 0 (root_of t))) inside,
        ))
    step (inr found) = found

pub root_has_no_parent : (t : PlanTree) → IsTree t → (n : ℕ) → root_of t ≤ n → parent_of t n ≡ None
root_has_no_parent t tree n above = step (parent_cases t.units t.joins n)
  where
    step : ParentCases t.units t.joins n → parent_of t n ≡ None
    step (inl (_, none)) = none
    step (inr (i, less, named, _)) = absurd (omega (arith, named_below t tree i n less named))

-- a node has a parent exactly where it isn't the root
pub parent_exactly : (t : PlanTree) (n : ℕ) → IsTree t → is_some (parent_of t n) ≡ ltb n (root_of t)
parent_exactly t n tree = step (cases_lt n (root_of t))
  where
    step : (n < root_of t) ⊎ (root_of t ≤ n) → is_some (parent_of t n) ≡ ltb n (root_of t)
    step (inl below) = ap is_some (has_parent t tree n below).3 ∙ sym (lt-ltb n (root_of t) below)
    step (inr above) = ap is_some (root_has_no_parent t tree n above) ∙ sym (le-ltb n (root_of t) above)

below_root-by : (fuel : ℕ) (t : PlanTree) → IsTree t → (n : ℕ) → node_count t ≤ fuel + n → n < node_count t
    → is_within t (root_of t) n ≡ true
below_root-by zero t tree n enough node = absurd (omega arith)
below_root-by (suc fuel) t tree n enough node =
    step (λ k later here. below_root-by fuel t tree k later here) (cases_lt n (root_of t))
  where
    step : ((k : ℕ) → node_count t ≤ fuel + k → k < node_count t → is_within t (root_of t) k ≡ true)
        → (n < root_of t) ⊎ (root_of t ≤ n) → is_within t (root_of t) n ≡ true
    step onward (inl below) =
        let (i, less, named, _) = has_parent t tree n below in
        within-trans t tree (root_of t) (t.units + i) n
        (onward (t.units + i) (omega (arith, enough, named_below t tree i n less named)) (omega (arith, less)))
        (named_within t tree i n less named)
    step onward (inr above) =
        let same : n ≡ root_of t = omega (arith, node) in
        subst (λ k. is_within t (root_of t) k ≡ true) (sym same) (within_self t tree (root_of t) (omega (arith, node)))

pub below_root : (t : PlanTree) → IsTree t → (n : ℕ) → n < node_count t → is_within t (root_of t) n ≡ true
below_root t tree n node = below_root-by (node_count t) t tree n (omega arith) node

pub each_if_some : {X : Type 0} (o : Option X) (P : X → Type 0) → ((x : X) → o ≡ Some x → P x) → IfSome o P
each_if_some None P each = tt
each_if_some (Some x) P each = each x refl

pub ruleset parents = (parent_exactly)
