-- Where the subtrees lie when the nodes are listed each after its children's subtrees.
use Rattle.std.proofs.Common.{ℕ, zero, suc, ◌+◌, ◌-◌, ◌<◌, ◌≤◌, ◌≡◌, ◌⊎◌, true, List, [], ◌∷◌, ◌++◌, length, sym, ap, ◌∙◌, subst, inl, inr, arith, length-append}
use Rattle.std.proofs.lemmas.Bool.{and_from, and_parts, cases_lt, le-leb, leb-true, lt-ltb, ltb-true}
use Rattle.fb_plan.specs.Plans.{PlanTree, IsTree, join_at, node_count, root_of, is_within, subtrees}
use Rattle.fb_plan.specs.InternalLayout.{IsPlaced, covers, size_of, span_at}
use Rattle.fb_plan.specs.declared.parts.Span.{Span}
use Rattle.fb_plan.proofs.Trees.{WithinCases, sub_at, subtree_of_fusion, subtree_of_unit, within_cases, within_is_node, within-le}
use Rattle.fb_plan.proofs.Roots.{below_root}
use Rattle.fb_graph.proofs.Booleans.{same_bool}

pub size_of_unit : (t : PlanTree) (n : ℕ) → n < t.units → size_of t n ≡ 1
size_of_unit t n less = ap length (subtree_of_unit t n less)

length_joined : (xs ys : List ℕ) (n : ℕ) → length (xs ++ ys ++ n ∷ []) ≡ length xs + length ys + 1
length_joined xs ys n = omega (arith, length-append (xs ++ ys) (n ∷ []), length-append xs ys)

pub size_of_fusion : (t : PlanTree) → IsTree t → (i : ℕ) → i < length t.joins
    → size_of t (t.units + i) ≡ size_of t (join_at t.joins i).0 + size_of t (join_at t.joins i).1 + 1
size_of_fusion t tree i less =
    ap length (subtree_of_fusion t tree i less)
    ∙ length_joined (sub_at (subtrees t) (join_at t.joins i).0) (sub_at (subtrees t) (join_at t.joins i).1) (t.units + i)

pub size-positive : (t : PlanTree) → IsTree t → (n : ℕ) → n < node_count t → 1 ≤ size_of t n
size-positive t tree n node = step (cases_lt n t.units)
  where
    step : (n < t.units) ⊎ (t.units ≤ n) → 1 ≤ size_of t n
    step (inl less) = omega (arith, size_of_unit t n less)
    step (inr above) =
        let is : n ≡ t.units + (n - t.units) = omega arith in
        subst (λ k. 1 ≤ size_of t k) (sym is) (omega (arith, size_of_fusion t tree (n - t.units) (omega (arith, node))))

-- what is told of a fusion's children
pub record Children (t : PlanTree) (spans : List Span) (n i : ℕ) : Type 0 where
  pub left_node : (join_at t.joins i).0 < n
  pub right_node : (join_at t.joins i).1 < n
  pub left_start : (span_at spans (join_at t.joins i).0).start ≡ (span_at spans n).start
  pub right_start : (span_at spans (join_at t.joins i).1).start ≡ (span_at spans (join_at t.joins i).0).end
  pub right_end : (span_at spans (join_at t.joins i).1).end + 1 ≡ (span_at spans n).end

pub children_at : (t : PlanTree) (spans : List Span) → IsTree t → IsPlaced t spans → (n i : ℕ) → i < length t.joins
    → n ≡ t.units + i → Children t spans n i
children_at t spans tree placed n i less is =
    subst (λ k. Children t spans k i) (sym is)
    (let left : (join_at t.joins i).0 < t.units + i = (tree.joins i less).left in
    let right : (join_at t.joins i).1 < t.units + i = (tree.joins i less).right in
    record {
      left_node = left;
      right_node = right;
      left_start = placed.left i less;
      right_start = omega (arith, placed.right i less, placed.left i less, placed.width (join_at t.joins i).0 (omega (arith, left, less)));
      right_end = omega (
        arith,
        placed.right i less,
        placed.width (join_at t.joins i).1 (omega (arith, right, less)),
        placed.width (t.units + i) (omega (arith, less)),
        size_of_fusion t tree i less,
      );
    })

-- what lies within a node lies within its place
nested-by : (fuel : ℕ) (t : PlanTree) (spans : List Span) → IsTree t → IsPlaced t spans → (n m : ℕ) → n < fuel
    → is_within t n m ≡ true
    → ((span_at spans n).start ≤ (span_at spans m).start) × ((span_at spans m).end ≤ (span_at spans n).end)
nested-by zero t spans tree placed n m enough within = absurd (omega arith)
nested-by (suc fuel) t spans tree placed n m enough within =
    elim (within_cases t tree n m within) [
      | inl same ↦ subst (λ k. ((span_at spans n).start ≤ (span_at spans k).start) × ((span_at spans k).end ≤ (span_at spans n).end)) same (omega arith, omega arith)
      | inr (i, less, is, child) ↦
          let at : Children t spans n i = children_at t spans tree placed n i less is in
          let left_width : (span_at spans (join_at t.joins i).0).start ≤ (span_at spans (join_at t.joins i).0).end =
          omega (arith, placed.width (join_at t.joins i).0 (omega (arith, at.left_node, within_is_node t n m within))) in
          let right_width : (span_at spans (join_at t.joins i).1).start ≤ (span_at spans (join_at t.joins i).1).end =
          omega (arith, placed.width (join_at t.joins i).1 (omega (arith, at.right_node, within_is_node t n m within))) in
          elim child [
            | inl here ↦
                let inner = nested-by fuel t spans tree placed (join_at t.joins i).0 m (omega (arith, at.left_node)) here in
                (omega (arith, inner.0, at.left_start), omega (arith, inner.1, at.right_start, at.right_end, right_width))
            | inr here ↦
                let inner = nested-by fuel t spans tree placed (join_at t.joins i).1 m (omega (arith, at.right_node)) here in
                (omega (arith, inner.0, at.left_start, at.right_start, left_width), omega (arith, inner.1, at.right_end))
          ]
    ]

nested : (t : PlanTree) (spans : List Span) → IsTree t → IsPlaced t spans → (n m : ℕ) → is_within t n m ≡ true
    → ((span_at spans n).start ≤ (span_at spans m).start) × ((span_at spans m).end ≤ (span_at spans n).end)
nested t spans tree placed n m within = nested-by (suc n) t spans tree placed n m (omega arith) within

-- the other way round, for two nodes within a third one
told-by : (fuel : ℕ) (t : PlanTree) (spans : List Span) → IsTree t → IsPlaced t spans → (a n m : ℕ) → a < fuel
    → is_within t a n ≡ true → is_within t a m ≡ true
    → (span_at spans n).start < (span_at spans m).end → (span_at spans m).end ≤ (span_at spans n).end
    → is_within t n m ≡ true
told-by zero t spans tree placed a n m enough in_n in_m from to = absurd (omega arith)
told-by (suc fuel) t spans tree placed a n m enough in_n in_m from to =
    step (λ b less. told-by fuel t spans tree placed b n m (omega arith)) (within_cases t tree a n in_n) (within_cases t tree a m in_m)
  where
    positive : (span_at spans m).start < (span_at spans m).end
    positive = omega (
      arith,
      placed.width m (omega (arith, within_is_node t a m in_m, within-le t tree a m in_m)),
      size-positive t tree m (omega (arith, within_is_node t a m in_m, within-le t tree a m in_m)),
    )

    among : (i : ℕ) → Children t spans a i
        → ((b : ℕ) → b < a → is_within t b n ≡ true → is_within t b m ≡ true
        → (span_at spans n).start < (span_at spans m).end → (span_at spans m).end ≤ (span_at spans n).end
        → is_within t n m ≡ true)
        → (is_within t (join_at t.joins i).0 n ≡ true) ⊎ (is_within t (join_at t.joins i).1 n ≡ true)
        → (is_within t (join_at t.joins i).0 m ≡ true) ⊎ (is_within t (join_at t.joins i).1 m ≡ true)
        → is_within t n m ≡ true
    among i at onward (inl n_left) (inl m_left) = onward (join_at t.joins i).0 at.left_node n_left m_left from to
    among i at onward (inr n_right) (inr m_right) = onward (join_at t.joins i).1 at.right_node n_right m_right from to
    among i at onward (inl n_left) (inr m_right) =
        absurd (omega (arith, to, positive, at.right_start, (nested t spans tree placed _ n n_left).1, (nested t spans tree placed _ m m_right).0))
    among i at onward (inr n_right) (inl m_left) =
        absurd (omega (arith, from, at.right_start, (nested t spans tree placed _ n n_right).0, (nested t spans tree placed _ m m_left).1))

    step : ((b : ℕ) → b < a → is_within t b n ≡ true → is_within t b m ≡ true
        → (span_at spans n).start < (span_at spans m).end → (span_at spans m).end ≤ (span_at spans n).end
        → is_within t n m ≡ true)
        → WithinCases t a n → WithinCases t a m → is_within t n m ≡ true
    step onward (inl same) other = subst (λ k. is_within t k m ≡ true) same in_m
    step onward (inr (i, less, is, inl left)) (inl same) =
        let at : Children t spans a i = children_at t spans tree placed a i less is in
        let end : (span_at spans a).end ≡ (span_at spans m).end = ap (λ k. (span_at spans k).end) same in
        absurd (omega (
          arith,
          to,
          end,
          at.right_start,
          at.right_end,
          (nested t spans tree placed _ n left).1,
          placed.width (join_at t.joins i).1 (omega (arith, at.right_node, within_is_node t a n in_n)),
        ))
    step onward (inr (i, less, is, inr right)) (inl same) =
        let at : Children t spans a i = children_at t spans tree placed a i less is in
        let end : (span_at spans a).end ≡ (span_at spans m).end = ap (λ k. (span_at spans k).end) same in
        absurd (omega (arith, to, end, at.right_end, (nested t spans tree placed _ n right).1))
    step onward (inr (i, less, is, child_n)) (inr (k, less_k, is_k, child_m)) =
        let same : k ≡ i = omega (arith, is, is_k) in
        among i (children_at t spans tree placed a i less is) onward child_n
        (subst (λ j. (is_within t (join_at t.joins j).0 m ≡ true) ⊎ (is_within t (join_at t.joins j).1 m ≡ true)) same child_m)

-- a node lies within another exactly where its place does
pub within_as_spans : (t : PlanTree) (spans : List Span) → IsTree t → IsPlaced t spans → (n m : ℕ) → n < node_count t
    → m < node_count t → is_within t n m ≡ covers (span_at spans n) (span_at spans m)
within_as_spans t spans tree placed n m node_n node_m =
    same_bool (is_within t n m) (covers (span_at spans n) (span_at spans m)) there back
  where
    there : is_within t n m ≡ true → covers (span_at spans n) (span_at spans m) ≡ true
    there within =
        let inner = nested t spans tree placed n m within in
        and_from _ _ (lt-ltb (span_at spans n).start (span_at spans m).end
        (omega (arith, inner.0, placed.width m node_m, size-positive t tree m node_m)))
        (le-leb (span_at spans m).end (span_at spans n).end inner.1)

    back : covers (span_at spans n) (span_at spans m) ≡ true → is_within t n m ≡ true
    back covered =
        let parts = and_parts _ _ covered in
        told-by (suc (root_of t)) t spans tree placed (root_of t) n m (omega arith) (below_root t tree n node_n)
        (below_root t tree m node_m) (ltb-true (span_at spans n).start (span_at spans m).end parts.0)
        (leb-true (span_at spans m).end (span_at spans n).end parts.1)
