-- The subtrees of a tree: which nodes they hold, and how two of them lie to each other.
use Rattle.std.proofs.Common.{ℕ, zero, suc, ◌+◌, ◌-◌, ◌<◌, ◌≤◌, ◌≡◌, ◌≢◌, ◌⊎◌, Bool, true, false, ◌||◌, eqb, List, [], ◌∷◌, ◌++◌, length, map, get_or, refl, sym, ap, ◌∙◌, subst, inl, inr, arith, length-append}
use Rattle.std.proofs.Math.Bool.{or-false}
use Rattle.std.specs.List.{range_with_len}
use Rattle.std.proofs.Math.Seq.{get_or-append_seam}
use Rattle.std.proofs.lemmas.Bool.{both_ways, cases_lt, eq-eqb, eqb-true, or_cases, or_left, or_right}
use Rattle.std.proofs.lemmas.List.{get_or_append_left, get_or_past}
use Rattle.std.proofs.lemmas.List.FromFn.{get_or-map-range_with_len, length-map-range_with_len}
use Rattle.fb_graph.specs.Parity.{is_in}
use Rattle.fb_graph.proofs.Members.{is_in-append}
use Rattle.fb_plan.specs.Plans.{PlanTree, IsTree, join_at, names, node_count, subtrees, subtrees_from, is_within}

abbrev pub sub_at : List (List ℕ) → ℕ → List ℕ
sub_at lists n = get_or lists n []

subtrees-known : (known : List (List ℕ)) (joins : List (ℕ × ℕ)) (k : ℕ) → k < length known
    → sub_at (subtrees_from known joins) k ≡ sub_at known k
subtrees-known known [] k less = refl
subtrees-known known (join ∷ joins) k less =
    subtrees-known (known ++ made ∷ []) joins k (omega (arith, length-append known (made ∷ [])))
    ∙ get_or_append_left known (made ∷ []) [] k less
  where
    made : List ℕ
    made = sub_at known join.0 ++ sub_at known join.1 ++ length known ∷ []

length-subtrees_from : (known : List (List ℕ)) (joins : List (ℕ × ℕ))
    → length (subtrees_from known joins) ≡ length known + length joins
length-subtrees_from known [] = omega arith
length-subtrees_from known (join ∷ joins) =
    let made : List ℕ = sub_at known join.0 ++ sub_at known join.1 ++ length known ∷ [] in
    omega (arith, length-subtrees_from (known ++ made ∷ []) joins, length-append known (made ∷ []))

subtrees-joined : (known : List (List ℕ)) (joins : List (ℕ × ℕ)) (i n : ℕ) → i < length joins → n ≡ length known + i
    → (join_at joins i).0 < n → (join_at joins i).1 < n
    → sub_at (subtrees_from known joins) n
    ≡ sub_at (subtrees_from known joins) (join_at joins i).0 ++ sub_at (subtrees_from known joins) (join_at joins i).1 ++ n ∷ []
subtrees-joined known [] i n less is left right = absurd (omega arith)
subtrees-joined known (join ∷ joins) zero n less is left right =
    let here : n ≡ length known = omega arith in
    ap (sub_at (subtrees_from known (join ∷ joins))) here
    ∙ subtrees-known (known ++ made ∷ []) joins (length known) (omega (arith, length-append known (made ∷ [])))
    ∙ get_or-append_seam known made [] []
    ∙ ap (λ a. a ++ sub_at known join.1 ++ length known ∷ []) (sym (subtrees-known known (join ∷ joins) join.0 (omega arith)))
    ∙ ap (λ b. sub_at (subtrees_from known (join ∷ joins)) join.0 ++ b ++ length known ∷ [])
    (sym (subtrees-known known (join ∷ joins) join.1 (omega arith)))
    ∙ ap (λ k. sub_at (subtrees_from known (join ∷ joins)) join.0 ++ sub_at (subtrees_from known (join ∷ joins)) join.1 ++ k ∷ []) (sym here)
  where
    made : List ℕ
    made = sub_at known join.0 ++ sub_at known join.1 ++ length known ∷ []
subtrees-joined known (join ∷ joins) (suc i) n less is left right =
    subtrees-joined (known ++ made ∷ []) joins i n (omega arith) (omega (arith, length-append known (made ∷ []))) left right
  where
    made : List ℕ
    made = sub_at known join.0 ++ sub_at known join.1 ++ length known ∷ []

leaves-length : (t : PlanTree) → length (map (λ n. n ∷ []) (range_with_len 0 t.units)) ≡ t.units
leaves-length t = length-map-range_with_len (λ n. n ∷ []) 0 t.units

pub length-subtrees : (t : PlanTree) → length (subtrees t) ≡ node_count t
length-subtrees t =
    omega (arith, length-subtrees_from (map (λ n. n ∷ []) (range_with_len 0 t.units)) t.joins, leaves-length t)

-- a unit's subtree is itself
pub subtree_of_unit : (t : PlanTree) (n : ℕ) → n < t.units → sub_at (subtrees t) n ≡ n ∷ []
subtree_of_unit t n less =
    subtrees-known (map (λ n. n ∷ []) (range_with_len 0 t.units)) t.joins n (omega (arith, leaves-length t))
    ∙ get_or-map-range_with_len (λ n. n ∷ []) 0 t.units n n [] less (omega arith)

-- a fusion's subtree is its children's and itself
pub subtree_of_fusion : (t : PlanTree) → IsTree t → (i : ℕ) → i < length t.joins
    → sub_at (subtrees t) (t.units + i)
    ≡ sub_at (subtrees t) (join_at t.joins i).0 ++ sub_at (subtrees t) (join_at t.joins i).1 ++ (t.units + i) ∷ []
subtree_of_fusion t tree i less =
    subtrees-joined (map (λ n. n ∷ []) (range_with_len 0 t.units)) t.joins i (t.units + i) less
    (omega (arith, leaves-length t)) (tree.joins i less).left (tree.joins i less).right

pub within_of_unit : (t : PlanTree) (n m : ℕ) → n < t.units → is_within t n m ≡ eqb n m
within_of_unit t n m less = ap (λ xs. is_in xs m) (subtree_of_unit t n less) ∙ or-false (eqb n m)

or_three : (a b c : Bool) → ((a || b) || (c || false)) ≡ (a || (b || c))
or_three true b c = refl
or_three false true c = refl
or_three false false c = or-false c

pub is_in_joined : (xs ys : List ℕ) (n m : ℕ) → is_in (xs ++ ys ++ n ∷ []) m ≡ (is_in xs m || (is_in ys m || eqb n m))
is_in_joined xs ys n m =
    is_in-append (xs ++ ys) (n ∷ []) m
    ∙ ap (λ b. b || is_in (n ∷ []) m) (is_in-append xs ys m)
    ∙ or_three (is_in xs m) (is_in ys m) (eqb n m)

pub within_of_fusion : (t : PlanTree) → IsTree t → (i m : ℕ) → i < length t.joins
    → is_within t (t.units + i) m
    ≡ (is_within t (join_at t.joins i).0 m || (is_within t (join_at t.joins i).1 m || eqb (t.units + i) m))
within_of_fusion t tree i m less =
    ap (λ xs. is_in xs m) (subtree_of_fusion t tree i less)
    ∙ is_in_joined (sub_at (subtrees t) (join_at t.joins i).0) (sub_at (subtrees t) (join_at t.joins i).1) (t.units + i) m

-- only a node has something within it
pub within_is_node : (t : PlanTree) (n m : ℕ) → is_within t n m ≡ true → n < node_count t
within_is_node t n m within = step (cases_lt n (node_count t))
  where
    step : (n < node_count t) ⊎ (node_count t ≤ n) → n < node_count t
    step (inl less) = less
    step (inr beyond) =
        absurd (both_ways (is_within t n m)
        (ap (λ xs. is_in xs m) (get_or_past (subtrees t) n [] (omega (arith, length-subtrees t)))) within)

-- what lies within a node is itself, or lies within one of its children
abbrev pub WithinCases : PlanTree → ℕ → ℕ → Type 0
WithinCases t n m = (n ≡ m) ⊎ ((i : ℕ) × (i < length t.joins) × (n ≡ t.units + i)
    × ((is_within t (join_at t.joins i).0 m ≡ true) ⊎ (is_within t (join_at t.joins i).1 m ≡ true)))

pub within_cases : (t : PlanTree) → IsTree t → (n m : ℕ) → is_within t n m ≡ true → WithinCases t n m
within_cases t tree n m within = step (cases_lt n t.units)
  where
    node : n < node_count t
    node = within_is_node t n m within

    split : (i : ℕ) → i < length t.joins → n ≡ t.units + i
        → (is_within t (join_at t.joins i).0 m || (is_within t (join_at t.joins i).1 m || eqb (t.units + i) m)) ≡ true
        → WithinCases t n m
    split i less is found =
        elim (or_cases (is_within t (join_at t.joins i).0 m) (is_within t (join_at t.joins i).1 m || eqb (t.units + i) m) found) [
          | inl left ↦ inr (i, less, is, inl left)
          | inr rest ↦ elim (or_cases (is_within t (join_at t.joins i).1 m) (eqb (t.units + i) m) rest) [
            | inl right ↦ inr (i, less, is, inr right)
            | inr same ↦ inl (is ∙ eqb-true (t.units + i) m same)
          ]
        ]

    step : (n < t.units) ⊎ (t.units ≤ n) → WithinCases t n m
    step (inl less) = inl (eqb-true n m (sym (within_of_unit t n m less) ∙ within))
    step (inr above) =
        let is : n ≡ t.units + (n - t.units) = omega arith in
        let less : n - t.units < length t.joins = omega (arith, node) in
        split (n - t.units) less is
        (sym (within_of_fusion t tree (n - t.units) m less) ∙ ap (λ k. is_within t k m) (sym is) ∙ within)

pub within_left : (t : PlanTree) → IsTree t → (i m : ℕ) → i < length t.joins
    → is_within t (join_at t.joins i).0 m ≡ true → is_within t (t.units + i) m ≡ true
within_left t tree i m less within =
    within_of_fusion t tree i m less ∙ or_left _ (is_within t (join_at t.joins i).1 m || eqb (t.units + i) m) within

pub within_right : (t : PlanTree) → IsTree t → (i m : ℕ) → i < length t.joins
    → is_within t (join_at t.joins i).1 m ≡ true → is_within t (t.units + i) m ≡ true
within_right t tree i m less within =
    within_of_fusion t tree i m less
    ∙ or_right (is_within t (join_at t.joins i).0 m) _ (or_left _ (eqb (t.units + i) m) within)

pub within_self : (t : PlanTree) → IsTree t → (n : ℕ) → n < node_count t → is_within t n n ≡ true
within_self t tree n node = step (cases_lt n t.units)
  where
    at : (i : ℕ) → i < length t.joins → n ≡ t.units + i → is_within t n n ≡ true
    at i less is =
        subst (λ k. is_within t k k ≡ true) (sym is)
        (within_of_fusion t tree i (t.units + i) less
        ∙ or_right (is_within t (join_at t.joins i).0 (t.units + i)) _
        (or_right (is_within t (join_at t.joins i).1 (t.units + i)) _ (eq-eqb (t.units + i) (t.units + i) refl)))

    step : (n < t.units) ⊎ (t.units ≤ n) → is_within t n n ≡ true
    step (inl less) = within_of_unit t n n less ∙ eq-eqb n n refl
    step (inr above) = at (n - t.units) (omega (arith, node)) (omega arith)

-- what lies within a node has no greater number
within-le-by : (fuel : ℕ) (t : PlanTree) → IsTree t → (n m : ℕ) → n < fuel → is_within t n m ≡ true → m ≤ n
within-le-by zero t tree n m enough within = absurd (omega arith)
within-le-by (suc fuel) t tree n m enough within =
    elim (within_cases t tree n m within) [
      | inl same ↦ omega arith
      | inr (i, less, is, child) ↦
          let left : (join_at t.joins i).0 < t.units + i = (tree.joins i less).left in
          let right : (join_at t.joins i).1 < t.units + i = (tree.joins i less).right in
          elim child [
            | inl here ↦
                let below : m ≤ (join_at t.joins i).0 = within-le-by fuel t tree (join_at t.joins i).0 m (omega arith) here in
                omega arith
            | inr here ↦
                let below : m ≤ (join_at t.joins i).1 = within-le-by fuel t tree (join_at t.joins i).1 m (omega arith) here in
                omega arith
          ]
    ]

pub within-le : (t : PlanTree) → IsTree t → (n m : ℕ) → is_within t n m ≡ true → m ≤ n
within-le t tree n m within = within-le-by (suc n) t tree n m (omega arith) within

within-trans-by : (fuel : ℕ) (t : PlanTree) → IsTree t → (n m k : ℕ) → n < fuel → is_within t n m ≡ true
    → is_within t m k ≡ true → is_within t n k ≡ true
within-trans-by zero t tree n m k enough within further = absurd (omega arith)
within-trans-by (suc fuel) t tree n m k enough within further =
    elim (within_cases t tree n m within) [
      | inl same ↦ subst (λ a. is_within t a k ≡ true) (sym same) further
      | inr (i, less, is, child) ↦
          let left : (join_at t.joins i).0 < t.units + i = (tree.joins i less).left in
          let right : (join_at t.joins i).1 < t.units + i = (tree.joins i less).right in
          subst (λ a. is_within t a k ≡ true) (sym is) (elim child [
            | inl here ↦ within_left t tree i k less (within-trans-by fuel t tree (join_at t.joins i).0 m k (omega arith) here further)
            | inr here ↦ within_right t tree i k less (within-trans-by fuel t tree (join_at t.joins i).1 m k (omega arith) here further)
          ])
    ]

pub within-trans : (t : PlanTree) → IsTree t → (n m k : ℕ) → is_within t n m ≡ true → is_within t m k ≡ true
    → is_within t n k ≡ true
within-trans t tree n m k within further = within-trans-by (suc n) t tree n m k (omega arith) within further

pub names_left : (join : ℕ × ℕ) → names join join.0 ≡ true
names_left join = or_left (eqb join.0 join.0) (eqb join.1 join.0) (eq-eqb join.0 join.0 refl)

pub names_right : (join : ℕ × ℕ) → names join join.1 ≡ true
names_right join = or_right (eqb join.0 join.1) (eqb join.1 join.1) (eq-eqb join.1 join.1 refl)

pub names_cases : (join : ℕ × ℕ) (n : ℕ) → names join n ≡ true → (join.0 ≡ n) ⊎ (join.1 ≡ n)
names_cases join n named =
    elim (or_cases (eqb join.0 n) (eqb join.1 n) named) [
      | inl left ↦ inl (eqb-true join.0 n left)
      | inr right ↦ inr (eqb-true join.1 n right)
    ]

pub named_below : (t : PlanTree) → IsTree t → (i n : ℕ) → i < length t.joins → names (join_at t.joins i) n ≡ true
    → n < t.units + i
named_below t tree i n less named =
    elim (names_cases (join_at t.joins i) n named) [
      | inl left ↦ subst (λ k. k < t.units + i) left (tree.joins i less).left
      | inr right ↦ subst (λ k. k < t.units + i) right (tree.joins i less).right
    ]

-- what a fusion names lies within it
pub named_within : (t : PlanTree) → IsTree t → (i n : ℕ) → i < length t.joins → names (join_at t.joins i) n ≡ true
    → is_within t (t.units + i) n ≡ true
named_within t tree i n less named =
    elim (names_cases (join_at t.joins i) n named) [
      | inl left ↦ subst (λ k. is_within t (t.units + i) k ≡ true) left
          (within_left t tree i (join_at t.joins i).0 less (within_self t tree (join_at t.joins i).0
          (omega (arith, (tree.joins i less).left, less))))
      | inr right ↦ subst (λ k. is_within t (t.units + i) k ≡ true) right
          (within_right t tree i (join_at t.joins i).1 less (within_self t tree (join_at t.joins i).1
          (omega (arith, (tree.joins i less).right, less))))
    ]

-- what lies within a node is itself, or the child of a fusion that lies within it too
abbrev pub IsBelow : PlanTree → ℕ → ℕ → Type 0
IsBelow t n m = (n ≡ m) ⊎ ((i : ℕ) × (i < length t.joins) × (names (join_at t.joins i) m ≡ true)
    × (is_within t n (t.units + i) ≡ true))

step-up-by : (fuel : ℕ) (t : PlanTree) → IsTree t → (n m : ℕ) → n < fuel → is_within t n m ≡ true → IsBelow t n m
step-up-by zero t tree n m enough within = absurd (omega arith)
step-up-by (suc fuel) t tree n m enough within =
    elim (within_cases t tree n m within) [
      | inl same ↦ inl same
      | inr (i, less, is, child) ↦
          let left : (join_at t.joins i).0 < t.units + i = (tree.joins i less).left in
          let right : (join_at t.joins i).1 < t.units + i = (tree.joins i less).right in
          elim child [
            | inl here ↦ up i less is (join_at t.joins i).0 (names_left (join_at t.joins i))
                (λ k w. within_left t tree i k less w)
                (step-up-by fuel t tree (join_at t.joins i).0 m (omega arith) here)
            | inr here ↦ up i less is (join_at t.joins i).1 (names_right (join_at t.joins i))
                (λ k w. within_right t tree i k less w)
                (step-up-by fuel t tree (join_at t.joins i).1 m (omega arith) here)
          ]
    ]
  where
    up : (i : ℕ) → i < length t.joins → n ≡ t.units + i → (c : ℕ) → names (join_at t.joins i) c ≡ true
        → ((k : ℕ) → is_within t c k ≡ true → is_within t (t.units + i) k ≡ true) → IsBelow t c m → IsBelow t n m
    up i less is c named lifts (inl same) =
        inr (
          i,
          less,
          subst (λ k. names (join_at t.joins i) k ≡ true) same named,
          subst (λ k. is_within t n k ≡ true) is (within_self t tree n (within_is_node t n m within)),
        )
    up i less is c named lifts (inr (k, less_k, named_k, within_k)) =
        inr (k, less_k, named_k, subst (λ a. is_within t a (t.units + k) ≡ true) (sym is) (lifts (t.units + k) within_k))

pub step_up : (t : PlanTree) → IsTree t → (n m : ℕ) → is_within t n m ≡ true → IsBelow t n m
step_up t tree n m within = step-up-by (suc n) t tree n m (omega arith) within

-- of two nodes that a third one lies within, one lies within the other
chain-by : (fuel : ℕ) (t : PlanTree) → IsTree t → (a b m : ℕ) → node_count t ≤ fuel + m → is_within t a m ≡ true
    → is_within t b m ≡ true → (is_within t a b ≡ true) ⊎ (is_within t b a ≡ true)
chain-by zero t tree a b m enough in_a in_b =
    absurd (omega (arith, within-le t tree a m in_a, within_is_node t a m in_a))
chain-by (suc fuel) t tree a b m enough in_a in_b =
    step (λ k later. chain-by fuel t tree a b k later) (step_up t tree a m in_a) (step_up t tree b m in_b)
  where
    step : ((k : ℕ) → node_count t ≤ fuel + k → is_within t a k ≡ true → is_within t b k ≡ true
        → (is_within t a b ≡ true) ⊎ (is_within t b a ≡ true))
        → IsBelow t a m → IsBelow t b m → (is_within t a b ≡ true) ⊎ (is_within t b a ≡ true)
    step onward (inl same) below = inr (subst (λ k. is_within t b k ≡ true) (sym same) in_b)
    step onward (inr above) (inl same) = inl (subst (λ k. is_within t a k ≡ true) (sym same) in_a)
    step onward (inr (i, less_i, named_i, within_i)) (inr (k, less_k, named_k, within_k)) =
        let same : i ≡ k = tree.once i k m less_i less_k named_i named_k in
        onward (t.units + i) (omega (arith, enough, named_below t tree i m less_i named_i)) within_i
        (subst (λ j. is_within t b (t.units + j) ≡ true) (sym same) within_k)

pub chain : (t : PlanTree) → IsTree t → (a b m : ℕ) → is_within t a m ≡ true → is_within t b m ≡ true
    → (is_within t a b ≡ true) ⊎ (is_within t b a ≡ true)
chain t tree a b m in_a in_b = chain-by (node_count t) t tree a b m (omega arith) in_a in_b

-- no child of a fusion lies within the other
not_within_sibling : (t : PlanTree) → IsTree t → (i a b : ℕ) → i < length t.joins → names (join_at t.joins i) a ≡ true
    → names (join_at t.joins i) b ≡ true → a ≢ b → is_within t a b ≡ true → ⊥
not_within_sibling t tree i a b less named_a named_b apart within = step (step_up t tree a b within)
  where
    step : IsBelow t a b → ⊥
    step (inl same) = apart same
    step (inr (k, less_k, named_k, within_k)) =
        let same : k ≡ i = tree.once k i b less_k less named_k named_b in
        omega (arith, named_below t tree i a less named_a, within-le t tree a (t.units + k) within_k, same)

-- the subtrees of two children share no node
pub siblings_apart : (t : PlanTree) → IsTree t → (i m : ℕ) → i < length t.joins
    → is_within t (join_at t.joins i).0 m ≡ true → is_within t (join_at t.joins i).1 m ≡ true → ⊥
siblings_apart t tree i m less in_left in_right =
    elim (chain t tree (join_at t.joins i).0 (join_at t.joins i).1 m in_left in_right) [
      | inl below ↦ not_within_sibling t tree i (join_at t.joins i).0 (join_at t.joins i).1 less
          (names_left (join_at t.joins i)) (names_right (join_at t.joins i)) (tree.joins i less).differ below
      | inr below ↦ not_within_sibling t tree i (join_at t.joins i).1 (join_at t.joins i).0 less
          (names_right (join_at t.joins i)) (names_left (join_at t.joins i)) (λ e. (tree.joins i less).differ (sym e)) below
    ]
