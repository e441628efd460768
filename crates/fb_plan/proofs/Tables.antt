-- The steps of the loops that make the tables of a tree.
use Rattle.std.proofs.Common.{ℕ, zero, suc, ◌+◌, ◌-◌, ◌<◌, ◌≤◌, ◌≡◌, ◌≢◌, ◌⊎◌, true, false, cond, List, [], ◌∷◌, ◌++◌, length, take, set, get_or, Option, Some, None, refl, sym, ap, ◌∙◌, subst, inl, inr, arith, length-set}
use Rattle.std.specs.List.{range_with_len}
use Rattle.std.specs.Option.{option_or}
use Rattle.std.proofs.Math.Seq.{get_or-append_seam}
use Rattle.std.proofs.lemmas.Bool.{cases_Bool, cases_eq, cases_lt, ne_eqb, or_from, false_from_ne_true}
use Rattle.std.proofs.lemmas.List.{get_or_append_left, get_or-set_same, get_or-set_other, length-take-le, take_more}
use Rattle.std.proofs.lemmas.List.FromFn.{length-range_with_len}
use Rattle.fb_graph.specs.Parity.{is_in}
use Rattle.fb_graph.specs.Certificate.{AreDistinct}
use Rattle.fb_graph.specs.Limits.{most_vertices}
use Rattle.fb_graph.proofs.Members.{AreDistinct_push, is_in-append}
use Rattle.fb_graph.proofs.Sets.{distinct_from_rising, is_in-range, length-le_from_within, range_rises}
use Rattle.fb_graph.proofs.Unions.{distinct_append}
use Rattle.fb_plan.specs.Plans.{PlanTree, IsTree, is_within, join_at, names, node_count, parent_from, parent_of, subtrees}
use Rattle.fb_plan.specs.InternalLayout.{IsLaidOut, IsPlaced, IsPlacedFrom, IsSorted, size_of, span_at, tree_of}
use Rattle.fb_plan.specs.Reaches.{IsReach, reach_at}
use Rattle.fb_plan.specs.declared.order.Order.{Order}
use Rattle.fb_plan.specs.declared.parts.Span.{Span}
use Rattle.fb_plan.specs.declared.reach.Reach.{Reach}
use Rattle.fb_plan.proofs.Trees.{names_left, names_right, siblings_apart, sub_at, subtree_of_fusion, subtree_of_unit, within-le}
use Rattle.fb_plan.proofs.Extents.{ordered_by}
use Rattle.fb_plan.proofs.Roots.{parent_cases}
use Rattle.fb_plan.proofs.Spans.{size_of_fusion, size_of_unit, within_as_spans}

pub get_or-take : {X : Type 0} (xs : List X) (i k : ℕ) (d : X) → k < i → i ≤ length xs → get_or (take i xs) k d ≡ get_or xs k d
get_or-take [] i k d less low = absurd (omega arith)
get_or-take (x ∷ xs) zero k d less low = absurd (omega arith)
get_or-take (x ∷ xs) (suc i) zero d less low = refl
get_or-take (x ∷ xs) (suc i) (suc k) d less low = get_or-take xs i k d (omega arith) (omega arith)

parent_push : (a : ℕ) (joins : List (ℕ × ℕ)) (join : ℕ × ℕ) (n : ℕ)
    → parent_from a (joins ++ join ∷ []) n ≡ option_or (parent_from a joins n) (cond (names join n) (Some (a + length joins)) None)
parent_push a [] join n = ap (λ k. cond (names join n) (Some k) None) (omega arith)
parent_push a (first ∷ joins) join n = step (cases_Bool (names first n)) (parent_push (a + 1) joins join n)
  where
    step : (names first n ≡ true) ⊎ (names first n ≡ false)
        → parent_from (a + 1) (joins ++ join ∷ []) n ≡ option_or (parent_from (a + 1) joins n) (cond (names join n) (Some (a + 1 + length joins)) None)
        → parent_from a (first ∷ joins ++ join ∷ []) n
        ≡ option_or (parent_from a (first ∷ joins) n) (cond (names join n) (Some (a + length (first ∷ joins))) None)
    step (inl here) rest = rw here refl
    step (inr here) rest =
        rw here (rest ∙ ap (λ k. option_or (parent_from (a + 1) joins n) (cond (names join n) (Some k) None)) (omega arith))

pub option_or-none : {X : Type 0} (o : Option X) → option_or o None ≡ o
option_or-none None = refl
option_or-none (Some x) = refl

-- what a fusion names has no parent among the fusions before it
unnamed_before : (t : PlanTree) → IsTree t → (i n : ℕ) → i < length t.joins → names (join_at t.joins i) n ≡ true
    → parent_from t.units (take i t.joins) n ≡ None
unnamed_before t tree i n less named =
    elim (parent_cases t.units (take i t.joins) n) [
      | inl none ↦ none.1
      | inr (k, less_k, named_k, found) ↦
          let before : k < i = omega (arith, less_k, length-take-le i t.joins (omega (arith, less))) in
          let same : k ≡ i = tree.once k i n (omega (arith, before, less)) less
          (subst (λ join. names join n ≡ true) (get_or-take t.joins i k (0, 0) before (omega (arith, less))) named_k) named in
          absurd (omega (arith, before, same))
    ]

pub parents_more : (t : PlanTree) → IsTree t → (parents : List (Option ℕ)) (i : ℕ) → i < length t.joins
    → length parents ≡ node_count t
    → ((n : ℕ) → n < node_count t → get_or parents n None ≡ parent_from t.units (take i t.joins) n)
    → (n : ℕ) → n < node_count t
    → get_or (set (set parents (join_at t.joins i).0 (Some (t.units + i))) (join_at t.joins i).1 (Some (t.units + i))) n None
    ≡ parent_from t.units (take (i + 1) t.joins) n
parents_more t tree parents i less count told n node =
    written (cases_eq n (join_at t.joins i).1) (cases_eq n (join_at t.joins i).0)
    ∙ sym (ap (λ joins. parent_from t.units joins n) (take_more t.joins i (0, 0) less)
    ∙ parent_push t.units (take i t.joins) (join_at t.joins i) n
    ∙ ap (λ k. option_or (parent_from t.units (take i t.joins) n) (cond (names (join_at t.joins i) n) (Some (t.units + k)) None))
    (length-take-le i t.joins (omega (arith, less))))
  where
    here : names (join_at t.joins i) n ≡ true
        → Some (t.units + i) ≡ option_or (parent_from t.units (take i t.joins) n) (cond (names (join_at t.joins i) n) (Some (t.units + i)) None)
    here named = rw (unnamed_before t tree i n less named, named) refl

    elsewhere : names (join_at t.joins i) n ≡ false
        → get_or parents n None ≡ option_or (parent_from t.units (take i t.joins) n) (cond (names (join_at t.joins i) n) (Some (t.units + i)) None)
    elsewhere unnamed = rw unnamed (told n node ∙ sym (option_or-none (parent_from t.units (take i t.joins) n)))

    written : (n ≡ (join_at t.joins i).1) ⊎ (n ≡ (join_at t.joins i).1 → ⊥)
        → (n ≡ (join_at t.joins i).0) ⊎ (n ≡ (join_at t.joins i).0 → ⊥)
        → get_or (set (set parents (join_at t.joins i).0 (Some (t.units + i))) (join_at t.joins i).1 (Some (t.units + i))) n None
        ≡ option_or (parent_from t.units (take i t.joins) n) (cond (names (join_at t.joins i) n) (Some (t.units + i)) None)
    written (inl right) any =
        ap (λ k. get_or (set (set parents (join_at t.joins i).0 (Some (t.units + i))) (join_at t.joins i).1 (Some (t.units + i))) k None) right
        ∙ get_or-set_same (set parents (join_at t.joins i).0 (Some (t.units + i))) (join_at t.joins i).1 (Some (t.units + i)) None
        (omega (arith, (tree.joins i less).right, less, count, length-set parents (join_at t.joins i).0 (Some (t.units + i))))
        ∙ here (subst (λ k. names (join_at t.joins i) k ≡ true) (sym right) (names_right (join_at t.joins i)))
    written (inr not_right) (inl left) =
        get_or-set_other (set parents (join_at t.joins i).0 (Some (t.units + i))) (join_at t.joins i).1 n (Some (t.units + i)) None not_right
        ∙ ap (λ k. get_or (set parents (join_at t.joins i).0 (Some (t.units + i))) k None) left
        ∙ get_or-set_same parents (join_at t.joins i).0 (Some (t.units + i)) None (omega (arith, (tree.joins i less).left, less, count))
        ∙ here (subst (λ k. names (join_at t.joins i) k ≡ true) (sym left) (names_left (join_at t.joins i)))
    written (inr not_right) (inr not_left) =
        get_or-set_other (set parents (join_at t.joins i).0 (Some (t.units + i))) (join_at t.joins i).1 n (Some (t.units + i)) None not_right
        ∙ get_or-set_other parents (join_at t.joins i).0 n (Some (t.units + i)) None not_left
        ∙ elsewhere (or_from _ _ (ne_eqb (join_at t.joins i).0 n (λ e. not_left (sym e))) (ne_eqb (join_at t.joins i).1 n (λ e. not_right (sym e))))

pub distinct-by : (fuel : ℕ) (t : PlanTree) → IsTree t → (n : ℕ) → n < fuel → n < node_count t → AreDistinct (sub_at (subtrees t) n)
distinct-by zero t tree n enough node = absurd (omega arith)
distinct-by (suc fuel) t tree n enough node = step (λ k less here. distinct-by fuel t tree k less here) (cases_lt n t.units)
  where
    fusion : (i : ℕ) → i < length t.joins → ((k : ℕ) → k < fuel → k < node_count t → AreDistinct (sub_at (subtrees t) k))
        → n ≡ t.units + i → AreDistinct (sub_at (subtrees t) n)
    fusion i less onward is =
        let left : (join_at t.joins i).0 < t.units + i = (tree.joins i less).left in
        let right : (join_at t.joins i).1 < t.units + i = (tree.joins i less).right in
        subst (λ k. AreDistinct (sub_at (subtrees t) k)) (sym is)
        (subst AreDistinct (sym (subtree_of_fusion t tree i less))
        (AreDistinct_push (sub_at (subtrees t) (join_at t.joins i).0 ++ sub_at (subtrees t) (join_at t.joins i).1) (t.units + i)
        (distinct_append (sub_at (subtrees t) (join_at t.joins i).0) (sub_at (subtrees t) (join_at t.joins i).1)
        (onward (join_at t.joins i).0 (omega arith) (omega arith)) (onward (join_at t.joins i).1 (omega arith) (omega arith))
        (λ v in_left.
        false_from_ne_true (is_in (sub_at (subtrees t) (join_at t.joins i).1) v) (λ in_right. siblings_apart t tree i v less in_left in_right)))
        (is_in-append (sub_at (subtrees t) (join_at t.joins i).0) (sub_at (subtrees t) (join_at t.joins i).1) (t.units + i)
        ∙ or_from _ _
        (false_from_ne_true (is_within t (join_at t.joins i).0 (t.units + i)) (λ within. omega (arith, left, within-le t tree _ _ within)))
        (false_from_ne_true (is_within t (join_at t.joins i).1 (t.units + i)) (λ within. omega (arith, right, within-le t tree _ _ within))))))

    step : ((k : ℕ) → k < fuel → k < node_count t → AreDistinct (sub_at (subtrees t) k))
        → (n < t.units) ⊎ (t.units ≤ n) → AreDistinct (sub_at (subtrees t) n)
    step onward (inl less) = subst AreDistinct (sym (subtree_of_unit t n less)) (refl, tt)
    step onward (inr above) = fusion (n - t.units) (omega (arith, node)) onward (omega arith)

-- a subtree has no more nodes than there are up to its root
pub size-le : (t : PlanTree) → IsTree t → (n : ℕ) → n < node_count t → size_of t n ≤ n + 1
size-le t tree n node =
    omega (
      arith,
      length-range_with_len 0 (n + 1),
      length-le_from_within (sub_at (subtrees t) n) (range_with_len 0 (n + 1)) (distinct-by (suc n) t tree n (omega arith) node)
          (distinct_from_rising (range_with_len 0 (n + 1)) (range_rises 0 (n + 1)))
          (λ v held. is_in-range (n + 1) v (omega (arith, within-le t tree n v held))),
    )

pub size_fits : (t : PlanTree) → IsTree t → (i : ℕ) → i < length t.joins
    → size_of t (join_at t.joins i).0 + size_of t (join_at t.joins i).1 + 1 ≤ node_count t
size_fits t tree i less =
    omega (arith, size_of_fusion t tree i less, size-le t tree (t.units + i) (omega (arith, less)), less)

pub sizes_more : (t : PlanTree) → IsTree t → (sizes : List ℕ) (i size : ℕ) → i < length t.joins → length sizes ≡ t.units + i
    → ((n : ℕ) → n < t.units + i → get_or sizes n 0 ≡ size_of t n)
    → size ≡ size_of t (join_at t.joins i).0 + size_of t (join_at t.joins i).1 + 1
    → (n : ℕ) → n < t.units + (i + 1) → get_or (sizes ++ size ∷ []) n 0 ≡ size_of t n
sizes_more t tree sizes i size less count told is n below = step (cases_eq n (t.units + i))
  where
    step : (n ≡ t.units + i) ⊎ (n ≡ t.units + i → ⊥) → get_or (sizes ++ size ∷ []) n 0 ≡ size_of t n
    step (inl same) =
        ap (λ k. get_or (sizes ++ size ∷ []) k 0) (same ∙ sym count)
        ∙ get_or-append_seam sizes size [] 0
        ∙ is
        ∙ sym (size_of_fusion t tree i less)
        ∙ ap (size_of t) (sym same)
    step (inr other) =
        get_or_append_left sizes (size ∷ []) 0 n (omega (arith, count, other)) ∙ told n (omega (arith, other))

pub unit_size : (units : ℕ) (joins : List (ℕ × ℕ)) (n : ℕ) → n < units → size_of (tree_of units joins) n ≡ 1
unit_size units joins n less = size_of_unit (tree_of units joins) n less

pub first_placed : (t : PlanTree) → IsTree t → (sizes : List ℕ) (spans : List Span) → length spans ≡ node_count t
    → ((n : ℕ) → n < node_count t → get_or sizes n 0 ≡ size_of t n)
    → ((n : ℕ) → n < node_count t → span_at spans n ≡ record { start = 0; end = get_or sizes n 0 })
    → IsPlacedFrom t spans (length t.joins)
first_placed t tree sizes spans count told each = record {
  count = count;
  width = λ n node. let is = each n node in omega (arith, ap (λ s. s.end) is, ap (λ s. s.start) is, told n node);
  limit = λ n node. omega (arith, ap (λ s. s.end) (each n node), told n node, size-le t tree n node, node);
  left = λ k above less. absurd (omega arith);
  right = λ k above less. absurd (omega arith);
}

pub all_placed : (t : PlanTree) (spans : List Span) → IsPlacedFrom t spans 0 → IsPlaced t spans
all_placed t spans from = record {
  width = from.width;
  limit = from.limit;
  left = λ k less. from.left k (omega arith) less;
  right = λ k less. from.right k (omega arith) less;
}

-- what two writes leave at each place
record TwoWritten (old new : List Span) (l r : ℕ) (a b : Span) : Type 0 where
  first : span_at new l ≡ a
  second : span_at new r ≡ b
  others : (n : ℕ) → n ≢ l → n ≢ r → span_at new n ≡ span_at old n

two_written : (spans : List Span) (l r : ℕ) (a b : Span) → l < length spans → r < length spans → l ≢ r
    → TwoWritten spans (set (set spans l a) r b) l r a b
two_written spans l r a b low_l low_r apart = record {
  first =
      get_or-set_other (set spans l a) r l b (record { start = 0; end = 0 }) apart
      ∙ get_or-set_same spans l a (record { start = 0; end = 0 }) low_l;
  second = get_or-set_same (set spans l a) r b (record { start = 0; end = 0 }) (omega (arith, low_r, length-set spans l a));
  others = λ n not_l not_r.
      get_or-set_other (set spans l a) r n b (record { start = 0; end = 0 }) not_r
      ∙ get_or-set_other spans l n a (record { start = 0; end = 0 }) not_l;
}

place_written : (t : PlanTree) → IsTree t → (spans new : List Span) (i s m e : ℕ) → i < length t.joins
    → IsPlacedFrom t spans (i + 1)
    → s ≡ (span_at spans (t.units + i)).start
    → m ≡ s + size_of t (join_at t.joins i).0
    → e ≡ m + size_of t (join_at t.joins i).1
    → length new ≡ node_count t
    → TwoWritten spans new (join_at t.joins i).0 (join_at t.joins i).1 (record { start = s; end = m }) (record { start = m; end = e })
    → IsPlacedFrom t new i
place_written t tree spans new i s m e less placed s_is m_is e_is count told = record {
  count = count;
  width = λ n node. width n node (cases_eq n (join_at t.joins i).0) (cases_eq n (join_at t.joins i).1);
  limit = λ n node. limit n node (cases_eq n (join_at t.joins i).0) (cases_eq n (join_at t.joins i).1);
  left = λ k above less_k. left k above less_k (cases_eq k i);
  right = λ k above less_k. right k above less_k (cases_eq k i);
}
  where
    low : (join_at t.joins i).0 < t.units + i
    low = (tree.joins i less).left

    low_right : (join_at t.joins i).1 < t.units + i
    low_right = (tree.joins i less).right

    -- a fusion from number i on is neither child
    kept : (k : ℕ) → i ≤ k → span_at new (t.units + k) ≡ span_at spans (t.units + k)
    kept k above = told.others (t.units + k) (λ e. omega (arith, low, e)) (λ e. omega (arith, low_right, e))

    -- and neither are the children of a later one
    kept_child : (k c : ℕ) → i < k → k < length t.joins → names (join_at t.joins k) c ≡ true → span_at new c ≡ span_at spans c
    kept_child k c after less_k named =
        told.others c
        (λ same. let again : k ≡ i = tree.once k i c less_k less named (subst (λ x. names (join_at t.joins i) x ≡ true) (sym same) (names_left (join_at t.joins i))) in omega (arith, again))
        (λ same. let again : k ≡ i = tree.once k i c less_k less named (subst (λ x. names (join_at t.joins i) x ≡ true) (sym same) (names_right (join_at t.joins i))) in omega (arith, again))

    end_low : e ≤ node_count t
    end_low =
        omega (
          arith,
          s_is,
          m_is,
          e_is,
          placed.width (t.units + i) (omega (arith, less)),
          placed.limit (t.units + i) (omega (arith, less)),
          size_of_fusion t tree i less,
        )

    width : (n : ℕ) → n < node_count t → (n ≡ (join_at t.joins i).0) ⊎ (n ≡ (join_at t.joins i).0 → ⊥)
        → (n ≡ (join_at t.joins i).1) ⊎ (n ≡ (join_at t.joins i).1 → ⊥)
        → (span_at new n).end ≡ (span_at new n).start + size_of t n
    width n node (inl same) any =
        subst (λ k. (span_at new k).end ≡ (span_at new k).start + size_of t k) (sym same)
        (omega (arith, ap (λ x. x.end) told.first, ap (λ x. x.start) told.first, m_is))
    width n node (inr other) (inl same) =
        subst (λ k. (span_at new k).end ≡ (span_at new k).start + size_of t k) (sym same)
        (omega (arith, ap (λ x. x.end) told.second, ap (λ x. x.start) told.second, e_is))
    width n node (inr not_l) (inr not_r) =
        subst (λ x. x.end ≡ x.start + size_of t n) (sym (told.others n not_l not_r)) (placed.width n node)

    limit : (n : ℕ) → n < node_count t → (n ≡ (join_at t.joins i).0) ⊎ (n ≡ (join_at t.joins i).0 → ⊥)
        → (n ≡ (join_at t.joins i).1) ⊎ (n ≡ (join_at t.joins i).1 → ⊥)
        → (span_at new n).end ≤ node_count t
    limit n node (inl same) any =
        subst (λ k. (span_at new k).end ≤ node_count t) (sym same) (omega (arith, ap (λ x. x.end) told.first, e_is, end_low))
    limit n node (inr other) (inl same) =
        subst (λ k. (span_at new k).end ≤ node_count t) (sym same) (omega (arith, ap (λ x. x.end) told.second, end_low))
    limit n node (inr not_l) (inr not_r) =
        subst (λ x. x.end ≤ node_count t) (sym (told.others n not_l not_r)) (placed.limit n node)

    left : (k : ℕ) → i ≤ k → k < length t.joins → (k ≡ i) ⊎ (k ≡ i → ⊥)
        → (span_at new (join_at t.joins k).0).start ≡ (span_at new (t.units + k)).start
    left k above less_k (inl same) =
        subst (λ j. (span_at new (join_at t.joins j).0).start ≡ (span_at new (t.units + j)).start) (sym same)
        (omega (arith, ap (λ x. x.start) told.first, ap (λ x. x.start) (kept i (omega arith)), s_is))
    left k above less_k (inr other) =
        omega (
          arith,
          ap (λ x. x.start) (kept_child k (join_at t.joins k).0 (omega (arith, other)) less_k (names_left (join_at t.joins k))),
          ap (λ x. x.start) (kept k above),
          placed.left k (omega (arith, other)) less_k,
        )

    right : (k : ℕ) → i ≤ k → k < length t.joins → (k ≡ i) ⊎ (k ≡ i → ⊥)
        → (span_at new (join_at t.joins k).1).start ≡ (span_at new (t.units + k)).start + size_of t (join_at t.joins k).0
    right k above less_k (inl same) =
        subst (λ j. (span_at new (join_at t.joins j).1).start ≡ (span_at new (t.units + j)).start + size_of t (join_at t.joins j).0) (sym same)
        (omega (arith, ap (λ x. x.start) told.second, ap (λ x. x.start) (kept i (omega arith)), s_is, m_is))
    right k above less_k (inr other) =
        omega (
          arith,
          ap (λ x. x.start) (kept_child k (join_at t.joins k).1 (omega (arith, other)) less_k (names_right (join_at t.joins k))),
          ap (λ x. x.start) (kept k above),
          placed.right k (omega (arith, other)) less_k,
        )

pub place_more : (t : PlanTree) → IsTree t → (spans : List Span) (i s m e : ℕ) → i < length t.joins
    → IsPlacedFrom t spans (i + 1)
    → s ≡ (span_at spans (t.units + i)).start
    → m ≡ s + size_of t (join_at t.joins i).0
    → e ≡ m + size_of t (join_at t.joins i).1
    → IsPlacedFrom t (set (set spans (join_at t.joins i).0 (record { start = s; end = m })) (join_at t.joins i).1 (record { start = m; end = e })) i
place_more t tree spans i s m e less placed s_is m_is e_is =
    place_written t tree spans
    (set (set spans (join_at t.joins i).0 (record { start = s; end = m })) (join_at t.joins i).1 (record { start = m; end = e }))
    i s m e less placed s_is m_is e_is
    (length-set (set spans (join_at t.joins i).0 (record { start = s; end = m })) (join_at t.joins i).1 (record { start = m; end = e })
    ∙ length-set spans (join_at t.joins i).0 (record { start = s; end = m })
    ∙ placed.count)
    (two_written spans (join_at t.joins i).0 (join_at t.joins i).1 (record { start = s; end = m }) (record { start = m; end = e })
    (omega (arith, (tree.joins i less).left, placed.count, less)) (omega (arith, (tree.joins i less).right, placed.count, less))
    (tree.joins i less).differ)

pub tree_with_owners : (t : PlanTree) (owners : List (Option ℕ)) → IsTree t → IsTree (record t { owners = owners })
tree_with_owners t owners tree = record {
  limit = tree.limit;
  count = tree.count;
  joins = tree.joins;
  once = tree.once;
}

pub one_unit : IsTree (record { units = 1; joins = []; owners = [] })
one_unit = record {
  limit = omega arith;
  count = omega arith;
  joins = λ i less. absurd (omega arith);
  once = λ i k n less_i less_k named_i named_k. absurd (omega arith);
}

-- the tables of a tree as it was read
pub laid_out : (units : ℕ) (joins seen : List (ℕ × ℕ)) (owners parents : List (Option ℕ)) (spans : List Span) (reaches : List Reach)
    (order : Order)
    → seen ≡ joins
    → IsTree (tree_of units joins)
    → ((v n : ℕ) → get_or owners v None ≡ Some n → n < units + length joins)
    → length owners ≤ most_vertices
    → length parents ≡ units + length seen
    → ((n : ℕ) → n < units + length seen → get_or parents n None ≡ parent_of (tree_of units seen) n)
    → length spans ≡ units + length seen
    → IsPlaced (tree_of units seen) spans
    → length reaches ≡ units + length seen
    → ((n : ℕ) → n < units + length seen → IsReach owners n (reach_at reaches n))
    → IsSorted owners spans order
    → IsLaidOut (record { units = units; joins = joins; owners = owners }) parents spans reaches order
laid_out units joins seen owners parents spans reaches order same tree below count parent_count each_parent span_count placed reach_count each_reach sorted = record {
  tree = tree_with_owners (tree_of units joins) owners tree;
  owners = below;
  owner_count = count;
  parent_count = subst (λ js. length parents ≡ units + length js) same parent_count;
  each_parent = subst (λ js. (n : ℕ) → n < units + length js → get_or parents n None ≡ parent_of (tree_of units js) n) same each_parent;
  span_count = subst (λ js. length spans ≡ units + length js) same span_count;
  each_span = λ n m node_n node_m. within_as_spans (tree_of units joins) spans tree
      (subst (λ js. IsPlaced (tree_of units js) spans) same placed) n m node_n node_m;
  reach_count = subst (λ js. length reaches ≡ units + length js) same reach_count;
  each_reach = subst (λ js. (n : ℕ) → n < units + length js → IsReach owners n (reach_at reaches n)) same each_reach;
  ordered = ordered_by (tree_of units joins) spans owners order tree (subst (λ js. IsPlaced (tree_of units js) spans) same placed)
      (subst (λ js. length spans ≡ units + length js) same span_count) below sorted;
}
