-- The rules on the children of fusions, and that fusions which break none make a tree.
use Rattle.std.proofs.Common.{ℕ, ◌+◌, ◌<◌, ◌≤◌, ◌≡◌, ◌⊎◌, Bool, true, false, ◌||◌, eqb, leb, List, length, take, set, get_or, sym, ap, ◌∙◌, subst, inl, inr, arith, length-set}
use Rattle.std.proofs.lemmas.Bool.{both_ways, cases_eq, cases_order, eq-eqb, eqb-false, leb-false, or_from, or_left, or_parts, or_right, ne_eqb}
use Rattle.std.proofs.lemmas.List.{get_or-map, get_or-set_same, get_or-set_other, length-map, length-take-le}
use Rattle.std.proofs.lemmas.List.Folds.{list_any_at, list_any_more}
use Rattle.fb_plan.specs.Plans.{IsTree, join_at, most_units, names}
use Rattle.fb_plan.specs.InternalLayout.{tree_of}
use Rattle.fb_plan.specs.Rules.{is_named, is_out_of_range, is_used_twice, joins_of}
use Rattle.fb_plan.specs.declared.parts.Join.{Join}
use Rattle.fb_plan.proofs.Trees.{names_cases}
use Rattle.fb_plan.proofs.Tables.{get_or-take}
use Rattle.fb_graph.proofs.Booleans.{or_nothing}

pub length-joins_of : (fusions : List Join) → length (joins_of fusions) ≡ length fusions
length-joins_of fusions = length-map fusions (λ join. (join.left, join.right))

pub join_of : (fusions : List Join) (i : ℕ) (d : Join) → i < length fusions
    → join_at (joins_of fusions) i ≡ ((get_or fusions i d).left, (get_or fusions i d).right)
join_of fusions i d less = get_or-map (λ join. (join.left, join.right)) fusions i d (0, 0) less

-- the fusion as it was read
join_read : (fusions : List Join) (i : ℕ) (join : Join) → i < length fusions → join ≡ get_or fusions i join
    → join_at (joins_of fusions) i ≡ (join.left, join.right)
join_read fusions i join less is = join_of fusions i join less ∙ ap (λ j. (j.left, j.right)) (sym is)

pub out_of_range_at : (units : ℕ) (fusions : List Join) (i : ℕ) (join : Join) → i < length fusions → join ≡ get_or fusions i join
    → is_out_of_range units (joins_of fusions) i ≡ (leb (units + i) join.left || leb (units + i) join.right)
out_of_range_at units fusions i join less is =
    ap (λ j. leb (units + i) j.0 || leb (units + i) j.1) (join_read fusions i join less is)

-- the flags tell which nodes are named
abbrev pub AreNamed : List Bool → List (ℕ × ℕ) → ℕ → Type 0
AreNamed used joins nodes = (n : ℕ) → n < nodes → get_or used n false ≡ is_named joins n

pub used_twice_at : (fusions : List Join) (i nodes : ℕ) (join : Join) (used : List Bool) → i < length fusions
    → join ≡ get_or fusions i join → join.left < nodes → join.right < nodes
    → AreNamed used (take i (joins_of fusions)) nodes
    → is_used_twice (joins_of fusions) i ≡ (eqb join.left join.right || get_or used join.left false || get_or used join.right false)
used_twice_at fusions i nodes join used less is left right told =
    ap (λ j. eqb j.0 j.1 || is_named (take i (joins_of fusions)) j.0 || is_named (take i (joins_of fusions)) j.1)
    (join_read fusions i join less is)
    ∙ ap (λ b. eqb join.left join.right || b || is_named (take i (joins_of fusions)) join.right) (sym (told join.left left))
    ∙ ap (λ b. eqb join.left join.right || get_or used join.left false || b) (sym (told join.right right))

-- both children of one more fusion flagged
pub named_more : (fusions : List Join) (i nodes : ℕ) (join : Join) (used : List Bool) → i < length fusions
    → join ≡ get_or fusions i join → join.left < nodes → join.right < nodes → length used ≡ nodes
    → AreNamed used (take i (joins_of fusions)) nodes
    → AreNamed (set (set used join.left true) join.right true) (take (i + 1) (joins_of fusions)) nodes
named_more fusions i nodes join used less is left right count told n node =
    step (cases_eq n join.right) (cases_eq n join.left)
    ∙ sym (list_any_more (λ j. names j n) (joins_of fusions) i (0, 0) (omega (arith, less, length-joins_of fusions))
    ∙ ap (λ j. is_named (take i (joins_of fusions)) n || names j n) (join_read fusions i join less is))
  where
    step : (n ≡ join.right) ⊎ (n ≡ join.right → ⊥) → (n ≡ join.left) ⊎ (n ≡ join.left → ⊥)
        → get_or (set (set used join.left true) join.right true) n false
        ≡ (is_named (take i (joins_of fusions)) n || names (join.left, join.right) n)
    step (inl same) any =
        ap (λ k. get_or (set (set used join.left true) join.right true) k false) same
        ∙ get_or-set_same (set used join.left true) join.right true false (omega (arith, right, count, length-set used join.left true))
        ∙ sym (or_right (is_named (take i (joins_of fusions)) n) _ (or_right (eqb join.left n) _ (eq-eqb join.right n (sym same))))
    step (inr other) (inl same) =
        get_or-set_other (set used join.left true) join.right n true false other
        ∙ ap (λ k. get_or (set used join.left true) k false) same
        ∙ get_or-set_same used join.left true false (omega (arith, left, count))
        ∙ sym (or_right (is_named (take i (joins_of fusions)) n) _ (or_left _ (eqb join.right n) (eq-eqb join.left n (sym same))))
    step (inr not_right) (inr not_left) =
        get_or-set_other (set used join.left true) join.right n true false not_right
        ∙ get_or-set_other used join.left n true false not_left
        ∙ told n node
        ∙ sym (or_nothing (is_named (take i (joins_of fusions)) n) _
        (or_from _ _ (ne_eqb join.left n (λ e. not_left (sym e))) (ne_eqb join.right n (λ e. not_right (sym e)))))

-- fusions that break no rule make a tree
pub tree_of_rules : (units : ℕ) (joins : List (ℕ × ℕ)) → units ≤ most_units → units ≡ length joins + 1
    → ((i : ℕ) → i < length joins → is_out_of_range units joins i ≡ false)
    → ((i : ℕ) → i < length joins → is_used_twice joins i ≡ false)
    → IsTree (tree_of units joins)
tree_of_rules units joins limit count low unused = record {
  limit = limit;
  count = count;
  joins = λ i less. record {
    left = leb-false (units + i) (join_at joins i).0 (or_parts _ _ (low i less)).0;
    right = leb-false (units + i) (join_at joins i).1 (or_parts _ _ (low i less)).1;
    differ = eqb-false (join_at joins i).0 (join_at joins i).1 (or_parts _ _ (or_parts _ _ (unused i less)).0).0;
  };
  once = λ i k n less_i less_k named_i named_k.
      elim (cases_order i k) [
        | inl same ↦ same
        | inr (inl before) ↦ absurd (again i k n before less_k named_i named_k)
        | inr (inr after) ↦ absurd (again k i n after less_i named_k named_i)
      ];
}
  where
    again : (i k n : ℕ) → i < k → k < length joins → names (join_at joins i) n ≡ true → names (join_at joins k) n ≡ true → ⊥
    again i k n before less named_i named_k =
        let in_front : is_named (take k joins) n ≡ true =
        list_any_at (λ j. names j n) (take k joins) i (0, 0) (omega (arith, before, length-take-le k joins (omega (arith, less))))
        (subst (λ j. names j n ≡ true) (sym (get_or-take joins k i (0, 0) before (omega (arith, less)))) named_i) in
        elim (names_cases (join_at joins k) n named_k) [
          | inl left ↦ both_ways (is_named (take k joins) n)
              (ap (is_named (take k joins)) (sym left) ∙ (or_parts _ _ (or_parts _ _ (unused k less)).0).1) in_front
          | inr right ↦ both_ways (is_named (take k joins) n)
              (ap (is_named (take k joins)) (sym right) ∙ (or_parts _ _ (unused k less)).1) in_front
        ]
