-- The rules of a plan that speak of its units and its fusions alone: a tree breaks none of them.
use Rattle.std.proofs.Common.{◌≡◌, ℕ, ◌+◌, ◌<◌, ◌≤◌, true, false, List, [], ◌∷◌, length, take, get_or, refl, ap, ◌∙◌, arith}
use Rattle.std.specs.Prelude.{Option, None, option_map}
use Rattle.std.proofs.lemmas.Bool.{eq-eqb, ne_eqb, le-ltb, lt-leb, false_from_ne_true}
use Rattle.std.proofs.lemmas.List.{length-take, get_or-take, get_or_default}
use Rattle.std.proofs.lemmas.List.Folds.{list_any_none}
use Rattle.fb_graph.proofs.Leasts.{least_none}
use Rattle.fb_plan.specs.Plans.{PlanTree, IsTree, most_units, names, join_at}
use Rattle.fb_plan.specs.Rules.{units_fault, child_fault, use_fault, root_fault, first_of_faults, is_out_of_range, is_used_twice, is_named}
use Rattle.fb_plan.specs.declared.faults.PlanFault.{PlanFault}
use Rattle.fb_plan.proofs.Trees.{names_left, names_right}

pub no_units_fault : (units : List (List (ℕ × ℕ))) → length units ≤ most_units → units_fault units ≡ None
no_units_fault units few = rw (le-ltb most_units (length units) few) refl

pub no_child_fault : (t : PlanTree) → IsTree t → child_fault t.units t.joins ≡ None
no_child_fault t tree =
    ap (option_map _) (least_none (length t.joins) (is_out_of_range t.units t.joins) (λ i less.
    let join = tree.joins i less in
    rw (
      lt-leb (t.units + i) (join_at t.joins i).0 join.left,
      lt-leb (t.units + i) (join_at t.joins i).1 join.right,
    ) refl))

-- no earlier fusion names a node of fusion i
not_named : (t : PlanTree) → IsTree t → (i n : ℕ) → i < length t.joins → names (join_at t.joins i) n ≡ true
    → is_named (take i t.joins) n ≡ false
not_named t tree i n less here =
    list_any_none (λ join. names join n) (take i t.joins) (λ k e early.
    let before : k < i = omega (arith, length-take i t.joins) in
    let same : get_or (take i t.joins) k e ≡ join_at t.joins k =
    get_or-take i t.joins k e before ∙ get_or_default t.joins k e (0, 0) (omega arith) in
    rw same (false_from_ne_true (names (join_at t.joins k) n) (λ there.
    absurd (omega (arith, tree.once k i n (omega arith) less there here)))))

pub no_use_fault : (t : PlanTree) → IsTree t → use_fault t.joins ≡ None
no_use_fault t tree =
    ap (option_map _) (least_none (length t.joins) (is_used_twice t.joins) (λ i less.
    rw (
      ne_eqb (join_at t.joins i).0 (join_at t.joins i).1 (tree.joins i less).differ,
      not_named t tree i (join_at t.joins i).0 less (names_left (join_at t.joins i)),
      not_named t tree i (join_at t.joins i).1 less (names_right (join_at t.joins i)),
    ) refl))

pub no_root_fault : (t : PlanTree) → IsTree t → root_fault t.units (length t.joins) ≡ None
no_root_fault t tree = rw (eq-eqb t.units (length t.joins + 1) tree.count) refl

pub no_faults : (a b c d e f g h : Option PlanFault) → a ≡ None → b ≡ None → c ≡ None → d ≡ None → e ≡ None → f ≡ None
    → g ≡ None → h ≡ None → first_of_faults (a ∷ b ∷ c ∷ d ∷ e ∷ f ∷ g ∷ h ∷ []) ≡ None
no_faults a b c d e f g h an bn cn dn en fn gn hn = rw (an, bn, cn, dn, en, fn, gn, hn) refl
