use Rattle.std.proofs.Common.{ℕ, ◌≡◌, ◌+◌, ◌<◌, ◌∙◌, List, None, Some, Ok, All, ap, length, map, subst, sym, arith}
use Rattle.std.specs.Option.{option_or}
use Rattle.std.specs.Prelude.{option_map}
use Rattle.std.proofs.lemmas.List.{length-map}
use Rattle.std.proofs.lemmas.List.FromFn.{length-map-range_with_len}
use Rattle.fb_graph.specs.Problem.{edge_at}
use Rattle.fb_plan.specs.Plans.{IsPlan, IsTree, goes_across}
use Rattle.fb_plan.specs.InternalLayout.{tree_of}
use Rattle.fb_plan.specs.Rules.{claims_from, joins_of, owner_in, range_fault, ranges_of, seams_of, tree_by, twice_fault, unowned_fault}
use Rattle.fb_graph.specs.Leasts.{least}
use Rattle.fb_plan.specs.declared.faults.PlanFault.TheVariants.{EdgeAcross}
use Rattle.fb_plan.proofs.Fusions.{length-joins_of}
use Rattle.fb_plan.proofs.Gathering.{length-ranges_of}
use Rattle.fb_plan.proofs.Growth.{fault_of_edges, claims_below, is_plan_by, once_from, same_plan, tree_from_rules}
use Rattle.fb_plan.proofs.plan.Plan.build.Goals as goal

pub grown-requires-clause-nodes : goal.grown-requires-clause-nodes
grown-requires-clause-nodes c =
    let units : List (List (ℕ × ℕ)) = map (λ u. u.items) c.args.units.now in
    let claims : c.deref-2.result.now ≡ claims_from 0 (ranges_of units c.args.fusions.now) = c.deref-2.ensures.value ∙ c.in-Ok.ensures.ok in
    subst (λ cs. All (λ x. x.node < length c.args.units.now + length c.args.fusions.now) cs) (sym claims)
    (claims_below (ranges_of units c.args.fusions.now) (length c.args.units.now + length c.args.fusions.now)
    (length-ranges_of (λ u. u.items) c.args.units.now c.args.fusions.now))

pub grown-requires-clause-once : goal.grown-requires-clause-once
grown-requires-clause-once c =
    once_from c.args.graph.now c.deref-2.result.now
    (subst (λ cs. option_or (unowned_fault c.args.graph.now cs) (twice_fault c.args.graph.now cs) ≡ None)
    (c.deref.ensures.value ∙ sym c.deref-2.ensures.value) (sym c.in-Ok-None.ensures ∙ c.in-Ok-None.field-0-is))

pub grown-requires-clause-tree : goal.grown-requires-clause-tree
grown-requires-clause-tree c =
    tree_from_rules (length c.args.units.now) c.args.fusions.now (omega arith)
    (sym c.in-Ok-None-judge_fusions.ensures ∙ c.in-Ok-None-judge_fusions.field-0-is)

pub first_across-requires : goal.first_across-requires
first_across-requires c =
    ap (λ p. length p.owners) c.in-Ok-grown.ensures
    ∙ length-map-range_with_len (owner_in c.args.graph.now c.deref-2.result.now) 0 c.args.graph.now.vertices

pub returns-in-Some-first_across-clause-ok : goal.returns-in-Some-first_across-clause-ok
returns-in-Some-first_across-clause-ok c = tt

pub returns-in-Some-first_across-clause-valid : goal.returns-in-Some-first_across-clause-valid
returns-in-Some-first_across-clause-valid c = tt

pub returns-in-Some-first_across-clause-err : goal.returns-in-Some-first_across-clause-err
returns-in-Some-first_across-clause-err c not_memory =
    let units : List (List (ℕ × ℕ)) = map (λ u. u.items) c.args.units.now in
    let claims : c.deref-2.result.now ≡ claims_from 0 (ranges_of units c.args.fusions.now) = c.deref-2.ensures.value ∙ c.in-Ok.ensures.ok in
    let count : length units ≡ length c.args.units.now = length-map c.args.units.now (λ u. u.items) in
    let plan : c.in-Ok-grown.plan ≡ tree_by c.args.graph.now units (joins_of c.args.fusions.now) (seams_of c.args.fusions.now) =
    c.in-Ok-grown.ensures ∙ same_plan c.args.graph.now _ _ c.args.fusions.now c.deref-2.result.now _ (sym count) claims in
    fault_of_edges c.args.graph.now units c.args.fusions.now (length c.args.units.now) c.deref.result.now c.in-Ok-grown.plan count (omega arith)
    (c.deref.ensures.value ∙ c.in-Ok.ensures.ok) plan
    (subst (λ n. range_fault n (ranges_of units c.args.fusions.now) ≡ None) c.vertices.ensures c.in-Ok.ensures.good)
    (sym c.in-Ok-None.ensures ∙ c.in-Ok-None.field-0-is)
    (sym c.in-Ok-None-judge_fusions.ensures ∙ c.in-Ok-None-judge_fusions.field-0-is)
    _ (ap (option_map EdgeAcross) (sym c.first_across.ensures ∙ c.in-Some-first_across.is)
    ∙ ap (λ k. Some (EdgeAcross k)) (sym c.from.ensures))

pub returns-clause-ok : goal.returns-clause-ok
returns-clause-ok c =
    let units : List (List (ℕ × ℕ)) = map (λ u. u.items) c.args.units.now in
    let claims : c.deref-2.result.now ≡ claims_from 0 (ranges_of units c.args.fusions.now) = c.deref-2.ensures.value ∙ c.in-Ok.ensures.ok in
    let count : length units ≡ length c.args.units.now = length-map c.args.units.now (λ u. u.items) in
    let plan : c.in-Ok-grown.plan ≡ tree_by c.args.graph.now units (joins_of c.args.fusions.now) (seams_of c.args.fusions.now) =
    c.in-Ok-grown.ensures ∙ same_plan c.args.graph.now _ _ c.args.fusions.now c.deref-2.result.now _ (sym count) claims in
    fault_of_edges c.args.graph.now units c.args.fusions.now (length c.args.units.now) c.deref.result.now c.in-Ok-grown.plan count (omega arith)
    (c.deref.ensures.value ∙ c.in-Ok.ensures.ok) plan
    (subst (λ n. range_fault n (ranges_of units c.args.fusions.now) ≡ None) c.vertices.ensures c.in-Ok.ensures.good)
    (sym c.in-Ok-None.ensures ∙ c.in-Ok-None.field-0-is)
    (sym c.in-Ok-None-judge_fusions.ensures ∙ c.in-Ok-None-judge_fusions.field-0-is)
    _ (ap (option_map EdgeAcross) (sym c.first_across.ensures ∙ c.in-None.is))
    ∙ ap Ok (sym plan)

pub returns-clause-valid : goal.returns-clause-valid
returns-clause-valid c =
    let units : List (List (ℕ × ℕ)) = map (λ u. u.items) c.args.units.now in
    let claims : c.deref-2.result.now ≡ claims_from 0 (ranges_of units c.args.fusions.now) = c.deref-2.ensures.value ∙ c.in-Ok.ensures.ok in
    let count : length units ≡ length c.args.units.now = length-map c.args.units.now (λ u. u.items) in
    let plan : c.in-Ok-grown.plan ≡ tree_by c.args.graph.now units (joins_of c.args.fusions.now) (seams_of c.args.fusions.now) =
    c.in-Ok-grown.ensures ∙ same_plan c.args.graph.now _ _ c.args.fusions.now c.deref-2.result.now _ (sym count) claims in
    subst (IsPlan c.args.graph.now) (sym plan)
    (is_plan_by c.args.graph.now units (joins_of c.args.fusions.now) (seams_of c.args.fusions.now)
    (subst (λ n. IsTree (tree_of n (joins_of c.args.fusions.now))) (sym count)
    (tree_from_rules (length c.args.units.now) c.args.fusions.now (omega arith)
    (sym c.in-Ok-None-judge_fusions.ensures ∙ c.in-Ok-None-judge_fusions.field-0-is)))
    (length-ranges_of (λ u. u.items) c.args.units.now c.args.fusions.now ∙ ap (λ k. k + length c.args.fusions.now) (sym count)
    ∙ ap (λ k. length units + k) (sym (length-joins_of c.args.fusions.now)))
    (once_from c.args.graph.now (claims_from 0 (ranges_of units c.args.fusions.now))
    (subst (λ cs. option_or (unowned_fault c.args.graph.now cs) (twice_fault c.args.graph.now cs) ≡ None)
    (c.deref.ensures.value ∙ c.in-Ok.ensures.ok) (sym c.in-Ok-None.ensures ∙ c.in-Ok-None.field-0-is)))
    (subst (λ p. least (length c.args.graph.now.edges) (λ e. goes_across p (edge_at c.args.graph.now.edges e)) ≡ None) plan
    (sym c.first_across.ensures ∙ c.in-None.is)))
