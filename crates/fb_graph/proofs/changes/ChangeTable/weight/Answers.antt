use Rattle.std.proofs.Common.{◌≡◌, ◌∙◌, Some, eqb-true, length, subst, sym, vec_len, arith}
use Rattle.std.specs.Slice.{IsItemAt}
use mir.Val.{SFits}
use mir.Syntax.{w64}
use Rattle.std.proofs.Common.{rules}
use Rattle.std.proofs.lemmas.Int.{to_z-of_z}
use Rattle.fb_graph.proofs.SortedChanges.{found_weight, kept_weight, kept_past, never_fall, weight_by-none}
use Rattle.fb_graph.proofs.changes.ChangeTable.weight.Goals as goal

pub returns-in-Some : goal.returns-in-Some
returns-in-Some c =
    let rises = never_fall _ (rw c.self.view_is at c.self.invariant) in
    let at = subst (λ l. IsItemAt l c.place_of.result (Some c.in-Some.change)) (c.deref.ensures.value ∙ c.self.view_is) c.in-Some.ensures.lookup in
    let fits : SFits w64 c.in-Some.change.now.1 = search rules in
    to_z-of_z w64 _ fits ∙ found_weight _ _ c.args.weight _ rises c.place_of.ensures c.in-Some.change at c.if-change-e.true

pub returns-in_default : goal.returns-in_default
returns-in_default c =
    let rises = never_fall _ (rw c.self.view_is at c.self.invariant) in
    let at = subst (λ l. IsItemAt l c.place_of.result (Some c.in-Some.change)) (c.deref.ensures.value ∙ c.self.view_is) c.in-Some.ensures.lookup in
    to_z-of_z w64 _ c.ranges.weight ∙ kept_weight _ _ c.args.weight _ rises c.place_of.ensures c.in-Some.change at c.if-change-e.false

pub returns-in_default-2 : goal.returns-in_default-2
returns-in_default-2 c =
    let rises = never_fall _ (rw c.self.view_is at c.self.invariant) in
    let at = subst (λ l. IsItemAt l c.place_of.result c.get.result) (c.deref.ensures.value ∙ c.self.view_is) c.get.ensures.lookup in
    to_z-of_z w64 _ c.ranges.weight ∙ kept_past _ _ c.args.weight _ rises c.place_of.ensures (subst (IsItemAt c.args.self.now c.place_of.result) c.in_default.is at)

pub returns-then-is_empty : goal.returns-then-is_empty
returns-then-is_empty c =
    let empty : vec_len c.self.inside.changes ≡ 0 = eqb-true _ 0 (sym c.is_empty.ensures ∙ c.if-is_empty.true) in
    let none : length c.self.inside.changes.items ≡ 0 = omega arith in
    to_z-of_z w64 _ c.ranges.weight ∙ rw (← c.self.view_is) (weight_by-none c.self.inside.changes.items c.args.e c.args.weight none)
