use Rattle.std.proofs.Common.{ℕ, ◌∙◌, Some, subst}
use Rattle.std.specs.List.Sorted.{IsNonDecreasingBy}
use Rattle.std.specs.Slice.{IsItemAt}
use Rattle.fb_links.proofs.SortedNames.{found_name, kept_name, kept_past}
use Rattle.fb_links.proofs.names.Names.of.Goals as goal

pub returns-in-Some : goal.returns-in-Some
returns-in-Some c =
    let rises = subst (IsNonDecreasingBy (λ (p : ℕ × ℕ). p.0)) c.self.view_is c.self.invariant in
    let at = subst (λ l. IsItemAt l c.place_of.result (Some c.in-Some.pair)) (c.deref.ensures.value ∙ c.self.view_is) c.in-Some.ensures.lookup in
    found_name _ _ _ rises c.place_of.ensures c.in-Some.pair at c.if-pair-old.true

pub returns-in_default : goal.returns-in_default
returns-in_default c =
    let rises = subst (IsNonDecreasingBy (λ (p : ℕ × ℕ). p.0)) c.self.view_is c.self.invariant in
    let at = subst (λ l. IsItemAt l c.place_of.result (Some c.in-Some.pair)) (c.deref.ensures.value ∙ c.self.view_is) c.in-Some.ensures.lookup in
    kept_name _ _ _ rises c.place_of.ensures c.in-Some.pair at c.if-pair-old.false

pub returns-in_default-2 : goal.returns-in_default-2
returns-in_default-2 c =
    let rises = subst (IsNonDecreasingBy (λ (p : ℕ × ℕ). p.0)) c.self.view_is c.self.invariant in
    let at = subst (λ l. IsItemAt l c.place_of.result c.get.result) (c.deref.ensures.value ∙ c.self.view_is) c.get.ensures.lookup in
    kept_past _ _ _ rises c.place_of.ensures (subst (IsItemAt c.args.self.now c.place_of.result) c.in_default.is at)
