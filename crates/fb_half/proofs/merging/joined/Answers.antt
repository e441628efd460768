use Rattle.std.proofs.Common.{◌≡◌, ◌∙◌, [], length, sym, ap, subst}
use Rattle.std.proofs.lemmas.List.{nil_from_length}
use Rattle.std.specs.List.Sorted.{IsStrictlyIncreasing}
use Rattle.fb_half.specs.InternalMerging.{IsExtended}
use Rattle.fb_half.proofs.DoneSteps.{each_ok}
use Rattle.fb_half.proofs.ExtendedParts.{joined_left, joined_right}
use Rattle.fb_half.proofs.JoinedParts.{left_rises, right_rises, sibling_parts}
use Rattle.fb_half.proofs.merging.joined.Goals as goal

pub extended-requires-clause-part : goal.extended-requires-clause-part
extended-requires-clause-part c = (sibling_parts _ _ _ c.requires).left_part

pub extended-requires-clause-defects : goal.extended-requires-clause-defects
extended-requires-clause-defects c = left_rises _ _ _ c.requires

pub extended-requires-clause-other_defects : goal.extended-requires-clause-other_defects
extended-requires-clause-other_defects c =
    subst (λ p. IsStrictlyIncreasing p.defects.items) (sym c.deref-then-len-eq0.ensures) (right_rises _ _ _ c.requires)

pub returns-then-len-eq0 : goal.returns-then-len-eq0
returns-then-len-eq0 c =
    let none : c.args.right.value.regions.nodes ≡ [] =
    nil_from_length c.args.right.value.regions.nodes
    (ap (λ p. length p.regions.nodes) (sym c.deref.ensures) ∙ (sym c.len.ensures ∙ c.if-len-eq0.true)) in
    each_ok c.extended.result
    (λ p e. joined_left _ _ _ p.value c.requires none
    (subst (λ x. IsExtended c.args.scope.now c.args.left.value x p.value) c.deref-then-len-eq0.ensures e))
    c.extended.ensures

pub extended-requires-then-len-eq0-2-clause-part : goal.extended-requires-then-len-eq0-2-clause-part
extended-requires-then-len-eq0-2-clause-part c = (sibling_parts _ _ _ c.requires).right_part

pub extended-requires-then-len-eq0-2-clause-defects : goal.extended-requires-then-len-eq0-2-clause-defects
extended-requires-then-len-eq0-2-clause-defects c = right_rises _ _ _ c.requires

pub extended-requires-then-len-eq0-2-clause-other_defects : goal.extended-requires-then-len-eq0-2-clause-other_defects
extended-requires-then-len-eq0-2-clause-other_defects c =
    subst (λ p. IsStrictlyIncreasing p.defects.items) (sym c.deref-then-len-eq0-2.ensures) (left_rises _ _ _ c.requires)

pub returns-then-len-eq0-2 : goal.returns-then-len-eq0-2
returns-then-len-eq0-2 c =
    let none : c.args.left.value.regions.nodes ≡ [] =
    nil_from_length c.args.left.value.regions.nodes
    (ap (λ p. length p.regions.nodes) (sym c.deref-2.ensures) ∙ (sym c.len-2.ensures ∙ c.if-len-eq0-2.true)) in
    each_ok c.extended-then-len-eq0-2.result
    (λ p e. joined_right _ _ _ p.value c.requires none
    (subst (λ x. IsExtended c.args.scope.now c.args.right.value x p.value) c.deref-then-len-eq0-2.ensures e))
    c.extended-then-len-eq0-2.ensures
