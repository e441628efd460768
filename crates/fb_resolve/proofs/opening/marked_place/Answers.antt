use Rattle.fb_links.specs.declared.cycle.CycleStep.{CycleStep}
use Rattle.fb_resolve.specs.InternalMarks.{is_marked}
use Rattle.fb_resolve.proofs.Rings.{place_found, place_passed}
use Rattle.std.proofs.Common.{sym, ◌∙◌}
use Rattle.fb_resolve.proofs.opening.marked_place.Goals as goal

pub returns-then-has_mark-clause-place : goal.returns-then-has_mark-clause-place
returns-then-has_mark-clause-place c =
    place_found (λ (s : CycleStep). s.node) (is_marked c.args.marks.now) c.args.cycle.now c.loop-i.i _ c.loop-i-test.true
    (sym c.has_mark.ensures ∙ c.if-has_mark.true) c.loop-i.invariant

pub loop-i-preserved : goal.loop-i-preserved
loop-i-preserved c =
    place_passed (λ (s : CycleStep). s.node) (is_marked c.args.marks.now) c.args.cycle.now c.loop-i.i _ c.loop-i-test.true
    (sym c.has_mark.ensures ∙ c.if-has_mark.false) c.loop-i.invariant
