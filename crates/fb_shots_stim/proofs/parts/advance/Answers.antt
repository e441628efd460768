use Rattle.std.proofs.Common.{◌+◌, ℕ, Bool, drop, subst, arith, rules}
use Rattle.std.specs.Prelude.{IfErr}
use Rattle.fb_records.specs.declared.answer.Next.TheVariants as next
use Rattle.fb_records.specs.Steps.{IfRefused}
use Rattle.fb_shots_stim.specs.InternalAnswers.{AnswersParts}
use Rattle.fb_records.proofs.AnswerLemmas.{refused_by}
use Rattle.fb_shots_stim.proofs.PlaceLemmas.{place_seen, place_open, place_empty}
use Rattle.fb_shots_stim.proofs.parts.advance.Goals as goal

pub take_last-requires-clause-at : goal.take_last-requires-clause-at
take_last-requires-clause-at g c =
    let end = c.part_end-begun.ensures in
    place_seen _ _ _ _ _ _ _ c.loop-begun.invariant.0 end.onward end.within end.in_line (rw c.separator.ensures at end.in_part)

pub take_part-requires-clause-at : goal.take_part-requires-clause-at
take_part-requires-clause-at g c =
    let end = c.part_end-begun.ensures in
    place_seen _ _ _ _ _ _ _ c.loop-begun.invariant.0 end.onward end.within end.in_line (rw c.separator.ensures at end.in_part)

pub take_line-requires-clause-at : goal.take_line-requires-clause-at
take_line-requires-clause-at g c =
    let end = c.part_end-begun.ensures in
    place_seen _ _ _ _ _ _ _ c.loop-begun.invariant.0 end.onward end.within end.in_line (rw c.separator.ensures at end.in_part)

pub returns-then-not-finished-clause-begun : goal.returns-then-not-finished-clause-begun
returns-then-not-finished-clause-begun g c =
    let end = c.part_end-begun.ensures in
    place_seen _ _ _ _ _ _ _ c.loop-begun.invariant.0 end.onward end.within end.in_line (rw c.separator.ensures at end.in_part)

pub returns-then-not-finished-clause-ok : goal.returns-then-not-finished-clause-ok
returns-then-not-finished-clause-ok g c =
    let end = c.part_end-begun.ensures in
    let place = place_seen _ _ _ _ _ _ _ c.loop-begun.invariant.0 end.onward end.within end.in_line (rw c.separator.ensures at end.in_part) in
    let rest = c.args.rest.now in
    subst (λ (n : ℕ). AnswersParts g.P.LineParts.rules n rest c.args.finished rest next.NotYet) c.loop-begun.invariant.1
    (place_open _ _ _ _ _ _ c.args.finished place (omega arith) c.if-not-finished.true)

pub returns-then-begun-rest-2-clause-ok : goal.returns-then-begun-rest-2-clause-ok
returns-then-begun-rest-2-clause-ok g c =
    let rest = c.args.rest.now in
    subst (λ (n : ℕ). AnswersParts g.P.LineParts.rules n rest c.args.finished rest next.End) c.loop-begun.invariant.1
    (place_empty _ _ _ _ _ _ c.args.finished c.loop-begun.invariant.0 (omega arith) c.if-not-finished.false)

pub returns-in-Some-2-clause-ok : goal.returns-in-Some-2-clause-ok
returns-in-Some-2-clause-ok g c =
    let rest = c.args.rest.now in
    let found = rw c.in-Some-2.is at c.in_ok-shot.ensures.shot in
    subst (λ (n : ℕ). AnswersParts g.P.LineParts.rules n rest c.args.finished (drop (c.part_end-begun.result + 1) rest) (next.Shot c.in-Some-2.shot)) c.loop-begun.invariant.1
    (found.1 c.args.finished)

pub returns-in_err-take_part-clause-refused : goal.returns-in_err-take_part-clause-refused
returns-in_err-take_part-clause-refused g c =
    let rest = c.args.rest.now in
    let n = c.loop-begun.begun.so_far.detectors in
    let rules_ = g.P.LineParts.rules in
    subst (λ (m : ℕ). IfErr c.from_residual-in_err-take_part.result (IfRefused (λ kind. AnswersParts rules_ m rest c.args.finished rest (next.Refused kind)))) c.loop-begun.invariant.1
    (refused_by c.from_residual-in_err-take_part.result c.in_err-take_part.field-0.0
    (λ kind. (finished : Bool) → AnswersParts rules_ n rest finished rest (next.Refused kind)) (λ kind. AnswersParts rules_ n rest c.args.finished rest (next.Refused kind))
    (λ kind h. h c.args.finished) (search rules) c.in_err-take_part.ensures.refused)

pub returns-in_err-shot-clause-refused : goal.returns-in_err-shot-clause-refused
returns-in_err-shot-clause-refused g c =
    let rest = c.args.rest.now in
    let n = c.loop-begun.begun.so_far.detectors in
    let rules_ = g.P.LineParts.rules in
    subst (λ (m : ℕ). IfErr c.from_residual-in_err-shot.result (IfRefused (λ kind. AnswersParts rules_ m rest c.args.finished rest (next.Refused kind)))) c.loop-begun.invariant.1
    (refused_by c.from_residual-in_err-shot.result c.in_err-shot.field-0.0
    (λ kind. (finished : Bool) → AnswersParts rules_ n rest finished rest (next.Refused kind)) (λ kind. AnswersParts rules_ n rest c.args.finished rest (next.Refused kind))
    (λ kind h. h c.args.finished) (search rules) c.in_err-shot.ensures.refused)
