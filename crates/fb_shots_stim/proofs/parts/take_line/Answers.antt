use Rattle.std.proofs.Common.{◌≡◌, Bool, None, Err, rules}
use Rattle.fb_records.specs.declared.answer.Next.TheVariants as next
use Rattle.fb_shots_stim.specs.InternalAnswers.{AnswersParts}
use Rattle.fb_records.proofs.AnswerLemmas.{refused_by}
use Rattle.fb_shots_stim.proofs.PlaceLemmas.{place_newline, place_newline_shot, place_newline_refused}
use Rattle.fb_shots_stim.proofs.parts.take_line.Goals as goal

pub returns-clause-skipped : goal.returns-clause-skipped
returns-clause-skipped g c =
    let p = c.args.place.now in
    let none : c.in_ok-shot.field-0 ≡ None = search rules in
    let ended = c.in_ok-shot.ensures in
    place_newline g.P.LineParts.rules c.args.so_far.now c.end.new.so_far c.args.rest.now p.line p.part p.seen c.requires.at c.requires.more c.requires.newline ended.same ended.ended
    (rw (c.without_return.ensures, none) at ended.ok)

pub returns-in-Some-clause-shot : goal.returns-in-Some-clause-shot
returns-in-Some-clause-shot g c =
    let p = c.args.place.now in
    let ended = c.in_ok-shot.ensures in (
      rw c.in-Some.is at ended.shot,
      place_newline_shot g.P.LineParts.rules c.args.so_far.now c.args.rest.now p.line p.part p.seen c.in-Some.shot c.requires.at c.requires.more c.requires.newline
          (rw (c.without_return.ensures, c.in-Some.is) at ended.ok),
    )

pub returns-in_err-shot-clause-refused : goal.returns-in_err-shot-clause-refused
returns-in_err-shot-clause-refused g c =
    let p = c.args.place.now in
    let old = c.args.so_far.now in
    let rest = c.args.rest.now in
    let rules_ = g.P.LineParts.rules in
    refused_by c.from_residual.result c.in_err-shot.field-0.0
    (λ kind. rules_.with_last old.detectors old.named c.without_return.result.now ≡ Err kind)
    (λ kind. (finished : Bool) → AnswersParts rules_ old.detectors rest finished rest (next.Refused kind))
    (λ kind e. place_newline_refused rules_ old rest p.line p.part p.seen kind c.requires.at c.requires.more c.requires.newline (rw c.without_return.ensures at e))
    (search rules) c.in_err-shot.ensures.refused
