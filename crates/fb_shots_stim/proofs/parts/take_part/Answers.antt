use Rattle.std.proofs.Common.{◌≡◌, Bool, Err, rules}
use Rattle.fb_records.specs.declared.answer.Next.TheVariants as next
use Rattle.fb_records.specs.Steps.{part_of}
use Rattle.fb_shots_stim.specs.InternalAnswers.{AnswersParts}
use Rattle.fb_records.proofs.AnswerLemmas.{refused_by}
use Rattle.fb_shots_stim.proofs.PlaceLemmas.{place_part, place_part_refused}
use Rattle.fb_shots_stim.proofs.parts.take_part.Goals as goal

pub returns-clause-ok : goal.returns-clause-ok
returns-clause-ok g c =
    let p = c.args.place.now in
    place_part g.P.LineParts.rules c.args.so_far.now c.take.new.so_far c.args.rest.now p.line p.part p.seen c.requires.at c.requires.more c.requires.separator c.in_ok-take.ensures.same c.in_ok-take.ensures.ok

pub returns-in_err-take-clause-refused : goal.returns-in_err-take-clause-refused
returns-in_err-take-clause-refused g c =
    let p = c.args.place.now in
    let old = c.args.so_far.now in
    let rest = c.args.rest.now in
    let rules_ = g.P.LineParts.rules in
    refused_by c.from_residual.result c.in_err-take.field-0.0
    (λ kind. rules_.with_part old.detectors old.named (part_of rest p.part p.seen) ≡ Err kind)
    (λ kind. (finished : Bool) → AnswersParts rules_ old.detectors rest finished rest (next.Refused kind))
    (λ kind e. place_part_refused rules_ old rest p.line p.part p.seen kind c.requires.at c.requires.more c.requires.separator e)
    (search rules) c.in_err-take.ensures.refused
