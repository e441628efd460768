use Rattle.std.proofs.Common.{◌≡◌, ◌≢◌, ℕ, ◌+◌, ◌<◌, Bool, true, false, length, drop, Err, sym, subst, ◌∙◌, arith, rules}
use Rattle.fb_records.specs.declared.answer.Next.TheVariants as next
use Rattle.fb_records.specs.Steps.{part_of}
use Rattle.fb_shots_json.specs.TextJson.{shot_of_line}
use Rattle.fb_shots_json.specs.InternalPlaces.{IsPlace}
use Rattle.fb_shots_json.specs.InternalAnswers.{AnswersJson}
use Rattle.fb_records.proofs.AnswerLemmas.{refused_by}
use Rattle.fb_shots_json.proofs.PlaceLemmas.{place_start, place_seen, place_known, place_newline, place_shot, place_last_shot, place_refused, place_long, place_open_blank, place_open_short, place_end}
use Rattle.fb_shots_json.proofs.reader.advance.Goals as goal
use Rattle.fb_shots_json.proofs.reader.advance.Goals.{else-not-place-via-then-not-place+else-is_too_long, else-not-place-via-else-not-place, else-is_last-via-then-is_last+else-not-finished, else-is_last-via-else-is_last, then-is_last-2, else-is_last-2}

pub returns-then-is_too_long-clause-refused : goal.returns-then-is_too_long-clause-refused
returns-then-is_too_long-clause-refused c =
    let s = c.see_line.ensures in
    let p = place_seen _ _ _ _ _ _ _ _ c.loop-alloc.invariant s.line s.onward s.within s.in_line s.blank in
    place_long _ _ _ _ c.args.finished (place_known _ _ _ _ _ false p c.if-not-place.true) c.if-is_last.true (sym c.is_too_long.ensures ∙ c.if-is_too_long.true)

pub returns-then-is_too_long-clause-err : goal.returns-then-is_too_long-clause-err
returns-then-is_too_long-clause-err c =
    let s = c.see_line.ensures in
    place_seen _ _ _ _ _ _ _ _ c.loop-alloc.invariant s.line s.onward s.within s.in_line s.blank

pub returns-then-not-finished-clause-ok : goal.returns-then-not-finished-clause-ok
returns-then-not-finished-clause-ok c =
    let s = c.see_line.ensures in
    let p = place_seen _ _ _ _ _ _ _ _ c.loop-alloc.invariant s.line s.onward s.within s.in_line s.blank in (
      elim c.else-not-place.branch [
        | else-not-place-via-then-not-place+else-is_too_long w ↦
            place_open_short _ _ _ _ _ c.args.finished p c.if-is_last.true c.if-not-finished.true (sym w.is_too_long.ensures ∙ w.if-is_too_long.false)
        | else-not-place-via-else-not-place w ↦
            place_open_blank _ _ _ _ c.args.finished (place_known _ _ _ _ _ true p w.if-not-place.false) c.if-is_last.true c.if-not-finished.true
      ],
      p,
    )

pub returns-in_err-shot-clause-refused : goal.returns-in_err-shot-clause-refused
returns-in_err-shot-clause-refused c =
    let s = c.see_line.ensures in
    let p = place_seen _ _ _ _ _ _ _ _ c.loop-alloc.invariant s.line s.onward s.within s.in_line s.blank in
    let at = c.see_line.result in
    let g = c.args.graph.now in
    let rest = c.args.rest.now in
    let done : at.seen ≡ length rest → c.args.finished ≡ true =
    λ all. elim c.else-is_last.branch [
      | else-is_last-via-then-is_last+else-not-finished w ↦ w.if-not-finished.false
      | else-is_last-via-else-is_last w ↦ absurd (w.if-is_last.false all)
    ] in
    refused_by c.from_residual.result c.in_err-shot.field-0.0 (λ kind. shot_of_line g (part_of rest at.line at.seen) ≡ Err kind)
    (λ kind. AnswersJson g rest c.args.finished rest (next.Refused kind))
    (λ kind e. place_refused g rest at.line at.seen c.args.finished kind (place_known _ _ _ _ _ false p c.if-not-place-2.true) s.stops done e)
    (search rules) c.in_err-shot.ensures.refused

pub returns-in_err-shot-clause-err : goal.returns-in_err-shot-clause-err
returns-in_err-shot-clause-err c =
    let s = c.see_line.ensures in
    let again : c.from_residual.result ≡ Err c.in_err-shot.field-0.0 = search rules in
    rw again (place_seen _ _ _ _ _ _ _ _ c.loop-alloc.invariant s.line s.onward s.within s.in_line s.blank)

pub returns-then-not-place-2-clause-ok : goal.returns-then-not-place-2-clause-ok
returns-then-not-place-2-clause-ok c =
    let s = c.see_line.ensures in
    let p = place_known _ _ _ _ _ false (place_seen _ _ _ _ _ _ _ _ c.loop-alloc.invariant s.line s.onward s.within s.in_line s.blank) c.if-not-place-2.true in
    let at = c.see_line.result in
    let g = c.args.graph.now in
    let rest = c.args.rest.now in
    let shot = c.in_ok-shot.shot in
    let done : at.seen ≡ length rest → c.args.finished ≡ true =
    λ all. elim c.else-is_last.branch [
      | else-is_last-via-then-is_last+else-not-finished w ↦ w.if-not-finished.false
      | else-is_last-via-else-is_last w ↦ absurd (w.if-is_last.false all)
    ] in (
      elim c.if-is_last-2.branch [
        | then-is_last-2 w ↦
            let all = w.if-is_last-2.true in
            subst (λ (used : ℕ). AnswersJson g rest c.args.finished (drop used rest) (next.Shot shot)) (sym w.used-is)
            (place_last_shot g rest at.line at.seen c.args.finished shot p all (done all) c.in_ok-shot.ensures.ok)
        | else-is_last-2 w ↦
            let other : ◌≢◌ at.seen (length rest) = w.if-is_last-2.false in
            let within = s.within in
            let lt : at.seen < length rest = omega arith in
            subst (λ (used : ℕ). AnswersJson g rest c.args.finished (drop used rest) (next.Shot shot)) (sym w.used-is)
            (place_shot g rest at.line at.seen c.args.finished shot p lt (s.stops lt) c.in_ok-shot.ensures.ok)
      ],
      place_start g (drop c.if-is_last-2.used rest),
    )

pub returns-then-is_last-3-clause-ok : goal.returns-then-is_last-3-clause-ok
returns-then-is_last-3-clause-ok c =
    let s = c.see_line.ensures in
    let p = place_seen _ _ _ _ _ _ _ _ c.loop-alloc.invariant s.line s.onward s.within s.in_line s.blank in
    let all = c.if-is_last-3.true in
    let done : c.args.finished ≡ true =
    elim c.else-is_last.branch [
      | else-is_last-via-then-is_last+else-not-finished w ↦ w.if-not-finished.false
      | else-is_last-via-else-is_last w ↦ absurd (w.if-is_last.false all)
    ] in
    (place_end _ _ _ _ c.args.finished (place_known _ _ _ _ _ true p c.if-not-place-2.false) all done, p)

pub loop-alloc-preserved : goal.loop-alloc-preserved
loop-alloc-preserved c =
    let s = c.see_line.ensures in
    let at = c.see_line.result in
    let g = c.args.graph.now in
    let rest = c.args.rest.now in
    let p = place_known _ _ _ _ _ true (place_seen _ _ _ _ _ _ _ _ c.loop-alloc.invariant s.line s.onward s.within s.in_line s.blank) c.if-not-place-2.false in
    let other : ◌≢◌ at.seen (length rest) = c.if-is_last-3.false in
    let within = s.within in
    let lt : at.seen < length rest = omega arith in
    subst (λ (b : Bool). IsPlace g rest (at.seen + 1) (at.seen + 1) b) (sym c.if-not-place-2.false)
    (place_newline g rest at.line at.seen p lt (s.stops lt))
