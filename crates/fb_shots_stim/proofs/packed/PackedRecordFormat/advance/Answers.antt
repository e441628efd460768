use Rattle.std.proofs.Common.{ℕ, subst, drop, arith}
use Rattle.fb_records.specs.declared.answer.Next.TheVariants as next
use Rattle.fb_shots_stim.specs.declared.answer.Kind.TheVariants.{PaddingBit}
use Rattle.fb_shots_stim.specs.BlocksB8.{block_len, records_b8, prefix_b8}
use Rattle.fb_shots_stim.specs.InternalAnswers.{AnswersB8}
use Rattle.fb_shots_stim.proofs.LemmasB8.{block_refused, block_shot}
use Rattle.fb_shots_stim.proofs.ShotLemmas.{shots_b8, given_shot}
use Rattle.fb_shots_stim.proofs.packed.PackedRecordFormat.advance.Goals as goal

pub returns-then-has_padding-clause-refused : goal.returns-then-has_padding-clause-refused
returns-then-has_padding-clause-refused c =
    let rest = c.args.rest.now in
    subst (λ (n : ℕ). AnswersB8 n rest c.args.finished rest (next.Refused PaddingBit)) c.self.view_is
    (block_refused c.self.inside.detectors rest c.args.finished (omega arith) c.if-rest-size.false (rw (← c.has_padding.ensures) c.if-has_padding.true))

pub returns-clause-ok : goal.returns-clause-ok
returns-clause-ok c =
    let rest = c.args.rest.now in
    let used = block_len c.self.inside.detectors in
    subst (λ (n : ℕ). AnswersB8 n rest c.args.finished (drop used rest) (next.Shot c.in_ok-set_bits.field-0)) c.self.view_is
    (block_shot c.self.inside.detectors rest c.args.finished _ (omega arith) c.if-rest-size.false (rw (← c.has_padding.ensures) c.if-has_padding.false) c.in_ok-set_bits.ensures)

pub returns-clause-shot : goal.returns-clause-shot
returns-clause-shot c =
    let n = c.args.self.now in
    given_shot n (records_b8 n) (prefix_b8 n) _ _ _ (shots_b8 n) (returns-clause-ok c).0
