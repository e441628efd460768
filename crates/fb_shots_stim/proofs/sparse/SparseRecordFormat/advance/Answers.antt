use Rattle.std.proofs.Common.{ℕ, List, drop}
use Rattle.std.specs.Prelude.{IfOk, IfErr}
use Rattle.fb_records.specs.declared.answer.Next.TheVariants as next
use Rattle.fb_records.specs.Records.{Records}
use Rattle.fb_records.specs.Steps.{AnswersRest, IfRefused, answer_at, used_of}
use Rattle.fb_shots_stim.specs.declared.answer.Kind.{Kind}
use Rattle.fb_shots_stim.specs.TextDets.{records_dets, prefix_dets, after_record}
use Rattle.fb_shots_stim.specs.InternalParts.{dets_rules}
use Rattle.fb_shots_stim.proofs.LemmasParts.{retold}
use Rattle.fb_shots_stim.proofs.LemmasDets.{records_as_dets, prefix_as_dets, after_as_dets}
use Rattle.fb_shots_stim.proofs.sparse.SparseRecordFormat.advance.Goals as goal

pub returns-clause-ok : goal.returns-clause-ok
returns-clause-ok c =
    let rest = c.args.rest.now in
    retold dets_rules records_dets prefix_dets (λ n. after_record) records_as_dets prefix_as_dets after_as_dets
    (λ (r p : ℕ → List ℕ → Records (List ℕ) Kind) (a : ℕ → List ℕ → List ℕ). IfOk c.advance.result (λ found. AnswersRest r p a c.args.self.now rest c.args.finished (drop (used_of found) rest) (answer_at found)))
    (rw c.requires.0 at c.advance.ensures.ok)

pub returns-clause-refused : goal.returns-clause-refused
returns-clause-refused c =
    let rest = c.args.rest.now in
    retold dets_rules records_dets prefix_dets (λ n. after_record) records_as_dets prefix_as_dets after_as_dets
    (λ (r p : ℕ → List ℕ → Records (List ℕ) Kind) (a : ℕ → List ℕ → List ℕ). IfErr c.advance.result (IfRefused (λ kind. AnswersRest r p a c.args.self.now rest c.args.finished rest (next.Refused kind))))
    (rw c.requires.0 at c.advance.ensures.refused)
