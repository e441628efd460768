use Rattle.std.proofs.Common.{inl, inr, refl, arith}
use Rattle.std.proofs.KnownBytes.{Appends-nil}
use Rattle.fb_files.specs.Moments.{moment}
use Rattle.fb_exits.specs.declared.ending.Refusal.TheVariants as refusal
use Rattle.fb_exits.proofs.AtFiles.{counted_at_file, ends_at_file, not_by_writing}
use Rattle.fb_predicting.proofs.predicting.predict_for_edges.Goals as goal

pub returns-in-Ok-clause-ends : goal.returns-in-Ok-clause-ends
returns-in-Ok-clause-ends g c = inr (record {
  observables = c.in-Ok.observables;
  read = moment (g.F.Files.named c.read_observables_file.new.files) (g.F.Files.left c.read_observables_file.new.files) (g.F.Files.asked c.read_observables_file.new.files)
      (g.F.Files.faults c.read_observables_file.new.files) (g.O.Sink.taken c.args.out.now);
  holds = record {
    named = c.in-Ok.ensures.names;
    text = c.in-Ok.ensures.observables;
    asks = c.in-Ok.ensures.asked (λ e. cc);
    unfailing = c.in-Ok.ensures.faults.2 (λ e. cc);
    written = refl;
  };
  ends = c.predict_observables.ensures.ends;
})

pub returns-in-Err-clause-ends : goal.returns-in-Err-clause-ends
returns-in-Err-clause-ends g c = rw c.cause_of_observables.ensures (inl (ends_at_file refusal.Observables _ _
    (moment (g.F.Files.named c.args.files.now) (g.F.Files.left c.args.files.now) (g.F.Files.asked c.args.files.now)
    (g.F.Files.faults c.args.files.now) (g.O.Sink.taken c.args.out.now))
    (moment (g.F.Files.named c.read_observables_file.new.files) (g.F.Files.left c.read_observables_file.new.files) (g.F.Files.asked c.read_observables_file.new.files)
    (g.F.Files.faults c.read_observables_file.new.files) (g.O.Sink.taken c.args.out.now))
    _ c.in-Err.fault refl c.in-Err.ensures.refused c.in-Err.ensures.asks c.in-Err.ensures.asked c.in-Err.ensures.faults (Appends-nil _)))

pub returns-in-Err-clause-reads : goal.returns-in-Err-clause-reads
returns-in-Err-clause-reads g c =
    rw c.cause_of_observables.ensures (counted_at_file refusal.Observables _ _ _ c.in-Err.fault refl c.in-Err.ensures.faults c.in-Err.ensures.reported)

pub returns-in-Err-clause-writes : goal.returns-in-Err-clause-writes
returns-in-Err-clause-writes g c =
    (λ is. absurd (not_by_writing refusal.Observables c.in-Err.fault (rw c.cause_of_observables.ensures at is)), omega arith, λ other. refl)
