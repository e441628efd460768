use Rattle.std.proofs.Common.{◌∙◌, ℕ, Result, Ok, Err, OnErr, refl, subst}
use Rattle.fb_crew.specs.Crews.{CrewValue}
use Rattle.fb_ports.specs.Causes.{Rose}
use Rattle.fb_run.proofs.Decoded.{all_decoded, all_read_out, decoding_begins, decoding_more, few_decoded, fits_more, more_first, slots_more, so_far_first}
use Rattle.fb_run.specs.InternalBatches.{TakesBatch, batch_in}
use Rattle.fb_request.specs.PlainRequests.{plain_decoding}
use Rattle.fb_run.proofs.batches.decode_stream.Goals as goal
use Rattle.fb_run.proofs.batches.decode_stream.Goals.{In-Ok}

taken_at : (g : _) (c : In-Ok g) → TakesBatch (plain_decoding c.args.request.now) c.args.crew.now.plan c.loop-next.stream c.next_batch.new.stream
    (g.F.Files.left c.loop-next.files) (g.F.Files.left c.next_batch.new.files) (batch_in c.in-Ok.next.batch) c.in-Ok.next.end
taken_at g c =
    subst (λ (crew : CrewValue). TakesBatch (plain_decoding c.args.request.now) crew.plan c.loop-next.stream c.next_batch.new.stream
    (g.F.Files.left c.loop-next.files) (g.F.Files.left c.next_batch.new.files) (batch_in c.in-Ok.next.batch) c.in-Ok.next.end)
    c.loop-next.invariant.crew c.in-Ok.ensures.batch

on_err : {T E : Type 0} (r : Result T E) (P : Type 0) → P → OnErr r P
on_err (Ok x) P p = tt
on_err (Err fault) P p = p

pub loop-next-init : goal.loop-next-init
loop-next-init g c = record {
  decoding = decoding_begins (plain_decoding c.args.request.now) c.args.crew.now.plan c.args.stream.now (g.F.Files.left c.args.files.now)
      (g.O.Sink.taken c.args.out.now) _ refl refl;
  crew = refl;
  empty = c.requires.empty;
  asks = refl;
  unread = refl;
  unwritten = refl;
}

pub returns-in_default-clause-first : goal.returns-in_default-clause-first
returns-in_default-clause-first g c =
    so_far_first (plain_decoding c.args.request.now) c.args.crew.now.plan c.args.stream.now (g.F.Files.left c.args.files.now) (g.O.Sink.taken c.args.out.now)
    c.requires.fresh c.loop-next.stream (g.F.Files.left c.loop-next.files) (g.O.Sink.taken c.loop-next.out) c.loop-next.tally c.loop-next.invariant.decoding _

pub write_batch-requires-clause-few : goal.write_batch-requires-clause-few
write_batch-requires-clause-few g c =
    fits_more (plain_decoding c.args.request.now) c.args.crew.now.plan c.args.stream.now (g.F.Files.left c.args.files.now) (g.O.Sink.taken c.args.out.now)
    c.requires.fresh c.loop-next.stream (g.F.Files.left c.loop-next.files) (g.O.Sink.taken c.loop-next.out) c.loop-next.tally c.loop-next.invariant.decoding
    c.next_batch.new.stream (g.F.Files.left c.next_batch.new.files) (batch_in c.in-Ok.next.batch) c.in-Ok.next.end
    (taken_at g (goal.at.write_batch-requires-clause-few g c).In-Ok)

pub write_batch-requires-clause-slots : goal.write_batch-requires-clause-slots
write_batch-requires-clause-slots g c =
    slots_more (plain_decoding c.args.request.now) c.args.crew.now.plan c.args.stream.now (g.F.Files.left c.args.files.now) (g.O.Sink.taken c.args.out.now)
    c.requires.fresh c.loop-next.stream (g.F.Files.left c.loop-next.files) (g.O.Sink.taken c.loop-next.out) c.loop-next.tally c.loop-next.invariant.decoding
    c.next_batch.new.stream (g.F.Files.left c.next_batch.new.files) (batch_in c.in-Ok.next.batch) c.in-Ok.next.end
    (taken_at g (goal.at.write_batch-requires-clause-slots g c).In-Ok)

pub returns-in_err-tally-clause-first : goal.returns-in_err-tally-clause-first
returns-in_err-tally-clause-first g c = on_err c.from_residual.result _
    (more_first (plain_decoding c.args.request.now) c.args.crew.now.plan c.args.stream.now (g.F.Files.left c.args.files.now) (g.O.Sink.taken c.args.out.now)
    c.requires.fresh c.loop-next.stream (g.F.Files.left c.loop-next.files) (g.O.Sink.taken c.loop-next.out) c.loop-next.tally c.loop-next.invariant.decoding
    c.next_batch.new.stream (g.F.Files.left c.next_batch.new.files) (batch_in c.in-Ok.next.batch) c.in-Ok.next.end
    (taken_at g (goal.at.returns-in_err-tally-clause-first g c).In-Ok)
    (g.O.Sink.taken c.write_batch.new.out) c.requires.some (g.F.Files.faults c.args.files.now) (g.F.Files.faults c.next_batch.new.files)
    (λ failed. subst (λ (n : ℕ). Rose n (g.F.Files.faults c.next_batch.new.files)) c.loop-next.invariant.unread (c.in-Ok.ensures.reads.0 failed))
    c.in_err-tally.ensures.prefix)

pub returns-in-Some-clause-all : goal.returns-in-Some-clause-all
returns-in-Some-clause-all g c =
    all_decoded (plain_decoding c.args.request.now) c.args.crew.now.plan c.args.stream.now (g.F.Files.left c.args.files.now) (g.O.Sink.taken c.args.out.now)
    c.requires.fresh c.loop-next.stream (g.F.Files.left c.loop-next.files) (g.O.Sink.taken c.loop-next.out) c.loop-next.tally c.loop-next.invariant.decoding
    c.next_batch.new.stream (g.F.Files.left c.next_batch.new.files) (batch_in c.in-Ok.next.batch) c.in-Ok.next.end
    (taken_at g (goal.at.returns-in-Some-clause-all g c).In-Ok)
    (g.O.Sink.taken c.write_batch.new.out) c.in_ok-tally.tally c.in_ok-tally.ensures.all c.in_ok-tally.ensures.counts c.in-Some.end c.in-Some.is

pub returns-in-Some-clause-few : goal.returns-in-Some-clause-few
returns-in-Some-clause-few g c =
    few_decoded (plain_decoding c.args.request.now) c.args.crew.now.plan c.args.stream.now (g.F.Files.left c.args.files.now) (g.O.Sink.taken c.args.out.now)
    c.requires.fresh c.loop-next.stream (g.F.Files.left c.loop-next.files) (g.O.Sink.taken c.loop-next.out) c.loop-next.tally c.loop-next.invariant.decoding
    c.next_batch.new.stream (g.F.Files.left c.next_batch.new.files) (batch_in c.in-Ok.next.batch) c.in-Ok.next.end
    (taken_at g (goal.at.returns-in-Some-clause-few g c).In-Ok)
    (g.O.Sink.taken c.write_batch.new.out) c.in_ok-tally.tally c.in_ok-tally.ensures.all c.in_ok-tally.ensures.counts

pub loop-next-preserved : goal.loop-next-preserved
loop-next-preserved g c = record {
  decoding = decoding_more (plain_decoding c.args.request.now) c.args.crew.now.plan c.args.stream.now (g.F.Files.left c.args.files.now)
      (g.O.Sink.taken c.args.out.now) c.requires.fresh c.loop-next.stream (g.F.Files.left c.loop-next.files) (g.O.Sink.taken c.loop-next.out)
      c.loop-next.tally c.loop-next.invariant.decoding c.next_batch.new.stream (g.F.Files.left c.next_batch.new.files)
      (batch_in c.in-Ok.next.batch) c.in-Ok.next.end (taken_at g (goal.at.loop-next-preserved g c).In-Ok)
      (g.O.Sink.taken c.write_batch.new.out) c.in_ok-tally.tally c.in_ok-tally.ensures.all c.in_ok-tally.ensures.counts
      c.in_default-end.is c.requires.some;
  crew = c.in-Ok.ensures.same ∙ c.loop-next.invariant.crew;
  empty = c.in_ok-tally.ensures.emptied;
  asks = c.in-Ok.ensures.asks ∙ c.loop-next.invariant.asks;
  unread = c.in-Ok.ensures.reads.2 (λ e. c.in_default-end.not-Some _ e) ∙ c.loop-next.invariant.unread;
  unwritten = c.in_ok-tally.ensures.writes.2 (λ e. absurd cc) ∙ c.loop-next.invariant.unwritten;
}

pub returns-in-Some-clause-at_end : goal.returns-in-Some-clause-at_end
returns-in-Some-clause-at_end g c =
    all_read_out (plain_decoding c.args.request.now) c.args.crew.now.plan c.args.stream.now (g.F.Files.left c.args.files.now) (g.O.Sink.taken c.args.out.now)
    c.requires.fresh c.loop-next.stream (g.F.Files.left c.loop-next.files) (g.O.Sink.taken c.loop-next.out) c.loop-next.tally c.loop-next.invariant.decoding
    c.next_batch.new.stream (g.F.Files.left c.next_batch.new.files) (batch_in c.in-Ok.next.batch) c.in-Ok.next.end
    (taken_at g (goal.at.returns-in-Some-clause-at_end g c).In-Ok)
    (g.O.Sink.taken c.write_batch.new.out) c.in_ok-tally.tally c.in_ok-tally.ensures.all c.in_ok-tally.ensures.counts c.in-Some.end c.in-Some.is
