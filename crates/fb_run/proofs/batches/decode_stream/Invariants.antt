use Rattle.std.proofs.Common.{◌≡◌, ◌-◌, []}
use Rattle.fb_run.proofs.Decoded.{IsDecoding}
use Rattle.fb_request.specs.PlainRequests.{plain_decoding}
use Rattle.fb_run.proofs.batches.decode_stream.Given as goal

abbrev pub invariant-loop-next : goal.invariant-loop-next
invariant-loop-next g l = record {
  decoding : IsDecoding (plain_decoding l.request) l.initial.crew.plan l.initial.stream (g.F.Files.left l.initial.files)
      (g.O.Sink.taken l.initial.out) l.stream (g.F.Files.left l.files) (g.O.Sink.taken l.out) l.tally;
  crew : l.crew ≡ l.initial.crew;
  empty : l.outbox.text ≡ [];
  asks : g.F.Files.asked l.files ≡ g.F.Files.asked l.initial.files;
  unread : g.F.Files.faults l.files ≡ g.F.Files.faults l.initial.files;
  unwritten : g.O.Sink.faults l.out ≡ g.O.Sink.faults l.initial.out;
}

abbrev pub decreases-loop-next : goal.decreases-loop-next
decreases-loop-next g l = l.stream.limit - l.stream.given
