use Rattle.std.proofs.Common.{◌≡◌, ◌++◌, true, take}
use Rattle.fb_run.specs.Decoding.{events_text}
use Rattle.fb_run.proofs.batches.add_events.Given as goal

abbrev pub invariant-loop-entry : goal.invariant-loop-entry
invariant-loop-entry l = l.outbox.text ≡ l.initial.outbox.text ++ events_text true l.first (take l.entry-index l.history)
