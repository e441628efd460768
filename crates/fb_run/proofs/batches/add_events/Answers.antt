use Rattle.std.proofs.Common.{◌≡◌, ◌+◌, ◌++◌, Bool, List, ℕ, sym, ap, ◌∙◌, take, get_or, rules}
use Rattle.std.specs.List.{flat_map}
use Rattle.std.proofs.lemmas.List.{flat_map_more, take_more}
use Rattle.fb_book.specs.declared.entries.Entry.{Entry}
use Rattle.fb_book.specs.declared.entries.EntryKind.TheVariants.{Took}
use Rattle.fb_report.specs.Texts.{trace_line}
use Rattle.fb_run.specs.Decoding.{event_line, is_gave}
use Rattle.fb_run.proofs.batches.add_events.Goals as goal

pub loop-entry-preserved : goal.loop-entry-preserved
loop-entry-preserved c =
    let none : Entry = record { kind = Took; worker = 0; slot = 0; node = 0 } in
    let entry = get_or c.args.history.now c.loop-entry.entry-index none in
    let line = event_line c.args.first in
    let before = c.args.outbox.now.text in
    let gave : c.match-matches.matches ≡ is_gave entry.kind = search rules in
    c.in-Ok.ensures.all
    ∙ ap (λ (b : Bool). c.loop-entry.outbox.text ++ trace_line b entry.worker (c.args.first + entry.slot) entry.node) gave
    ∙ ap (λ (text : List ℕ). text ++ line entry) c.loop-entry.invariant
    ∙ flat_map_more line before (take c.loop-entry.entry-index c.args.history.now) entry
    ∙ ap (λ (xs : List Entry). before ++ flat_map line xs) (sym (take_more c.args.history.now c.loop-entry.entry-index none c.loop-entry-test.true))
