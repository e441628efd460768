use Rattle.std.proofs.Common.{ℕ, ◌<◌, take, sym, ap, subst, ◌∙◌}
use Rattle.std.proofs.lemmas.List.{take_more}
use Rattle.fb_book.specs.declared.entries.EntryKind.TheVariants.{Took}
use Rattle.fb_book.specs.Machine.{trace}
use Rattle.fb_slots.specs.Listed.{taker_of}
use Rattle.fb_slots.proofs.history.takers.Goals as goal

pub loop-entry-preserved : goal.loop-entry-preserved
loop-entry-preserved c =
    let es = c.args.entries.now in
    let i : ℕ = c.loop-entry.entry-index in
    let size = c.loop-entry.invariant.0 in
    let more = take_more es i (record { kind = Took; worker = 0; slot = 0; node = 0 })
    c.loop-entry-test.true in (
      c.note.ensures.count ∙ size,
      λ k less. c.note.ensures.each (take i es) (λ j inside. c.loop-entry.invariant.1 j
          (subst (λ n. j < n) size inside)) k (subst (λ n. k < n) (sym size) less)
          ∙ ap (λ xs. taker_of (trace c.args.nodes k xs) 0) (sym more),
    )
