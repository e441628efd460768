use Rattle.std.proofs.Common.{◌≡◌, sym, ap, ◌∙◌, get_or, refl, length}
use Rattle.std.specs.Prelude.{slice_set}
use Rattle.fb_book.specs.declared.entries.EntryKind.{EntryKind}
use Rattle.fb_book.specs.declared.entries.EntryKind.TheVariants.{Took, Gave, Left}
use Rattle.fb_slots.proofs.Taking.{takers_took, takers_else}
use Rattle.fb_slots.proofs.history.note.Goals as goal

pub returns-in-Took-clause-each : goal.returns-in-Took-clause-each
returns-in-Took-clause-each c es h k less =
    let ws = c.args.workers.now.items in
    ap (λ p. get_or (slice_set ws p c.args.entry.worker) k 0) c.place_of.ensures
    ∙ takers_took c.args.nodes (length ws) es c.args.entry ws refl c.requires.inside
    c.in-Took.is h k less

pub returns-in-Gave-clause-each : goal.returns-in-Gave-clause-each
returns-in-Gave-clause-each c es h k less =
    let ws = c.args.workers.now.items in
    takers_else c.args.nodes (length ws) es c.args.entry ws (λ t. let bad : ◌≡◌ {A = EntryKind} Gave
    Took = sym c.in-Gave.is ∙ t in cc) h k less

pub returns-in-Left-clause-each : goal.returns-in-Left-clause-each
returns-in-Left-clause-each c es h k less =
    let ws = c.args.workers.now.items in
    takers_else c.args.nodes (length ws) es c.args.entry ws (λ t. let bad : ◌≡◌ {A = EntryKind} Left
    Took = sym c.in-Left.is ∙ t in cc) h k less
