use Rattle.std.proofs.Common.{All, Contains, sym, ap, subst, ◌∙◌}
use Rattle.std.proofs.lemmas.List.Elements.{All-contains_itself}
use Rattle.fb_slots.specs.Listed.{listing}
use Rattle.fb_slots.specs.Seats.{entries_in}
use Rattle.fb_slots.specs.Slots.{layout_of}
use Rattle.fb_slots.proofs.Ran.{inside_by, same_listing}
use Rattle.fb_slots.proofs.board.SlotBook.finish.Goals as goal

pub returns-clause-own : goal.returns-clause-own
returns-clause-own g c =
    let b = layout_of g.N.Board.job g.N.Board.workers in
    let es = entries_in c.args.seats.items in
    let whole = c.close.ensures.whole c.in-Roots.roots c.in-Roots.is in
    subst (All (Contains es)) (sym (c.in_ok-history.ensures.listing ∙ ap (listing b.nodes b.count) c.requires.entries))
    (same_listing (Contains es) b.nodes b.count es (inside_by b es whole.within) (All-contains_itself es))
