use Rattle.std.proofs.Common.{sym, ◌∙◌, ap}
use Rattle.fb_book.specs.InternalBoard.{parent_place}
use Rattle.fb_slots.proofs.Layouts.{counted_parent, counted_root}
use Rattle.fb_slots.proofs.places.Places.counted.Goals as goal

pub returns-in-Some : goal.returns-in-Some
returns-in-Some g c =
    let s = c.args.self.now in
    counted_parent s.kept c.args.place c.in-Some.parent c.requires
    (ap (λ ps. parent_place s.nodes ps c.args.place) (sym c.as_slice.ensures.value)
    ∙ (sym c.parent_at.ensures ∙ c.in-Some.is))

pub returns-in-None : goal.returns-in-None
returns-in-None g c =
    let s = c.args.self.now in
    counted_root s.kept c.args.place c.requires (ap (λ ps. parent_place s.nodes ps c.args.place)
    (sym c.as_slice.ensures.value) ∙ (sym c.parent_at.ensures ∙ c.in-None.is))
