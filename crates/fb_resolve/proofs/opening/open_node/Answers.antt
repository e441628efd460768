use Rattle.std.proofs.Common.{List, ℕ, ◌++◌, ap, ◌∙◌, length}
use Rattle.fb_resolve.proofs.Openings.{live_from, live_pairs, marks_more, pairs_from}
use Rattle.fb_resolve.proofs.opening.open_node.Goals as goal

pub mark_links-requires-clause-live : goal.mark_links-requires-clause-live
mark_links-requires-clause-live c =
    live_pairs c.args.links.now c.args.ids.now.items _ c.push_every_second.new.ids.items c.deref.result.now _
    (ap length c.as_slice-opened.ensures.value) c.deref.ensures.value c.in_ok-push_every_second.ensures
    (live_from c.args.links.now c.args.blossoms.now c.args.name c.marked_place.result c.cycle-cycle.result.now c.cycle-cycle.ensures c.requires.rings)

pub returns-clause-ids : goal.returns-clause-ids
returns-clause-ids c =
    c.in_ok-push_every_second.ensures
    ∙ ap (λ (l : List ℕ). c.args.ids.now.items ++ l)
    (pairs_from c.args.links.now c.args.blossoms.now c.args.ids.now.items c.args.marks.now c.args.name c.marked_place.result c.cycle-cycle.result.now c.cycle-cycle.ensures c.requires.marks c.marked_place.ensures.place)

pub returns-clause-marks : goal.returns-clause-marks
returns-clause-marks c =
    marks_more c.args.links.now c.args.blossoms.now c.args.ids.now.items _ c.push_every_second.new.ids.items c.deref.result.now _ c.args.marks.now c.mark_links.new.marks
    (ap length c.as_slice-opened.ensures.value) c.deref.ensures.value c.in_ok-push_every_second.ensures c.requires.marks c.mark_links.ensures.marks
