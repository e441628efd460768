use Rattle.std.proofs.Common.{sym, ap, ◌∙◌}
use Rattle.fb_book.specs.declared.entries.EntryKind.TheVariants.{Took, Gave}
use Rattle.fb_slots.specs.Seats.{SeatValue, seat_that_gave}
use Rattle.fb_crew.proofs.Entries.{entry_more}
use Rattle.fb_crew.proofs.worker.Worker.post.Goals as goal

pub invariant_of-self-in-Fusion : goal.invariant_of-self-in-Fusion
invariant_of-self-in-Fusion g c =
    let s = c.args.self.now in
    let t = c.args.ticket in
    let n = c.in-Fusion.next in
    let first = entry_more Gave t.slot t.node c.worker-worker.result s.seat s.entries.items c.push_reserved-in-Fusion.new.self.items
    c.entry_of-gave.result c.worker-worker.ensures.number s.same c.entry_of-gave.ensures c.push_reserved-in-Fusion.ensures.items in
    let second = entry_more Took n.slot n.node c.worker-worker.result (seat_that_gave t.slot t.node s.seat)
    c.push_reserved-in-Fusion.new.self.items c.push_reserved-in-Fusion-2.new.self.items c.entry_of.result c.worker-worker.ensures.number first
    c.entry_of.ensures c.push_reserved-in-Fusion-2.ensures.items in
    record {
      same = second ∙ sym (ap (λ (v : SeatValue). v.entries)
          (c.post.ensures.fusion n c.in-Fusion.left c.in-Fusion.right c.in-Fusion.is));
    }
