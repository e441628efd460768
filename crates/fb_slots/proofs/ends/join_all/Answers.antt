use Rattle.std.proofs.Common.{◌≡◌, None, ap, ◌∙◌}
use Rattle.fb_slots.specs.Slots.{layout_of}
use Rattle.fb_slots.proofs.Gathering.{gathered_first, gathered_next, gathered_more}
use Rattle.fb_slots.proofs.ends.join_all.Goals as goal

pub loop-seat-init : goal.loop-seat-init
loop-seat-init g c =
    let id = c.args.table.now.shared.table_id in
    let e = c.into_holder-me.ensures in
    let f = gathered_first (λ s. s.board ≡ id) (λ s. s.held ≡ None)
    (layout_of g.N.Board.job g.N.Board.workers)
    c.args.seats.items c.pop.new.self.items c.in-Some.last c.into_holder-me.result.me.0
    c.requires.own c.requires.free
    c.in-Some.ensures.items e.entries e.ends e.seats e.closed in (
      e.board ∙ f.1,
      e.free f.2,
      f.0,
    )

pub gather-requires-clause-other : goal.gather-requires-clause-other
gather-requires-clause-other g c =
    let id = c.args.table.now.shared.table_id in
    let e = c.into_holder.ensures in
    let n = gathered_next (λ s. s.board ≡ id) (λ s. s.held ≡ None)
    (layout_of g.N.Board.job g.N.Board.workers)
    c.args.seats.items c.loop-seat.seats.items c.pop-in-loop-seat.new.self.items c.in-Some-pop.seat
    c.loop-seat.me.me.0
    c.loop-seat.invariant.2 c.in-Some-pop.ensures.items in
    (e.board ∙ n.0, e.free n.1)

pub loop-seat-preserved : goal.loop-seat-preserved
loop-seat-preserved g c =
    let id = c.args.table.now.shared.table_id in
    let e = c.into_holder.ensures in (
      c.gather.ensures.table ∙ c.loop-seat.invariant.0,
      ap (λ m. m.1) c.gather.ensures.view ∙ c.loop-seat.invariant.1,
      gathered_more (λ s. s.board ≡ id) (λ s. s.held ≡ None)
          (layout_of g.N.Board.job g.N.Board.workers) c.args.seats.items
          c.loop-seat.seats.items c.pop-in-loop-seat.new.self.items c.in-Some-pop.seat
          c.loop-seat.me.me.0
          c.into_holder.result.me.0 c.gather.new.me.me.0 c.loop-seat.invariant.2
          c.in-Some-pop.ensures.items
          e.entries e.ends e.seats e.closed (ap (λ m. m.0) c.gather.ensures.view),
    )
