use Rattle.std.proofs.Common.{unwrap_or, ◌≡◌, ◌∙◌, get_or, sym, ap, arith}
use Rattle.std.proofs.lemmas.Option.{unwrap_or-slice_get}
use Rattle.indexmap.specs.IndexMap.{keys, values}
use Rattle.fb_obstacles.proofs.FirstEntries.{found_at, length-keys}
use Rattle.fb_obstacles.proofs.QueuedEdges.{nowhere, one_place}
use Rattle.fb_obstacles.proofs.watching.place_due.Goals as goal
use Rattle.fb_obstacles.proofs.watching.place_due.Goals.{else-place-queued-via-then-place-queued+else-index-due, else-place-queued-via-else-place-queued}

pub returns-then-index-due : goal.returns-then-index-due
returns-then-index-due c =
    let found = found_at (keys c.args.known.now) c.in_ok-edge.edge c.in-Some.place c.in-Some.ensures.index in (
      c.if-place-queued.true,
      sym (ap (λ o. unwrap_or o 0) (sym c.index.ensures) ∙ unwrap_or-slice_get (values c.args.known.now) c.in-Some.place 0)
          ∙ c.if-index-due.true,
      λ i less here.
          one_place (keys c.args.known.now) i c.in-Some.place c.in-Some.ensures.unique
          (omega (arith, less, c.requires.within, length-keys c.args.known.now.entries)) found.1 (here ∙ (sym c.in_ok-edge.ensures ∙ sym found.2)),
    )

pub returns-else-place-queued : goal.returns-else-place-queued
returns-else-place-queued c i less here value =
    let found = found_at (keys c.args.known.now) c.in_ok-edge.edge c.in-Some.place c.in-Some.ensures.index in
    let same : i ≡ c.in-Some.place =
    one_place (keys c.args.known.now) i c.in-Some.place c.in-Some.ensures.unique
    (omega (arith, less, c.requires.within, length-keys c.args.known.now.entries)) found.1 (here ∙ (sym c.in_ok-edge.ensures ∙ sym found.2)) in
    elim c.else-place-queued.branch [
      | else-place-queued-via-then-place-queued+else-index-due w ↦
          w.if-index-due.false
          (ap (λ o. unwrap_or o 0) (sym w.index.ensures)
          ∙ (unwrap_or-slice_get (values c.args.known.now) c.in-Some.place 0
          ∙ (ap (λ k. get_or (values c.args.known.now) k 0) (sym same) ∙ value)))
      | else-place-queued-via-else-place-queued w ↦ absurd (omega (arith, same, less, w.if-place-queued.false))
    ]

pub returns-in-None : goal.returns-in-None
returns-in-None c i less here value =
    nowhere (keys c.args.known.now) c.in_ok-edge.edge c.in-None.ensures.index i
    (omega (arith, less, c.requires.within, length-keys c.args.known.now.entries)) (here ∙ sym c.in_ok-edge.ensures)
