use Rattle.std.proofs.Common.{ℕ, ◌≡◌, ◌<◌, true, get_or}
use Rattle.indexmap.specs.IndexMap.{keys, values}
use Rattle.fb_obstacles.specs.InternalQueue.{is_due}
use Rattle.fb_obstacles.proofs.QueuedEdges.{due_left, match_some}
use Rattle.fb_obstacles.proofs.watching.pop_waiting.Goals as goal

pub returns-then-is_some-clause-some : goal.returns-then-is_some-clause-some
returns-then-is_some-clause-some c =
    match_some c.place_due-place.result _ _
    (λ place. (place < c.args.queued) × ((i : ℕ) → i < c.args.queued → (i ≡ place → ⊥)
    → is_due c.pop_before.new.self (get_or (values c.args.known.now) i 0) (get_or (keys c.args.known.now) i 0) ≡ true))
    c.place_due-place.ensures
    (λ place both. (
      both.0,
      λ i less other.
          due_left c.in-Some.due c.loop-due.queue c.pop_before.new.self (get_or (values c.args.known.now) i 0)
          (get_or (keys c.args.known.now) i 0) (c.in-Some.ensures.taken _ _) (c.loop-due.invariant i less)
          (λ key value. other (both.2 i less key)),
    ))

pub returns-clause-none : goal.returns-clause-none
returns-clause-none c i less = c.in_default.ensures.none _ _ (c.loop-due.invariant i less)
