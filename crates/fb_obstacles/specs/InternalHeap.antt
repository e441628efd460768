-- What the heap of due times keeps.
use Rattle.std.specs.Prelude.{ℕ, ◌<◌, ◌≤◌, ◌^◌, All, List, map}
use Rattle.std.specs.BinaryHeap.{IsHeap}
use Rattle.std.specs.declared.cmp.Reverse.{Reverse}
use Rattle.fb_obstacles.specs.declared.queue.Due.{Due}
use Rattle.fb_obstacles.specs.InternalQueue.{due_order}

-- the first is on top, all growths are numbers of 64 bits, and there is room for all
pub record IsDueHeap (items : List (Reverse Due)) (len capacity : ℕ) : Type 0 where
  pub ordered : IsHeap (λ x y. due_order y.0 x.0) items
  pub small : All (λ x. x.0.growth < 2 ^ 64) items
  pub room : len ≤ capacity

-- the due times in it
abbrev pub due_times : List (Reverse Due) → List Due
due_times items = map (λ x. x.0) items
