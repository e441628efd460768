-- A book: the history of a run and the pieces that wait at its items.
use Rattle.std.specs.Prelude.{ℕ, ◌≡◌, ◌+◌, ◌*◌, ◌<◌, ◌≤◌, Bool, is_some, Option, Some, None, List, [], length, get_or, slice_get, slice_set, All, IfSome}
use Rattle.fb_book.specs.declared.entries.Entry.{Entry}
use Rattle.fb_book.specs.Machine.{status_at, is_given, is_held_by}
use Rattle.fb_book.specs.Board.{Course, TakesFusion, item_count, item_status, statuses_of}
use Rattle.fb_graph.specs.Limits.{DecodingGraph}
use Rattle.fb_plan.specs.Plans.{JobValue, PlanTree, children_of, node_count, root_of, subtrees}

-- the run over a job's items with this history
abbrev pub course_of : JobValue → List Entry → Course
course_of job history =
    record { units = job.plan.units; joins = job.plan.joins; slots = length job.shots; history = history }

-- The nodes of a node's subtree in the order in which they are made: a unit itself, or all of the left child, all of
-- the right child, and then the fusion.
abbrev pub nodes_made : PlanTree → ℕ → List ℕ
nodes_made tree n = get_or (subtrees tree) n []

-- If it is known which nodes were made for the piece, they are those of its node's subtree, in order.
abbrev pub IsMadeOf : {P : Type 0} → (P → ℕ) → (P → Option (List ℕ)) → JobValue → P → Type 0
IsMadeOf node_of made_of job p = IfSome (made_of p) (λ made. made ≡ nodes_made job.plan (node_of p))

-- the piece is of this job, and of the item at this place
pub record IsPieceAt {P : Type 0} (job_of : P → JobValue) (slot_of node_of : P → ℕ) (made_of : P → Option (List ℕ))
    (job : JobValue) (k : ℕ) (p : P) : Type 0 where
  pub job_is : job_of p ≡ job
  pub place_is : slot_of p * node_count job.plan + node_of p ≡ k
  pub node : node_of p < node_count job.plan
  pub made : IsMadeOf node_of made_of job p

-- The pieces are of this job and slot, and of the node's left and right child.
pub record AreOfChildren {P : Type 0} (job_of : P → JobValue) (slot_of node_of : P → ℕ) (made_of : P → Option (List ℕ))
    (job : JobValue) (slot node : ℕ) (a b : P) : Type 0 where
  pub left_job : job_of a ≡ job
  pub right_job : job_of b ≡ job
  pub left_slot : slot_of a ≡ slot
  pub right_slot : slot_of b ≡ slot
  pub nodes : children_of job.plan node ≡ Some (node_of a, node_of b)
  pub left_made : IsMadeOf node_of made_of job a
  pub right_made : IsMadeOf node_of made_of job b

-- What every book keeps: a piece waits at each item that is given and at no other, and is of that item; workers are at
-- most the run's number.
pub record IsKept {P : Type 0} (job_of : P → JobValue) (slot_of node_of : P → ℕ) (made_of : P → Option (List ℕ))
    (job : JobValue) (workers : ℕ) (history : List Entry) (parked : List (Option P)) : Type 0 where
  pub by : All (λ e. e.worker ≤ workers) history
  pub count : length parked ≡ item_count (course_of job history)
  pub given : (k : ℕ) → is_given (status_at (statuses_of (course_of job history)) k) ≡ is_some (get_or parked k None)
  pub pieces : (k : ℕ) (p : P) → get_or parked k None ≡ Some p → IsPieceAt job_of slot_of node_of made_of job k p

-- Fusion (slot, node) is taken, and the two pieces that wait at its children are handed out, the left one first.
pub record HandsOut {P : Type 0} (old new : Course) (worker slot node : ℕ) (parked parked_after : List (Option P)) (a b : P) : Type 0 where
  pub left : ℕ
  pub right : ℕ
  pub takes : TakesFusion old new worker slot node left right
  pub left_is : get_or parked left None ≡ Some a
  pub right_is : get_or parked right None ≡ Some b
  pub unparked : parked_after ≡ slice_set (slice_set parked left None) right None

abbrev pub place_of : JobValue → ℕ → ℕ → ℕ
place_of job slot node = slot * node_count job.plan + node

abbrev pub holds : JobValue → List Entry → ℕ → ℕ → ℕ → Bool
holds job history worker slot node = is_held_by worker (item_status (course_of job history) slot node)

-- the piece is the one that waits at its slot's root
abbrev pub AreRoots : {P : Type 0} → JobValue → List (Option P) → List P → Type 0
AreRoots job parked roots = (length roots ≡ length job.shots)
    × ((s : ℕ) → s < length job.shots → slice_get parked (place_of job s (root_of job.plan)) ≡ Some (slice_get roots s))

-- one piece for each slot, in order: that of the slot's root
pub record AreRootPieces {P : Type 0} (job_of : P → JobValue) (slot_of node_of : P → ℕ) (made_of : P → Option (List ℕ))
    (job : JobValue) (roots : List P) : Type 0 where
  pub count : length roots ≡ length job.shots
  pub each : (s : ℕ) (p : P) → slice_get roots s ≡ Some p
      → IsPieceAt job_of slot_of node_of made_of job (place_of job s (root_of job.plan)) p

abbrev pub no_graph : DecodingGraph
no_graph = record { vertices = 0; edges = []; negatives = []; virtuals = [] }

abbrev pub no_plan : PlanTree
no_plan = record { units = 0; joins = []; owners = [] }

-- what names no run
abbrev pub no_job : JobValue
no_job = record { graph = no_graph; plan = no_plan; shots = [] }
