-- How the watched edges are stored: as the first keys of a map, of which the first wait in a queue.
use Rattle.std.specs.Prelude.{ℕ, Bool, ◌≡◌, ◌==◌, ◌<◌, ◌≤◌, ◌+◌, ◌-◌, ◌^◌, ◌&&◌, true, false, not, All, List, length, get_or, map, take, swap}
use Rattle.indexmap.specs.IndexMap.{IndexMap, keys, values, index_map_len, spare}
use Rattle.fb_graph.specs.Parity.{is_in}
use Rattle.fb_obstacles.specs.Watched.{AreBounded, NodeBound, Watched}
use Rattle.fb_obstacles.specs.InternalQueue.{is_due}
use Rattle.fb_obstacles.specs.declared.edge_hasher.EdgeHasher.{EdgeHasher}
use Rattle.fb_obstacles.specs.declared.queue.Due.{Due}

-- the first `live` entries are watched, all keys are edges, all values are numbers of 64 bits, and there is room for every edge
pub record IsKept (known : IndexMap ℕ ℕ EdgeHasher) (live edge_count : ℕ) : Type 0 where
  pub within : live ≤ index_map_len known
  pub below : All (λ e. e < edge_count) (keys known)
  pub small : All (λ b. b < 2 ^ 64) (values known)
  pub room : edge_count ≤ index_map_len known + spare known

-- the first n edges are in the queue, each with its value
abbrev pub AreDue : (queue : List Due) → (values keys : List ℕ) → ℕ → Type 0
AreDue queue values keys n = (i : ℕ) → i < n → is_due queue (get_or values i 0) (get_or keys i 0) ≡ true

-- the first `queued` of the watched edges are in the queue, each with its value
pub record IsQueued (known : IndexMap ℕ ℕ EdgeHasher) (live queued : ℕ) (queue : List Due) : Type 0 where
  pub watched : queued ≤ live
  pub due : AreDue queue (values known) (keys known) queued

-- how far each node's growth is off
abbrev pub node_bounds : List Due → ℕ → List NodeBound
node_bounds due lowered = map (λ d. record { name = d.number; bound = d.growth - lowered }) due

-- the edge at a place in the queue comes to stand behind those that wait there
abbrev pub unqueued : ℕ → Watched → Watched
unqueued place w = record {
  edge_count = w.edge_count;
  edges = swap w.edges place (w.queued - 1);
  bounds = swap w.bounds place (w.queued - 1);
  queued = w.queued - 1;
  nodes = w.nodes;
}

-- bounds that are right stay so for limits that aren't less at these edges
abbrev pub StaysRight : (ℕ → Type 0) → Watched → Watched → Type 0
StaysRight Kept old new =
    (before after : ℕ → ℕ) → ((k : ℕ) → Kept k → before k ≤ after k) → AreBounded before old → AreBounded after new

-- and for limits that are at least these at some edges, and aren't less at the others
abbrev pub StaysRightAbove : (ℕ → ℕ) → (ℕ → Bool) → Watched → Watched → Type 0
StaysRightAbove least at old new =
    (before after : ℕ → ℕ) → ((k : ℕ) → at k ≡ false → before k ≤ after k) → ((k : ℕ) → at k ≡ true → least k ≤ after k)
    → AreBounded before old → AreBounded after new

-- the same edges and nodes are watched, the edges in another order, with bounds that are as right
pub record Reorders (old new : Watched) : Type 0 where
  pub count : new.edge_count ≡ old.edge_count
  pub edges : (e : ℕ) → is_in new.edges e ≡ is_in old.edges e
  pub len : length new.edges ≡ length old.edges
  pub nodes : new.nodes ≡ old.nodes
  pub bounds : (limit : ℕ → ℕ) → AreBounded limit old → AreBounded limit new

-- The watch before and after a scan chooses the next edge: the one at the place `at` is the next to be looked at of those at
-- places below `place`, and the others of these are the ones below `at`.
pub record IsNext (old new : Watched) (place at : ℕ) : Type 0 where
  pub before : at + 1 ≡ place
  pub queued : new.queued ≤ at
  pub within : at < length new.edges
  pub same : Reorders old new
  pub left : (e : ℕ) → is_in (take at new.edges) e ≡ (is_in (take place old.edges) e && not (e == get_or new.edges at 0))
