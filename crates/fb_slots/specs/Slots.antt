-- The rule of a board without a lock: what the words, the slots and the views of all seats have to
-- do with one another.
use Rattle.std.specs.Prelude.{ℕ, ◌≡◌, ◌+◌, ◌-◌, ◌*◌, ◌/◌, ◌%◌, ◌<◌, ◌≤◌, ◌==◌, min, nat_lt, cond, if◌then◌else◌, Bool, true, false, Option, Some, None, List, [], ◌∷◌, ◌++◌, length, slice_index}
use Rattle.std.specs.List.{All}
use mathlib.Core.Option.{some}
use lib.ListN.{get_elem?}
use Rattle.atomic_table.specs.Table.{State, Step, Me}
use Rattle.fb_book.specs.declared.entries.EntryKind.{EntryKind}
use Rattle.fb_book.specs.declared.entries.EntryKind.TheVariants.{Took, Gave, Left}
use Rattle.fb_book.specs.declared.entries.Entry.{Entry}
use Rattle.fb_book.specs.Machine.{Kids, IsForest, is_child, place, trace, is_loss}
use Rattle.fb_book.specs.Board.{kids_in}
use Rattle.fb_book.specs.InternalBoard.{entry_at}
use Rattle.fb_plan.specs.Plans.{JobValue, node_count, root_of}
use Rattle.fb_slots.specs.declared.views.Hand.{Hand}

-- The items of a run by their places: the children of each fusion, the number of nodes of a slot
-- and of all items, the units of
-- all slots by their numbers, which items are roots, and the number of the run's workers
pub record Layout : Type 0 where
  pub kids : Kids
  pub nodes : ℕ
  pub count : ℕ
  pub units : ℕ
  pub unit_at : ℕ → ℕ
  pub is_root : ℕ → Bool
  pub workers : ℕ

pub record IsLayout (b : Layout) : Type 0 where
  pub some : 0 < b.nodes
  pub forest : IsForest b.kids
  pub unit_in : (u : ℕ) → u < b.units → b.unit_at u < b.count
  pub unit : (u : ℕ) → u < b.units → b.kids (b.unit_at u) ≡ None
  pub once : (u v : ℕ) → u < b.units → v < b.units → b.unit_at u ≡ b.unit_at v → u ≡ v
  pub all : (k : ℕ) → k < b.count → b.kids k ≡ None → (u : ℕ) × (u < b.units) × (b.unit_at u ≡ k)
  pub root : (j k : ℕ) → b.is_root k ≡ true → is_child (b.kids j) k ≡ false
  pub few : b.units + b.workers + 2 < 18446744073709551616
  pub small : b.count + 2 < 18446744073709551616

-- the sum over a list of events
abbrev pub weigh : (EntryKind → ℕ) → List (EntryKind × ℕ) → ℕ
weigh f [] = 0
weigh f (x ∷ xs) = f x.0 + weigh f xs

abbrev pub as_taken : EntryKind → ℕ
as_taken Took = 1
as_taken Gave = 0
as_taken Left = 0

abbrev pub as_given : EntryKind → ℕ
as_given Took = 0
as_given Gave = 1
as_given Left = 0

abbrev pub as_left : EntryKind → ℕ
as_left Took = 0
as_left Gave = 0
as_left Left = 1

-- the sum over all views
abbrev pub total : (Hand → ℕ) → List Hand → ℕ
total f [] = 0
total f (v ∷ vs) = f v + total f vs

-- how often the item at place k stands in a view's entries, and in those of all views
abbrev pub in_hand : (EntryKind → ℕ) → ℕ → ℕ → Hand → ℕ
in_hand f n k v = weigh f (trace n k v.entries)

abbrev pub in_hands : (EntryKind → ℕ) → ℕ → List Hand → ℕ → ℕ
in_hands f n vs k = total (in_hand f n k) vs

abbrev pub losses : List Entry → ℕ
losses [] = 0
losses (e ∷ es) = cond (is_loss e) 1 0 + losses es

abbrev pub once_below : ℕ → ℕ → ℕ
once_below x n = if nat_lt x n then 1 else 0

-- the sum over an item's children
abbrev pub over_kids : (ℕ → ℕ) → Option (ℕ × ℕ) → ℕ
over_kids f None = 0
over_kids f (Some pair) = f pair.0 + f pair.1

-- The items by their words and slots, where `taken` and `given` say in how many views an item is
-- taken and given.
pub record AreItems {P : Type 0} (IsPiece : ℕ → P → Type 0) (b : Layout) (taken given : ℕ → ℕ)
    (words : List ℕ)
    (homes : List (mathlib.Core.Option.Option (Option P))) : Type 0 where
  pub size : length words ≡ b.count + 2
  -- a unit is in one view if its number is below word 0, and else in none
  pub unit : (u : ℕ) → u < b.units → taken (b.unit_at u) ≡ once_below u (slice_index words 0)
  -- a fusion is in one view if both its children are given, and else in none
  pub fusion : (k : ℕ) (pair : ℕ × ℕ) → b.kids k ≡ Some pair → k < b.count
      → taken k ≡ min (given pair.0) (given pair.1)
  -- an item's word is the number of its given children, and one more for a given root
  pub word : (k : ℕ) → k < b.count → slice_index words (k + 2) ≡ over_kids given (b.kids k) + cond
      (b.is_root k) (given k) 0
  pub once : (k : ℕ) → taken k ≤ 1
  pub first : (k : ℕ) → given k ≤ taken k
  -- the slot of an item that is in no view is at home and empty
  pub free : (k : ℕ) → k < b.count → taken k ≡ 0 → get_elem? homes k ≡ some (some None)
  -- a given item's slot keeps its piece at home until its parent is in a view
  pub kept : (k : ℕ) → k < b.count → given k ≡ 1 → ((j : ℕ) → is_child (b.kids j) k ≡ true
      → taken j ≡ 0)
      → (p : P) × (get_elem? homes k ≡ some (some (Some p))) × IsPiece k p

-- what was done with an item in one view
pub data IsDone : List (EntryKind × ℕ) → Type 0 where
  nothing : IsDone []
  holds : (w : ℕ) → IsDone ((Took, w) ∷ [])
  gave : (w : ℕ) → IsDone ((Took, w) ∷ (Gave, w) ∷ [])
  left : (w : ℕ) → IsDone ((Took, w) ∷ (Left, w) ∷ [])

abbrev pub IsWithin : Layout → Entry → Type 0
IsWithin b e = (e.node < b.nodes) × (place b.nodes e < b.count) × (e.worker ≤ b.workers)

pub record IsHand (b : Layout) (v : Hand) : Type 0 where
  pub worker : v.worker ≤ b.workers
  -- a view has at most one end per seat that went into it
  pub ends : v.ends ≤ v.seats
  pub done : (k : ℕ) → IsDone (trace b.nodes k v.entries)
  pub within : All (IsWithin b) v.entries
  pub spent : v.seats ≡ 0 → v.entries ≡ []

pub record AreHands (b : Layout) (words : List ℕ) (views : List Hand) : Type 0 where
  -- word 0 is at most the number of units and of ends
  pub bound : slice_index words 0 ≤ b.units + total (λ v. v.ends) views
  -- if some view has an end, no unit is left
  pub over : 0 < total (λ v. v.ends) views → b.units ≤ slice_index words 0
  -- no more units were claimed than word 0 counts
  pub drawn : total (λ v. v.drawn) views ≤ slice_index words 0
  -- no more seats are made than one for each worker and one for the caller
  pub seats : total (λ v. v.seats) views ≡ b.workers + 1
  -- word 1 is set if some view has a loss
  pub mark : slice_index words 1 ≡ min (total (λ v. losses v.entries) views) 1
  pub each : (id : ℕ) (v : Hand) → get_elem? views id ≡ some v → IsHand b v

abbrev pub all_taken : Layout → List Hand → ℕ → ℕ
all_taken b vs k = in_hands as_taken b.nodes vs k

abbrev pub all_given : Layout → List Hand → ℕ → ℕ
all_given b vs k = in_hands as_given b.nodes vs k

-- the rule
pub record IsRuled {P : Type 0} (IsPiece : ℕ → P → Type 0) (b : Layout)
    (s : State (Option P) Hand) : Type 0 where
  pub items : AreItems IsPiece b (all_taken b s.views) (all_given b s.views) s.words s.homes
  pub hands : AreHands b s.words s.views

abbrev pub hand : ℕ → List Entry → ℕ → ℕ → ℕ → Hand
hand worker entries ends seats drawn = record {
  worker = worker;
  entries = entries;
  ends =
      ends;
  seats = seats;
  drawn = drawn;
}

-- the view with one more entry of its worker, on the item at place k
abbrev pub with_entry : Layout → EntryKind → ℕ → Hand → Hand
with_entry b kind k v = hand v.worker (v.entries ++ entry_at kind v.worker b.nodes k ∷ []) v.ends
    v.seats v.drawn

-- the view after a claim of the unit at place k
abbrev pub with_unit : Layout → ℕ → Hand → Hand
with_unit b k v = hand v.worker (v.entries ++ entry_at Took v.worker b.nodes k ∷ []) v.ends v.seats
    (v.drawn + 1)

-- the view after a claim that found no unit
abbrev pub with_end : Hand → Hand
with_end v = hand v.worker v.entries (v.ends + 1) v.seats v.drawn

-- a view that has cut off a seat, and one that has taken in another, whose entries come first
abbrev pub with_less : Hand → Hand
with_less v = hand v.worker v.entries v.ends (v.seats - 1) v.drawn

abbrev pub with_other : Hand → Hand → Hand
with_other v w = hand v.worker (w.entries ++ v.entries) (v.ends + w.ends) (v.seats + w.seats)
    (v.drawn + w.drawn)

-- the children's slots, which are empty while the fusion is held
abbrev pub out_of : {P : Type 0} → Option (ℕ × ℕ) → List (ℕ × Option P)
out_of None = []
out_of (Some pair) = (pair.0, None) ∷ (pair.1, None) ∷ []

-- the place of the slot that was taken last
abbrev pub top : {P : Type 0} → List (ℕ × Option P) → ℕ
top [] = 0
top (x ∷ xs) = x.0

-- A claim: the unit of the number that was found, whose empty slot the seat then holds, or an end.
abbrev pub Claims : {P : Type 0} → Layout → Step (Option P) → Me (Option P) Hand → ℕ
    → Me (Option P) Hand → Type 0
Claims b s v n w =
    (n < b.units → (w ≡ (with_unit b (b.unit_at n) v.0, (b.unit_at n, None) ∷ v.1))
    × (trace b.nodes (b.unit_at n) v.0.entries ≡ []) × (v.0.drawn ≤ n))
    × (b.units ≤ n → w ≡ (with_end v.0, v.1))

-- The item at place k is given, and the fusion at place c is taken, with the pieces of its
-- children.
pub record TakesParent {P : Type 0} (IsPiece : ℕ → P → Type 0) (b : Layout) (k c : ℕ) (v : Hand)
    (w : Me (Option P) Hand) : Type 0 where
  pub left : ℕ
  pub right : ℕ
  pub first : P
  pub second : P
  pub kids : b.kids c ≡ Some (left, right)
  pub less : k < c
  pub fresh : trace b.nodes c v.entries ≡ []
  pub view : w.0 ≡ with_entry b Took c (with_entry b Gave k v)
  pub held : w.1 ≡ (left, Some first) ∷ (right, Some second) ∷ (c, None) ∷ []
  pub first_is : IsPiece left first
  pub second_is : IsPiece right second

-- A count of the item whose slot was taken last, on the word of the one at place c: where the word
-- was 1, that one is taken.
abbrev pub Counts : {P : Type 0} → (ℕ → P → Type 0) → Layout → Step (Option P) → Me (Option P) Hand
    → ℕ → Me (Option P) Hand → Type 0
Counts IsPiece b s v n w =
    (n ≡ 1 → TakesParent IsPiece b (top v.1) (s.word - 2) v.0 w)
    × ((n ≡ 1 → ⊥) → w ≡ (with_entry b Gave (top v.1) v.0, []))

-- The item whose slot was taken last is left.
abbrev pub Marks : {P : Type 0} → Layout → Step (Option P) → Me (Option P) Hand → ℕ
    → Me (Option P) Hand → Type 0
Marks b s v n w = w ≡ (with_entry b Left (top v.1) v.0, [])

-- the view of the first seat
abbrev pub first_hand : Layout → Hand
first_hand b = hand 0 [] 0 (b.workers + 1) 0

-- the items of a job, for a number of workers
abbrev pub layout_of : JobValue → ℕ → Layout
layout_of job workers = record {
  kids = kids_in job.plan.units job.plan.joins;
  nodes = node_count job.plan;
  count = length job.shots * node_count job.plan;
  units = length job.shots * job.plan.units;
  unit_at = λ u. u / job.plan.units * node_count job.plan + u % job.plan.units;
  is_root = λ k. k % node_count job.plan == root_of job.plan;
  workers = workers;
}

-- A seat that holds an item: the item was taken by its worker, and nothing else was done with it.
pub record IsHeld (b : Layout) (v : Hand) (k : ℕ) : Type 0 where
  pub less : k < b.count
  pub took : trace b.nodes k v.entries ≡ (Took, v.worker) ∷ []
  pub seated : 0 < v.seats

-- the item whose word counts k: its parent, or itself if it is a root
pub data CountsAt (b : Layout) (k c : ℕ) : Type 0 where
  parent : is_child (b.kids c) k ≡ true → CountsAt b k c
  root : c ≡ k → b.is_root k ≡ true → CountsAt b k c

pub record IsCountOf (b : Layout) (k c : ℕ) : Type 0 where
  pub less : c < b.count
  pub counts : CountsAt b k c

-- nothing is held at item j
abbrev pub IsClosed : Layout → Hand → ℕ → Type 0
IsClosed b v j = in_hand as_taken b.nodes j v ≡ in_hand as_given b.nodes j v + in_hand as_left
    b.nodes j v

-- the place of the item that a seat holds
abbrev pub held_of : {P : Type 0} → List (ℕ × Option P) → Option ℕ
held_of [] = None
held_of (x ∷ xs) = Some x.0

-- A seat holds nothing, or one item, with the empty slots of the item and of its children.
pub record IsHolding {P : Type 0} (b : Layout) (v : Hand) (held : List (ℕ × Option P)) : Type 0
  where
    pub free : held ≡ [] → (j : ℕ) → IsClosed b v j
    pub item : (k : ℕ) → held_of held ≡ Some k
        → (held ≡ (k, None) ∷ out_of (b.kids k)) × IsHeld b v k × ((j : ℕ) → (j ≡ k → ⊥)
        → IsClosed b v j)

-- what a worker's seat keeps
pub record IsSeat {P : Type 0} (b : Layout) (worker : ℕ) (me : Me (Option P) Hand) : Type 0 where
  pub worker_is : me.0.worker ≡ worker
  pub by : worker ≤ b.workers
  pub seats : me.0.seats ≡ 1
  pub own : All (λ e. e.worker ≡ worker) me.0.entries
  pub slots : IsHolding b me.0 me.1
