-- What holds of every history that the machine allows.
use Rattle.std.specs.Prelude.{ℕ, ◌≡◌, ◌+◌, ◌*◌, ◌<◌, ◌≤◌, ◌⊎◌, true, false, Some, List, [], ◌∷◌, ◌++◌, length, map}
use Rattle.std.specs.List.{All, list_any, list_all}
use Rattle.fb_graph.specs.Parity.{is_in}
use Rattle.fb_book.specs.declared.entries.EntryKind.{EntryKind}
use Rattle.fb_book.specs.declared.entries.EntryKind.TheVariants.{Took, Gave, Left}
use Rattle.fb_book.specs.declared.entries.Entry.{Entry}
use Rattle.fb_book.specs.declared.entries.Status.{Status}
use Rattle.fb_book.specs.declared.entries.Status.TheVariants.{Idle, Held, Given, Used, Left as Lost}
use Rattle.fb_book.specs.Machine.{Kids, IsForest, AreSlots, IsComplete, IsCompleteOn, is_child, status_at, is_idle, is_held, is_left, is_over, can_take, replay, place, trace, all_idle}
use Rattle.fb_book.specs.Board.{kids_in}
use Rattle.fb_book.specs.Books.{nodes_made}
use Rattle.fb_plan.specs.Plans.{PlanTree, IsTree, children_of}

-- The items of every plan's tree are a forest, in all slots together.
abbrev pub ItemsAreForest : Type 0
ItemsAreForest = (tree : PlanTree) → IsTree tree → IsForest (kids_in tree.units tree.joins)

-- For a unit's piece the unit itself is made, and nothing else.
abbrev pub UnitIsMadeAlone : Type 0
UnitIsMadeAlone = (tree : PlanTree) → IsTree tree → (n : ℕ) → n < tree.units → nodes_made tree n ≡ n ∷ []

-- For a fusion's piece all of its left child is made, then all of its right child, and then the fusion.
abbrev pub FusionIsMadeLast : Type 0
FusionIsMadeLast = (tree : PlanTree) → IsTree tree → (n left right : ℕ) → children_of tree n ≡ Some (left, right)
    → nodes_made tree n ≡ nodes_made tree left ++ nodes_made tree right ++ n ∷ []

-- what was done with an item of this status
abbrev pub IsTraceOf : Status → List (EntryKind × ℕ) → Type 0
IsTraceOf Idle done = done ≡ []
IsTraceOf (Held w) done = done ≡ (Took, w) ∷ []
IsTraceOf Given done = (w : ℕ) × (done ≡ (Took, w) ∷ (Gave, w) ∷ [])
IsTraceOf Used done = (w : ℕ) × (done ≡ (Took, w) ∷ (Gave, w) ∷ [])
IsTraceOf Lost done = (w : ℕ) × (done ≡ (Took, w) ∷ (Left, w) ∷ [])

-- the number of entries of an item of this status
abbrev pub entries_of : Status → ℕ
entries_of Idle = 0
entries_of (Held w) = 1
entries_of Given = 2
entries_of Used = 2
entries_of Lost = 2

-- If nothing is held or left, some item can be taken, or every item is given or used.
abbrev pub Progress : Type 0
Progress = (kids : Kids) (n count : ℕ) (history : List Entry) (st : List Status) → IsForest kids
    → replay kids n (all_idle count) history ≡ Some st
    → list_any is_held st ≡ false → list_any is_left st ≡ false
    → ((k : ℕ) × (k < count) × (can_take kids st k ≡ true)) ⊎ (list_all is_over st ≡ true)

-- What was done with an item determines its status.
abbrev pub TraceGivesStatus : Type 0
TraceGivesStatus = (kids : Kids) (n count : ℕ) (history : List Entry) (st : List Status) → IsForest kids
    → replay kids n (all_idle count) history ≡ Some st
    → (k : ℕ) → k < count → IsTraceOf (status_at st k) (trace n k history)

-- No item has more than two entries, and so all together no more than twice their number.
abbrev pub TwoEach : Type 0
TwoEach = (kids : Kids) (n count : ℕ) (history : List Entry) (st : List Status) → IsForest kids
    → replay kids n (all_idle count) history ≡ Some st
    → (length history ≤ 2 * count) × ((k : ℕ) → k < count → length (trace n k history) ≤ 2)

-- Of a complete history each item was taken once and then given once, by one worker.
abbrev pub TakenAndGiven : Type 0
TakenAndGiven = (kids : Kids) (n count : ℕ) (history : List Entry) → IsForest kids
    → IsComplete kids n count history
    → (k : ℕ) → k < count → (w : ℕ) × (trace n k history ≡ (Took, w) ∷ (Gave, w) ∷ [])

-- Of a history that is complete on some slots this holds of their items.
abbrev pub TakenAndGivenOn : Type 0
TakenAndGivenOn = (slots : List ℕ) (kids : Kids) (n count : ℕ) (history : List Entry) → IsForest kids
    → IsCompleteOn slots kids n count history
    → (slot node : ℕ) → is_in slots slot ≡ true → node < n
    → (w : ℕ) × (trace n (slot * n + node) history ≡ (Took, w) ∷ (Gave, w) ∷ [])

-- A complete history is complete on each list of slots that have items.
abbrev pub CompleteOnSlots : Type 0
CompleteOnSlots = (slots : List ℕ) (kids : Kids) (n count : ℕ) (history : List Entry) → AreSlots slots n count
    → IsComplete kids n count history → IsCompleteOn slots kids n count history

-- An allowed history at whose end every item is given or used is complete.
abbrev pub DoneIsComplete : Type 0
DoneIsComplete = (kids : Kids) (n count : ℕ) (history : List Entry) (st : List Status) → IsForest kids
    → replay kids n (all_idle count) history ≡ Some st → list_all is_over st ≡ true
    → IsComplete kids n count history

-- Before an item is taken each of its children was taken and given.
abbrev pub ChildrenBefore : Type 0
ChildrenBefore = (kids : Kids) (n count : ℕ) (before rest : List Entry) (took : Entry) (st : List Status) → IsForest kids
    → replay kids n (all_idle count) (before ++ took ∷ rest) ≡ Some st → took.kind ≡ Took
    → (c : ℕ) → is_child (kids (place n took)) c ≡ true
    → (w : ℕ) × (trace n c before ≡ (Took, w) ∷ (Gave, w) ∷ [])

-- An item that is used is a child of one that isn't idle.
abbrev pub UsedByParent : Type 0
UsedByParent = (kids : Kids) (n count : ℕ) (history : List Entry) (st : List Status) → IsForest kids
    → replay kids n (all_idle count) history ≡ Some st
    → (c : ℕ) → c < count → status_at st c ≡ Used
    → (k : ℕ) × (k < count) × (is_child (kids k) c ≡ true) × (is_idle (status_at st k) ≡ false)

-- The slots below one bound get other numbers, rising, below another bound.
pub record IsRenumbering (f : ℕ → ℕ) (slots more : ℕ) : Type 0 where
  pub rising : (s t : ℕ) → s < t → t < slots → f s < f t
  pub below : (s : ℕ) → s < slots → f s < more

abbrev pub renumbered_entry : (ℕ → ℕ) → Entry → Entry
renumbered_entry f e = record e { slot = f e.slot }

-- The history over more slots is allowed, and leads each item to the status that it had by its former number.
pub record IsRenumbered (f : ℕ → ℕ) (kids : Kids) (n slots more : ℕ) (history : List Entry) (st : List Status) : Type 0 where
  pub statuses : List Status
  pub replayed : replay kids n (all_idle (more * n)) (map (renumbered_entry f) history) ≡ Some statuses
  pub same : (s node : ℕ) → s < slots → node < n → status_at statuses (f s * n + node) ≡ status_at st (s * n + node)
  pub slots_are : All (λ e. e.slot < slots) history

-- A rising renumbering of slots keeps a history allowed, and each item's status.
abbrev pub RenumberingAllows : Type 0
RenumberingAllows = (f : ℕ → ℕ) (units : ℕ) (joins : List (ℕ × ℕ)) (slots more : ℕ) (history : List Entry)
    (st : List Status) → IsRenumbering f slots more → IsForest (kids_in units joins)
    → replay (kids_in units joins) (units + length joins) (all_idle (slots * (units + length joins))) history ≡ Some st
    → IsRenumbered f (kids_in units joins) (units + length joins) slots more history st

-- So a history that is complete on some slots is complete on their new numbers.
abbrev pub RenumberingCompletes : Type 0
RenumberingCompletes = (f : ℕ → ℕ) (units : ℕ) (joins : List (ℕ × ℕ)) (slots more : ℕ) (on : List ℕ)
    (history : List Entry) → IsRenumbering f slots more → 0 < units → IsForest (kids_in units joins)
    → IsCompleteOn on (kids_in units joins) (units + length joins) (slots * (units + length joins)) history
    → IsCompleteOn (map f on) (kids_in units joins) (units + length joins) (more * (units + length joins))
    (map (renumbered_entry f) history)
