-- Shots of a window by whether they have a correction, and their rows put together.
use Rattle.std.specs.Prelude.{ℕ, ◌≡◌, ◌+◌, ◌*◌, ◌<◌, ◌≤◌, List, [], ◌∷◌, length, map, get_or, Option, Some, None, IfSome}
use Rattle.std.specs.List.{All, AllZip}
use Rattle.fb_graph.specs.Components.{IsFirstOdd}
use Rattle.fb_graph.specs.Limits.{DecodingGraph, ShotValue, problem_of}
use Rattle.fb_graph.specs.declared.parts.Row.{Row}
use Rattle.fb_graph.specs.declared.parts.Row.TheVariants.{Odd}
use Rattle.fb_plan.specs.Plans.{JobValue, PlanTree, IsPlan, IsTree, node_count}
use Rattle.fb_book.specs.Board.{kids_in}
use Rattle.fb_book.specs.Books.{AreRootPieces}
use Rattle.fb_book.specs.Machine.{IsComplete}
use Rattle.fb_book.specs.Laws.{renumbered_entry}
use Rattle.fb_book.specs.declared.entries.Entry.{Entry}
use Rattle.fb_book.specs.declared.limits.TheConstants.{MOST_WORKERS}
use Rattle.fb_slots.specs.Ordered.{IsByItem}
use Rattle.fb_crew.specs.InternalSolved.{SolvedValue, shot_at}
use Rattle.fb_crew.specs.Windows.{AreRows, IsHistoryOf, IsShotRow, most_seats}

-- what a crew keeps
pub record IsCrew (g : DecodingGraph) (t : PlanTree) (parts : DecodingGraph) (workers : ℕ) (tools : Option ℕ) : Type 0 where
  pub plan : IsPlan g t
  pub parts_are : parts ≡ g
  pub some : 1 ≤ workers
  pub few : workers ≤ MOST_WORKERS
  pub one_each : IfSome tools (λ count. count ≡ workers)

-- the shots that have a correction, by the odd vertices of the others
abbrev pub even_of : List (Option ℕ) → List ShotValue → List ShotValue
even_of [] shots = []
even_of (v ∷ vs) [] = []
even_of (None ∷ vs) (shot ∷ shots) = shot ∷ even_of vs shots
even_of (Some v ∷ vs) (shot ∷ shots) = even_of vs shots

-- their places, if the first shot has this one
abbrev pub even_places : ℕ → List (Option ℕ) → List ℕ
even_places k [] = []
even_places k (None ∷ vs) = k ∷ even_places (k + 1) vs
even_places k (Some v ∷ vs) = even_places (k + 1) vs

-- the vertex of its first odd component, for a shot that has one
abbrev pub AreOddAt : DecodingGraph → List ShotValue → List (Option ℕ) → Type 0
AreOddAt g shots odd = AllZip (λ shot vertex. IsFirstOdd (problem_of g shot) vertex) shots odd

pub record IsSorted (g : DecodingGraph) (shots : List ShotValue) (odd : List (Option ℕ)) (even : List ShotValue) (places : List ℕ) : Type 0 where
  pub each : AreOddAt g shots odd
  pub even_are : even ≡ even_of odd shots
  pub places_are : places ≡ even_places 0 odd

-- odd rows, and in the places of the others these rows in their order
abbrev pub rows_by : List (Option ℕ) → List Row → List Row
rows_by [] rows = []
rows_by (Some v ∷ vs) rows = Odd v ∷ rows_by vs rows
rows_by (None ∷ vs) [] = []
rows_by (None ∷ vs) (r ∷ rs) = r ∷ rows_by vs rs

-- the entries with the places of their shots for their slots
abbrev pub with_places : List ℕ → List Entry → List Entry
with_places places history = map (renumbered_entry (λ s. get_or places s 0)) history

abbrev pub SortingLaws : Type 0
SortingLaws = (g : DecodingGraph) (t : PlanTree) (workers : ℕ) (shots : List ShotValue) (odd : List (Option ℕ)) (even : List ShotValue)
    (places : List ℕ) (solved : List Row) (history : List Entry) → IsTree t → IsSorted g shots odd even places → AreRows g even solved
    → IsComplete (kids_in t.units t.joins) (node_count t) (length even * node_count t) history → All (λ e. e.worker ≤ workers) history
    → All (λ e. e.worker < most_seats workers (length even * t.units)) history → IsByItem (node_count t) history
    → AreRows g shots (rows_by odd solved) × IsHistoryOf t workers (rows_by odd solved) (with_places places history)

-- the solved items of the roots of all slots
abbrev pub AreSolvedRoots : JobValue → List SolvedValue → Type 0
AreSolvedRoots job roots = AreRootPieces (λ (p : SolvedValue). p.job) (λ p. p.slot) (λ p. p.node) (λ p. None) job roots

-- the rows of the shots of these solved items
abbrev pub AreRowsOf : List SolvedValue → List Row → Type 0
AreRowsOf roots rows = AllZip (λ root row. IsShotRow root.job.graph (shot_at root) row) roots rows
