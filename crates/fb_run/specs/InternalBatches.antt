-- What the loop over batches keeps.
use Rattle.std.specs.Prelude.{ℕ, ◌≡◌, ◌+◌, List, Option}
use Rattle.fb_crew.specs.declared.window.Window.{Window}
use Rattle.fb_graph.specs.declared.parts.Row.{Row}
use Rattle.fb_graph.specs.Limits.{ShotValue}
use Rattle.fb_files.specs.Taking.{TakesWindow}
use Rattle.fb_files.specs.declared.taking.ShotsEnd.{ShotsEnd}
use Rattle.fb_plan.specs.Plans.{PlanTree}
use Rattle.fb_run.specs.Decoding.{AnswersBatch, Batch}
use Rattle.fb_run.specs.Rows.{counts_of}
use Rattle.fb_run.specs.declared.batches.RowCounts.{RowCounts}
use Rattle.fb_shots.specs.Streams.{Stream}
use Rattle.fb_request.specs.Requests.{Decoding}

abbrev pub batch_in : Window → Batch
batch_in w = record { rows = w.rows.items; history = w.history.items }

-- The next shots were taken, as many as the window holds or fewer if they end, and these are their rows.
pub record TakesBatch (request : Decoding) (t : PlanTree) (old new : Stream) (before after : Option (List ℕ)) (b : Batch) (ending : Option ShotsEnd) : Type 0 where
  pub shots : List ShotValue
  pub takes : TakesWindow request.window old new before after shots ending
  pub answers : AnswersBatch request old.graph t shots b

-- these rows were counted too
pub record AddsCounts (tally more : RowCounts) (rows : List Row) : Type 0 where
  pub best : more.best ≡ tally.best + (counts_of rows).best
  pub odd : more.odd ≡ tally.odd + (counts_of rows).odd
