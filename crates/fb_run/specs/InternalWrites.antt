-- What a decode has written of its shots, and how it ends.
use Rattle.std.specs.Prelude.{ℕ, ◌≡◌, ◌+◌, ◌⊎◌, List, Option, if◌then◌else◌}
use Rattle.fb_crew.specs.Windows.{is_best}
use Rattle.fb_graph.specs.Limits.{DecodingGraph, ShotValue}
use Rattle.fb_graph.specs.declared.parts.Row.{Row}
use Rattle.fb_plan.specs.Plans.{PlanTree}
use Rattle.fb_ports.specs.Causes.{Appends, AppendsPrefix}
use Rattle.fb_run.specs.Decoding.{AreBatches, Batch, HaveWholeWindows, all_rows, batches_text, cause_of, last_line}
use Rattle.fb_run.specs.Rows.{Counts, counts_of}
use Rattle.fb_request.specs.Requests.{Decoding}
use Rattle.fb_exits.specs.declared.ending.Cause.{Cause}
use Rattle.fb_exits.specs.declared.ending.Cause.TheVariants.{Refused, ReadFault, WriteFault}
use Rattle.fb_exits.specs.declared.ending.Refusal.TheVariants as refusal
use Rattle.fb_run.specs.declared.batches.RowCounts.{RowCounts}
use Rattle.fb_files.specs.declared.taking.ShotsEnd.{ShotsEnd}
use Rattle.fb_files.specs.declared.taking.ShotsEnd.TheVariants as end

abbrev pub counts_in : RowCounts → Counts
counts_in t = record { best = t.best; odd = t.odd }

-- one row more
abbrev pub tally_with : RowCounts → Row → RowCounts
tally_with t r = if is_best r then record t { best = t.best + 1 } else record t { odd = t.odd + 1 }

-- The batches of the shots that the input gives were written, and their rows are counted so.
pub record WritesBatches (Input : List ShotValue → Type 0) (request : Decoding) (g : DecodingGraph) (t : PlanTree) (old new : Option (List ℕ)) (tally : RowCounts) : Type 0 where
  pub shots : List ShotValue
  pub input : Input shots
  pub batches : List Batch
  pub answers : AreBatches request g t shots batches
  pub written : Appends old new (batches_text request.trace 0 batches)
  pub counts : counts_in tally ≡ counts_of (all_rows batches)

-- A prefix was written of the batches of some of the first shots. They fill whole windows, or the shots end after them.
pub record WritesFirstBatches (Input Ends : List ShotValue → Type 0) (request : Decoding) (g : DecodingGraph) (t : PlanTree) (old new : Option (List ℕ)) : Type 0 where
  pub shots : List ShotValue
  pub input : Input shots
  pub batches : List Batch
  pub answers : AreBatches request g t shots batches
  pub windows : HaveWholeWindows request shots batches ⊎ Ends shots
  pub written : AppendsPrefix old new (batches_text request.trace 0 batches)

-- the end of a report of `rows` rows, by how the shots ended: the last line only if they were read to their end
abbrev pub EndsReport : PlanTree → ShotsEnd → ℕ → Counts → Option (List ℕ) → Option (List ℕ) → Cause → Type 0
EndsReport t end.End rows counts old new cause =
    (Appends old new (last_line t rows counts) × (cause ≡ cause_of counts))
    ⊎ (AppendsPrefix old new (last_line t rows counts) × (cause ≡ WriteFault))
EndsReport t (end.Refused fault) rows counts old new cause = (new ≡ old) × (cause ≡ Refused (refusal.Shot fault))
EndsReport t end.ReadFault rows counts old new cause = (new ≡ old) × (cause ≡ ReadFault)
