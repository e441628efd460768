-- What the workers of a job leave.
use Rattle.std.specs.Prelude.{List, []}
use Rattle.fb_plan.specs.Plans.{JobValue, node_count}
use Rattle.fb_book.specs.declared.entries.Entry.{Entry}
use Rattle.fb_book.specs.Machine.{IsComplete}
use Rattle.fb_book.specs.Board.{item_count, kids_of}
use Rattle.fb_book.specs.Books.{course_of}

-- Of each item of the job the history has that it was taken and then given, and nothing else.
abbrev pub IsCompleteOf : JobValue → List Entry → Type 0
IsCompleteOf job history =
    IsComplete (kids_of (course_of job [])) (node_count job.plan) (item_count (course_of job [])) history
