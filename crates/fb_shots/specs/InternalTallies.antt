-- What a stream counts, and the steps that its reader's results and its reads are.
use Rattle.std.specs.Prelude.{◌+◌, nat_le, if◌then◌else◌, Option, Some, None}
use Rattle.fb_graph.specs.Limits.{ShotValue}
use Rattle.fb_records.specs.declared.answer.Next.TheVariants as next
use Rattle.fb_shots.specs.declared.answer.Kind.{Kind}
use Rattle.fb_shots.specs.declared.answer.Kind.TheVariants.{TooManyShots, InputTooLong}
use Rattle.fb_shots.specs.declared.answer.Step.{Step}
use Rattle.fb_shots.specs.declared.answer.Step.TheVariants as step
use Rattle.fb_shots.specs.declared.stream.Read.{Read}
use Rattle.fb_shots.specs.declared.stream.Read.TheVariants as read
use Rattle.fb_shots.specs.declared.tally.Tally.{Tally}
use Rattle.fb_shots.specs.InternalAnswers.{NextShot}

-- the refusal in place of the next shot
abbrev pub refusal_of : Tally → Kind → Step
refusal_of t kind = step.Refused (record { shot = t.given; kind = kind })

-- the counts, once this is refused
abbrev pub stopped_by : Tally → Kind → Tally
stopped_by t kind = record t { stopped = Some kind }

-- the step that a shot is, and the counts after it: it is given, if one more may be
abbrev pub step_of_shot : Tally → ShotValue → Step
step_of_shot t shot = if nat_le t.limit t.given then refusal_of t TooManyShots else step.Shot shot

abbrev pub tally_of_shot : Tally → Tally
tally_of_shot t = if nat_le t.limit t.given then stopped_by t TooManyShots else record t { given = t.given + 1 }

-- the step that a reader's result is, unless it decides nothing, and the counts after it
abbrev pub step_after : Tally → NextShot → Option Step
step_after t (next.Shot shot) = Some (step_of_shot t shot)
step_after t next.NotYet = None
step_after t next.End = Some step.End
step_after t (next.Refused why) = Some (refusal_of t why)

abbrev pub tally_after : Tally → NextShot → Tally
tally_after t (next.Shot shot) = tally_of_shot t
tally_after t next.NotYet = t
tally_after t next.End = t
tally_after t (next.Refused why) = stopped_by t why

-- the step that a read is, unless more bytes may decide one, and the counts after it
abbrev pub step_after_read : Tally → Read → Option Step
step_after_read t read.Piece = None
step_after_read t read.End = None
step_after_read t read.Fault = Some step.ReadFault
step_after_read t read.TooLong = Some (refusal_of t InputTooLong)

abbrev pub tally_after_read : Tally → Read → Tally
tally_after_read t read.Piece = t
tally_after_read t read.End = t
tally_after_read t read.Fault = t
tally_after_read t read.TooLong = stopped_by t InputTooLong
