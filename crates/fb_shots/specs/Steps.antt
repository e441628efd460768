-- What a call of a stream has done, and what its result says.
use Rattle.std.specs.Prelude.{◌≡◌, ℕ, ◌+◌, ◌<◌, ◌≤◌, ◌⊎◌, true, false, if◌then◌else◌, List, [], ◌++◌, length, Option, None, Some, IfSome, ⊤}
use Rattle.std.specs.Io.KnownBytes.{Consumes}
use Rattle.fb_graph.specs.Limits.{IsShot, ShotValue}
use Rattle.fb_shots.specs.declared.answer.Kind.{Kind}
use Rattle.fb_shots.specs.declared.answer.Kind.TheVariants.{InputTooLong, TooManyShots}
use Rattle.fb_shots.specs.declared.answer.ShotFault.{ShotFault}
use Rattle.fb_shots.specs.declared.answer.Step.{Step}
use Rattle.fb_shots.specs.declared.answer.Step.TheVariants as step
use Rattle.fb_shots.specs.Shots.{at_end, still_open, refused, Shots, only, with_first_shot}
use Rattle.fb_shots.specs.Formats.{prefix_of, records_of}
use Rattle.fb_shots.specs.Streams.{Stream, follows}

-- the fact of what was left of a file before and after, if that is known
abbrev pub IfKnown : (List ℕ → List ℕ → Type 0) → Option (List ℕ) → Option (List ℕ) → Type 0
IfKnown P None after = ⊤
IfKnown P (Some left) None = ⊥
IfKnown P (Some left) (Some later) = P left later

-- nothing is left of the file, if what was left is known
abbrev pub IsReadOut : Option (List ℕ) → Option (List ℕ) → Type 0
IsReadOut before after = IfKnown (λ left later. later ≡ []) before after

-- Bytes were taken from those that were left, or the file's end was seen, and no result has used any.
pub record OnlyTakes (old new : Stream) (before after : Option (List ℕ)) : Type 0 where
  pub piece : List ℕ
  pub taken : Consumes before after piece
  pub rest : new.rest ≡ old.rest ++ piece
  pub room : length new.rest + new.untaken ≡ length old.rest + old.untaken
  pub gives : IfKnown (λ left later. follows old left ≡ follows new later) before after
  pub end : old.finished ≡ false → new.finished ≡ true → IsReadOut before after
  pub ended : old.finished ≡ true → new ≡ old
  pub unread : old.finished ≡ true → after ≡ before
  pub others : new ≡ record old { rest = new.rest; finished = new.finished; untaken = new.untaken }

-- what a stream has settled of these bytes, if nothing else is left: all of their records if the file's end was seen,
-- and otherwise those that stay whatever follows
abbrev pub settled_shots : Stream → List ℕ → Shots
settled_shots s bytes = if s.finished then records_of s.format s.graph bytes else prefix_of s.format s.graph bytes

-- A shot is given: it comes before all that follows.
pub record GivesShot (old new : Stream) (before after : Option (List ℕ)) (shot : ShotValue) : Type 0 where
  pub piece : List ℕ
  pub taken : Consumes before after piece
  pub gives : IfKnown (λ left later. follows old left ≡ with_first_shot shot (follows new later)) before after
  pub holds : settled_shots new (old.rest ++ piece) ≡ with_first_shot shot (settled_shots new new.rest)
  pub unfinished : new.finished ≡ false → old.finished ≡ false
  pub prefix : new.finished ≡ false → (more : List ℕ) → prefix_of old.format old.graph (old.rest ++ (piece ++ more))
      ≡ with_first_shot shot (prefix_of old.format old.graph (new.rest ++ more))
  pub end : old.finished ≡ false → new.finished ≡ true → IsReadOut before after
  pub unread : old.finished ≡ true → after ≡ before
  pub is_shot : IsShot old.graph shot
  pub counts : new.given ≡ old.given + 1
  pub below : old.given < old.limit
  pub others : new ≡ record old { rest = new.rest; finished = new.finished; untaken = new.untaken; given = new.given }

-- The end is returned: nothing followed, and nothing does.
pub record Ends (old new : Stream) (before after : Option (List ℕ)) : Type 0 where
  pub piece : List ℕ
  pub taken : Consumes before after piece
  pub rest : new.rest ≡ old.rest ++ piece
  pub gives : IfSome before (λ left. follows old left ≡ only at_end)
  pub finished : new.finished ≡ true
  pub end : old.finished ≡ false → IsReadOut before after
  pub unread : old.finished ≡ true → after ≡ before
  pub again : (left : List ℕ) → follows new left ≡ only at_end
  pub others : new ≡ record old { rest = new.rest; finished = new.finished; untaken = new.untaken }

-- the stream's rest are these bytes, and the first record of them is refused
pub record RefusesFirst (s : Stream) (bytes : List ℕ) (why : Kind) : Type 0 where
  pub rest : s.rest ≡ bytes
  pub settles : settled_shots s bytes ≡ only (refused why)

-- these bytes begin by a good record, and all shots that may be given were given
pub record HoldsOneMore (s : Stream) (bytes : List ℕ) (why : Kind) : Type 0 where
  pub shot : ShotValue
  pub holds : settled_shots s bytes ≡ with_first_shot shot (settled_shots s s.rest)
  pub full : s.limit ≤ s.given
  pub kind : why ≡ TooManyShots

-- the stream's rest are these bytes, which don't settle how the next record ends, and no further one may be taken
pub record IsCutOff (s : Stream) (bytes : List ℕ) (why : Kind) : Type 0 where
  pub rest : s.rest ≡ bytes
  pub unfinished : s.finished ≡ false
  pub undecided : prefix_of s.format s.graph bytes ≡ only still_open
  pub full : s.untaken ≡ 0
  pub kind : why ≡ InputTooLong

-- why a stream refuses these bytes
abbrev pub IsReason : Stream → List ℕ → Kind → Type 0
IsReason s bytes why = RefusesFirst s bytes why ⊎ (HoldsOneMore s bytes why ⊎ IsCutOff s bytes why)

-- The next record is refused, and so is each further call. It was refused before, or the bytes say why: those that no
-- result had used, and the piece that was read.
pub record Refuses (old new : Stream) (before : Option (List ℕ)) (fault : ShotFault) : Type 0 where
  pub number : fault.shot ≡ old.given
  pub gives : IfSome before (λ left. follows old left ≡ only (refused fault.kind))
  pub piece : List ℕ
  pub room : new.untaken + length piece ≡ old.untaken
  pub reason : (old.stopped ≡ Some fault.kind) ⊎ IsReason new (old.rest ++ piece) fault.kind
  pub stops : new.stopped ≡ Some fault.kind
  pub again : (left : List ℕ) → follows new left ≡ only (refused fault.kind)
  pub others : new
      ≡ record old { rest = new.rest; finished = new.finished; untaken = new.untaken; stopped = new.stopped }

-- A read failed, and the bytes taken decide nothing.
pub record FailsToRead (old new : Stream) (before after : Option (List ℕ)) : Type 0 where
  pub takes : OnlyTakes old new before after
  pub unfinished : new.finished ≡ false
  pub runs : new.stopped ≡ None
  pub undecided : prefix_of new.format new.graph new.rest ≡ only still_open

-- a result, and what it says
abbrev pub Answers : Stream → Stream → Option (List ℕ) → Option (List ℕ) → Step → Type 0
Answers old new before after (step.Shot shot) = GivesShot old new before after shot
Answers old new before after step.End = Ends old new before after
Answers old new before after (step.Refused fault) = Refuses old new before fault
Answers old new before after step.ReadFault = FailsToRead old new before after
