-- How a command ends that writes about the shots of a file: `decode` and `check` differ in the answers and their text alone.
use Rattle.std.specs.Prelude.{ℕ, ◌≡◌, ◌⊎◌, List, [], ◌++◌, length, Option}
use Rattle.fb_graph.specs.Limits.{DecodingGraph, ShotValue}
use Rattle.fb_ports.specs.Causes.{Appends, Rose}
use Rattle.fb_shots.specs.Shots.{at_end, refused}
use Rattle.fb_request.specs.declared.format.Format.{Format}
use Rattle.fb_shots.specs.declared.answer.Kind.{Kind}
use Rattle.fb_shots.specs.declared.answer.ShotFault.{ShotFault}
use Rattle.fb_files.specs.Judging.{HasFirstShots, HasShots, Holds, IsReadInPart, IsReadOutIfNamed, Named}
use Rattle.fb_files.specs.Moments.{Moment}
use Rattle.fb_exits.specs.declared.ending.Cause.{Cause}
use Rattle.fb_exits.specs.declared.ending.Cause.TheVariants.{Done, Odd, Bad, Refused, ReadFault, WriteFault, NoMemory, Usage}
use Rattle.fb_exits.specs.declared.ending.Refusal.TheVariants as refusal

-- What is written about shots: their answers, between a head and a last line, and the cause that follows from them.
pub record Account (A : Type 0) : Type 1 where
  pub Answers : List ShotValue → List A → Type 0
  -- the shots fill whole windows, and each answer is to a window or a shot of them
  pub FillWindows : List ShotValue → List A → Type 0
  pub head : List ℕ
  -- the text of the answers
  pub body : List A → List ℕ
  pub last : List ShotValue → List A → List ℕ
  pub cause : List ShotValue → List A → Cause

-- the whole text about shots
abbrev pub whole_text : {A : Type 0} → Account A → List ShotValue → List A → List ℕ
whole_text account shots answers = (account.head ++ account.body answers) ++ account.last shots answers

-- the file of shots that was asked for, and the graph that they are of
pub record Source : Type 0 where
  pub name : List ℕ
  pub format : Format
  pub graph : DecodingGraph

-- The shots were read to their end, and the whole text was written.
pub record WritesWhole {A : Type 0} (account : Account A) (source : Source) (before after : Moment) (cause : Cause) : Type 0 where
  pub shots : List ShotValue
  pub input : Holds before.named source.name (HasShots source.format source.graph shots at_end)
  pub answers : List A
  pub right : account.Answers shots answers
  pub written : Appends before.written after.written (whole_text account shots answers)
  pub ends : cause ≡ account.cause shots answers

-- The shots end by a refusal, and the head and the answers to those before it were written.
pub record WritesBefore {A : Type 0} (account : Account A) (source : Source) (before after : Moment) (fault : ShotFault) : Type 0 where
  pub shots : List ShotValue
  pub input : Holds before.named source.name (HasShots source.format source.graph shots (refused fault.kind))
  pub place : fault.shot ≡ length shots
  pub answers : List A
  pub right : account.Answers shots answers
  pub written : Appends before.written after.written (account.head ++ account.body answers)

-- Reading the shots failed, and the head and the answers to the shots that the bytes read settle were written.
pub record WritesGiven {A : Type 0} (account : Account A) (source : Source) (before after : Moment) : Type 0 where
  pub shots : List ShotValue
  pub input : Holds before.named source.name (IsReadInPart source.format source.graph after.left shots)
  pub answers : List A
  pub right : account.Answers shots answers
  pub written : Appends before.written after.written (account.head ++ account.body answers)

-- no shots, or the first ones of the file of a name
abbrev pub FirstOf : Named → List ℕ → Format → DecodingGraph → List ShotValue → Type 0
FirstOf named name format g shots = (shots ≡ []) ⊎ Holds named name (HasFirstShots format g shots)

-- no shot follows these: the file ends, its next record is refused, or a read of it failed
abbrev pub EndAfter : Source → Moment → Moment → List ShotValue → Type 0
EndAfter source before after shots =
    Holds before.named source.name (HasShots source.format source.graph shots at_end)
    ⊎ (((kind : Kind) × Holds before.named source.name (HasShots source.format source.graph shots (refused kind)))
    ⊎ (Rose before.faults after.faults
    × Holds before.named source.name (IsReadInPart source.format source.graph after.left shots)))

-- the whole head was appended, and then a prefix of the text
abbrev pub AppendsAfter : (head : List ℕ) → Option (List ℕ) → Option (List ℕ) → List ℕ → Type 0
AppendsAfter head old new text = (prefix rest : List ℕ) × (text ≡ prefix ++ rest) × Appends old new (head ++ prefix)

-- The whole head was written, and then a prefix of the answers to some of the first shots, or of all answers and the last
-- line. A window with fewer shots than it may have is answered only if no shot follows.
pub record WritesPart {A : Type 0} (account : Account A) (source : Source) (before after : Moment) : Type 0 where
  pub shots : List ShotValue
  pub input : FirstOf before.named source.name source.format source.graph shots
  pub answers : List A
  pub right : account.Answers shots answers
  pub windows : account.FillWindows shots answers ⊎ EndAfter source before after shots
  pub written : AppendsAfter account.head before.written after.written (account.body answers)
      ⊎ (Holds before.named source.name (HasShots source.format source.graph shots at_end)
      × AppendsAfter account.head before.written after.written (account.body answers ++ account.last shots answers))

-- The end of a command that asked for the shots. If they couldn't be opened, nothing is left to be read, and the head was
-- written.
abbrev pub TextEnds : {A : Type 0} → Account A → Source → Moment → Moment → Cause → Type 0
TextEnds account source before after Done = WritesWhole account source before after Done
TextEnds account source before after Odd = WritesWhole account source before after Odd
TextEnds account source before after (Bad count) = WritesWhole account source before after (Bad count)
TextEnds account source before after (Refused (refusal.Graph fault)) = ⊥
TextEnds account source before after (Refused (refusal.Plan fault)) = ⊥
TextEnds account source before after (Refused (refusal.Report fault)) = ⊥
TextEnds account source before after (Refused (refusal.Sample fault)) = ⊥
TextEnds account source before after (Refused (refusal.TooFewLayers height)) = ⊥
TextEnds account source before after (Refused (refusal.Observables fault)) = ⊥
TextEnds account source before after (Refused (refusal.Shot fault)) = WritesBefore account source before after fault
TextEnds account source before after ReadFault =
    (IsReadOutIfNamed before.named after.left × Appends before.written after.written account.head)
    ⊎ WritesGiven account source before after
TextEnds account source before after WriteFault = WritesPart account source before after
TextEnds account source before after NoMemory = WritesPart account source before after
TextEnds account source before after (Usage kind) = ⊥
