-- What a result of a reader says of the bytes that it was fed.
use Rattle.std.specs.Prelude.{◌≡◌, ℕ, ◌<◌, Bool, true, false, List, ◌++◌, length}
use Rattle.fb_graph.specs.Limits.{DecodingGraph, IsShot, ShotValue}
use Rattle.fb_records.specs.declared.answer.Next.{Next}
use Rattle.fb_records.specs.declared.answer.Next.TheVariants.{Shot, NotYet, End, Refused}
use Rattle.fb_shots_stim.specs.declared.answer.Kind.{Kind as StimKind}
use Rattle.fb_shots_json.specs.declared.answer.Kind.{Kind as JsonKind}
use Rattle.fb_shots.specs.declared.answer.Kind.{Kind}
use Rattle.fb_shots.specs.declared.answer.Kind.TheVariants as kind
use Rattle.fb_shots.specs.Shots.{at_end, still_open, refused, Shots, only, with_first_shot}
use Rattle.fb_shots.specs.Formats.{shot_of_detectors, records_of, prefix_of}
use Rattle.fb_shots.specs.InternalSources.{Source}

-- the result of a reader, as a shot of vertices
abbrev pub NextShot : Type 0
NextShot = Next ShotValue Kind

-- The shot is the first record of the old rest, and the new rest holds all others, whatever is fed later.
pub record Gives (records prefix : List ℕ → Shots) (finished : Bool) (old new : List ℕ) (shot : ShotValue) : Type 0 where
  pub shorter : length new < length old
  pub now : records old ≡ with_first_shot shot (records new)
  pub later : finished ≡ false → (more : List ℕ) → records (old ++ more) ≡ with_first_shot shot (records (new ++ more))
  pub onward : finished ≡ false → (more : List ℕ) → prefix (old ++ more) ≡ with_first_shot shot (prefix (new ++ more))

-- The rest begins by what is refused, whatever is fed later.
pub record Refuses (records prefix : List ℕ → Shots) (finished : Bool) (old : List ℕ) (why : Kind) : Type 0 where
  pub now : records old ≡ only (refused why)
  pub later : finished ≡ false → (more : List ℕ) → records (old ++ more) ≡ only (refused why)
  pub onward : finished ≡ false → (more : List ℕ) → prefix (old ++ more) ≡ only (refused why)

-- a result, what it says of the rest, and what it leaves of it; `records` and `prefix` are what bytes hold
abbrev pub AnswersIn : (records prefix : List ℕ → Shots) → Source → Source → NextShot → Type 0
AnswersIn records prefix old new (Shot shot) =
    Gives records prefix old.finished old.rest new.rest shot × IsShot old.graph shot
    × (new ≡ record old { rest = new.rest })
AnswersIn records prefix old new NotYet = (old.finished ≡ false) × (prefix old.rest ≡ only still_open) × (new ≡ old)
AnswersIn records prefix old new End = (old.finished ≡ true) × (records old.rest ≡ only at_end) × (new ≡ old)
AnswersIn records prefix old new (Refused why) = Refuses records prefix old.finished old.rest why × (new ≡ old)

abbrev pub Answers : Source → Source → NextShot → Type 0
Answers old new answer = AnswersIn (records_of old.format old.graph) (prefix_of old.format old.graph) old new answer

-- the result of a format's reader: its shot as one of vertices, and the refusal as this crate's
abbrev pub answer_as : {A K : Type 0} → (A → ShotValue) → (K → Kind) → Next A K → NextShot
answer_as shot_of say (Shot shot) = Shot (shot_of shot)
answer_as shot_of say NotYet = NotYet
answer_as shot_of say End = End
answer_as shot_of say (Refused why) = Refused (say why)

-- the result of a reader of detectors
abbrev pub stim_answer : DecodingGraph → Next (List ℕ) StimKind → NextShot
stim_answer g = answer_as (shot_of_detectors g) kind.Stim

-- the result of the reader of JSON lines
abbrev pub json_answer : Next ShotValue JsonKind → NextShot
json_answer = answer_as (λ shot. shot) kind.Json
