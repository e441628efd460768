-- Shots that a stream gives one after another, and how they end.
use Rattle.std.specs.Prelude.{ℕ, ◌≡◌, ◌+◌, ◌≤◌, true, false, List, ◌++◌, length, Option, Some, None}
use Rattle.std.specs.List.{All}
use Rattle.std.specs.Io.KnownBytes.{Consumes}
use Rattle.fb_graph.specs.Limits.{IsShot, ShotValue}
use Rattle.fb_shots.specs.Shots.{with_first_shots}
use Rattle.fb_shots.specs.Formats.{prefix_of}
use Rattle.fb_shots.specs.Steps.{Ends, FailsToRead, IfKnown, IsReadOut, Refuses}
use Rattle.fb_shots.specs.Streams.{Stream, follows}
use Rattle.fb_files.specs.declared.taking.ShotsEnd.{ShotsEnd}
use Rattle.fb_files.specs.declared.taking.ShotsEnd.TheVariants as end

-- A stream has given these shots: they stand before all that follows.
pub record GivesShots (old new : Stream) (before after : Option (List ℕ)) (shots : List ShotValue) : Type 0 where
  pub piece : List ℕ
  pub taken : Consumes before after piece
  pub gives : IfKnown (λ left later. follows old left ≡ with_first_shots shots (follows new later)) before after
  pub settles : new.finished ≡ false → (more : List ℕ) → prefix_of old.format old.graph (old.rest ++ (piece ++ more))
      ≡ with_first_shots shots (prefix_of old.format old.graph (new.rest ++ more))
  pub unfinished : new.finished ≡ false → old.finished ≡ false
  pub end : old.finished ≡ false → new.finished ≡ true → IsReadOut before after
  pub unread : old.finished ≡ true → after ≡ before
  pub format : new.format ≡ old.format
  pub graph : new.graph ≡ old.graph
  pub limit : new.limit ≡ old.limit
  pub counts : new.given ≡ old.given + length shots
  pub fits : old.given ≤ old.limit → new.given ≤ new.limit
  pub all : All (IsShot old.graph) shots

-- how the shots end, if they do
abbrev pub EndsSo : Stream → Stream → Option (List ℕ) → Option (List ℕ) → Option ShotsEnd → Type 0
EndsSo old new before after None = (new ≡ old) × (after ≡ before)
EndsSo old new before after (Some end.End) = Ends old new before after
EndsSo old new before after (Some (end.Refused fault)) = Refuses old new before fault
EndsSo old new before after (Some end.ReadFault) = FailsToRead old new before after

-- The next shots were taken: `most` of them, or fewer if they end.
pub record TakesWindow (most : ℕ) (old new : Stream) (before after : Option (List ℕ)) (shots : List ShotValue) (ending : Option ShotsEnd) : Type 0 where
  pub middle : Stream
  pub between : Option (List ℕ)
  pub gives : GivesShots old middle before between shots
  pub ends : EndsSo middle new between after ending
  pub few : length shots ≤ most
  pub full : ending ≡ None → length shots ≡ most
