-- The shots that were taken from a file so far, and how they end.
use Rattle.std.specs.Prelude.{ℕ, ◌≡◌, List, length, Option, Some, None, IfSome, IsSome, ⊤}
use Rattle.fb_graph.specs.Limits.{DecodingGraph, ShotValue}
use Rattle.fb_ports.specs.Causes.{Rose}
use Rattle.fb_shots.specs.Shots.{at_end, refused}
use Rattle.fb_request.specs.declared.format.Format.{Format}
use Rattle.fb_files.specs.Judging.{HasFirstShots, HasShots, Holds, IsReadInPart, Named}
use Rattle.fb_files.specs.declared.taking.ShotsEnd.{ShotsEnd}
use Rattle.fb_files.specs.declared.taking.ShotsEnd.TheVariants as end

-- the first shots of what was left of a file, if known
abbrev pub FirstFrom : Option (List ℕ) → Format → DecodingGraph → List ShotValue → Type 0
FirstFrom left format g shots = IfSome left (HasFirstShots format g shots)

-- the shots that were gathered from the bytes of a file, if known, until `left` remained, by how that ended
abbrev pub GathersFrom : Option (List ℕ) → Format → DecodingGraph → Option (List ℕ) → List ShotValue → ShotsEnd → Type 0
GathersFrom bytes format g left shots end.End = IfSome bytes (HasShots format g shots at_end)
GathersFrom bytes format g left shots (end.Refused fault) =
    IfSome bytes (HasShots format g shots (refused fault.kind)) × (fault.shot ≡ length shots)
GathersFrom bytes format g left shots end.ReadFault = IfSome bytes (IsReadInPart format g left shots)

-- The shots of what was left of a file end after these, if it is known, and the count of faults rose if a read failed.
pub record EndsFrom (bytes : Option (List ℕ)) (format : Format) (g : DecodingGraph) (left : Option (List ℕ)) (before now : ℕ) (shots : List ShotValue) : Type 0 where
  pub ended : ShotsEnd
  pub gathers : GathersFrom bytes format g left shots ended
  pub rises : ended ≡ end.ReadFault → Rose before now

-- the same of the file of a name
abbrev pub Gathers : Named → List ℕ → Format → DecodingGraph → Option (List ℕ) → List ShotValue → ShotsEnd → Type 0
Gathers named name format g left shots end.End = Holds named name (HasShots format g shots at_end)
Gathers named name format g left shots (end.Refused fault) =
    Holds named name (HasShots format g shots (refused fault.kind)) × (fault.shot ≡ length shots)
Gathers named name format g left shots end.ReadFault = Holds named name (IsReadInPart format g left shots)

-- the file of the name is current, with all of its bytes left
abbrev pub IsOpened : Named → List ℕ → Option (List ℕ) → Type 0
IsOpened None name left = ⊤
IsOpened (Some named) name left = (left ≡ named name) × IsSome (named name)
