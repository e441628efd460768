-- What a text of shots holds: its shots in order, and how it ends.
use Rattle.std.specs.Prelude.{ℕ, nat_le, if◌then◌else◌, List, ◌++◌, length, take}
use Rattle.fb_graph.specs.Limits.{ShotValue}
use Rattle.fb_records.specs.Records.{Ending as AnyEnding, Records}
use Rattle.fb_shots.specs.declared.answer.Kind.{Kind}
use Rattle.fb_shots.specs.declared.answer.Kind.TheVariants.{TooManyShots}
pub use Rattle.fb_records.specs.Records.{at_end, still_open, refused, only, with_first_shot, GoesOn}

-- how a text of shots ends, in any format
abbrev pub Ending : Type 0
Ending = AnyEnding Kind

-- the shots of a text in any format, and how the text ends
abbrev pub Shots : Type 0
Shots = Records ShotValue Kind

-- the shots with these before all others
abbrev pub with_first_shots : List ShotValue → Shots → Shots
with_first_shots shots r = record { shots = shots ++ r.shots; ending = r.ending }

-- at most `limit` shots: a further good record ends them
abbrev pub capped_shots : ℕ → Shots → Shots
capped_shots limit r =
    if nat_le (length r.shots) limit then r
    else record { shots = take limit r.shots; ending = refused TooManyShots }
