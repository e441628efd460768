-- The names that are printed of why a record is refused or no further one is given.
use Rattle.std.specs.Prelude.{ℕ, List, codes}
use Rattle.fb_shots.specs.declared.answer.Kind.{Kind}
use Rattle.fb_shots.specs.declared.answer.Kind.TheVariants.{Stim, Json, TooManyShots, InputTooLong}
use Rattle.fb_shots_json.specs.FaultTexts as json
use Rattle.fb_shots_stim.specs.FaultTexts as stim

abbrev pub kind_name : Kind → List ℕ
kind_name (Stim kind) = stim.kind_name kind
kind_name (Json kind) = json.kind_name kind
kind_name TooManyShots = codes "TooManyShots"
kind_name InputTooLong = codes "InputTooLong"
