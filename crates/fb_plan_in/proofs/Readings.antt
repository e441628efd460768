-- What the text of a plan says, from its value.
use Rattle.std.proofs.Common.{◌≡◌, ◌≤◌, ℕ, List, length, refl}
use Rattle.std.specs.Prelude.{Some}
use Rattle.std.proofs.lemmas.Bool.{le-ltb}
use Rattle.serde_json.specs.Data.{Data}
use Rattle.fb_json.specs.JsonText.{most_bytes, value_of}
use Rattle.fb_plan_in.specs.PlanText.{parts_of, parts_of_text}

-- a text within the limit says what its value says
pub parts_of_value : (bytes : List ℕ) (d : Data) → length bytes ≤ most_bytes → value_of bytes ≡ Some d
    → parts_of_text bytes ≡ parts_of d
parts_of_value bytes d short e = rw (le-ltb most_bytes (length bytes) short, e) refl
