-- The value of a text, from what the JSON reader says.
use Rattle.std.proofs.Common.{◌≡◌, ℕ, List, Bool, true, false, refl, if◌then◌else◌}
use Rattle.std.specs.Prelude.{IsUtf8, Option, Some, None}
use Rattle.std.specs.Str.{is_utf8}
use Rattle.std.proofs.lemmas.Str.{is_utf8-from_IsUtf8, IsUtf8-from_is_utf8}
use Rattle.serde_json.specs.Data.{Data}
use Rattle.serde_json.specs.Read.{read}
use Rattle.fb_json.specs.JsonText.{value_of}

pub value_of_some : (bytes : List ℕ) (d : Data) → IsUtf8 bytes → read bytes ≡ Some d → value_of bytes ≡ Some d
value_of_some bytes d utf8 e = rw (is_utf8-from_IsUtf8 bytes utf8) e

none_if : (b : Bool) (r : Option Data) → (b ≡ true → r ≡ None) → (if b then r else None) ≡ None
none_if true r h = h refl
none_if false r h = refl

pub value_of_none : (bytes : List ℕ) → (IsUtf8 bytes → read bytes ≡ None) → value_of bytes ≡ None
value_of_none bytes h = none_if (is_utf8 bytes) (read bytes) (λ e. h (IsUtf8-from_is_utf8 bytes e))

pub ruleset readings = (value_of_some, value_of_none)
