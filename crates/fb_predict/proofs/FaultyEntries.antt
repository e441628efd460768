-- A list whose entries are read one after another.
use Rattle.std.proofs.Common.{ℕ, ◌≡◌, ◌<◌, ◌≤◌, List, length, get_or, drop, Option, None, Err, refl, sym}
use Rattle.std.specs.Prelude.{Some}
use Rattle.std.proofs.Math.Seq.{drop-cons}
use Rattle.std.proofs.lemmas.Bool.{le-ltb}
use Rattle.serde_json.specs.Data.{Data}
use Rattle.serde_json.specs.View.{view, items_view}
use Rattle.serde_json.specs.declared.value.Value.{Value}
use Rattle.fb_json.specs.JsonText.{onto, entries_by, most_bytes, value_of}
use Rattle.fb_predict.specs.ObservableText.{lists_of, lists_of_text}

-- the first of the rest isn't of its form
pub faulty : {A F : Type 0} (entry_of : Data → Option A) (fault : ℕ → F) (values : List Value) (i : ℕ) (value : Value) (found : List A)
    → i < length values → value ≡ get_or values i value → None ≡ entry_of (view value)
    → onto found (entries_by entry_of fault i (items_view (drop i values))) ≡ Err (fault i)
faulty entry_of fault values i value found less is none = rw (drop-cons values i value less, sym is, sym none) refl

-- a text within the limit says what its value says
pub lists_of_value : (bytes : List ℕ) (d : Data) → length bytes ≤ most_bytes → value_of bytes ≡ Some d → lists_of_text bytes ≡ lists_of d
lists_of_value bytes d short e = rw (le-ltb most_bytes (length bytes) short, e) refl
