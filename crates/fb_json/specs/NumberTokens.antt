-- Values at the beginning of a text's tokens.
use Rattle.std.specs.Prelude.{ℕ, ◌≡◌, List, [], ◌∷◌, Some}
use Rattle.json.specs.Token.{Token}
use Rattle.json.specs.Json.{value}
use Rattle.serde_json.specs.Data.{Data, number, unsigned, array, Items, no_items, item}
use Rattle.serde_json.specs.Read.{of_json, converted}

-- the tokens begin with this value, in which lists and objects nest no deeper than the number, and go on with the rest
abbrev pub Begins : ℕ → List Token → Data → List Token → Type 0
Begins depth tokens d rest = converted of_json (value depth tokens) ≡ Some (d, rest)

-- a whole number of at least 0
abbrev pub natural_data : ℕ → Data
natural_data n = number (unsigned n)

-- the values of these entries, and then the rest
abbrev pub items_by : {A : Type 0} → (A → Data) → List A → Items → Items
items_by data_of [] rest = rest
items_by data_of (x ∷ xs) rest = item (data_of x) (items_by data_of xs rest)

-- the list of the values of these entries
abbrev pub list_data : {A : Type 0} → (A → Data) → List A → Data
list_data data_of xs = array (items_by data_of xs no_items)
