-- A text of JSON (RFC 8259) read step by step: each step finds what it asks for, or a fault ends the reading.
use Rattle.std.specs.Prelude.{ℕ, ◌+◌, if◌then◌else◌, List, [], ◌∷◌, ◌++◌, Option, Some, None, option_and_then, Result, Ok, Err}
use Rattle.std.specs.Str.{is_utf8}
use Rattle.serde_json.specs.Data.{Data, Items, no_items, item}
use Rattle.serde_json.specs.Find.{as_number, as_u64}
use Rattle.serde_json.specs.Read.{read}

-- the most bytes of the text of a graph or of a plan, and of a line with a shot: 2^28
abbrev pub most_bytes : ℕ
most_bytes = 268435456

-- the next step on a value that is there, else this fault
abbrev pub with_option : {A B F : Type 0} → Option A → F → (A → Result B F) → Result B F
with_option None fault next = Err fault
with_option (Some a) fault next = next a

-- the next step on a value, or the fault in place of one
abbrev pub with_result : {A B F : Type 0} → Result A F → (A → Result B F) → Result B F
with_result (Err fault) next = Err fault
with_result (Ok a) next = next a

-- the value of a text: None if it is no UTF-8 or no JSON
abbrev pub value_of : List ℕ → Option Data
value_of bytes = if is_utf8 bytes then read bytes else None

-- a whole number of at least 0
abbrev pub natural_of : Data → Option ℕ
natural_of d = option_and_then as_u64 (as_number d)

-- entries before those that a result has
abbrev pub onto : {A F : Type 0} → List A → Result (List A) F → Result (List A) F
onto before (Ok more) = Ok (before ++ more)
onto before (Err fault) = Err fault

-- the entries of a list, the first of which has number i, or the fault of the first one that isn't of its form
abbrev pub entries_by : {A F : Type 0} → (Data → Option A) → (ℕ → F) → ℕ → Items → Result (List A) F
entries_by entry_of fault i no_items = Ok []
entries_by entry_of fault i (item d ds) =
    with_option (entry_of d) (fault i) (λ entry. onto (entry ∷ []) (entries_by entry_of fault (i + 1) ds))
