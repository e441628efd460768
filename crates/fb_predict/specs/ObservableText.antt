-- The observables of a text: one JSON value (RFC 8259), an object whose member `observables` lists the edges of each; or
-- the first rule that the text breaks. Other members are ignored.
use Rattle.std.specs.Prelude.{ℕ, ◌+◌, nat_lt, nat_le, Bool, ◌||◌, false, if◌then◌else◌, List, [], ◌∷◌, ◌++◌, length, codes, Option, Some, None, option_and_then, Result, Ok, Err}
use Rattle.std.specs.List.{list_any}
use Rattle.serde_json.specs.Data.{Data, Items, no_items, item}
use Rattle.serde_json.specs.Find.{get, as_array}
use Rattle.fb_graph.specs.Parity.{is_in}
use Rattle.fb_json.specs.JsonText.{most_bytes, with_option, with_result, value_of, natural_of, entries_by}
use Rattle.fb_predict.specs.declared.faults.ObsFault.{ObsFault}
use Rattle.fb_predict.specs.declared.faults.ObsFault.TheVariants.{TooLong, NotJson, Missing, NotList, NotWhole, TooMany, EdgeOutOfRange, EdgeRepeated}

-- ---- what a text says

-- numbers before those that a result has
abbrev pub after : List ℕ → Option (List ℕ) → Option (List ℕ)
after before None = None
after before (Some more) = Some (before ++ more)

-- the whole numbers of at least 0 of a list; None if an entry is none
abbrev pub numbers_of : Items → Option (List ℕ)
numbers_of no_items = Some []
numbers_of (item d ds) = option_and_then (λ number. after (number ∷ []) (numbers_of ds)) (natural_of d)

-- the edges of an observable: a list of whole numbers of at least 0
abbrev pub edges_of : Data → Option (List ℕ)
edges_of d = option_and_then numbers_of (as_array d)

unfoldable pub lists_of : Data → Result (List (List ℕ)) ObsFault
lists_of d =
    with_option (get (codes "observables") d) Missing (λ member.
    with_option (as_array member) NotList (entries_by edges_of NotWhole 0))

abbrev pub lists_of_text : List ℕ → Result (List (List ℕ)) ObsFault
lists_of_text bytes =
    if nat_lt most_bytes (length bytes) then Err TooLong
    else with_option (value_of bytes) NotJson lists_of

-- ---- the rules

-- the most observables
abbrev pub most_observables : ℕ
most_observables = 1024

-- the number of the first list that passes, the first list being number i
abbrev pub first_where : (List ℕ → Bool) → ℕ → List (List ℕ) → Option ℕ
first_where passes i [] = None
first_where passes i (list ∷ lists) = if passes list then Some i else first_where passes (i + 1) lists

-- whether a list has an edge that isn't below their count
abbrev pub is_beyond : ℕ → List ℕ → Bool
is_beyond edge_count list = list_any (λ e. nat_le edge_count e) list

-- whether an edge of a list comes again, or is among those seen before it
abbrev pub repeats : List ℕ → List ℕ → Bool
repeats seen [] = false
repeats seen (e ∷ list) = is_in seen e || repeats (seen ++ e ∷ []) list

-- this fault if a list has a number, else the next rule
abbrev pub with_no_list : {A : Type 0} → Option ℕ → (ℕ → ObsFault) → Result A ObsFault → Result A ObsFault
with_no_list (Some i) fault next = Err (fault i)
with_no_list None fault next = next

-- the lists, or the first rule that they break
abbrev pub ruled : ℕ → List (List ℕ) → Result (List (List ℕ)) ObsFault
ruled edge_count lists =
    if nat_lt most_observables (length lists) then Err TooMany
    else with_no_list (first_where (is_beyond edge_count) 0 lists) EdgeOutOfRange
    (with_no_list (first_where (repeats []) 0 lists) EdgeRepeated (Ok lists))

-- the observables of a text over a graph with a number of edges, or the first rule that the text breaks
abbrev pub observables_of_text : List ℕ → ℕ → Result (List (List ℕ)) ObsFault
observables_of_text bytes edge_count = with_result (lists_of_text bytes) (ruled edge_count)
