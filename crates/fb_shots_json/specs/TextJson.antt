-- Shots as JSON values (RFC 8259), one to a line: the syndrome of Fusion Blossom (Wu and Zhong 2023), an object whose
-- member `defect_vertices` lists the defects. Its members `erasures` and `dynamic_weights` list the edges that weigh
-- otherwise in this shot than in the graph.
use Rattle.std.specs.Prelude.{ℕ, ◌==◌, ◌%◌, nat_lt, nat_le, nat_eq, Bool, ◌||◌, if◌then◌else◌, List, [], ◌∷◌, ◌++◌, length, map, filter, reverse, codes, ℤ, pos, neg_ℤ, int_lt, unsigned_abs, Option, Some, None, option_map, option_and_then, Result, Ok, Err}
use Rattle.std.specs.List.{list_all, range_with_len}
use Rattle.std.specs.Option.{option_or}
use Rattle.serde_json.specs.Data.{Data, null, Items, no_items, item}
use Rattle.serde_json.specs.Find.{get, as_array, as_integer, as_number}
use Rattle.fb_json.specs.JsonText.{most_bytes, natural_of, value_of, with_option, with_result}
use Rattle.fb_graph.specs.Parity.{is_in}
use Rattle.fb_graph.specs.Limits.{DecodingGraph, ShotValue, most_weight, turned_by}
use Rattle.fb_graph.specs.ShotGraphs.{weight_by}
use Rattle.fb_shots_json.specs.declared.answer.Kind.{Kind}
use Rattle.fb_shots_json.specs.declared.answer.Kind.TheVariants.{LineTooLong, NotJson, NoDefects, DefectOutOfRange, DefectOnVirtual, DefectRepeated, NotChanges, ShotEdgeOutOfRange, OddShotWeight, ShotWeightTooLarge, ShotWeightTooSmall}
use Rattle.fb_records.specs.Records.{Ending, still_open, refused, Records, Judged}
use Rattle.fb_records.specs.Lines.{without_return, after_first, records_by_lines, prefix_by_lines}

-- ---- a value

-- entries before those that are there
abbrev pub onto : {A : Type 0} → List A → Option (List A) → Option (List A)
onto before None = None
onto before (Some more) = Some (before ++ more)

-- the entries of a list, if each has its form
abbrev pub each_of : {A : Type 0} → (Data → Option A) → Items → Option (List A)
each_of entry_of no_items = Some []
each_of entry_of (item d ds) = option_and_then (λ entry. onto (entry ∷ []) (each_of entry_of ds)) (entry_of d)

-- the entries of `defect_vertices`, if it is a list of whole numbers of at least 0
abbrev pub listed_in : Data → Option (List ℕ)
listed_in d = option_and_then (each_of natural_of) (option_and_then as_array (get (codes "defect_vertices") d))

-- the entries of a member, if it is a list of such entries; none if it isn't there or null
abbrev pub entries_in : {A : Type 0} → (Data → Option A) → Option Data → Option (List A)
entries_in entry_of None = Some []
entries_in entry_of (Some null) = Some []
entries_in entry_of (Some d) = option_and_then (each_of entry_of) (as_array d)

-- exactly two whole numbers, the first of at least 0
abbrev pub two_of : Items → Option (ℕ × ℤ)
two_of (item a (item b no_items)) =
    option_and_then (λ edge. option_map (λ weight. (edge, weight)) (option_and_then as_integer (as_number b))) (natural_of a)
two_of _ = None

-- a pair of an edge and what it weighs
abbrev pub pair_of : Data → Option (ℕ × ℤ)
pair_of d = option_and_then two_of (as_array d)

-- ---- the defects

-- why an entry is no defect; `before` are those before it
abbrev pub defect_fault : DecodingGraph → List ℕ → ℕ → Option Kind
defect_fault g before v =
    if nat_le g.vertices v then Some DefectOutOfRange
    else (if is_in g.virtuals v then Some DefectOnVirtual
    else (if is_in before v then Some DefectRepeated else None))

-- what is refused, or else this
abbrev pub unless : {A : Type 0} → Option Kind → Result A Kind → Result A Kind
unless (Some kind) r = Err kind
unless None r = r

-- the entries as defects, or why the first entry that is none is refused; `before` are those before them
abbrev pub defects_from : DecodingGraph → List ℕ → List ℕ → Result (List ℕ) Kind
defects_from g before [] = Ok before
defects_from g before (v ∷ vs) = unless (defect_fault g before v) (defects_from g (before ++ v ∷ []) vs)

-- the vertices of the graph that are listed, rising
abbrev pub rising : DecodingGraph → List ℕ → List ℕ
rising g listed = filter (is_in listed) (range_with_len 0 g.vertices)

-- the defects that a value lists, rising
abbrev pub defects_in : DecodingGraph → Data → Result (List ℕ) Kind
defects_in g d =
    with_option (listed_in d) NoDefects (λ listed.
    with_result (defects_from g [] listed) (λ defects. Ok (rising g defects)))

-- ---- the changed weights

-- why an erased edge is refused
abbrev pub erasure_fault : (edge_count : ℕ) → ℕ → Option Kind
erasure_fault edge_count edge = if nat_le edge_count edge then Some ShotEdgeOutOfRange else None

-- why a pair of an edge and a weight is refused
abbrev pub pair_fault : (edge_count : ℕ) → ℕ × ℤ → Option Kind
pair_fault edge_count pair =
    if nat_le edge_count pair.0 then Some ShotEdgeOutOfRange
    else (if nat_eq (unsigned_abs pair.1 % 2) 1 then Some OddShotWeight
    else (if int_lt (pos most_weight) pair.1 then Some ShotWeightTooLarge
    else (if int_lt pair.1 (neg_ℤ (pos most_weight)) then Some ShotWeightTooSmall else None)))

-- why the first entry that is refused is
abbrev pub first_fault : {A : Type 0} → (A → Option Kind) → List A → Option Kind
first_fault fault [] = None
first_fault fault (entry ∷ entries) = option_or (fault entry) (first_fault fault entries)

-- the erasures are judged first, in their order, and then the pairs
abbrev pub changes_fault : (edge_count : ℕ) → List ℕ → List (ℕ × ℤ) → Option Kind
changes_fault edge_count erasures pairs =
    option_or (first_fault (erasure_fault edge_count) erasures) (first_fault (pair_fault edge_count) pairs)

-- the changes as they are listed: the pairs, and then each erased edge, which has weight 0
abbrev pub listed_changes : List ℕ → List (ℕ × ℤ) → List (ℕ × ℤ)
listed_changes erasures pairs = pairs ++ map (λ edge. (edge, pos 0)) erasures

-- the edges of the graph that are listed, rising, each with the weight that is listed last for it
abbrev pub last_changes : (edge_count : ℕ) → List (ℕ × ℤ) → List (ℕ × ℤ)
last_changes edge_count listed =
    map (λ edge. (edge, weight_by (reverse listed) edge (pos 0)))
    (filter (is_in (map (λ change. change.0) listed)) (range_with_len 0 edge_count))

-- the edges that weigh otherwise by a value, rising, each with its weight
abbrev pub changes_in : (edge_count : ℕ) → Data → Result (List (ℕ × ℤ)) Kind
changes_in edge_count d =
    with_option (entries_in natural_of (get (codes "erasures") d)) NotChanges (λ erasures.
    with_option (entries_in pair_of (get (codes "dynamic_weights") d)) NotChanges (λ pairs.
    unless (changes_fault edge_count erasures pairs) (Ok (last_changes edge_count (listed_changes erasures pairs)))))

-- the shot that a value says
abbrev pub shot_in : DecodingGraph → Data → Result ShotValue Kind
shot_in g d =
    with_result (defects_in g d) (λ defects.
    with_result (changes_in (length g.edges) d) (λ changes.
    Ok (record { defects = defects; changes = changes; turned = turned_by g changes })))

-- ---- a line

-- a space, a tab or a carriage return
abbrev pub is_blank_byte : ℕ → Bool
is_blank_byte b = b == 32 || b == 9 || b == 13

abbrev pub is_blank : List ℕ → Bool
is_blank line = list_all is_blank_byte line

abbrev pub is_too_long : List ℕ → Bool
is_too_long line = nat_lt most_bytes (length line)

abbrev pub as_shot : Result ShotValue Kind → Judged ShotValue Kind
as_shot (Ok shot) = Ok (Some shot)
as_shot (Err kind) = Err kind

-- the shot of a line that isn't blank
abbrev pub shot_of_line : DecodingGraph → List ℕ → Result ShotValue Kind
shot_of_line g line =
    if is_too_long line then Err LineTooLong
    else with_option (value_of (without_return line)) NotJson (shot_in g)

-- A line, without its newline. A blank one is skipped, however long.
abbrev pub line_json : DecodingGraph → List ℕ → Judged ShotValue Kind
line_json g line = if is_blank line then Ok None else as_shot (shot_of_line g line)

-- A line that may go on is judged once it is too long and not blank.
abbrev pub begun_json : List ℕ → Ending Kind
begun_json line = if is_blank line then still_open else (if is_too_long line then refused LineTooLong else still_open)

-- what a whole input holds
abbrev pub records_json : DecodingGraph → List ℕ → Records ShotValue Kind
records_json g = records_by_lines (line_json g)

-- what is settled by a prefix of an input
abbrev pub prefix_json : DecodingGraph → List ℕ → Records ShotValue Kind
prefix_json g = prefix_by_lines (line_json g) begun_json

-- ---- what a result uses

-- what follows the first line that isn't blank
abbrev pub after_record : List ℕ → List ℕ
after_record = after_first is_blank
