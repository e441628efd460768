-- What the text of a report says to its reader. A line is words parted by one space each, and ends by a newline. The
-- first line is the head, the last one says how many rows there are; between them are the rows of the shots, each
-- of one line or of several, and lines that trace the run. A reading takes the lines one after another, each by what it
-- says and by its place.
use Rattle.std.specs.Prelude.{ℕ, zero, suc, ℤ, pos, negsuc, unsigned_abs, ◌+◌, ◌*◌, ◌-◌, ◌^◌, ◌==◌, nat_lt, nat_le, Bool, true, false, ◌&&◌, if◌then◌else◌, List, [], ◌∷◌, ◌++◌, length, codes, count_by, Option, Some, None, option_map, option_and_then, Result, Ok, Err}
use Rattle.std.specs.List.{slice_split}
use Rattle.std.specs.Str.{bytes_eq}
use Rattle.fb_graph.specs.declared.parts.Row.{Row}
use Rattle.fb_graph.specs.declared.parts.Row.TheVariants as row
use Rattle.fb_verify.specs.declared.report_faults.ReportFault.{ReportFault}
use Rattle.fb_verify.specs.declared.report_faults.ReportFault.TheVariants.{BadLine, WrongShot, Unfinished, TooLong}
use Rattle.fb_verify.specs.declared.reports.Report.{Report}
use Rattle.fb_verify.specs.declared.reports.Version.{Version}
use Rattle.fb_verify.specs.declared.reports.Version.TheVariants.{One, Two}
use Rattle.fb_verify.specs.declared.lines.Line.{Line}
use Rattle.fb_verify.specs.declared.lines.Line.TheVariants as line
use Rattle.fb_verify.specs.Places.{Place}
use Rattle.fb_verify.specs.Places as place
use Rattle.fb_verify.specs.Places.{Reading}

-- ---- words

abbrev pub words_of : List ℕ → List (List ℕ)
words_of text = slice_split (λ b. b == 32) text

abbrev pub is_digit : ℕ → Bool
is_digit c = nat_le 48 c && nat_le c 57

-- the number that digits write, however many, behind those that write this one
abbrev pub number_from : ℕ → List ℕ → Option ℕ
number_from value [] = Some value
number_from value (c ∷ digits) = if is_digit c then number_from (value * 10 + (c - 48)) digits else None

-- the number that a word writes: digits, without a leading zero
abbrev pub number_of : List ℕ → Option ℕ
number_of [] = None
number_of (c ∷ []) = number_from 0 (c ∷ [])
number_of (c ∷ d ∷ digits) = if c == 48 then None else number_from 0 (c ∷ d ∷ digits)

-- a number that is below the bound
abbrev pub below : ℕ → Option ℕ → Option ℕ
below bound None = None
below bound (Some n) = if nat_lt n bound then Some n else None

-- the number below the bound that the first word writes, and the words after it
abbrev pub first_number : ℕ → List (List ℕ) → Option (ℕ × List (List ℕ))
first_number bound [] = None
first_number bound (w ∷ ws) = option_map (λ n. (n, ws)) (below bound (number_of w))

-- the number with a minus sign, unless it is 0
abbrev pub negative : ℕ → Option ℤ
negative zero = None
negative (suc n) = Some (negsuc n)

-- the number that a word writes and that without its sign is below the bound; only one that isn't 0 has a minus sign
abbrev pub signed_number : ℕ → List ℕ → Option ℤ
signed_number bound [] = None
signed_number bound (c ∷ digits) =
    if c == 45 then option_and_then negative (below bound (number_of digits))
    else option_map pos (below bound (number_of (c ∷ digits)))

-- the number with its sign, without it below the bound, that the first word writes, and the words after it
abbrev pub first_signed : ℕ → List (List ℕ) → Option (ℤ × List (List ℕ))
first_signed bound [] = None
first_signed bound (w ∷ ws) = option_map (λ z. (z, ws)) (signed_number bound w)

-- the words after a first word, which is to be this one
abbrev pub after_word : List ℕ → List (List ℕ) → Option (List (List ℕ))
after_word word [] = None
after_word word (w ∷ ws) = if bytes_eq w word then Some ws else None

-- the number onto those that follow
abbrev pub onto_numbers : ℕ → Option (List ℕ) → Option (List ℕ)
onto_numbers n numbers = option_map (λ ns. n ∷ ns) numbers

-- the numbers below 2^32 that the words write
abbrev pub all_numbers : List (List ℕ) → Option (List ℕ)
all_numbers [] = Some []
all_numbers (w ∷ ws) = option_and_then (λ n. onto_numbers n (all_numbers ws)) (below (2 ^ 32) (number_of w))

-- ---- lines

-- a line goes on with a number below the bound
abbrev pub with_number : {X : Type 0} → ℕ → List (List ℕ) → (ℕ → List (List ℕ) → Option X) → Option X
with_number bound words go_on = option_and_then (λ p. go_on p.0 p.1) (first_number bound words)

-- a line goes on with a number with its sign, without it below the bound
abbrev pub with_signed : {X : Type 0} → ℕ → List (List ℕ) → (ℤ → List (List ℕ) → Option X) → Option X
with_signed bound words go_on = option_and_then (λ p. go_on p.0 p.1) (first_signed bound words)

-- a line goes on with this word
abbrev pub with_word : {X : Type 0} → List ℕ → List (List ℕ) → (List (List ℕ) → Option X) → Option X
with_word word words go_on = option_and_then go_on (after_word word words)

-- a line that has no further word
abbrev pub at_end : Line → List (List ℕ) → Option Line
at_end said [] = Some said
at_end said (w ∷ ws) = None

-- fusion-report 1 or fusion-report 2
unfoldable pub head_line : List (List ℕ) → Option Line
head_line [] = None
head_line (w ∷ ws) =
    if bytes_eq w (codes "1") then at_end (line.Head One) ws
    else (if bytes_eq w (codes "2") then at_end (line.Head Two) ws else None)

-- shot K or shot K odd V: what follows the number
unfoldable pub row_kind : ℕ → List (List ℕ) → Option Line
row_kind k [] = Some (line.Shot k)
row_kind k (w ∷ ws) = if bytes_eq w (codes "odd") then with_number (2 ^ 32) ws (λ v. at_end (line.Odd k v)) else None

unfoldable pub shot_line : List (List ℕ) → Option Line
shot_line words = with_number (2 ^ 32) words row_kind

-- edges E1 E2 ..
unfoldable pub edges_line : List (List ℕ) → Option Line
edges_line words = option_map line.Edges (all_numbers words)

-- base B
unfoldable pub base_line : List (List ℕ) → Option Line
base_line words = with_signed (2 ^ 63) words (λ b. at_end (line.Base b))

-- weight W
unfoldable pub weight_line : List (List ℕ) → Option Line
weight_line words = with_signed (2 ^ 64) words (λ w. at_end (line.Weight w))

-- a cut of this value, if it is at least 1
abbrev pub cut_of : ℕ → List ℕ → Option Line
cut_of value vertices = if value == 0 then None else Some (line.Cut (record { value = value; vertices = vertices }))

-- cut Y V1 V2 ..
unfoldable pub cut_line : List (List ℕ) → Option Line
cut_line words = with_number (2 ^ 64) words (λ value words. option_and_then (cut_of value) (all_numbers words))

-- took W K N or gave W K N: worker, shot and node
unfoldable pub trace_line : List (List ℕ) → Option Line
trace_line words =
    with_number (2 ^ 32) words (λ worker words.
    with_number (2 ^ 32) words (λ shot words.
    with_number (2 ^ 32) words (λ node. at_end line.Trace)))

-- done N odd M units U fusions F
unfoldable pub done_line : List (List ℕ) → Option Line
done_line words =
    with_number (2 ^ 64) words (λ rows words. with_word (codes "odd") words (λ words.
    with_number (2 ^ 64) words (λ odd words. with_word (codes "units") words (λ words.
    with_number (2 ^ 64) words (λ units words. with_word (codes "fusions") words (λ words.
    with_number (2 ^ 64) words (λ fusions.
    at_end (line.Done (record { rows = rows; odd = odd; units = units; fusions = fusions })))))))))

-- what a line of these words says
unfoldable pub line_of : List (List ℕ) → Option Line
line_of [] = None
line_of (w ∷ ws) =
    if bytes_eq w (codes "fusion-report") then head_line ws
    else (if bytes_eq w (codes "shot") then shot_line ws
    else (if bytes_eq w (codes "edges") then edges_line ws
    else (if bytes_eq w (codes "base") then base_line ws
    else (if bytes_eq w (codes "weight") then weight_line ws
    else (if bytes_eq w (codes "cut") then cut_line ws
    else (if bytes_eq w (codes "took") then trace_line ws
    else (if bytes_eq w (codes "gave") then trace_line ws
    else (if bytes_eq w (codes "done") then done_line ws else None))))))))

-- ---- line after line

abbrev pub is_odd : Row → Bool
is_odd (row.Best edges base weight cuts) = false
is_odd (row.Odd v) = true

abbrev pub has_none : List Row → Bool
has_none [] = true
has_none (r ∷ rs) = false

-- the rows so far, and the place of the next line
abbrev pub reading : List Row → Place → Reading
reading rows place = record { rows = rows; place = place }

-- what follows a line of shot k, which is to be the number of rows so far
abbrev pub as_next : ℕ → List Row → ℕ → Reading → Result Reading ReportFault
as_next n rows k next = if k == length rows then Ok next else Err (WrongShot n)

-- line n behind whole rows of a report of this version, by what it says
abbrev pub at_row_end : ℕ → Version → List Row → Line → Result Reading ReportFault
at_row_end n version rows (line.Shot k) = as_next n rows k (reading rows (place.InRow version))
at_row_end n version rows (line.Odd k v) = as_next n rows k (reading (rows ++ row.Odd v ∷ []) (place.Between version))
at_row_end n version rows line.Trace =
    if has_none rows then Err (BadLine n) else Ok (reading rows (place.Between version))
at_row_end n version rows (line.Done totals) =
    if totals.rows == length rows && totals.odd == count_by is_odd rows then Ok (reading rows (place.End totals))
    else Err (BadLine n)
at_row_end n version rows said = Err (BadLine n)

-- where the line after the edges of a row is: no line says the base in version 1, where it is 0
abbrev pub after_edges : Version → List ℕ → Place
after_edges One edges = place.Based One edges (pos 0)
after_edges Two edges = place.Listed edges

-- A row may have this weight, which is below 2^64 without its sign: in version 1 it isn't negative, in version 2 it is
-- below 2^63 without its sign.
abbrev pub may_weigh : Version → ℤ → Bool
may_weigh One (pos weight) = true
may_weigh One (negsuc weight) = false
may_weigh Two weight = nat_lt (unsigned_abs weight) (2 ^ 63)

-- line n at its place, by what it says
abbrev pub step : ℕ → List Row → Place → Line → Result Reading ReportFault
step n rows place.Start (line.Head version) = Ok (reading rows (place.Between version))
step n rows (place.InRow version) (line.Edges edges) = Ok (reading rows (after_edges version edges))
step n rows (place.Listed edges) (line.Base base) = Ok (reading rows (place.Based Two edges base))
step n rows (place.Based version edges base) (line.Weight weight) =
    if may_weigh version weight then Ok (reading rows (place.Cuts version edges base weight [])) else Err (BadLine n)
step n rows (place.Cuts version edges base weight cuts) (line.Cut c) =
    Ok (reading rows (place.Cuts version edges base weight (cuts ++ c ∷ [])))
step n rows (place.Cuts version edges base weight cuts) said =
    at_row_end n version (rows ++ row.Best edges base weight cuts ∷ []) said
step n rows (place.Between version) said = at_row_end n version rows said
step n rows place said = Err (BadLine n)

-- line n, if it says something
abbrev pub with_line : ℕ → Reading → Option Line → Result Reading ReportFault
with_line n r None = Err (BadLine n)
with_line n r (Some said) = step n r.rows r.place said

-- the end of the text; these bytes without a newline are left as line n
abbrev pub ending : ℕ → List Row → Place → List ℕ → Result Report ReportFault
ending n rows (place.End totals) [] = Ok (record { rows = rows; totals = totals })
ending n rows (place.End totals) (b ∷ bytes) = Err (BadLine n)
ending n rows place bytes = Err Unfinished

-- what follows if no line has failed yet
abbrev pub go_on : Result Reading ReportFault → (Reading → Result Report ReportFault) → Result Report ReportFault
go_on (Ok r) following = following r
go_on (Err fault) following = Err fault

-- the parts of a text from line n on: each but the last is a line
abbrev pub read_from : ℕ → Reading → List (List ℕ) → Result Report ReportFault
read_from n r [] = Err Unfinished
read_from n r (last ∷ []) = ending n r.rows r.place last
read_from n r (text ∷ part ∷ parts) = go_on (with_line n r (line_of (words_of text))) (λ next. read_from (n + 1) next (part ∷ parts))

-- the report that a text of any length is, or the first line that fails
abbrev pub report_in : List ℕ → Result Report ReportFault
report_in text = read_from 1 (reading [] place.Start) (slice_split (λ b. b == 10) text)

-- the most bytes of a text that is read: 1,073,741,824
abbrev pub most_bytes : ℕ
most_bytes = 1073741824

-- the report that a text is, or the first line that fails, or that the text is too long
unfoldable pub report_of_text : List ℕ → Result Report ReportFault
report_of_text text = if nat_lt most_bytes (length text) then Err TooLong else report_in text
