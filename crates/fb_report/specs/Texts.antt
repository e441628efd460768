-- The text of a report, line by line. A line is words parted by one space, and ends by a newline; no line ends with a
-- space. A number is a word of decimal digits without leading zero; a negative one has a minus sign before them.
use Rattle.std.specs.Prelude.{ℕ, ℤ, ◌+◌, Bool, if◌then◌else◌, List, [], ◌∷◌, ◌++◌, map, codes, decimal}
use Rattle.std.specs.Fmt.{signed_decimal}
use Rattle.std.specs.List.{concat}
use Rattle.fb_graph.specs.declared.parts.Cut.{Cut}
use Rattle.fb_graph.specs.declared.parts.Row.{Row}
use Rattle.fb_graph.specs.declared.parts.Row.TheVariants.{Best, Odd}

-- the rest of a line after a word: the further words, each after one space, and the newline
abbrev pub line_end : List (List ℕ) → List ℕ
line_end [] = codes "\n"
line_end (w ∷ ws) = codes " " ++ (w ++ line_end ws)

-- a line of a first word and further words
abbrev pub line : List ℕ → List (List ℕ) → List ℕ
line w ws = w ++ line_end ws

-- the first line: what the text is, and the version of its format
unfoldable pub head_text : List ℕ
head_text = line (codes "fusion-report") (codes "2" ∷ [])

-- a weighted odd cut (Edmonds and Johnson 1973): its value, and then its vertices
abbrev pub cut_line : Cut → List ℕ
cut_line c = line (codes "cut") (decimal c.value ∷ map decimal c.vertices)

-- the lines of a row's base and of its weight
abbrev pub base_line : ℤ → List ℕ
base_line base = line (codes "base") (signed_decimal base ∷ [])

abbrev pub weight_line : ℤ → List ℕ
weight_line weight = line (codes "weight") (signed_decimal weight ∷ [])

-- the row of a shot: the edges of its correction, the base, the weight and the cuts, each in lines of its own; or one
-- line, if there is no correction
unfoldable pub row_text : ℕ → Row → List ℕ
row_text k (Best edges base weight cuts) =
    line (codes "shot") (decimal k ∷ [])
    ++ (line (codes "edges") (map decimal edges)
    ++ (base_line base
    ++ (weight_line weight
    ++ concat (map cut_line cuts))))
row_text k (Odd v) = line (codes "shot") (decimal k ∷ codes "odd" ∷ decimal v ∷ [])

-- the rows of shots one after another, the first of which is shot k
abbrev pub rows_text : ℕ → List Row → List ℕ
rows_text k [] = []
rows_text k (r ∷ rs) = row_text k r ++ rows_text (k + 1) rs

-- an event of a run: a worker took a node of the plan for a shot, or gave what it had made of it
unfoldable pub trace_line : Bool → ℕ → ℕ → ℕ → List ℕ
trace_line gave worker shot node =
    line (if gave then codes "gave" else codes "took") (decimal worker ∷ decimal shot ∷ decimal node ∷ [])

-- the last line: the numbers of rows, of the odd ones among them, and of units and fusions that were solved
unfoldable pub done_text : ℕ → ℕ → ℕ → ℕ → List ℕ
done_text rows odd units fusions =
    line (codes "done") (decimal rows ∷ codes "odd" ∷ decimal odd
    ∷ codes "units" ∷ decimal units ∷ codes "fusions" ∷ decimal fusions ∷ [])
