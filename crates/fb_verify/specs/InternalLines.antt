-- Parts of what a line of a report says, as they are read.
use Rattle.std.specs.Prelude.{ℕ, ◌^◌, if◌then◌else◌, List, codes, Option, None}
use Rattle.std.specs.Str.{bytes_eq}
use Rattle.fb_verify.specs.Reports.{with_number, with_word, at_end, edges_line, base_line, weight_line, cut_line, trace_line, done_line}
use Rattle.fb_verify.specs.declared.lines.Line.{Line}
use Rattle.fb_verify.specs.declared.lines.Line.TheVariants as line

-- units U fusions F: what follows the numbers of rows in a done line
abbrev pub done_after_rows : ℕ → ℕ → List (List ℕ) → Option Line
done_after_rows rows odd words =
    with_word (codes "units") words (λ words.
    with_number (2 ^ 64) words (λ units words. with_word (codes "fusions") words (λ words.
    with_number (2 ^ 64) words (λ fusions.
    at_end (line.Done (record { rows = rows; odd = odd; units = units; fusions = fusions }))))))

-- a line of this first word that traces the run or ends the report
abbrev pub line_after_row : List ℕ → List (List ℕ) → Option Line
line_after_row w ws =
    if bytes_eq w (codes "took") then trace_line ws
    else (if bytes_eq w (codes "gave") then trace_line ws
    else (if bytes_eq w (codes "done") then done_line ws else None))

-- a line of this first word that is one of a cut or behind a row
abbrev pub line_after_sums : List ℕ → List (List ℕ) → Option Line
line_after_sums w ws = if bytes_eq w (codes "cut") then cut_line ws else line_after_row w ws

-- a line of this first word that is neither the head nor that of a shot
abbrev pub line_after_shot : List ℕ → List (List ℕ) → Option Line
line_after_shot w ws =
    if bytes_eq w (codes "edges") then edges_line ws
    else (if bytes_eq w (codes "base") then base_line ws
    else (if bytes_eq w (codes "weight") then weight_line ws else line_after_sums w ws))
