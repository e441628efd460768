-- Which line may follow which, by the numbers of rows so far and the stage of the next line alone.
use Rattle.std.specs.Prelude.{ℕ, ◌+◌, ◌==◌, ◌&&◌, if◌then◌else◌, List, [], ◌∷◌, length, count_by, Result, Ok, Err}
use Rattle.fb_graph.specs.declared.parts.Row.{Row}
use Rattle.fb_verify.specs.declared.lines.Line.{Line}
use Rattle.fb_verify.specs.declared.lines.Line.TheVariants as line
use Rattle.fb_verify.specs.declared.report_faults.ReportFault.{ReportFault}
use Rattle.fb_verify.specs.declared.report_faults.ReportFault.TheVariants.{BadLine, WrongShot, Unfinished}
use Rattle.fb_verify.specs.declared.reports.Totals.{Totals}
use Rattle.fb_verify.specs.declared.reports.Version.{Version}
use Rattle.fb_verify.specs.declared.reports.Version.TheVariants.{One, Two}
use Rattle.fb_verify.specs.declared.walking.Stage.{Stage}
use Rattle.fb_verify.specs.declared.walking.Stage.TheVariants as stage
use Rattle.fb_verify.specs.declared.walking.Walk.{Walk}
use Rattle.fb_verify.specs.Places.{Place}
use Rattle.fb_verify.specs.Places as place
use Rattle.fb_verify.specs.Reports.{is_odd, may_weigh}

abbrev pub walk : ℕ → ℕ → Stage → Walk
walk begun odd stage = record { begun = begun; odd = odd; stage = stage }

-- line n behind whole rows of a report of this version
abbrev pub walk_on_from_rows : ℕ → ℕ → ℕ → Version → Line → Result Walk ReportFault
walk_on_from_rows n begun odd version (line.Shot k) =
    if k == begun then Ok (walk (begun + 1) odd (stage.InRow version)) else Err (WrongShot n)
walk_on_from_rows n begun odd version (line.Odd k v) =
    if k == begun then Ok (walk (begun + 1) (odd + 1) (stage.Between version)) else Err (WrongShot n)
walk_on_from_rows n begun odd version line.Trace =
    if begun == 0 then Err (BadLine n) else Ok (walk begun odd (stage.Between version))
walk_on_from_rows n begun odd version (line.Done totals) =
    if totals.rows == begun && totals.odd == odd then Ok (walk begun odd (stage.End totals)) else Err (BadLine n)
walk_on_from_rows n begun odd version said = Err (BadLine n)

-- what follows the edges of a row
abbrev pub stage_after_edges : Version → Stage
stage_after_edges One = stage.Based One
stage_after_edges Two = stage.Listed

-- line n at its stage
abbrev pub walk_on : ℕ → ℕ → ℕ → Stage → Line → Result Walk ReportFault
walk_on n begun odd stage.Start (line.Head version) = Ok (walk begun odd (stage.Between version))
walk_on n begun odd (stage.InRow version) (line.Edges edges) = Ok (walk begun odd (stage_after_edges version))
walk_on n begun odd stage.Listed (line.Base base) = Ok (walk begun odd (stage.Based Two))
walk_on n begun odd (stage.Based version) (line.Weight weight) =
    if may_weigh version weight then Ok (walk begun odd (stage.Cuts version)) else Err (BadLine n)
walk_on n begun odd (stage.Cuts version) (line.Cut c) = Ok (walk begun odd (stage.Cuts version))
walk_on n begun odd (stage.Cuts version) said = walk_on_from_rows n begun odd version said
walk_on n begun odd (stage.Between version) said = walk_on_from_rows n begun odd version said
walk_on n begun odd here said = Err (BadLine n)

-- the end of the text; these bytes without a newline are left as line n
abbrev pub walk_end : ℕ → Stage → List ℕ → Result Totals ReportFault
walk_end n (stage.End totals) [] = Ok totals
walk_end n (stage.End totals) (b ∷ bytes) = Err (BadLine n)
walk_end n here bytes = Err Unfinished

-- the numbers of these rows, and of the one that has begun at a place; and the place's stage
abbrev pub walk_of : List Row → Place → Walk
walk_of rows place.Start = walk (length rows) (count_by is_odd rows) stage.Start
walk_of rows (place.InRow version) = walk (length rows + 1) (count_by is_odd rows) (stage.InRow version)
walk_of rows (place.Listed edges) = walk (length rows + 1) (count_by is_odd rows) stage.Listed
walk_of rows (place.Based version edges base) = walk (length rows + 1) (count_by is_odd rows) (stage.Based version)
walk_of rows (place.Cuts version edges base weight cuts) =
    walk (length rows + 1) (count_by is_odd rows) (stage.Cuts version)
walk_of rows (place.Between version) = walk (length rows) (count_by is_odd rows) (stage.Between version)
walk_of rows (place.End totals) = walk (length rows) (count_by is_odd rows) (stage.End totals)
