-- The result of reading a text, stated by the reports that can be printed, and not by how lines are read: the report that
-- was printed; or the first line with which no report begins any more; or that the text stops before the report does.
use Rattle.std.specs.Prelude.{ℕ, ◌≡◌, ◌≢◌, ◌+◌, ◌<◌, ◌≤◌, ◌^◌, ◌==◌, ◌⊎◌, All, List, [], ◌∷◌, ◌++◌, length, codes, decimal, count_by, Result, Ok, Err}
use Rattle.fb_report.specs.Texts.{line}
use Rattle.fb_verify.specs.declared.report_faults.ReportFault.{ReportFault}
use Rattle.fb_verify.specs.declared.report_faults.ReportFault.TheVariants.{BadLine, WrongShot, Unfinished, TooLong, NoMemory}
use Rattle.fb_verify.specs.declared.reports.Report.{Report}
use Rattle.fb_verify.specs.declared.reports.Version.{Version}
use Rattle.fb_verify.specs.ReadBack.{TracedRow, IsInRange, IsReportInRange, head_of, traced_text, report_text, report_with, rows_of}
use Rattle.fb_verify.specs.Reports.{report_in}

-- ---- reports

-- the text is the report, of either version, of some rows, each with its events
pub record IsReport (text : List ℕ) : Type 0 where
  pub version : Version
  pub traced : List TracedRow
  pub units : ℕ
  pub fusions : ℕ
  pub in_range : IsReportInRange version traced units fusions
  pub printed : text ≡ report_text version traced units fusions

-- some report begins with this text
pub record BeginsReport (text : List ℕ) : Type 0 where
  pub more : List ℕ
  pub whole : IsReport (text ++ more)

-- the text is the report of these rows, with these numbers of units and fusions
pub record IsReportOf (report : Report) (text : List ℕ) : Type 0 where
  pub version : Version
  pub traced : List TracedRow
  pub units : ℕ
  pub fusions : ℕ
  pub in_range : IsReportInRange version traced units fusions
  pub printed : text ≡ report_text version traced units fusions
  pub says : report ≡ report_with (rows_of traced) units fusions

-- ---- lines

-- how many newlines a text has
abbrev pub newlines : List ℕ → ℕ
newlines text = count_by (λ b. b == 10) text

-- whole lines: none, or the last one too has its newline
abbrev pub AreLines : List ℕ → Type 0
AreLines text = (text ≡ []) ⊎ ((prefix : List ℕ) × (text ≡ prefix ++ codes "\n"))

-- line n of a text, with its newline, behind the lines before it
pub record IsLine (n : ℕ) (text prefix here : List ℕ) : Type 0 where
  pub more : List ℕ
  pub parts : text ≡ prefix ++ (here ++ more)
  pub before : AreLines prefix
  pub number : n ≡ newlines prefix + 1
  pub one : AreLines here × (newlines here ≡ 1)

-- a line that begins the row of shot k
abbrev pub BeginsRow : ℕ → List ℕ → Type 0
BeginsRow k here =
    (here ≡ line (codes "shot") (decimal k ∷ []))
    ⊎ ((v : ℕ) × (v < 2 ^ 32) × (here ≡ line (codes "shot") (decimal k ∷ codes "odd" ∷ decimal v ∷ [])))

-- a line that begins a row, behind whole rows, though not the one that comes next
pub record IsOutOfTurn (prefix here : List ℕ) : Type 0 where
  pub version : Version
  pub traced : List TracedRow
  pub rows : All (IsInRange version) traced
  pub count : length traced ≤ 2 ^ 32
  pub whole : prefix ≡ head_of version ++ traced_text version 0 traced
  pub shot : ℕ
  pub in_range : shot < 2 ^ 32
  pub row : BeginsRow shot here
  pub other : shot ≢ length traced

-- ---- results

-- a report begins with the lines before line n, and none goes on with line n, not as a row out of turn
pub record IsNoContinuation (n : ℕ) (text : List ℕ) : Type 0 where
  pub prefix : List ℕ
  pub here : List ℕ
  pub line : IsLine n text prefix here
  pub begun : BeginsReport prefix
  pub fails : ¬ BeginsReport (prefix ++ here)
  pub in_turn : ¬ IsOutOfTurn prefix here

-- the lines before line n are a whole report, and something follows them
pub record IsBehindReport (n : ℕ) (text : List ℕ) : Type 0 where
  pub prefix : List ℕ
  pub byte : ℕ
  pub more : List ℕ
  pub parts : text ≡ prefix ++ byte ∷ more
  pub whole : IsReport prefix
  pub number : n ≡ newlines prefix + 1

-- line n begins a row that isn't the next one
pub record IsRowOutOfTurn (n : ℕ) (text : List ℕ) : Type 0 where
  pub prefix : List ℕ
  pub here : List ℕ
  pub line : IsLine n text prefix here
  pub wrong : IsOutOfTurn prefix here

-- a report begins with all whole lines of the text, and they aren't one
pub record IsCutShort (text : List ℕ) : Type 0 where
  pub prefix : List ℕ
  pub last : List ℕ
  pub parts : text ≡ prefix ++ last
  pub lines : AreLines prefix
  pub no_newline : newlines last ≡ 0
  pub begun : BeginsReport prefix
  pub not_whole : ¬ IsReport prefix

-- the result of reading a text
abbrev pub IsReadingOf : List ℕ → Result Report ReportFault → Type 0
IsReadingOf text (Ok report) = IsReportOf report text
IsReadingOf text (Err (BadLine n)) = IsNoContinuation n text ⊎ IsBehindReport n text
IsReadingOf text (Err (WrongShot n)) = IsRowOutOfTurn n text
IsReadingOf text (Err Unfinished) = IsCutShort text
IsReadingOf text (Err TooLong) = ⊥
IsReadingOf text (Err NoMemory) = ⊥

-- ---- the laws

-- each text is read as what it is
abbrev pub ReadsAsIs : Type 0
ReadsAsIs = (text : List ℕ) → IsReadingOf text (report_in text)

-- and it is nothing else
abbrev pub IsOneThing : Type 0
IsOneThing = (text : List ℕ) (result : Result Report ReportFault) → IsReadingOf text result → report_in text ≡ result
