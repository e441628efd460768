-- A text whose first line is taken, or fails.
use Rattle.std.proofs.Common.{◌≡◌, ℕ, ◌+◌, List, ◌∷◌, Result, Ok, Err, eqb, refl, sym, ap, subst, ◌∙◌}
use Rattle.std.specs.List.{slice_split}
use Rattle.fb_verify.specs.declared.report_faults.ReportFault.{ReportFault}
use Rattle.fb_verify.specs.declared.reports.Report.{Report}
use Rattle.fb_verify.specs.Places.{Reading}
use Rattle.fb_verify.specs.Reports.{words_of, line_of, with_line, go_on, read_from}
use Rattle.fb_verify.proofs.Parts.{some_part}

abbrev following : ℕ → List (List ℕ) → Reading → Result Report ReportFault
following n parts next = read_from (n + 1) next parts

read_one : (n : ℕ) (r : Reading) (text : List ℕ) (given : List (List ℕ)) → (part : List ℕ) × (parts : List (List ℕ)) × (given ≡ part ∷ parts)
    → read_from n r (text ∷ given) ≡ go_on (with_line n r (line_of (words_of text))) (following n given)
read_one n r text given some =
    subst (λ (ls : List (List ℕ)). read_from n r (text ∷ ls) ≡ go_on (with_line n r (line_of (words_of text))) (following n ls)) (sym some.2) refl

-- the first line, and what follows
pub read_first : (n : ℕ) (r : Reading) (bytes text more : List ℕ) → slice_split (λ b. eqb b 10) bytes ≡ text ∷ slice_split (λ b. eqb b 10) more
    → read_from n r (slice_split (λ b. eqb b 10) bytes)
    ≡ go_on (with_line n r (line_of (words_of text))) (λ next. read_from (n + 1) next (slice_split (λ b. eqb b 10) more))
read_first n r bytes text more e = ap (read_from n r) e ∙ read_one n r text (slice_split (λ b. eqb b 10) more) (some_part 10 more)

pub read_taken : (n : ℕ) (r next : Reading) (bytes text more : List ℕ) → slice_split (λ b. eqb b 10) bytes ≡ text ∷ slice_split (λ b. eqb b 10) more
    → with_line n r (line_of (words_of text)) ≡ Ok next
    → read_from n r (slice_split (λ b. eqb b 10) bytes) ≡ read_from (n + 1) next (slice_split (λ b. eqb b 10) more)
read_taken n r next bytes text more e taken =
    read_first n r bytes text more e ∙ ap (λ (result : Result Reading ReportFault). go_on result (following n (slice_split (λ b. eqb b 10) more))) taken

pub read_failed : (n : ℕ) (r : Reading) (fault : ReportFault) (bytes text more : List ℕ) → slice_split (λ b. eqb b 10) bytes ≡ text ∷ slice_split (λ b. eqb b 10) more
    → with_line n r (line_of (words_of text)) ≡ Err fault → read_from n r (slice_split (λ b. eqb b 10) bytes) ≡ Err fault
read_failed n r fault bytes text more e failed =
    read_first n r bytes text more e ∙ ap (λ (result : Result Reading ReportFault). go_on result (following n (slice_split (λ b. eqb b 10) more))) failed
