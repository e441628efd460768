-- What a reading comes to, by the reports that begin like its text.
use Rattle.std.proofs.Common.{◌≡◌, ◌≢◌, ℕ, pos, ◌+◌, ◌<◌, ◌^◌, Bool, true, false, List, [], ◌∷◌, ◌++◌, length, All, codes, decimal, Option, Some, None, Result, Ok, Err, IfSome, refl, sym, ap, subst, ◌∙◌, cond, inl, inr, arith, append_assoc, append-nil}
use Rattle.std.specs.Prelude.{◌==◌, ◌&&◌, if◌then◌else◌, count_by}
use Rattle.std.specs.List.{onto_first, join_with_byte}
use Rattle.std.proofs.lemmas.Bool.{cases_Bool, and_parts, eqb-true, eqb-false, or_parts, or_from, ne_eqb}
use Rattle.std.proofs.lemmas.List.{length-map, same_from_push}
use Rattle.std.proofs.lemmas.List.Elements.{All-nil, All-cons, All-head, All-tail, All-push}
use Rattle.std.proofs.lemmas.List.Folds.{list_any-append}
use Rattle.std.proofs.lemmas.List.Splits.{join_with_byte-slice_split}
use Rattle.std.proofs.lemmas.List.Sums.{sum_by-cons, sum_by-append}
use Rattle.fb_graph.specs.declared.parts.Row.{Row}
use Rattle.fb_graph.specs.declared.parts.Row.TheVariants as row
use Rattle.fb_report.specs.Texts.{line, done_text}
use Rattle.fb_verify.specs.declared.report_faults.ReportFault.{ReportFault}
use Rattle.fb_verify.specs.declared.report_faults.ReportFault.TheVariants.{BadLine, WrongShot, Unfinished, TooLong, NoMemory}
use Rattle.fb_verify.specs.declared.reports.Totals.{Totals}
use Rattle.fb_verify.specs.declared.reports.Version.{Version}
use Rattle.fb_verify.specs.declared.reports.Version.TheVariants.{One, Two}
use Rattle.fb_verify.specs.declared.lines.Line.{Line}
use Rattle.fb_verify.specs.declared.lines.Line.TheVariants as line
use Rattle.fb_verify.specs.Places.{Place}
use Rattle.fb_verify.specs.Places as place
use Rattle.fb_verify.specs.Places.{Reading}
use Rattle.fb_verify.specs.Reports.{words_of, is_odd, has_none, may_weigh, line_of, reading, as_next, at_row_end, step, with_line, ending, go_on, read_from, report_in}
use Rattle.fb_verify.specs.ReadBack.{TracedRow, head_of, row_of, traced_text, rows_of, report_with, IsCutInRange, IsInRange}
use Rattle.fb_verify.specs.Readings.{IsReport, BeginsReport, newlines, AreLines, IsLine, BeginsRow, IsOutOfTurn, IsNoContinuation, IsCutShort, IsReadingOf, ReadsAsIs, IsOneThing}
use Rattle.fb_verify.proofs.Parts.{some_part}
use Rattle.fb_verify.proofs.PrintedWords.{holds, split_at, split_last, joined, line-joined, AreWords, word_decimal, first_line}
use Rattle.fb_verify.proofs.LineAfterLine.{read_taken, read_failed}
use Rattle.fb_verify.proofs.ReadRows.{lines_in, IsBetween, is_cut, said_shot, said_odd, odd-line, done-line, rows_read, read_back}
use Rattle.fb_verify.proofs.ReadWords.{IsTextOf, line_read}
use Rattle.fb_verify.proofs.Continued.{AreRows, count_same, pushed, told_event, shot_text, IsEnded, IsPlace, longer, best-cut, edges_listed, based, weight_in_range, weighed, rows_begin, begins}

-- ---- one line

-- what a line comes to behind this text
abbrev Comes : ℕ → List ℕ → List ℕ → Result Reading ReportFault → Type 0
Comes n prefix here (Ok next) = IsPlace (prefix ++ here) next.rows next.place
Comes n prefix here (Err (BadLine m)) = m ≡ n
Comes n prefix here (Err (WrongShot m)) = (m ≡ n) × IsOutOfTurn prefix here
Comes n prefix here (Err fault) = ⊥

comes_if : (n : ℕ) (prefix here : List ℕ) (b : Bool) (x y : Result Reading ReportFault) → (b ≡ true → Comes n prefix here x) → (b ≡ false → Comes n prefix here y)
    → Comes n prefix here (if b then x else y)
comes_if n prefix here true x y p q = p refl
comes_if n prefix here false x y p q = q refl

out_of_turn : (version : Version) (prefix here : List ℕ) (rows : List Row) (k : ℕ) → AreRows version prefix rows → k < 2 ^ 32 → BeginsRow k here → k == length rows ≡ false → IsOutOfTurn prefix here
out_of_turn version prefix here rows k are lt begun other =
    let count = count_same version prefix rows are in
    record {
      version = version;
      traced = are.traced;
      rows = are.fits;
      count = are.few;
      whole = are.text;
      shot = k;
      in_range = lt;
      row = begun;
      other = λ same. eqb-false k (length rows) other (same ∙ sym count);
    }

row_end_comes : (n : ℕ) (version : Version) (prefix here : List ℕ) (rows : List Row) (said : Line) → AreRows version prefix rows → IsTextOf here said
    → Comes n prefix here (at_row_end n version rows said)
row_end_comes n version prefix here rows (line.Shot k) are text =
    comes_if n prefix here (k == length rows) (Ok (reading rows (place.InRow version))) (Err (WrongShot n))
    (λ same. let e = eqb-true k (length rows) same in let lt = text.1 in record {
      before = prefix;
      whole = are;
      text = ap (λ (l : List ℕ). prefix ++ l) (text.0 ∙ ap shot_text e);
      few = omega arith;
    })
    (λ other. (refl, out_of_turn version prefix here rows k are text.1 (inl text.0) other))
row_end_comes n version prefix here rows (line.Odd k v) are text =
    comes_if n prefix here (k == length rows) (Ok (reading (rows ++ row.Odd v ∷ []) (place.Between version))) (Err (WrongShot n))
    (λ same. let e = eqb-true k (length rows) same in let lt = text.1 in pushed version (prefix ++ here) rows (row.Odd v) text.2 (record {
      before = prefix;
      whole = are;
      text = ap (λ (l : List ℕ). prefix ++ l) (text.0 ∙ sym (odd-line version k v) ∙ ap (λ (n : ℕ). row_of version n (row.Odd v)) e);
      few = omega arith;
    }))
    (λ other. (refl, out_of_turn version prefix here rows k are text.1 (inr (v, text.2, text.0)) other))
row_end_comes n version prefix here rows line.Trace are text =
    comes_if n prefix here (has_none rows) (Err (BadLine n)) (Ok (reading rows (place.Between version)))
    (λ none. refl)
    (λ some. subst (λ (l : List ℕ). AreRows version (prefix ++ l) rows) (sym text.1) (told_event version prefix rows text.0 some text.2 are))
row_end_comes n version prefix here rows (line.Done totals) are text =
    comes_if n prefix here (totals.rows == length rows && totals.odd == count_by is_odd rows) (Ok (reading rows (place.End totals))) (Err (BadLine n))
    (λ counted. ended counted)
    (λ other. refl)
  where
    ended : (totals.rows == length rows && totals.odd == count_by is_odd rows) ≡ true → IsEnded (prefix ++ here) rows totals
    ended counted =
        let parts = and_parts (totals.rows == length rows) (totals.odd == count_by is_odd rows) counted in
        let all = eqb-true totals.rows (length rows) parts.0 in
        let odd = eqb-true totals.odd (count_by is_odd rows) parts.1 in
        let whole = head_of version ++ traced_text version 0 are.traced in
        record {
          version = version;
          traced = are.traced;
          text = ap (λ (l : List ℕ). l ++ here) are.text
              ∙ ap (λ (l : List ℕ). whole ++ l)
              (text.0 ∙ ap (λ (n : ℕ). done_text n totals.odd totals.units totals.fusions) (all ∙ count_same version prefix rows are)
              ∙ ap (λ (n : ℕ). done_text (length are.traced) n totals.units totals.fusions) (odd ∙ ap (count_by is_odd) (sym are.same)));
          same = are.same;
          fits = record { rows = are.fits; count = are.few; units_fit = text.1; fusions_fit = text.2 };
          counts = (all, odd);
        }
row_end_comes n version prefix here rows (line.Head other) are text = refl
row_end_comes n version prefix here rows (line.Edges edges) are text = refl
row_end_comes n version prefix here rows (line.Base base) are text = refl
row_end_comes n version prefix here rows (line.Weight weight) are text = refl
row_end_comes n version prefix here rows (line.Cut c) are text = refl

step_comes : (n : ℕ) (prefix here : List ℕ) (rows : List Row) (at : Place) (said : Line) → IsPlace prefix rows at → IsTextOf here said → Comes n prefix here (step n rows at said)
step_comes n prefix here rows place.Start (line.Head version) are text = record {
  traced = [];
  text = ap (λ (l : List ℕ). l ++ here) are.0 ∙ text ∙ sym (append-nil (head_of version));
  same = sym are.1;
  fits = All-nil (IsInRange version);
  few = omega arith;
}
step_comes n prefix here rows place.Start said are text = refl
step_comes n prefix here rows (place.InRow One) (line.Edges edges) are text =
    subst (λ (l : List ℕ). IsPlace (prefix ++ l) rows (place.Based One edges (pos 0))) (sym text.0) (edges_listed One prefix rows edges text.1 are)
step_comes n prefix here rows (place.InRow Two) (line.Edges edges) are text =
    subst (λ (l : List ℕ). IsPlace (prefix ++ l) rows (place.Listed edges)) (sym text.0) (edges_listed Two prefix rows edges text.1 are)
step_comes n prefix here rows (place.InRow version) said are text = refl
step_comes n prefix here rows (place.Listed edges) (line.Base base) are text =
    subst (λ (l : List ℕ). IsPlace (prefix ++ l) rows (place.Based Two edges base)) (sym text.0) (based prefix rows edges base text.1 are)
step_comes n prefix here rows (place.Listed edges) said are text = refl
step_comes n prefix here rows (place.Based version edges base) (line.Weight weight) are text =
    comes_if n prefix here (may_weigh version weight) (Ok (reading rows (place.Cuts version edges base weight []))) (Err (BadLine n))
    (λ may.
    subst (λ (l : List ℕ). IsPlace (prefix ++ l) rows (place.Cuts version edges base weight [])) (sym text.0)
    (weighed version prefix rows edges base weight (weight_in_range version weight may text.1) are))
    (λ other. refl)
step_comes n prefix here rows (place.Based version edges base) said are text = refl
step_comes n prefix here rows (place.Cuts version edges base weight cuts) (line.Cut c) are text = (
  longer version _ prefix here _ rows are.0
      (ap (λ (l : List ℕ). row_of version (length rows) (row.Best edges base weight cuts) ++ l) text.0
      ∙ best-cut version (length rows) edges base weight cuts c),
  (are.1.0, are.1.1, are.1.2, All-push IsCutInRange cuts c are.1.3 text.1),
)
step_comes n prefix here rows (place.Cuts version edges base weight cuts) said are text =
    row_end_comes n version prefix here (rows ++ row.Best edges base weight cuts ∷ []) said
    (pushed version prefix rows (row.Best edges base weight cuts) are.1 are.0) text
step_comes n prefix here rows (place.Between version) said are text = row_end_comes n version prefix here rows said are text
step_comes n prefix here rows (place.End totals) said are text = refl

line_comes : (n : ℕ) (prefix here : List ℕ) (r : Reading) (said : Option Line) → IsPlace prefix r.rows r.place → IfSome said (IsTextOf here) → Comes n prefix here (with_line n r said)
line_comes n prefix here r None are text = refl
line_comes n prefix here r (Some said) are text = step_comes n prefix here r.rows r.place said are text

-- the text of a line that was split off, with its newline
abbrev ended : List ℕ → List ℕ
ended bytes = bytes ++ 10 ∷ []

line_said : (bytes : List ℕ) → IfSome (line_of (words_of bytes)) (IsTextOf (ended bytes))
line_said bytes = by_words (some_part 32 bytes) where
  by_words : (w : List ℕ) × (ws : List (List ℕ)) × (words_of bytes ≡ w ∷ ws) → IfSome (line_of (words_of bytes)) (IsTextOf (ended bytes))
  by_words (w, ws, e) =
      let same : line w ws ≡ ended bytes =
      line-joined w ws ∙ ap (λ (l : List (List ℕ)). ended (join_with_byte 32 l)) (sym e) ∙ ap ended (join_with_byte-slice_split 32 bytes) in
      subst (λ (l : List (List ℕ)). IfSome (line_of l) (IsTextOf (ended bytes))) (sym e)
      (subst (λ (t : List ℕ). IfSome (line_of (w ∷ ws)) (IsTextOf t)) same (line_read w ws))

-- ---- line after line

none_newline : (bytes : List ℕ) → holds 10 bytes ≡ false → newlines bytes ≡ 0
none_newline [] h = refl
none_newline (b ∷ bytes) h =
    let parts = or_parts (b == 10) (holds 10 bytes) h in
    let more = none_newline bytes parts.1 in
    sum_by-cons (λ (c : ℕ). cond (c == 10) 1 0) b bytes ∙ rw parts.0 (omega arith)

-- where a reading stands
record Stands (n : ℕ) (prefix : List ℕ) (r : Reading) : Type 0 where
  lines : AreLines prefix
  number : n ≡ newlines prefix + 1
  are : IsPlace prefix r.rows r.place
  reads : (more : List ℕ) → report_in (prefix ++ more) ≡ read_from n r (lines_in more)

-- a report that begins so is read further than this line
no_report : (n : ℕ) (prefix bytes : List ℕ) (r : Reading) (fault : ReportFault) → Stands n prefix r → holds 10 bytes ≡ false → with_line n r (line_of (words_of bytes)) ≡ Err fault
    → (more : List ℕ) → report_in ((prefix ++ ended bytes) ++ more) ≡ Err fault
no_report n prefix bytes r fault at none failed more =
    ap report_in (append_assoc prefix (ended bytes) more) ∙ at.reads (ended bytes ++ more)
    ∙ read_failed n r fault (ended bytes ++ more) bytes more (ap lines_in (append_assoc bytes (10 ∷ []) more) ∙ split_at 10 bytes more none) failed

further : (n : ℕ) (prefix bytes : List ℕ) (r next : Reading) → Stands n prefix r → holds 10 bytes ≡ false → with_line n r (line_of (words_of bytes)) ≡ Ok next
    → IsPlace (prefix ++ ended bytes) next.rows next.place → Stands (n + 1) (prefix ++ ended bytes) next
further n prefix bytes r next at none taken are = record {
  lines = inr (prefix ++ bytes, sym (append_assoc prefix bytes (10 ∷ [])));
  number =
      let number = at.number in
      let some = none_newline bytes none in
      omega (arith, sum_by-append (λ (b : ℕ). cond (b == 10) 1 0) prefix (ended bytes), sum_by-append (λ (b : ℕ). cond (b == 10) 1 0) bytes (10 ∷ []));
  are = are;
  reads = λ more.
      ap report_in (append_assoc prefix (ended bytes) more) ∙ at.reads (ended bytes ++ more)
      ∙ read_taken n r next (ended bytes ++ more) bytes more (ap lines_in (append_assoc bytes (10 ∷ []) more) ∙ split_at 10 bytes more none) taken;
}

-- ---- the whole text

not_whole : (n : ℕ) (prefix : List ℕ) (r : Reading) → Stands n prefix r → ending n r.rows r.place [] ≡ Err Unfinished → ¬ IsReport prefix
not_whole n prefix r at fails = λ whole.
    let read = ap report_in (sym (append-nil prefix ∙ whole.printed)) ∙ at.reads [] ∙ fails in
    let back = read_back whole.version whole.traced whole.units whole.fusions whole.in_range in
    cc

cut_short : (n : ℕ) (text prefix last : List ℕ) (r : Reading) → Stands n prefix r → text ≡ prefix ++ last → holds 10 last ≡ false → ending n r.rows r.place [] ≡ Err Unfinished → IsCutShort text
cut_short n text prefix last r at parts none fails = record {
  prefix = prefix;
  last = last;
  parts = parts;
  lines = at.lines;
  no_newline = none_newline last none;
  begun = begins prefix r.rows r.place at.are;
  not_whole = not_whole n prefix r at fails;
}

end_told : (n : ℕ) (text prefix last : List ℕ) (rows : List Row) (here : Place) → Stands n prefix (reading rows here) → text ≡ prefix ++ last → holds 10 last ≡ false → IsReadingOf text (ending n rows here last)
end_told n text prefix [] rows (place.End totals) at parts none =
    let are = at.are in
    let count = ap length (sym are.same) in
    record {
      version = are.version;
      traced = are.traced;
      units = totals.units;
      fusions = totals.fusions;
      in_range = are.fits;
      printed = parts ∙ append-nil prefix ∙ are.text;
      says = all_same rows totals (rows_of are.traced) are.same are.counts.0 are.counts.1;
    }
  where
    all_same : (rows : List Row) (totals : Totals) (given : List Row) → given ≡ rows → totals.rows ≡ length rows → totals.odd ≡ count_by is_odd rows
        → record { rows = rows; totals = totals } ≡ report_with given totals.units totals.fusions
    all_same rows totals given same count odd =
        ap (λ (rs : List Row). record { rows = rs; totals = totals }) (sym same)
        ∙ ap (λ (k : ℕ). record { rows = given; totals = record { rows = k; odd = totals.odd; units = totals.units; fusions = totals.fusions } }) (count ∙ ap length (sym same))
        ∙ ap (λ (k : ℕ). record { rows = given; totals = record { rows = length given; odd = k; units = totals.units; fusions = totals.fusions } })
        (odd ∙ ap (count_by is_odd) (sym same))
end_told n text prefix (b ∷ bytes) rows (place.End totals) at parts none =
    let are = at.are in
    inr (record {
      prefix = prefix;
      byte = b;
      more = bytes;
      parts = parts;
      whole = record { version = are.version; traced = are.traced; units = totals.units; fusions = totals.fusions; in_range = are.fits; printed = are.text };
      number = at.number;
    })
end_told n text prefix last rows place.Start at parts none = cut_short n text prefix last (reading rows place.Start) at parts none refl
end_told n text prefix last rows (place.InRow version) at parts none = cut_short n text prefix last (reading rows (place.InRow version)) at parts none refl
end_told n text prefix last rows (place.Listed edges) at parts none = cut_short n text prefix last (reading rows (place.Listed edges)) at parts none refl
end_told n text prefix last rows (place.Based version edges base) at parts none =
    cut_short n text prefix last (reading rows (place.Based version edges base)) at parts none refl
end_told n text prefix last rows (place.Cuts version edges base weight cuts) at parts none =
    cut_short n text prefix last (reading rows (place.Cuts version edges base weight cuts)) at parts none refl
end_told n text prefix last rows (place.Between version) at parts none = cut_short n text prefix last (reading rows (place.Between version)) at parts none refl

this_line : (n : ℕ) (text prefix bytes rest : List ℕ) (r : Reading) → Stands n prefix r → holds 10 bytes ≡ false → text ≡ prefix ++ (ended bytes ++ rest) → IsLine n text prefix (ended bytes)
this_line n text prefix bytes rest r at none parts = record {
  more = rest;
  parts = parts;
  before = at.lines;
  number = at.number;
  one = (inr (bytes, refl), (let some = none_newline bytes none in omega (arith, sum_by-append (λ (b : ℕ). cond (b == 10) 1 0) bytes (10 ∷ []))));
}

-- a row that is out of turn is refused as such
refused : (n : ℕ) (r : Reading) (version : Version) (rows : List Row) (ws : List (List ℕ)) (said : Line) (fault : ReportFault) (more : List ℕ) → IsBetween version rows r → is_cut said ≡ false
    → at_row_end n version rows said ≡ Err fault → AreWords ws → line_of (codes "shot" ∷ ws) ≡ Some said → read_from n r (lines_in (line (codes "shot") ws ++ more)) ≡ Err fault
refused n r version rows ws said fault more between cut failed words says =
    let first = first_line (codes "shot") ws more (record { space = refl; newline = refl }) words in
    read_failed n r fault (line (codes "shot") ws ++ more) first.prefix more first.split
    (ap (λ (l : List (List ℕ)). with_line n r (line_of l)) first.told ∙ ap (with_line n r) says ∙ between n said cut ∙ failed)

not_next : (n : ℕ) (rows : List Row) (k : ℕ) (next : Reading) → k ≢ length rows → as_next n rows k next ≡ Err (WrongShot n)
not_next n rows k next other = let differs = ne_eqb k (length rows) other in rw differs refl

row_refused : (here more : List ℕ) (k : ℕ) (version : Version) (rows : List Row) (n : ℕ) (r : Reading) → IsBetween version rows r → k < 2 ^ 32 → k ≢ length rows → BeginsRow k here
    → read_from n r (lines_in (here ++ more)) ≡ Err (WrongShot n)
row_refused here more k version rows n r between lt other (inl e) =
    ap (λ (l : List ℕ). read_from n r (lines_in (l ++ more))) e
    ∙ refused n r version rows (decimal k ∷ []) (line.Shot k) (WrongShot n) more between refl (not_next n rows k (reading rows (place.InRow version)) other)
    (word_decimal k (omega arith), tt) (said_shot k lt)
row_refused here more k version rows n r between lt other (inr (v, less, e)) =
    ap (λ (l : List ℕ). read_from n r (lines_in (l ++ more))) e
    ∙ refused n r version rows (decimal k ∷ codes "odd" ∷ decimal v ∷ []) (line.Odd k v) (WrongShot n) more between refl
    (not_next n rows k (reading (rows ++ row.Odd v ∷ []) (place.Between version)) other)
    (word_decimal k (omega arith), (record { space = refl; newline = refl }, (word_decimal v (omega arith), tt))) (said_odd k v lt less)

out_of_turn_read : (prefix here more : List ℕ) → IsOutOfTurn prefix here → (m : ℕ) × (report_in ((prefix ++ here) ++ more) ≡ Err (WrongShot m))
out_of_turn_read prefix here more out =
    let all = rows_read out.version out.traced (here ++ more) out.rows out.count in
    let count = length-map out.traced (λ (t : TracedRow). t.row) in (
      all.line_number,
      ap report_in (append_assoc prefix here more) ∙ ap (λ (l : List ℕ). report_in (l ++ (here ++ more))) out.whole ∙ all.same
          ∙ row_refused here more out.shot out.version (rows_of out.traced) all.line_number all.next all.between out.in_range (λ e. out.other (e ∙ count)) out.row,
    )

fails_here : (n : ℕ) (text prefix bytes rest : List ℕ) (r : Reading) → Stands n prefix r → holds 10 bytes ≡ false → text ≡ prefix ++ (ended bytes ++ rest)
    → with_line n r (line_of (words_of bytes)) ≡ Err (BadLine n) → IsNoContinuation n text
fails_here n text prefix bytes rest r at none parts failed = record {
  prefix = prefix;
  here = ended bytes;
  line = this_line n text prefix bytes rest r at none parts;
  begun = begins prefix r.rows r.place at.are;
  fails = λ begun.
      let whole = begun.whole in
      let read = ap report_in (sym whole.printed) ∙ no_report n prefix bytes r (BadLine n) at none failed begun.more in
      let back = read_back whole.version whole.traced whole.units whole.fusions whole.in_range in
      cc;
  in_turn = λ out.
      let wrong = out_of_turn_read prefix (ended bytes) [] out in
      let read = no_report n prefix bytes r (BadLine n) at none failed [] in
      cc;
}

told : (parts : List (List ℕ)) (bytes : List ℕ) (n : ℕ) (text prefix : List ℕ) (r : Reading) → Stands n prefix r → All (λ p. holds 10 p ≡ false) (bytes ∷ parts)
    → text ≡ prefix ++ join_with_byte 10 (bytes ∷ parts) → IsReadingOf text (read_from n r (bytes ∷ parts))
told [] bytes n text prefix r at none parts = end_told n text prefix bytes r.rows r.place at parts (All-head (λ (p : List ℕ). holds 10 p ≡ false) bytes [] none)
told (part ∷ more) bytes n text prefix r at none parts =
    let first = All-head (λ (p : List ℕ). holds 10 p ≡ false) bytes (part ∷ more) none in
    let rest = join_with_byte 10 (part ∷ more) in
    let cut : text ≡ prefix ++ (ended bytes ++ rest) = parts ∙ ap (λ (l : List ℕ). prefix ++ l) (sym (append_assoc bytes (10 ∷ []) rest)) in
    through (with_line n r (line_of (words_of bytes))) refl (line_comes n prefix (ended bytes) r (line_of (words_of bytes)) at.are (line_said bytes)) cut first
    (λ next stands. told more part (n + 1) text (prefix ++ ended bytes) next stands (All-tail (λ (p : List ℕ). holds 10 p ≡ false) bytes (part ∷ more) none)
    (cut ∙ sym (append_assoc prefix (ended bytes) rest)))
  where
    through : (result : Result Reading ReportFault) → with_line n r (line_of (words_of bytes)) ≡ result → Comes n prefix (ended bytes) result
        → text ≡ prefix ++ (ended bytes ++ join_with_byte 10 (part ∷ more)) → holds 10 bytes ≡ false
        → ((next : Reading) → Stands (n + 1) (prefix ++ ended bytes) next → IsReadingOf text (read_from (n + 1) next (part ∷ more)))
        → IsReadingOf text (go_on result (λ next. read_from (n + 1) next (part ∷ more)))
    through (Ok next) e comes cut first later = later next (further n prefix bytes r next at first e comes)
    through (Err (BadLine m)) e comes cut first later =
        inl (subst (λ (k : ℕ). IsNoContinuation k text) (sym comes) (fails_here n text prefix bytes _ r at first cut (e ∙ ap (λ (k : ℕ). Err (BadLine k)) comes)))
    through (Err (WrongShot m)) e comes cut first later = record {
      prefix = prefix;
      here = ended bytes;
      line = subst (λ (k : ℕ). IsLine k text prefix (ended bytes)) (sym comes.0) (this_line n text prefix bytes _ r at first cut);
      wrong = comes.1;
    }
    through (Err Unfinished) e comes cut first later = absurd comes
    through (Err TooLong) e comes cut first later = absurd comes
    through (Err NoMemory) e comes cut first later = absurd comes

onto_holds_none : (b : ℕ) (parts : List (List ℕ)) → b == 10 ≡ false → All (λ p. holds 10 p ≡ false) parts → All (λ p. holds 10 p ≡ false) (onto_first b parts)
onto_holds_none b [] other none =
    All-cons (λ (p : List ℕ). holds 10 p ≡ false) (b ∷ []) [] (or_from (b == 10) false other refl) none
onto_holds_none b (part ∷ parts) other none =
    All-cons (λ (p : List ℕ). holds 10 p ≡ false) (b ∷ part) parts (or_from (b == 10) (holds 10 part) other (All-head (λ (p : List ℕ). holds 10 p ≡ false) part parts none))
    (All-tail (λ (p : List ℕ). holds 10 p ≡ false) part parts none)

lines_hold_none : (text : List ℕ) → All (λ p. holds 10 p ≡ false) (lines_in text)
lines_hold_none [] = All-cons (λ (p : List ℕ). holds 10 p ≡ false) [] [] refl (All-nil (λ (p : List ℕ). holds 10 p ≡ false))
lines_hold_none (b ∷ text) =
    let more = lines_hold_none text in
    elim (cases_Bool (b == 10)) [
      | inl newline ↦ rw newline (All-cons (λ (p : List ℕ). holds 10 p ≡ false) [] (lines_in text) refl more)
      | inr other ↦ rw other (onto_holds_none b (lines_in text) other more)
    ]

pub reads_as_is : ReadsAsIs
reads_as_is text = by_parts (some_part 10 text) where
  by_parts : (bytes : List ℕ) × (parts : List (List ℕ)) × (lines_in text ≡ bytes ∷ parts) → IsReadingOf text (report_in text)
  by_parts (bytes, parts, e) =
      subst (λ (ls : List (List ℕ)). IsReadingOf text (read_from 1 (reading [] place.Start) ls)) (sym e)
      (told parts bytes 1 text [] (reading [] place.Start)
      (record { lines = inl refl; number = refl; are = (refl, refl); reads = λ more. refl })
      (subst (All (λ (p : List ℕ). holds 10 p ≡ false)) e (lines_hold_none text))
      (sym (join_with_byte-slice_split 10 text) ∙ ap (join_with_byte 10) e))

-- ---- each text is one thing

record HasLast (bytes : List ℕ) : Type 0 where
  prefix : List ℕ
  last : ℕ
  same : bytes ≡ prefix ++ last ∷ []

last_of : (bytes : List ℕ) (b : ℕ) → HasLast (b ∷ bytes)
last_of [] b = record { prefix = []; last = b; same = refl }
last_of (c ∷ bytes) b =
    let more = last_of bytes c in
    record { prefix = b ∷ more.prefix; last = more.last; same = ap (λ (l : List ℕ). b ∷ l) more.same }

ends_so : (prefix bytes before : List ℕ) → prefix ++ bytes ≡ before ++ 10 ∷ [] → holds 10 bytes ≡ false → bytes ≡ []
ends_so prefix [] before e none = refl
ends_so prefix (b ∷ bytes) before e none =
    let last = last_of bytes b in
    let ends = same_from_push (prefix ++ last.prefix) before last.last 10
    (append_assoc prefix last.prefix (last.last ∷ []) ∙ ap (λ (l : List ℕ). prefix ++ l) (sym last.same) ∙ e) in
    let parts = or_parts (holds 10 last.prefix) (holds 10 (last.last ∷ []))
    (sym (list_any-append (λ (c : ℕ). c == 10) last.prefix (last.last ∷ [])) ∙ ap (holds 10) (sym last.same) ∙ none) in
    absurd (eqb-false last.last 10 (or_parts (last.last == 10) false parts.1).0 ends.1)

nil_right : (prefix bytes : List ℕ) → prefix ++ bytes ≡ [] → bytes ≡ []
nil_right [] bytes e = e
nil_right (b ∷ prefix) bytes e = absurd cc

-- a reading of whole lines with which a report begins
record Reaches (prefix : List ℕ) : Type 0 where
  here : Reading
  stands : Stands (newlines prefix + 1) prefix here

last_empty : (whole prefix bytes : List ℕ) → AreLines whole → whole ≡ prefix ++ bytes → holds 10 bytes ≡ false → AreLines prefix → bytes ≡ []
last_empty whole prefix bytes (inl empty) e none lines = nil_right prefix bytes (sym e ∙ empty)
last_empty whole prefix bytes (inr (before, ends)) e none lines = ends_so prefix bytes before (sym e ∙ ends) none

reached : (parts : List (List ℕ)) (bytes : List ℕ) (n : ℕ) (whole prefix : List ℕ) (r : Reading) → Stands n prefix r → All (λ p. holds 10 p ≡ false) (bytes ∷ parts)
    → whole ≡ prefix ++ join_with_byte 10 (bytes ∷ parts) → AreLines whole → BeginsReport whole → Reaches whole
reached [] bytes n whole prefix r at none parts lines begun =
    let empty = last_empty whole prefix bytes lines parts (All-head (λ (p : List ℕ). holds 10 p ≡ false) bytes [] none) at.lines in
    let same : prefix ≡ whole = sym (append-nil prefix) ∙ ap (λ (l : List ℕ). prefix ++ l) (sym empty) ∙ sym parts in
    subst Reaches same (record { here = r; stands = subst (λ (k : ℕ). Stands k prefix r) at.number at })
reached (part ∷ more) bytes n whole prefix r at none parts lines begun =
    let first = All-head (λ (p : List ℕ). holds 10 p ≡ false) bytes (part ∷ more) none in
    let rest = join_with_byte 10 (part ∷ more) in
    let cut : whole ≡ prefix ++ (ended bytes ++ rest) = parts ∙ ap (λ (l : List ℕ). prefix ++ l) (sym (append_assoc bytes (10 ∷ []) rest)) in
    let regrouped = cut ∙ sym (append_assoc prefix (ended bytes) rest) in
    through (with_line n r (line_of (words_of bytes))) refl (line_comes n prefix (ended bytes) r (line_of (words_of bytes)) at.are (line_said bytes)) first regrouped
    (λ next stands. reached more part (n + 1) whole (prefix ++ ended bytes) next stands (All-tail (λ (p : List ℕ). holds 10 p ≡ false) bytes (part ∷ more) none)
    regrouped lines begun)
  where
    through : (result : Result Reading ReportFault) → with_line n r (line_of (words_of bytes)) ≡ result → Comes n prefix (ended bytes) result
        → holds 10 bytes ≡ false → whole ≡ (prefix ++ ended bytes) ++ join_with_byte 10 (part ∷ more)
        → ((next : Reading) → Stands (n + 1) (prefix ++ ended bytes) next → Reaches whole) → Reaches whole
    through (Ok next) e comes first cut later = later next (further n prefix bytes r next at first e comes)
    through (Err fault) e comes first cut later =
        let report = begun.whole in
        let rest = join_with_byte 10 (part ∷ more) in
        let read = ap report_in (sym report.printed ∙ ap (λ (l : List ℕ). l ++ begun.more) cut ∙ append_assoc (prefix ++ ended bytes) rest begun.more)
        ∙ no_report n prefix bytes r fault at first e (rest ++ begun.more) in
        let back = read_back report.version report.traced report.units report.fusions report.in_range in
        absurd cc

reaches : (prefix : List ℕ) → AreLines prefix → BeginsReport prefix → Reaches prefix
reaches prefix lines begun = by_parts (some_part 10 prefix) where
  by_parts : (bytes : List ℕ) × (parts : List (List ℕ)) × (lines_in prefix ≡ bytes ∷ parts) → Reaches prefix
  by_parts (bytes, parts, e) =
      reached parts bytes 1 prefix [] (reading [] place.Start)
      (record { lines = inl refl; number = refl; are = (refl, refl); reads = λ more. refl })
      (subst (All (λ (p : List ℕ). holds 10 p ≡ false)) e (lines_hold_none prefix))
      (sym (join_with_byte-slice_split 10 prefix) ∙ ap (join_with_byte 10) e) lines begun

without : (bytes : List ℕ) → newlines bytes ≡ 0 → holds 10 bytes ≡ false
without [] none = refl
without (b ∷ bytes) none =
    let e : cond (b == 10) 1 0 + newlines bytes ≡ 0 = sym (sum_by-cons (λ (c : ℕ). cond (c == 10) 1 0) b bytes) ∙ none in
    by_test (b == 10) refl e (λ more. without bytes more)
  where
    by_test : (c : Bool) → b == 10 ≡ c → cond c 1 0 + newlines bytes ≡ 0 → (newlines bytes ≡ 0 → holds 10 bytes ≡ false) → holds 10 (b ∷ bytes) ≡ false
    by_test true is e more = absurd (omega arith)
    by_test false is e more = or_from (b == 10) (holds 10 bytes) is (more (omega arith))

-- one whole line
record IsEndedLine (here : List ℕ) : Type 0 where
  bytes : List ℕ
  text : here ≡ ended bytes
  none : holds 10 bytes ≡ false

one_line : (here : List ℕ) → AreLines here → newlines here ≡ 1 → IsEndedLine here
one_line here (inl empty) one = absurd (let none = ap newlines empty in omega arith)
one_line here (inr (bytes, e)) one = record {
  bytes = bytes;
  text = e;
  none = without bytes (let count = ap newlines e in omega (arith, sum_by-append (λ (b : ℕ). cond (b == 10) 1 0) bytes (10 ∷ [])));
}

report_begins : (prefix : List ℕ) → IsReport prefix → BeginsReport prefix
report_begins prefix whole = record { more = []; whole = subst IsReport (sym (append-nil prefix)) whole }

report_ends : (prefix : List ℕ) → IsReport prefix → AreLines prefix
report_ends prefix whole =
    let rows = length whole.traced in
    let odd = count_by is_odd (rows_of whole.traced) in
    let above = head_of whole.version ++ traced_text whole.version 0 whole.traced in
    let words = decimal rows ∷ codes "odd" ∷ decimal odd ∷ codes "units" ∷ decimal whole.units ∷ codes "fusions" ∷ decimal whole.fusions ∷ [] in
    inr (
      above ++ joined (codes "done") words,
      whole.printed ∙ ap (λ (l : List ℕ). above ++ l) (done-line rows odd whole.units whole.fusions ∙ line-joined (codes "done") words)
          ∙ sym (append_assoc above (joined (codes "done") words) (10 ∷ [])),
    )

-- where a text comes to a line with which no report goes on
stuck : (n : ℕ) (text prefix bytes more : List ℕ) (r : Reading) → Stands n prefix r → holds 10 bytes ≡ false → text ≡ prefix ++ (ended bytes ++ more)
    → ¬ BeginsReport (prefix ++ ended bytes) → ¬ IsOutOfTurn prefix (ended bytes) → report_in text ≡ Err (BadLine n)
stuck n text prefix bytes more r at none parts fails in_turn =
    through (with_line n r (line_of (words_of bytes))) refl (line_comes n prefix (ended bytes) r (line_of (words_of bytes)) at.are (line_said bytes))
  where
    through : (result : Result Reading ReportFault) → with_line n r (line_of (words_of bytes)) ≡ result → Comes n prefix (ended bytes) result → report_in text ≡ Err (BadLine n)
    through (Ok next) e comes = absurd (fails (begins (prefix ++ ended bytes) next.rows next.place comes))
    through (Err (BadLine m)) e comes =
        ap report_in (parts ∙ sym (append_assoc prefix (ended bytes) more)) ∙ no_report n prefix bytes r (BadLine m) at none e more ∙ ap (λ (k : ℕ). Err (BadLine k)) comes
    through (Err (WrongShot m)) e comes = absurd (in_turn comes.1)
    through (Err Unfinished) e comes = absurd comes
    through (Err TooLong) e comes = absurd comes
    through (Err NoMemory) e comes = absurd comes

-- where a text comes to a row that is out of turn
turned : (n : ℕ) (text prefix bytes more : List ℕ) (r : Reading) → Stands n prefix r → holds 10 bytes ≡ false → text ≡ prefix ++ (ended bytes ++ more)
    → IsOutOfTurn prefix (ended bytes) → report_in text ≡ Err (WrongShot n)
turned n text prefix bytes more r at none parts out =
    through (with_line n r (line_of (words_of bytes))) refl (line_comes n prefix (ended bytes) r (line_of (words_of bytes)) at.are (line_said bytes))
  where
    through : (result : Result Reading ReportFault) → with_line n r (line_of (words_of bytes)) ≡ result → Comes n prefix (ended bytes) result → report_in text ≡ Err (WrongShot n)
    through (Ok next) e comes =
        let begun = begins (prefix ++ ended bytes) next.rows next.place comes in
        let report = begun.whole in
        let read = (out_of_turn_read prefix (ended bytes) begun.more out).1 in
        let back = ap report_in report.printed ∙ read_back report.version report.traced report.units report.fusions report.in_range in
        absurd cc
    through (Err (BadLine m)) e comes =
        let read = (out_of_turn_read prefix (ended bytes) more out).1 in
        let failed = no_report n prefix bytes r (BadLine m) at none e more in
        absurd cc
    through (Err (WrongShot m)) e comes =
        ap report_in (parts ∙ sym (append_assoc prefix (ended bytes) more)) ∙ no_report n prefix bytes r (WrongShot m) at none e more ∙ ap (λ (k : ℕ). Err (WrongShot k)) comes.0
    through (Err Unfinished) e comes = absurd comes
    through (Err TooLong) e comes = absurd comes
    through (Err NoMemory) e comes = absurd comes

line_behind : (n : ℕ) (rows : List Row) (totals : Totals) (said : Option Line) → with_line n (reading rows (place.End totals)) said ≡ Err (BadLine n)
line_behind n rows totals None = refl
line_behind n rows totals (Some said) = refl

bytes_behind : (n : ℕ) (rows : List Row) (totals : Totals) (b : ℕ) (bytes : List ℕ) → read_from n (reading rows (place.End totals)) (lines_in (b ∷ bytes)) ≡ Err (BadLine n)
bytes_behind n rows totals b bytes = by_parts (some_part 10 (b ∷ bytes)) where
  by_parts : (first : List ℕ) × (parts : List (List ℕ)) × (lines_in (b ∷ bytes) ≡ first ∷ parts) → read_from n (reading rows (place.End totals)) (lines_in (b ∷ bytes)) ≡ Err (BadLine n)
  by_parts (first, [], e) =
      ap (read_from n (reading rows (place.End totals))) e
      ∙ ap (λ (l : List ℕ). ending n rows (place.End totals) l) (ap (join_with_byte 10) (sym e) ∙ join_with_byte-slice_split 10 (b ∷ bytes))
  by_parts (first, part ∷ parts, e) =
      ap (read_from n (reading rows (place.End totals))) e
      ∙ ap (λ (result : Result Reading ReportFault). go_on result (λ next. read_from (n + 1) next (part ∷ parts))) (line_behind n rows totals (line_of (words_of first)))

behind : (n : ℕ) (text prefix more : List ℕ) (b : ℕ) (rows : List Row) (here : Place) → Stands n prefix (reading rows here) → IsReport prefix → text ≡ prefix ++ b ∷ more
    → report_in text ≡ Err (BadLine n)
behind n text prefix more b rows (place.End totals) at whole parts = ap report_in parts ∙ at.reads (b ∷ more) ∙ bytes_behind n rows totals b more
behind n text prefix more b rows place.Start at whole parts = absurd (not_whole n prefix (reading rows place.Start) at refl whole)
behind n text prefix more b rows (place.InRow version) at whole parts = absurd (not_whole n prefix (reading rows (place.InRow version)) at refl whole)
behind n text prefix more b rows (place.Listed edges) at whole parts = absurd (not_whole n prefix (reading rows (place.Listed edges)) at refl whole)
behind n text prefix more b rows (place.Based version edges base) at whole parts =
    absurd (not_whole n prefix (reading rows (place.Based version edges base)) at refl whole)
behind n text prefix more b rows (place.Cuts version edges base weight cuts) at whole parts =
    absurd (not_whole n prefix (reading rows (place.Cuts version edges base weight cuts)) at refl whole)
behind n text prefix more b rows (place.Between version) at whole parts = absurd (not_whole n prefix (reading rows (place.Between version)) at refl whole)

unfinished : (n : ℕ) (prefix last : List ℕ) (rows : List Row) (here : Place) → IsPlace prefix rows here → ¬ IsReport prefix → ending n rows here last ≡ Err Unfinished
unfinished n prefix last rows (place.End totals) are not_whole =
    absurd (not_whole (record { version = are.version; traced = are.traced; units = totals.units; fusions = totals.fusions; in_range = are.fits; printed = are.text }))
unfinished n prefix last rows place.Start are not_whole = refl
unfinished n prefix last rows (place.InRow version) are not_whole = refl
unfinished n prefix last rows (place.Listed edges) are not_whole = refl
unfinished n prefix last rows (place.Based version edges base) are not_whole = refl
unfinished n prefix last rows (place.Cuts version edges base weight cuts) are not_whole = refl
unfinished n prefix last rows (place.Between version) are not_whole = refl

pub is_one_thing : IsOneThing
is_one_thing text (Ok report) is =
    ap report_in is.printed ∙ read_back is.version is.traced is.units is.fusions is.in_range ∙ ap Ok (sym is.says)
is_one_thing text (Err (BadLine n)) (inl is) =
    let at = reaches is.prefix is.line.before is.begun in
    let here = one_line is.here is.line.one.0 is.line.one.1 in
    stuck n text is.prefix here.bytes is.line.more at.here (subst (λ (k : ℕ). Stands k is.prefix at.here) (sym is.line.number) at.stands) here.none
    (is.line.parts ∙ ap (λ (l : List ℕ). is.prefix ++ (l ++ is.line.more)) here.text)
    (λ begun. is.fails (subst (λ (l : List ℕ). BeginsReport (is.prefix ++ l)) (sym here.text) begun))
    (λ out. is.in_turn (subst (IsOutOfTurn is.prefix) (sym here.text) out))
is_one_thing text (Err (BadLine n)) (inr is) =
    let at = reaches is.prefix (report_ends is.prefix is.whole) (report_begins is.prefix is.whole) in
    behind n text is.prefix is.more is.byte at.here.rows at.here.place (subst (λ (k : ℕ). Stands k is.prefix at.here) (sym is.number) at.stands) is.whole is.parts
is_one_thing text (Err (WrongShot n)) is =
    let rows : AreRows is.wrong.version is.prefix (rows_of is.wrong.traced) = record { traced = is.wrong.traced; text = is.wrong.whole; same = refl; fits = is.wrong.rows; few = is.wrong.count } in
    let at = reaches is.prefix is.line.before (rows_begin is.wrong.version is.prefix (rows_of is.wrong.traced) rows) in
    let here = one_line is.here is.line.one.0 is.line.one.1 in
    turned n text is.prefix here.bytes is.line.more at.here (subst (λ (k : ℕ). Stands k is.prefix at.here) (sym is.line.number) at.stands) here.none
    (is.line.parts ∙ ap (λ (l : List ℕ). is.prefix ++ (l ++ is.line.more)) here.text)
    (subst (IsOutOfTurn is.prefix) here.text is.wrong)
is_one_thing text (Err Unfinished) is =
    let at = reaches is.prefix is.lines is.begun in
    ap report_in is.parts ∙ at.stands.reads is.last
    ∙ ap (read_from (newlines is.prefix + 1) at.here) (split_last 10 is.last (without is.last is.no_newline))
    ∙ unfinished (newlines is.prefix + 1) is.prefix is.last at.here.rows at.here.place at.stands.are is.not_whole
is_one_thing text (Err TooLong) is = absurd is
is_one_thing text (Err NoMemory) is = absurd is
