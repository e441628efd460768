use Rattle.std.proofs.Common.{◌≡◌, ℕ, length, sym, ap, subst, subst₂}
use Rattle.std.specs.Prelude.{drop}
use Rattle.fb_graph.specs.Limits.{DecodingGraph, IsShot, detectors_of}
use Rattle.fb_records.specs.Answers.{IfShot}
use Rattle.fb_records.specs.Lines.{after_line}
use Rattle.fb_shots_stim.specs.Text01.{records_01, prefix_01}
use Rattle.fb_shots_stim.specs.BlocksB8.{block_len, records_b8, prefix_b8}
use Rattle.fb_shots_stim.specs.TextDets.{after_record, records_dets, prefix_dets}
use Rattle.fb_shots_stim.specs.TextHits.{records_hits, prefix_hits}
use Rattle.fb_shots_stim.specs.RunsR8.{after_r8, records_r8, prefix_r8}
use Rattle.fb_request.specs.declared.format.Format.TheVariants as format
use Rattle.fb_shots.specs.declared.reader.FormatReader.{FormatReader}
use Rattle.fb_shots.specs.declared.reader.FormatReader.TheVariants.{Text01, B8, Dets, Hits, R8, Json}
use Rattle.fb_shots.specs.Formats.{of_stim}
use Rattle.fb_shots.specs.InternalAnswers.{Answers, NextShot}
use Rattle.fb_shots.specs.InternalReaders.{source_of, IsReaderOf}
use Rattle.fb_shots.proofs.Readings.{stim_right, json_right}
use Rattle.fb_shots.proofs.reader.FormatReader.next.Goals as goal

pub returns-in_ok-next-in-Text01-clause-meaning : goal.returns-in_ok-next-in-Text01-clause-meaning
returns-in_ok-next-in-Text01-clause-meaning c =
    let g = c.args.graph.now in
    let old = c.in-Text01.reader in
    let new = c.next.new.self in
    let n : old.subject ≡ length (detectors_of g) = subst (IsReaderOf g) c.in-Text01.is c.requires in
    subst₂ (λ (r : FormatReader) (a : NextShot). Answers (source_of g r) (source_of g (Text01 new)) a) (sym c.in-Text01.is) (sym c.on_vertices.ensures)
    (stim_right format.Text01 g records_01 prefix_01 after_line old new c.in_ok-next-in-Text01.field-0
    (λ bytes. ap (λ (m : ℕ). of_stim g (records_01 m bytes)) (sym n)) (λ bytes. ap (λ (m : ℕ). of_stim g (prefix_01 m bytes)) (sym n))
    n c.in_ok-next-in-Text01.ensures.shot c.in_ok-next-in-Text01.ensures.meaning)

pub returns-in_ok-next-in-B8-clause-meaning : goal.returns-in_ok-next-in-B8-clause-meaning
returns-in_ok-next-in-B8-clause-meaning c =
    let g = c.args.graph.now in
    let old = c.in-B8.reader in
    let new = c.next-in-B8.new.self in
    let n : old.subject ≡ length (detectors_of g) = subst (IsReaderOf g) c.in-B8.is c.requires in
    subst₂ (λ (r : FormatReader) (a : NextShot). Answers (source_of g r) (source_of g (B8 new)) a) (sym c.in-B8.is) (sym c.on_vertices-in-B8.ensures)
    (stim_right format.B8 g records_b8 prefix_b8 (drop (block_len old.subject)) old new c.in_ok-next-in-B8.field-0
    (λ bytes. ap (λ (m : ℕ). of_stim g (records_b8 m bytes)) (sym n)) (λ bytes. ap (λ (m : ℕ). of_stim g (prefix_b8 m bytes)) (sym n))
    n c.in_ok-next-in-B8.ensures.shot c.in_ok-next-in-B8.ensures.meaning)

pub returns-in_ok-next-in-Dets-clause-meaning : goal.returns-in_ok-next-in-Dets-clause-meaning
returns-in_ok-next-in-Dets-clause-meaning c =
    let g = c.args.graph.now in
    let old = c.in-Dets.reader in
    let new = c.next-in-Dets.new.self in
    let n : old.subject ≡ length (detectors_of g) = subst (IsReaderOf g) c.in-Dets.is c.requires in
    subst₂ (λ (r : FormatReader) (a : NextShot). Answers (source_of g r) (source_of g (Dets new)) a) (sym c.in-Dets.is) (sym c.on_vertices-in-Dets.ensures)
    (stim_right format.Dets g records_dets prefix_dets after_record old new c.in_ok-next-in-Dets.field-0
    (λ bytes. ap (λ (m : ℕ). of_stim g (records_dets m bytes)) (sym n)) (λ bytes. ap (λ (m : ℕ). of_stim g (prefix_dets m bytes)) (sym n))
    n c.in_ok-next-in-Dets.ensures.shot c.in_ok-next-in-Dets.ensures.meaning)

pub returns-in_ok-next-in-Hits-clause-meaning : goal.returns-in_ok-next-in-Hits-clause-meaning
returns-in_ok-next-in-Hits-clause-meaning c =
    let g = c.args.graph.now in
    let old = c.in-Hits.reader in
    let new = c.next-in-Hits.new.self in
    let n : old.subject ≡ length (detectors_of g) = subst (IsReaderOf g) c.in-Hits.is c.requires in
    subst₂ (λ (r : FormatReader) (a : NextShot). Answers (source_of g r) (source_of g (Hits new)) a) (sym c.in-Hits.is) (sym c.on_vertices-in-Hits.ensures)
    (stim_right format.Hits g records_hits prefix_hits after_line old new c.in_ok-next-in-Hits.field-0
    (λ bytes. ap (λ (m : ℕ). of_stim g (records_hits m bytes)) (sym n)) (λ bytes. ap (λ (m : ℕ). of_stim g (prefix_hits m bytes)) (sym n))
    n c.in_ok-next-in-Hits.ensures.shot c.in_ok-next-in-Hits.ensures.meaning)

pub returns-in_ok-next-in-R8-clause-meaning : goal.returns-in_ok-next-in-R8-clause-meaning
returns-in_ok-next-in-R8-clause-meaning c =
    let g = c.args.graph.now in
    let old = c.in-R8.reader in
    let new = c.next-in-R8.new.self in
    let n : old.subject ≡ length (detectors_of g) = subst (IsReaderOf g) c.in-R8.is c.requires in
    subst₂ (λ (r : FormatReader) (a : NextShot). Answers (source_of g r) (source_of g (R8 new)) a) (sym c.in-R8.is) (sym c.on_vertices-in-R8.ensures)
    (stim_right format.R8 g records_r8 prefix_r8 (after_r8 old.subject) old new c.in_ok-next-in-R8.field-0
    (λ bytes. ap (λ (m : ℕ). of_stim g (records_r8 m bytes)) (sym n)) (λ bytes. ap (λ (m : ℕ). of_stim g (prefix_r8 m bytes)) (sym n))
    n c.in_ok-next-in-R8.ensures.shot c.in_ok-next-in-R8.ensures.meaning)

pub returns-in_ok-next-in-Json-clause-meaning : goal.returns-in_ok-next-in-Json-clause-meaning
returns-in_ok-next-in-Json-clause-meaning c =
    let g = c.args.graph.now in
    let old = c.in-Json.reader in
    let new = c.next-in-Json.new.self in
    let same : old.subject ≡ g = subst (IsReaderOf g) c.in-Json.is c.requires in
    subst₂ (λ (r : FormatReader) (a : NextShot). Answers (source_of g r) (source_of g (Json new)) a) (sym c.in-Json.is) (sym c.of_lines.ensures)
    (json_right g old new c.in_ok-next-in-Json.field-0 same
    (subst (λ (x : DecodingGraph). IfShot (IsShot x) c.in_ok-next-in-Json.field-0) same c.in_ok-next-in-Json.ensures.shot) c.in_ok-next-in-Json.ensures.meaning)
