-- How far rows have been judged.
use Rattle.std.proofs.Common.{◌≡◌, ℕ, suc, ◌+◌, ◌<◌, ◌≤◌, cond, Bool, false, inl, inr, List, [], ◌∷◌, ◌++◌, length, get_or, Option, refl, sym, ap, subst, ◌∙◌, arith, append_assoc, append-nil}
use Rattle.std.specs.List.{AllZip}
use Rattle.std.proofs.KnownBytes.{Appends-nil, Appends-trans}
use Rattle.std.proofs.lemmas.Slice.Zip.{AllZip-long, all_zipped_more}
use Rattle.std.proofs.lemmas.List.Sums.{sum_by_push}
use Rattle.fb_graph.specs.Limits.{DecodingGraph, ShotValue}
use Rattle.fb_graph.specs.declared.parts.Row.{Row}
use Rattle.fb_ports.specs.Causes.{Appends}
use Rattle.fb_verify.specs.VerdictTexts.{is_bad}
use Rattle.fb_verify.specs.Verdicts.{IsVerdict}
use Rattle.fb_verify.specs.declared.verdicts.Verdict.{Verdict}
use Rattle.fb_check.specs.Checks.{AreVerdicts, IsPairVerdict, bad_count, pairs_of, verdict_line, verdict_lines}
use Rattle.fb_ports.specs.Outboxes.{Moves}
use Rattle.fb_check.specs.InternalJudges.{AddsLine, JudgesNext}

-- The rows of these shots have been judged. Their lines are what was written and then what waits.
pub record IsJudging (g : DecodingGraph) (rows : List Row) (start now : Option (List ℕ)) (pending : List ℕ) (shots : List ShotValue) (bad : ℕ) : Type 0 where
  pub verdicts : List Verdict
  pub answers : AreVerdicts g shots rows verdicts
  pub counts : bad ≡ bad_count verdicts
  pub flushed : List ℕ
  pub appended : Appends start now flushed
  pub text : flushed ++ pending ≡ verdict_lines 0 verdicts

length-pairs : (shots : List ShotValue) (rows : List Row) → length shots ≤ length rows → length (pairs_of shots rows) ≡ length shots
length-pairs [] rows le = refl
length-pairs (s ∷ shots) [] le = absurd (omega arith)
length-pairs (s ∷ shots) (r ∷ rows) le = ap suc (length-pairs shots rows (omega arith))

pairs-push : (shots : List ShotValue) (rows : List Row) (s : ShotValue) (d : Row) → length shots < length rows
    → pairs_of (shots ++ s ∷ []) rows ≡ pairs_of shots rows ++ (s, get_or rows (length shots) d) ∷ []
pairs-push [] [] s d less = absurd (omega arith)
pairs-push [] (r ∷ rows) s d less = refl
pairs-push (t ∷ shots) [] s d less = absurd (omega arith)
pairs-push (t ∷ shots) (r ∷ rows) s d less = ap (λ (ps : List (ShotValue × Row)). (t, r) ∷ ps) (pairs-push shots rows s d (omega arith))

pairs-same : (shots : List ShotValue) (rows : List Row) (s : ShotValue) → length rows ≤ length shots → pairs_of (shots ++ s ∷ []) rows ≡ pairs_of shots rows
pairs-same [] [] s le = refl
pairs-same [] (r ∷ rows) s le = absurd (omega arith)
pairs-same (t ∷ shots) [] s le = refl
pairs-same (t ∷ shots) (r ∷ rows) s le = ap (λ (ps : List (ShotValue × Row)). (t, r) ∷ ps) (pairs-same shots rows s (omega arith))

lines-push : (k : ℕ) (vs : List Verdict) (v : Verdict) → verdict_lines k (vs ++ v ∷ []) ≡ verdict_lines k vs ++ verdict_line (k + length vs) v
lines-push k [] v =
    let e : k ≡ k + length (let none : List Verdict = [] in none) = omega arith in
    append-nil (verdict_line k v) ∙ ap (λ (n : ℕ). verdict_line n v) e
lines-push k (w ∷ vs) v =
    let e : (k + 1) + length vs ≡ k + length (w ∷ vs) = omega arith in
    ap (λ (xs : List ℕ). verdict_line k w ++ xs) (lines-push (k + 1) vs v ∙ ap (λ (n : ℕ). verdict_lines (k + 1) vs ++ verdict_line n v) e)
    ∙ sym (append_assoc (verdict_line k w) (verdict_lines (k + 1) vs) (verdict_line (k + length (w ∷ vs)) v))

bad-push : (vs : List Verdict) (v : Verdict) → bad_count (vs ++ v ∷ []) ≡ bad_count vs + cond (is_bad v) 1 0
bad-push vs v = sum_by_push (λ x. cond (is_bad x) 1 0) vs v

module _ (g : DecodingGraph) (rows : List Row) (start : Option (List ℕ)) where
  pub judging_begins : (text : List ℕ) → text ≡ [] → IsJudging g rows start start text [] 0
  judging_begins text empty =
      record { verdicts = []; answers = tt; counts = refl; flushed = []; appended = Appends-nil start; text = empty }

  judging_more : (now : Option (List ℕ)) (pending longer : List ℕ) (shots : List ShotValue) (count bad : ℕ) (shot : ShotValue) (b : Bool)
      → count ≡ length shots → IsJudging g rows start now pending shots bad → AddsLine g rows count shot pending longer b
      → IsJudging g rows start now longer (shots ++ shot ∷ []) (bad + cond b 1 0)
  judging_more now pending longer shots count bad shot b many judging adds = record {
    verdicts = judging.verdicts ++ adds.verdict ∷ [];
    answers = subst (λ (ps : List (ShotValue × Row)). AllZip (IsPairVerdict g) ps (judging.verdicts ++ adds.verdict ∷ []))
        (sym (pairs-push shots rows shot adds.row within))
        (all_zipped_more (IsPairVerdict g) (pairs_of shots rows) judging.verdicts (shot, get_or rows (length shots) adds.row) adds.verdict judging.answers
        (subst (λ (r : Row). IsVerdict g shot r adds.verdict) (adds.is ∙ ap (λ (n : ℕ). get_or rows n adds.row) many) adds.answer));
    counts = ap (λ (n : ℕ). n + cond b 1 0) judging.counts ∙ ap (λ (c : Bool). bad_count judging.verdicts + cond c 1 0) adds.counts
        ∙ sym (bad-push judging.verdicts adds.verdict);
    flushed = judging.flushed;
    appended = judging.appended;
    text = ap (λ (xs : List ℕ). judging.flushed ++ xs) adds.longer ∙ sym (append_assoc judging.flushed pending (verdict_line count adds.verdict))
        ∙ ap (λ (xs : List ℕ). xs ++ verdict_line count adds.verdict) judging.text
        ∙ ap (λ (n : ℕ). verdict_lines 0 judging.verdicts ++ verdict_line n adds.verdict) as_many
        ∙ sym (lines-push 0 judging.verdicts adds.verdict);
  }
    where
      within : length shots < length rows
      within = omega (arith, many, adds.within)

      as_many : count ≡ 0 + length judging.verdicts
      as_many = omega (
        arith,
        many,
        AllZip-long (IsPairVerdict g) (pairs_of shots rows) judging.verdicts judging.answers,
        length-pairs shots rows (omega (arith, within)),
      )

  pub judging_next : (now : Option (List ℕ)) (pending longer : List ℕ) (shots : List ShotValue) (count bad : ℕ) (shot : ShotValue) (b : Bool)
      → count ≡ length shots → IsJudging g rows start now pending shots bad → JudgesNext g rows count shot pending longer b
      → IsJudging g rows start now longer (shots ++ shot ∷ []) (bad + cond b 1 0)
  judging_next now pending longer shots count bad shot b many judging (inl (none, same, good)) = record {
    verdicts = judging.verdicts;
    answers = subst (λ (ps : List (ShotValue × Row)). AllZip (IsPairVerdict g) ps judging.verdicts)
        (sym (pairs-same shots rows shot (omega (arith, many, none)))) judging.answers;
    counts = ap (λ (c : Bool). bad + cond c 1 0) good ∙ no_more ∙ judging.counts;
    flushed = judging.flushed;
    appended = judging.appended;
    text = ap (λ (xs : List ℕ). judging.flushed ++ xs) same ∙ judging.text;
  }
    where
      no_more : bad + cond false 1 0 ≡ bad
      no_more = omega arith
  judging_next now pending longer shots count bad shot b many judging (inr adds) = judging_more now pending longer shots count bad shot b many judging adds

  pub judging_moved : (now after : Option (List ℕ)) (pending rest : List ℕ) (shots : List ShotValue) (bad : ℕ) → IsJudging g rows start now pending shots bad
      → Moves now after pending rest → IsJudging g rows start after rest shots bad
  judging_moved now after pending rest shots bad judging (moved, appended, e) = record {
    verdicts = judging.verdicts;
    answers = judging.answers;
    counts = judging.counts;
    flushed = judging.flushed ++ moved;
    appended = Appends-trans start now after judging.flushed moved judging.appended appended;
    text = append_assoc judging.flushed moved rest ∙ ap (λ (xs : List ℕ). judging.flushed ++ xs) (sym e) ∙ judging.text;
  }
