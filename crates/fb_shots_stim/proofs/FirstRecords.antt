-- What is left of an input without its first record.
use Rattle.std.specs.Prelude.{if◌then◌else◌}
use Rattle.std.proofs.Common.{◌≡◌, ℕ, zero, suc, ◌≤◌, Bool, true, false, List, [], ◌∷◌, ◌++◌, length, take, drop, Option, Some, None, Result, Ok, Err, sym, ap, subst, subst₂, ◌∙◌, inl, inr}
use Rattle.std.specs.List.{list_any}
use Rattle.std.proofs.lemmas.Bool.{cases_Bool, cases_lt, cond-true, cond-false}
use Rattle.fb_records.specs.Records.{Records, with_first_shot}
use Rattle.fb_records.specs.Lines.{without_return, bare, after_line}
use Rattle.fb_records.specs.Answers.{FirstRecordLeaves}
use Rattle.fb_records.proofs.LineLemmas.{after_line_one}
use Rattle.fb_records.proofs.AnswerLemmas.{blank_after, record_after}
use Rattle.fb_records.proofs.FirstRecords.{no_shots, leaves_first}
use Rattle.fb_shots_stim.specs.declared.answer.Kind.{Kind}
use Rattle.fb_shots_stim.specs.declared.answer.Kind.TheVariants.{BadByte, ShortRecord, LongRecord, PaddingBit}
use Rattle.fb_shots_stim.specs.Shots.{places_from}
use Rattle.fb_shots_stim.specs.Text01.{line_01, begun_01, is_one, records_01, prefix_01}
use Rattle.fb_shots_stim.specs.BlocksB8.{block_len, bits_of, is_set, records_b8, prefix_b8}
use Rattle.fb_shots_stim.specs.TextDets.{records_dets, prefix_dets, after_record}
use Rattle.fb_shots_stim.specs.TextHits.{records_hits, prefix_hits}
use Rattle.fb_shots_stim.specs.InternalParts.{PartRules, line_by_parts, begun_by_parts, records_by_parts, prefix_by_parts, is_skipped, after_by_parts, dets_rules, hits_rules}
use Rattle.fb_shots_stim.proofs.LemmasB8.{prefix_short, block_gives}
use Rattle.fb_shots_stim.proofs.LemmasDets.{records_as_dets, prefix_as_dets, after_as_dets}
use Rattle.fb_shots_stim.proofs.LemmasHits.{records_as_hits, prefix_as_hits, after_as_hits}

-- ---- `01`

never_skipped : (n : ℕ) (line : List ℕ) → line_01 n line ≡ Ok None → ⊥
never_skipped n line = either _ _ _ (either _ _ _ (refused_ LongRecord) (either _ _ _ (refused_ ShortRecord) (shot_ (places_from is_one 0 line)))) (refused_ BadByte) where
  refused_ : (kind : Kind) → ◌≡◌ {A = Result (Option (List ℕ)) Kind} (Err kind) (Ok None) → ⊥
  refused_ kind e = absurd cc

  shot_ : (shot : List ℕ) → ◌≡◌ {A = Result (Option (List ℕ)) Kind} (Ok (Some shot)) (Ok None) → ⊥
  shot_ shot e = absurd cc

  either : (b : Bool) (x y : Result (Option (List ℕ)) Kind) → (x ≡ Ok None → ⊥) → (y ≡ Ok None → ⊥) → (if b then x else y) ≡ Ok None → ⊥
  either true x y hx hy = hx
  either false x y hx hy = hy

pub leaves_01 : FirstRecordLeaves records_01 prefix_01 (λ n. after_line)
leaves_01 n bytes shot shots e =
    leaves_first (bare (line_01 n)) (bare (begun_01 n)) after_line
    (record { skips = λ line more h none. absurd (never_skipped n (without_return line) none); takes = λ line more s h some. after_line_one line more h })
    bytes shot shots e

-- ---- lines of parts

leaves_parts : (rules : PartRules) → FirstRecordLeaves (records_by_parts rules) (prefix_by_parts rules) (after_by_parts rules)
leaves_parts rules n bytes shot shots e =
    let blank = bare (λ (line : List ℕ). is_skipped (line_by_parts rules n line)) in
    leaves_first (bare (line_by_parts rules n)) (bare (begun_by_parts rules n)) (after_by_parts rules n)
    (record { skips = λ line more h none. blank_after blank line more h (ap is_skipped none); takes = λ line more s h some. record_after blank line more h (ap is_skipped some) })
    bytes shot shots e

pub leaves_dets : FirstRecordLeaves records_dets prefix_dets (λ n. after_record)
leaves_dets =
    subst₂ (λ (r p : ℕ → List ℕ → Records (List ℕ) Kind). FirstRecordLeaves r p (λ n. after_record)) records_as_dets prefix_as_dets
    (subst (λ (a : ℕ → List ℕ → List ℕ). FirstRecordLeaves (records_by_parts dets_rules) (prefix_by_parts dets_rules) a) after_as_dets (leaves_parts dets_rules))

pub leaves_hits : FirstRecordLeaves records_hits prefix_hits (λ n. after_line)
leaves_hits =
    subst₂ (λ (r p : ℕ → List ℕ → Records (List ℕ) Kind). FirstRecordLeaves r p (λ n. after_line)) records_as_hits prefix_as_hits
    (subst (λ (a : ℕ → List ℕ → List ℕ). FirstRecordLeaves (records_by_parts hits_rules) (prefix_by_parts hits_rules) a) after_as_hits (leaves_parts hits_rules))

-- ---- `b8`

pub leaves_b8 : FirstRecordLeaves records_b8 prefix_b8 (λ n. drop (block_len n))
leaves_b8 zero [] shot shots e = absurd cc
leaves_b8 zero (b ∷ bytes) shot shots e = absurd cc
leaves_b8 (suc n) bytes shot shots e = elim (cases_lt (length bytes) (block_len (suc n))) [
  | inl lt ↦ no_shots _ _ shot shots (prefix_short n bytes lt) e
  | inr le ↦ elim (cases_Bool (list_any is_set (drop (suc n) (bits_of (take (block_len (suc n)) bytes))))) [
    | inl set_ ↦ no_shots _ _ shot shots (block_gives n bytes true (Err PaddingBit) le (cond-true _ _ _ set_)).1 e
    | inr none ↦ block_left n bytes shot shots le (block_gives n bytes true (Ok (Some _)) le (cond-false _ _ _ none)) e
  ]
]
  where
    block_left : (n : ℕ) (bytes shot : List ℕ) (shots : List (List ℕ)) {first : List ℕ} → block_len (suc n) ≤ length bytes
        → (records_b8 (suc n) bytes ≡ with_first_shot first (records_b8 (suc n) (drop (block_len (suc n)) bytes))) × (prefix_b8 (suc n) bytes ≡ with_first_shot first (prefix_b8 (suc n) (drop (block_len (suc n)) bytes)))
        × ((more : List ℕ) → records_b8 (suc n) (bytes ++ more) ≡ with_first_shot first (records_b8 (suc n) (drop (block_len (suc n)) bytes ++ more)))
        × ((more : List ℕ) → prefix_b8 (suc n) (bytes ++ more) ≡ with_first_shot first (prefix_b8 (suc n) (drop (block_len (suc n)) bytes ++ more)))
        → (prefix_b8 (suc n) bytes).shots ≡ shot ∷ shots
        → (prefix_b8 (suc n) bytes ≡ with_first_shot shot (prefix_b8 (suc n) (drop (block_len (suc n)) bytes)))
        × ((more : List ℕ) → records_b8 (suc n) (bytes ++ more) ≡ with_first_shot shot (records_b8 (suc n) (drop (block_len (suc n)) bytes ++ more)))
        × ((more : List ℕ) → prefix_b8 (suc n) (bytes ++ more) ≡ with_first_shot shot (prefix_b8 (suc n) (drop (block_len (suc n)) bytes ++ more)))
    block_left n bytes shot shots {first} le given e =
        let left = drop (block_len (suc n)) bytes in
        let same : first ≡ shot = (let shown : first ∷ (prefix_b8 (suc n) left).shots ≡ shot ∷ shots = sym (ap (λ (x : Records (List ℕ) Kind). x.shots) given.1) ∙ e in cc) in (
          given.1 ∙ ap (λ (l : List ℕ). with_first_shot l (prefix_b8 (suc n) left)) same,
          λ more. given.2 more ∙ ap (λ (l : List ℕ). with_first_shot l (records_b8 (suc n) (left ++ more))) same,
          λ more. given.3 more ∙ ap (λ (l : List ℕ). with_first_shot l (prefix_b8 (suc n) (left ++ more))) same,
        )
