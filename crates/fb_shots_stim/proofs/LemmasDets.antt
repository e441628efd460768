-- `dets` as a format of lines of parts.
use Rattle.std.specs.Prelude.{if◌then◌else◌}
use Rattle.std.proofs.Common.{◌≡◌, ℕ, Bool, true, false, List, [], ◌∷◌, ◌++◌, Option, Some, None, Ok, Err, refl, sym, ap, subst₂, ◌∙◌}
use Rattle.std.proofs.Math.Path.{fun_ext}
use Rattle.std.specs.List.{flat_map}
use Rattle.std.proofs.lemmas.List.{append-nil}
use Rattle.std.proofs.lemmas.List.Concat.{flat_map-append}
use Rattle.fb_shots_stim.specs.declared.answer.Kind.{Kind}
use Rattle.fb_shots_stim.specs.declared.answer.Kind.TheVariants.{BadToken, IndexOutOfRange, RepeatedIndex, MeasurementToken}
use Rattle.fb_records.specs.Records.{Ending, Judged}
use Rattle.fb_records.specs.Lines.{whole_parts, last_part, if_not_empty, bare, after_first, Stays, records_by_lines, prefix_by_lines}
use Rattle.fb_shots_stim.specs.NamedDetectors.{index_of, with_detector, shot_of, ending_of}
use Rattle.fb_shots_stim.specs.TextDets.{ended_words, words_of, with_word, with_words, with_letter, line_dets, begun_dets, records_dets, prefix_dets, is_nothing, is_blank, after_record}
use Rattle.fb_shots_stim.specs.InternalParts.{with_parts, with_last_part, ended_parts, line_by_parts, begun_by_parts, records_by_parts, prefix_by_parts, is_skipped, after_by_parts, dets_rules}
use Rattle.fb_shots_stim.proofs.LemmasParts.{Parts, stays_parts}

-- ---- words

words_append : (n : ℕ) (r : Parts) (a b : List (List ℕ)) → with_words n r (a ++ b) ≡ with_words n (with_words n r a) b
words_append n (Err kind) a b = refl
words_append n (Ok so_far) [] b = refl
words_append n (Ok so_far) (word ∷ a) b = words_append n (with_word n so_far word) a b

parts_words : (n : ℕ) (r : Parts) (parts : List (List ℕ)) → with_parts dets_rules n r parts ≡ with_words n r (flat_map if_not_empty parts)
parts_words n (Err kind) parts = refl
parts_words n (Ok so_far) [] = refl
parts_words n (Ok so_far) (part ∷ parts) =
    parts_words n (with_words n (Ok so_far) (if_not_empty part)) parts
    ∙ sym (words_append n (Ok so_far) (if_not_empty part) (flat_map if_not_empty parts))

ended_dets : (n : ℕ) (line : List ℕ) → ended_parts dets_rules n line ≡ with_words n (Ok None) (ended_words line)
ended_dets n line = parts_words n (Ok None) (whole_parts 32 line)

last_dets : (n : ℕ) (r : Parts) (part : List ℕ) → with_last_part dets_rules n r part ≡ shot_of n (with_words n r (if_not_empty part))
last_dets n (Err kind) part = refl
last_dets n (Ok so_far) part = refl

words_end : (line : List ℕ) → words_of line ≡ ended_words line ++ if_not_empty (last_part 32 line)
words_end line =
    flat_map-append if_not_empty (whole_parts 32 line) (last_part 32 line ∷ [])
    ∙ ap (λ (ws : List (List ℕ)). ended_words line ++ ws) (append-nil (if_not_empty (last_part 32 line)))

line_as_parts : (n : ℕ) (line : List ℕ) → line_by_parts dets_rules n line ≡ line_dets n line
line_as_parts n line =
    ap (λ (r : Parts). with_last_part dets_rules n r (last_part 32 line)) (ended_dets n line)
    ∙ last_dets n (with_words n (Ok None) (ended_words line)) (last_part 32 line)
    ∙ ap (shot_of n) (sym (ap (with_words n (Ok None)) (words_end line) ∙ words_append n (Ok None) (ended_words line) (if_not_empty (last_part 32 line))))

begun_as_parts : (n : ℕ) (line : List ℕ) → begun_by_parts dets_rules n line ≡ begun_dets n line
begun_as_parts n line = ap ending_of (ended_dets n line)

pub lines_dets : (n : ℕ) → line_by_parts dets_rules n ≡ line_dets n
lines_dets n = fun_ext (line_as_parts n)

pub begun_lines_dets : (n : ℕ) → begun_by_parts dets_rules n ≡ begun_dets n
begun_lines_dets n = fun_ext (begun_as_parts n)

-- ---- a line is skipped where it has no word

abbrev pub NotNone : Parts → Type 0
NotNone r = r ≡ Ok None → ⊥

pub refused_named : (kind : Kind) → NotNone (Err kind)
refused_named kind e = absurd cc

some_named : (named : List ℕ) → NotNone (Ok (Some named))
some_named named e = absurd cc

either_named : (b : Bool) (x y : Parts) → NotNone x → NotNone y → NotNone (if b then x else y)
either_named true x y hx hy = hx
either_named false x y hx hy = hy

pub detector_named : (n : ℕ) (named : List ℕ) (k : ℕ) → NotNone (with_detector n named k)
detector_named n named k = either_named _ _ _ (either_named _ _ _ (refused_named RepeatedIndex) (some_named (named ++ k ∷ []))) (refused_named IndexOutOfRange)

letter_named : (n : ℕ) (named : List ℕ) (letter : ℕ) (index : Option ℕ) → NotNone (with_letter n named letter index)
letter_named n named letter None = refused_named BadToken
letter_named n named letter (Some k) =
    either_named _ _ _ (detector_named n named k)
    (either_named _ _ _ (some_named named) (either_named _ _ _ (refused_named MeasurementToken) (refused_named BadToken)))

word_named : (n : ℕ) (named word : List ℕ) → NotNone (with_word n (Some named) word)
word_named n named [] = refused_named BadToken
word_named n named (letter ∷ digits) = letter_named n named letter (index_of digits)

-- once a word has come, some word has come
never_none : (n : ℕ) (r : Parts) (words : List (List ℕ)) → NotNone r → NotNone (with_words n r words)
never_none n (Err kind) words h e = absurd cc
never_none n (Ok None) words h e = h refl
never_none n (Ok (Some named)) [] h e = absurd cc
never_none n (Ok (Some named)) (word ∷ words) h e = never_none n (with_word n (Some named) word) words (word_named n named word) e

first_named : (n : ℕ) (word : List ℕ) → NotNone (with_word n None word)
first_named n word = either_named _ _ _ (some_named []) (refused_named BadToken)

pub not_skipped : (n : ℕ) (r : Parts) → NotNone r → is_skipped (shot_of n r) ≡ false
not_skipped n (Ok None) h = absurd (h refl)
not_skipped n (Ok (Some named)) h = refl
not_skipped n (Err kind) h = refl

skipped_words : (n : ℕ) (words : List (List ℕ)) → is_skipped (shot_of n (with_words n (Ok None) words)) ≡ is_nothing words
skipped_words n [] = refl
skipped_words n (word ∷ words) = not_skipped n (with_words n (with_word n None word) words) (never_none n (with_word n None word) words (first_named n word))

blank_as_parts : (n : ℕ) → (λ (line : List ℕ). is_skipped (line_by_parts dets_rules n line)) ≡ is_blank
blank_as_parts n = fun_ext (λ line. ap is_skipped (line_as_parts n line) ∙ skipped_words n (words_of line))

-- ---- the format

pub records_as_dets : records_by_parts dets_rules ≡ records_dets
records_as_dets = fun_ext (λ n. ap (λ (judge : List ℕ → Judged (List ℕ) Kind). records_by_lines (bare judge)) (lines_dets n))

pub prefix_as_dets : prefix_by_parts dets_rules ≡ prefix_dets
prefix_as_dets = fun_ext (λ n.
    ap (λ (judge : List ℕ → Judged (List ℕ) Kind). prefix_by_lines (bare judge) (bare (begun_by_parts dets_rules n))) (lines_dets n)
    ∙ ap (λ (begun : List ℕ → Ending Kind). prefix_by_lines (bare (line_dets n)) (bare begun)) (begun_lines_dets n))

pub after_as_dets : after_by_parts dets_rules ≡ (λ n. after_record)
after_as_dets = fun_ext (λ n. ap (λ (blank : List ℕ → Bool). after_first (bare blank)) (blank_as_parts n))

pub stays_dets : (n : ℕ) → Stays (bare (line_dets n)) (bare (begun_dets n))
stays_dets n =
    subst₂ (λ (judge : List ℕ → Judged (List ℕ) Kind) (begun : List ℕ → Ending Kind). Stays (bare judge) (bare begun)) (lines_dets n) (begun_lines_dets n) (stays_parts dets_rules n)
