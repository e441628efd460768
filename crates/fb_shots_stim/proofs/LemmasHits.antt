-- `hits` as a format of lines of parts.
use Rattle.std.proofs.Common.{◌≡◌, ℕ, suc, Bool, false, List, [], ◌∷◌, ◌++◌, Option, Some, None, Ok, Err, refl, sym, ap, subst₂, ◌∙◌}
use Rattle.std.proofs.Math.Path.{fun_ext}
use Rattle.std.specs.List.{prefix_len}
use Rattle.fb_shots_stim.specs.declared.answer.Kind.{Kind}
use Rattle.fb_shots_stim.specs.declared.answer.Kind.TheVariants.{BadToken}
use Rattle.fb_records.specs.Records.{Ending, Judged}
use Rattle.fb_records.specs.Lines.{whole_parts, last_part, bare, after_line, after_lines, after_first, lines_of, Stays, records_by_lines, prefix_by_lines}
use Rattle.fb_records.proofs.LineLemmas.{whole_parts_one, last_part_none, without, within, splits}
use Rattle.fb_shots_stim.specs.NamedDetectors.{index_of, shot_of, ending_of}
use Rattle.fb_shots_stim.specs.TextHits.{hits_of, with_index, with_hit, with_hits, line_hits, begun_hits, records_hits, prefix_hits}
use Rattle.fb_shots_stim.specs.InternalParts.{with_parts, with_last_part, line_by_parts, begun_by_parts, records_by_parts, prefix_by_parts, is_skipped, after_by_parts, hits_rules}
use Rattle.fb_shots_stim.proofs.LemmasParts.{Parts, stays_parts}
use Rattle.fb_shots_stim.proofs.LemmasDets.{NotNone, refused_named, detector_named, not_skipped}

-- ---- hits

hits_append : (n : ℕ) (r : Parts) (a b : List (List ℕ)) → with_hits n r (a ++ b) ≡ with_hits n (with_hits n r a) b
hits_append n (Err kind) a b = refl
hits_append n (Ok so_far) [] b = refl
hits_append n (Ok so_far) (hit ∷ a) b = hits_append n (with_hit n so_far hit) a b

parts_hits : (n : ℕ) (r : Parts) (parts : List (List ℕ)) → with_parts hits_rules n r parts ≡ with_hits n r parts
parts_hits n (Err kind) parts = refl
parts_hits n (Ok so_far) [] = refl
parts_hits n (Ok so_far) (part ∷ parts) = parts_hits n (with_hit n so_far part) parts

-- a hit makes a record, or is refused
index_named : (n : ℕ) (named : List ℕ) (index : Option ℕ) → NotNone (with_index n named index)
index_named n named None = refused_named BadToken
index_named n named (Some k) = detector_named n named k

never_none : (n : ℕ) (r : Parts) (hits : List (List ℕ)) → NotNone r → NotNone (with_hits n r hits)
never_none n (Err kind) hits h e = absurd cc
never_none n (Ok None) hits h e = h refl
never_none n (Ok (Some named)) [] h e = absurd cc
never_none n (Ok (Some named)) (hit ∷ hits) h e = never_none n (with_hit n (Some named) hit) hits (index_named n named (index_of hit)) e

first_named : (n : ℕ) (hits : List (List ℕ)) → NotNone (with_hits n (Ok (Some [])) hits)
first_named n hits = never_none n (Ok (Some [])) hits (λ (e : Ok (Some []) ≡ Ok None). absurd cc)

-- ---- a line

last_hits : (n : ℕ) (r : Parts) (part : List ℕ) → NotNone r → with_last_part hits_rules n r part ≡ shot_of n (with_hits n r (part ∷ []))
last_hits n (Err kind) part h = refl
last_hits n (Ok None) part h = absurd (h refl)
last_hits n (Ok (Some named)) part h = ap (shot_of n) (sym (none_left n (with_hit n (Some named) part))) where
  none_left : (n : ℕ) (r : Parts) → with_hits n r [] ≡ r
  none_left n (Err kind) = refl
  none_left n (Ok so_far) = refl

-- a line without a comma, and one with a first comma
one_hit : (n b : ℕ) (line : List ℕ) → whole_parts 44 (b ∷ line) ≡ [] → last_part 44 (b ∷ line) ≡ b ∷ line → line_by_parts hits_rules n (b ∷ line) ≡ line_hits n (b ∷ line)
one_hit n b line none all =
    ap (λ (ps : List (List ℕ)). with_last_part hits_rules n (with_parts hits_rules n (Ok None) ps) (last_part 44 (b ∷ line))) none
    ∙ ap (with_last_part hits_rules n (Ok None)) all
    ∙ ap (shot_of n) (sym (none_left n (with_hit n None (b ∷ line))))
    ∙ sym (ap (λ (l : List ℕ). shot_of n (with_hits n (Ok (Some [])) (l ∷ []))) all)
    ∙ sym (ap (λ (ps : List (List ℕ)). shot_of n (with_hits n (Ok (Some [])) (ps ++ last_part 44 (b ∷ line) ∷ []))) none)
  where
    none_left : (n : ℕ) (r : Parts) → with_hits n r [] ≡ r
    none_left n (Err kind) = refl
    none_left n (Ok so_far) = refl

more_hits : (n b : ℕ) (line first : List ℕ) (parts : List (List ℕ)) → whole_parts 44 (b ∷ line) ≡ first ∷ parts → line_by_parts hits_rules n (b ∷ line) ≡ line_hits n (b ∷ line)
more_hits n b line first parts some =
    let last = last_part 44 (b ∷ line) in
    ap (λ (ps : List (List ℕ)). with_last_part hits_rules n (with_parts hits_rules n (Ok None) ps) last) some
    ∙ ap (λ (r : Parts). with_last_part hits_rules n r last) (parts_hits n (Ok None) (first ∷ parts))
    ∙ last_hits n (with_hits n (Ok (Some [])) (first ∷ parts)) last (first_named n (first ∷ parts))
    ∙ ap (shot_of n) (sym (hits_append n (Ok (Some [])) (first ∷ parts) (last ∷ [])))
    ∙ sym (ap (λ (ps : List (List ℕ)). shot_of n (with_hits n (Ok (Some [])) (ps ++ last ∷ []))) some)

line_as_parts : (n : ℕ) (line : List ℕ) → line_by_parts hits_rules n line ≡ line_hits n line
line_as_parts n [] = refl
line_as_parts n (b ∷ line) = by_comma n b line (whole_parts 44 (b ∷ line)) refl where
  whole : (b : ℕ) (line : List ℕ) → whole_parts 44 (b ∷ line) ≡ [] → last_part 44 (b ∷ line) ≡ b ∷ line
  whole b line none = elim (splits 44 (b ∷ line)) as (λ (l : List ℕ) _. whole_parts 44 l ≡ [] → last_part 44 l ≡ l) [
    | without p h ↦ λ none. last_part_none 44 p h
    | within p more h ↦ λ none. absurd (let some = whole_parts_one 44 p more h in cc)
  ] none

  by_comma : (n b : ℕ) (line : List ℕ) (parts : List (List ℕ)) → whole_parts 44 (b ∷ line) ≡ parts → line_by_parts hits_rules n (b ∷ line) ≡ line_hits n (b ∷ line)
  by_comma n b line [] e = one_hit n b line e (whole b line e)
  by_comma n b line (first ∷ parts) e = more_hits n b line first parts e

begun_as_parts : (n : ℕ) (line : List ℕ) → begun_by_parts hits_rules n line ≡ begun_hits n line
begun_as_parts n line = by_parts n (whole_parts 44 line) where
  by_parts : (n : ℕ) (parts : List (List ℕ)) → ending_of (with_parts hits_rules n (Ok None) parts) ≡ ending_of (with_hits n (Ok (Some [])) parts)
  by_parts n [] = refl
  by_parts n (part ∷ parts) = ap ending_of (parts_hits n (with_hit n None part) parts)

lines_hits : (n : ℕ) → line_by_parts hits_rules n ≡ line_hits n
lines_hits n = fun_ext (line_as_parts n)

begun_lines_hits : (n : ℕ) → begun_by_parts hits_rules n ≡ begun_hits n
begun_lines_hits n = fun_ext (begun_as_parts n)

-- ---- no line is skipped

abbrev never : List ℕ → Bool
never line = false

never_skipped : (n : ℕ) → (λ (line : List ℕ). is_skipped (line_by_parts hits_rules n line)) ≡ never
never_skipped n = fun_ext (λ line. ap is_skipped (line_as_parts n line) ∙ not_skipped n (with_hits n (Ok (Some [])) (hits_of line)) (first_named n (hits_of line)))

after_never : (bytes : List ℕ) → after_first (bare never) bytes ≡ after_line bytes
after_never bytes = ap (λ (k : ℕ). after_lines (suc k) bytes) (none (lines_of bytes)) where
  none : (lines : List (List ℕ)) → prefix_len (bare never) lines ≡ 0
  none [] = refl
  none (line ∷ lines) = refl

-- ---- the format

pub records_as_hits : records_by_parts hits_rules ≡ records_hits
records_as_hits = fun_ext (λ n. ap (λ (judge : List ℕ → Judged (List ℕ) Kind). records_by_lines (bare judge)) (lines_hits n))

pub prefix_as_hits : prefix_by_parts hits_rules ≡ prefix_hits
prefix_as_hits = fun_ext (λ n.
    ap (λ (judge : List ℕ → Judged (List ℕ) Kind). prefix_by_lines (bare judge) (bare (begun_by_parts hits_rules n))) (lines_hits n)
    ∙ ap (λ (begun : List ℕ → Ending Kind). prefix_by_lines (bare (line_hits n)) (bare begun)) (begun_lines_hits n))

pub after_as_hits : after_by_parts hits_rules ≡ (λ n. after_line)
after_as_hits = fun_ext (λ n. ap (λ (blank : List ℕ → Bool). after_first (bare blank)) (never_skipped n) ∙ fun_ext after_never)

pub stays_hits : (n : ℕ) → Stays (bare (line_hits n)) (bare (begun_hits n))
stays_hits n =
    subst₂ (λ (judge : List ℕ → Judged (List ℕ) Kind) (begun : List ℕ → Ending Kind). Stays (bare judge) (bare begun)) (lines_hits n) (begun_lines_hits n) (stays_parts hits_rules n)
