-- The results of a step of a reader, for each format.
use Rattle.std.specs.Prelude.{ℕ, Bool, List, drop}
use Rattle.fb_records.specs.declared.answer.Next.{Next}
use Rattle.fb_records.specs.Lines.{after_line}
use Rattle.fb_records.specs.Steps.{AnswersRest}
use Rattle.fb_shots_stim.specs.declared.answer.Kind.{Kind}
use Rattle.fb_shots_stim.specs.Text01.{records_01, prefix_01}
use Rattle.fb_shots_stim.specs.BlocksB8.{block_len, records_b8, prefix_b8}
use Rattle.fb_shots_stim.specs.InternalParts.{PartRules, records_by_parts, prefix_by_parts, after_by_parts}
use Rattle.fb_shots_stim.specs.RunsR8.{records_r8, prefix_r8, after_r8}

-- the result for a rest of `01`, for `n` detectors, and what it leaves
abbrev pub Answers01 : ℕ → List ℕ → Bool → List ℕ → Next (List ℕ) Kind → Type 0
Answers01 = AnswersRest records_01 prefix_01 (λ n. after_line)

-- the same of `b8`
abbrev pub AnswersB8 : ℕ → List ℕ → Bool → List ℕ → Next (List ℕ) Kind → Type 0
AnswersB8 = AnswersRest records_b8 prefix_b8 (λ n. drop (block_len n))

-- the same of a format of lines of parts
abbrev pub AnswersParts : PartRules → ℕ → List ℕ → Bool → List ℕ → Next (List ℕ) Kind → Type 0
AnswersParts rules = AnswersRest (records_by_parts rules) (prefix_by_parts rules) (after_by_parts rules)

-- the same of `r8`
abbrev pub AnswersR8 : ℕ → List ℕ → Bool → List ℕ → Next (List ℕ) Kind → Type 0
AnswersR8 = AnswersRest records_r8 prefix_r8 after_r8
