-- An input in `r8` in two pieces, and without its first record.
use Rattle.std.proofs.Common.{◌≡◌, ℕ, ◌+◌, ◌<◌, ◌≤◌, List, [], ◌∷◌, ◌++◌, refl, sym, ap, ◌∙◌, inl, inr, arith}
use Rattle.std.proofs.lemmas.Bool.{cases_eq, cases_lt}
use Rattle.std.proofs.lemmas.List.{append-nil}
use Rattle.fb_records.specs.Records.{Ending, refused, Records, only, with_first_shot, GoesOn}
use Rattle.fb_records.specs.Answers.{GoesOnAnywhere, FirstRecordLeaves}
use Rattle.fb_records.proofs.FirstRecords.{no_shots}
use Rattle.fb_shots_stim.specs.declared.answer.Kind.{Kind}
use Rattle.fb_shots_stim.specs.declared.answer.Kind.TheVariants.{LongRecord}
use Rattle.fb_shots_stim.specs.RunsR8.{read_r8, end_r8, open_r8, records_r8, prefix_r8, after_r8, after_r8_from}
use Rattle.fb_shots_stim.proofs.LemmasR8.{read_long, read_hit, read_end, read_past, after_long, after_hit, after_end}

-- what a byte is at a place: one too many, 255, the end, or that of a detector that fired
data ByteIs (n place b : ℕ) : Type 0 where
  past : n < place + b → ByteIs n place b
  long : place + b ≤ n → b ≡ 255 → ByteIs n place b
  last : place + b ≡ n → (b ≡ 255 → ⊥) → ByteIs n place b
  hit : place + b < n → (b ≡ 255 → ⊥) → ByteIs n place b

byte_is : (n place b : ℕ) → ByteIs n place b
byte_is n place b = elim (cases_lt n (place + b)) [
  | inl lt ↦ past lt
  | inr le ↦ elim (cases_eq b 255) [
    | inl e ↦ long le e
    | inr ne ↦ elim (cases_eq (place + b) n) [
      | inl same ↦ last same ne
      | inr other ↦ hit (omega arith) ne
    ]
  ]
]

-- ---- two pieces

go_on : (prefix all prefix_is all_is : Records (List ℕ) Kind) → prefix ≡ prefix_is → all ≡ all_is → GoesOn prefix_is all_is → GoesOn prefix all
go_on prefix all prefix_is all_is p a g = rw (p, a) g

shot_goes_on : (shot : List ℕ) (prefix all : Records (List ℕ) Kind) → GoesOn prefix all → GoesOn (with_first_shot shot prefix) (with_first_shot shot all)
shot_goes_on shot prefix all g = record {
  shots = (g.shots.0, ap (λ (ss : List (List ℕ)). shot ∷ ss) g.shots.1);
  judged = λ kind e. ap (with_first_shot shot) (g.judged kind e);
}

refused_goes_on : (kind : Kind) → GoesOn {A = List ℕ} (only (refused kind)) (only (refused kind))
refused_goes_on kind = record { shots = ([], refl); judged = λ k e. refl }

read_goes_on : (n : ℕ) (ending : ℕ → Ending Kind) (place : ℕ) (named bytes more : List ℕ) → GoesOn (read_r8 n open_r8 place named bytes) (read_r8 n ending place named (bytes ++ more))
read_goes_on n ending place named [] more = record { shots = ((read_r8 n ending place named more).shots, refl); judged = λ kind e. absurd cc }
read_goes_on n ending place named (b ∷ bytes) more = elim (byte_is n place b) [
  | past lt ↦ go_on _ _ _ _ (read_past n open_r8 place b named bytes lt) (read_past n ending place b named (bytes ++ more) lt) (refused_goes_on LongRecord)
  | long le e ↦ go_on _ _ _ _ (read_long n open_r8 place b named bytes le e) (read_long n ending place b named (bytes ++ more) le e) (read_goes_on n ending (place + b) named bytes more)
  | last same ne ↦ go_on _ _ _ _ (read_end n open_r8 place b named bytes same ne) (read_end n ending place b named (bytes ++ more) same ne) (shot_goes_on named _ _ (read_goes_on n ending 0 [] bytes more))
  | hit lt ne ↦ go_on _ _ _ _ (read_hit n open_r8 place b named bytes lt ne) (read_hit n ending place b named (bytes ++ more) lt ne) (read_goes_on n ending (place + b + 1) (named ++ (place + b) ∷ []) bytes more)
]

pub goes_on_r8 : GoesOnAnywhere records_r8 prefix_r8
goes_on_r8 n bytes more = (read_goes_on n end_r8 0 [] bytes more, read_goes_on n open_r8 0 [] bytes more)

-- ---- the first record

-- what the bytes hold with others behind them: the shot, and what is left of them
abbrev LeavesAfter : (n place : ℕ) (named bytes shot : List ℕ) → Type 0
LeavesAfter n place named bytes shot =
    (ending : ℕ → Ending Kind) (more : List ℕ) → read_r8 n ending place named (bytes ++ more) ≡ with_first_shot shot (read_r8 n ending 0 [] (after_r8_from n place bytes ++ more))

leaves_by : (n place next : ℕ) (named now : List ℕ) (b : ℕ) (bytes shot : List ℕ)
    → ((ending : ℕ → Ending Kind) (more : List ℕ) → read_r8 n ending place named (b ∷ more) ≡ read_r8 n ending next now more)
    → after_r8_from n place (b ∷ bytes) ≡ after_r8_from n next bytes → LeavesAfter n next now bytes shot → LeavesAfter n place named (b ∷ bytes) shot
leaves_by n place next named now b bytes shot read after left ending more =
    read ending (bytes ++ more) ∙ left ending more ∙ ap (λ (l : List ℕ). with_first_shot shot (read_r8 n ending 0 [] (l ++ more))) (sym after)

leaves_end : (n place : ℕ) (named : List ℕ) (b : ℕ) (bytes shot : List ℕ) → place + b ≡ n → (b ≡ 255 → ⊥) → named ≡ shot → LeavesAfter n place named (b ∷ bytes) shot
leaves_end n place named b bytes shot e ne same ending more =
    read_end n ending place b named (bytes ++ more) e ne ∙ ap (λ (s : List ℕ). with_first_shot s (read_r8 n ending 0 [] (bytes ++ more))) same
    ∙ ap (λ (l : List ℕ). with_first_shot shot (read_r8 n ending 0 [] (l ++ more))) (sym (after_end n place b bytes e ne))

first_shot : (r s : Records (List ℕ) Kind) (named shot : List ℕ) (shots : List (List ℕ)) → r ≡ with_first_shot named s → r.shots ≡ shot ∷ shots → named ≡ shot
first_shot r s named shot shots e h = let shown : named ∷ s.shots ≡ shot ∷ shots = sym (ap (λ (x : Records (List ℕ) Kind). x.shots) e) ∙ h in cc

leaves_first : (n place : ℕ) (named bytes shot : List ℕ) (shots : List (List ℕ)) → (read_r8 n open_r8 place named bytes).shots ≡ shot ∷ shots → LeavesAfter n place named bytes shot
leaves_first n place named [] shot shots h = absurd cc
leaves_first n place named (b ∷ bytes) shot shots h = elim (byte_is n place b) [
  | past lt ↦ no_shots _ _ shot shots (read_past n open_r8 place b named bytes lt) h
  | long le e ↦
      leaves_by n place (place + b) named named b bytes shot (λ ending more. read_long n ending place b named more le e) (after_long n place b bytes e)
      (leaves_first n (place + b) named bytes shot shots (shown _ _ shot shots (read_long n open_r8 place b named bytes le e) h))
  | last same ne ↦ leaves_end n place named b bytes shot same ne (first_shot _ _ named shot shots (read_end n open_r8 place b named bytes same ne) h)
  | hit lt ne ↦
      leaves_by n place (place + b + 1) named (named ++ (place + b) ∷ []) b bytes shot (λ ending more. read_hit n ending place b named more lt ne) (after_hit n place b bytes lt ne)
      (leaves_first n (place + b + 1) (named ++ (place + b) ∷ []) bytes shot shots (shown _ _ shot shots (read_hit n open_r8 place b named bytes lt ne) h))
]
  where
    shown : (r s : Records (List ℕ) Kind) (shot : List ℕ) (shots : List (List ℕ)) → r ≡ s → r.shots ≡ shot ∷ shots → s.shots ≡ shot ∷ shots
    shown r s shot shots e h = sym (ap (λ (x : Records (List ℕ) Kind). x.shots) e) ∙ h

pub leaves_r8 : FirstRecordLeaves records_r8 prefix_r8 after_r8
leaves_r8 n bytes shot shots h =
    let left = leaves_first n 0 [] bytes shot shots h in
    (no_more n bytes shot left, left end_r8, left open_r8)
  where
    no_more : (n : ℕ) (bytes shot : List ℕ) → LeavesAfter n 0 [] bytes shot → prefix_r8 n bytes ≡ with_first_shot shot (prefix_r8 n (after_r8 n bytes))
    no_more n bytes shot left =
        ap (prefix_r8 n) (sym (append-nil bytes)) ∙ left open_r8 [] ∙ ap (λ (l : List ℕ). with_first_shot shot (prefix_r8 n l)) (append-nil (after_r8 n bytes))
