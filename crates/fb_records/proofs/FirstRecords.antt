-- What is left of an input without its first record.
use Rattle.std.proofs.Common.{◌≡◌, ℕ, zero, suc, ◌<◌, false, List, [], ◌∷◌, ◌++◌, length, Some, None, Ok, Err, refl, sym, ap, ◌∙◌, append_assoc, arith}
use Rattle.std.proofs.lemmas.List.{length-append}
use Rattle.fb_records.specs.Records.{Ending, Records, only, with_first_shot, Judged, with_line}
use Rattle.fb_records.specs.Lines.{holds, records_by_lines, prefix_by_lines}
use Rattle.fb_records.specs.Answers.{IsLeft}
use Rattle.fb_records.specs.Laws.{Leaves}
use Rattle.fb_records.proofs.LineLemmas.{without, within, splits}
use Rattle.fb_records.proofs.RecordLemmas.{Judge, Begun, records_one, prefix_one, prefix_none}

pub no_shots : {A K P : Type 0} (r : Records A K) (ending : Ending K) (shot : A) (shots : List A) → r ≡ only ending → r.shots ≡ shot ∷ shots → P
no_shots {A} {K} r ending shot shots e h = absurd (let none : r.shots ≡ [] = ap (λ (x : Records A K). x.shots) e in cc)

first_left : {A K : Type 0} (fuel : ℕ) (judge : Judge A K) (begun : Begun K) (after : List ℕ → List ℕ) → Leaves judge after → (bytes : List ℕ) (shot : A) (shots : List A) → length bytes < fuel
    → (prefix_by_lines judge begun bytes).shots ≡ shot ∷ shots → IsLeft (records_by_lines judge) (prefix_by_lines judge begun) bytes shot (after bytes)
first_left zero judge begun after leaves bytes shot shots lt e = absurd (omega arith)
first_left {A} {K} (suc fuel) judge begun after leaves bytes shot shots lt e =
    elim (splits 10 bytes) as (λ (b : List ℕ) _. length b < suc fuel → (prefix_by_lines judge begun b).shots ≡ shot ∷ shots → IsLeft (records_by_lines judge) (prefix_by_lines judge begun) b shot (after b)) [
      | without p h ↦ λ lt e. no_shots _ _ shot shots (prefix_none judge begun p h) e
      | within line m h ↦ λ lt e. by_line line m h (judge line) refl (λ less some. first_left fuel judge begun after leaves m shot shots (omega (arith, length-append line (10 ∷ m))) some) e
    ] lt e
  where
    by_line : (line m : List ℕ) → holds 10 line ≡ false → (given : Judged A K) → judge line ≡ given
        → (Unit {0} → (prefix_by_lines judge begun m).shots ≡ shot ∷ shots → IsLeft (records_by_lines judge) (prefix_by_lines judge begun) m shot (after m))
        → (prefix_by_lines judge begun (line ++ 10 ∷ m)).shots ≡ shot ∷ shots → IsLeft (records_by_lines judge) (prefix_by_lines judge begun) (line ++ 10 ∷ m) shot (after (line ++ 10 ∷ m))
    by_line line m h (Err kind) judged later e =
        no_shots _ _ shot shots (prefix_one judge begun line m h ∙ ap (λ (r : Judged A K). with_line r (prefix_by_lines judge begun m)) judged) e
    by_line line m h (Ok None) judged later e =
        let prefix : prefix_by_lines judge begun (line ++ 10 ∷ m) ≡ prefix_by_lines judge begun m =
        prefix_one judge begun line m h ∙ ap (λ (r : Judged A K). with_line r (prefix_by_lines judge begun m)) judged in
        let left = later tt (sym (ap (λ (x : Records A K). x.shots) prefix) ∙ e) in
        let skipped = leaves.skips line m h judged in (
          prefix ∙ left.0 ∙ ap (λ (l : List ℕ). with_first_shot shot (prefix_by_lines judge begun l)) (sym skipped),
          λ more. ap (records_by_lines judge) (append_assoc line (10 ∷ m) more) ∙ records_one judge line (m ++ more) h
              ∙ ap (λ (r : Judged A K). with_line r (records_by_lines judge (m ++ more))) judged
              ∙ left.1 more ∙ ap (λ (l : List ℕ). with_first_shot shot (records_by_lines judge (l ++ more))) (sym skipped),
          λ more. ap (prefix_by_lines judge begun) (append_assoc line (10 ∷ m) more) ∙ prefix_one judge begun line (m ++ more) h
              ∙ ap (λ (r : Judged A K). with_line r (prefix_by_lines judge begun (m ++ more))) judged
              ∙ left.2 more ∙ ap (λ (l : List ℕ). with_first_shot shot (prefix_by_lines judge begun (l ++ more))) (sym skipped),
        )
    by_line line m h (Ok (Some first)) judged later e =
        let prefix : prefix_by_lines judge begun (line ++ 10 ∷ m) ≡ with_first_shot first (prefix_by_lines judge begun m) =
        prefix_one judge begun line m h ∙ ap (λ (r : Judged A K). with_line r (prefix_by_lines judge begun m)) judged in
        let same : first ≡ shot = (let shown : first ∷ (prefix_by_lines judge begun m).shots ≡ shot ∷ shots = sym (ap (λ (x : Records A K). x.shots) prefix) ∙ e in cc) in
        let left = leaves.takes line m first h judged in (
          prefix ∙ ap (λ (s : A). with_first_shot s (prefix_by_lines judge begun m)) same ∙ ap (λ (l : List ℕ). with_first_shot shot (prefix_by_lines judge begun l)) (sym left),
          λ more. ap (records_by_lines judge) (append_assoc line (10 ∷ m) more) ∙ records_one judge line (m ++ more) h
              ∙ ap (λ (r : Judged A K). with_line r (records_by_lines judge (m ++ more))) judged
              ∙ ap (λ (s : A). with_first_shot s (records_by_lines judge (m ++ more))) same ∙ ap (λ (l : List ℕ). with_first_shot shot (records_by_lines judge (l ++ more))) (sym left),
          λ more. ap (prefix_by_lines judge begun) (append_assoc line (10 ∷ m) more) ∙ prefix_one judge begun line (m ++ more) h
              ∙ ap (λ (r : Judged A K). with_line r (prefix_by_lines judge begun (m ++ more))) judged
              ∙ ap (λ (s : A). with_first_shot s (prefix_by_lines judge begun (m ++ more))) same ∙ ap (λ (l : List ℕ). with_first_shot shot (prefix_by_lines judge begun (l ++ more))) (sym left),
        )

pub leaves_first : {A K : Type 0} (judge : Judge A K) (begun : Begun K) (after : List ℕ → List ℕ) → Leaves judge after → (bytes : List ℕ) (shot : A) (shots : List A)
    → (prefix_by_lines judge begun bytes).shots ≡ shot ∷ shots → IsLeft (records_by_lines judge) (prefix_by_lines judge begun) bytes shot (after bytes)
leaves_first judge begun after leaves bytes shot shots e = first_left (suc (length bytes)) judge begun after leaves bytes shot shots (omega arith) e
