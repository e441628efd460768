-- Where the bytes of a record of `r8` lead, and what a reader answers there.
use Rattle.std.proofs.Common.{◌≡◌, ℕ, ◌+◌, ◌<◌, ◌≤◌, Bool, true, false, List, [], ◌∷◌, ◌++◌, length, get_or, take, drop, refl, sym, ap, subst, ◌∙◌, append_assoc, arith}
use Rattle.std.proofs.lemmas.Bool.{lt-ltb, le-ltb, eq-eqb, ne_eqb}
use Rattle.std.proofs.lemmas.List.{append-nil, take_all, take_more, drop_more, take-append-drop, length-drop}
use Rattle.fb_records.specs.declared.answer.Next.TheVariants.{Shot, NotYet, End, Refused}
use Rattle.fb_records.specs.Records.{Ending, refused, only, with_first_shot}
use Rattle.fb_shots_stim.specs.declared.answer.Kind.{Kind}
use Rattle.fb_shots_stim.specs.declared.answer.Kind.TheVariants.{ShortRecord, LongRecord}
use Rattle.fb_shots_stim.specs.Shots.{IsShotOf}
use Rattle.fb_shots_stim.specs.RunsR8.{read_r8, end_r8, open_r8, records_r8, prefix_r8, after_r8_from}
use Rattle.fb_shots_stim.specs.InternalRises.{Rises}
use Rattle.fb_shots_stim.specs.InternalRuns.{LeadTo, IsInRun}
use Rattle.fb_shots_stim.specs.InternalAnswers.{AnswersR8}
use Rattle.fb_shots_stim.proofs.ShotLemmas.{rises_shot}

-- ---- one byte

pub read_long : (n : ℕ) (ending : ℕ → Ending Kind) (place b : ℕ) (named more : List ℕ) → place + b ≤ n → b ≡ 255 → read_r8 n ending place named (b ∷ more) ≡ read_r8 n ending (place + b) named more
read_long n ending place b named more le e = rw (le-ltb n (place + b) le, eq-eqb b 255 e) refl

pub read_hit : (n : ℕ) (ending : ℕ → Ending Kind) (place b : ℕ) (named more : List ℕ) → place + b < n → (b ≡ 255 → ⊥)
    → read_r8 n ending place named (b ∷ more) ≡ read_r8 n ending (place + b + 1) (named ++ (place + b) ∷ []) more
read_hit n ending place b named more lt ne = rw (le-ltb n (place + b) (omega arith), ne_eqb b 255 ne, ne_eqb (place + b) n (λ (e : place + b ≡ n). omega arith)) refl

pub read_end : (n : ℕ) (ending : ℕ → Ending Kind) (place b : ℕ) (named more : List ℕ) → place + b ≡ n → (b ≡ 255 → ⊥)
    → read_r8 n ending place named (b ∷ more) ≡ with_first_shot named (read_r8 n ending 0 [] more)
read_end n ending place b named more e ne = rw (le-ltb n (place + b) (omega arith), ne_eqb b 255 ne, eq-eqb (place + b) n e) refl

pub read_past : (n : ℕ) (ending : ℕ → Ending Kind) (place b : ℕ) (named more : List ℕ) → n < place + b → read_r8 n ending place named (b ∷ more) ≡ only (refused LongRecord)
read_past n ending place b named more lt = rw (lt-ltb n (place + b) lt) refl

pub after_long : (n place b : ℕ) (more : List ℕ) → b ≡ 255 → after_r8_from n place (b ∷ more) ≡ after_r8_from n (place + b) more
after_long n place b more e = rw (eq-eqb b 255 e) refl

pub after_hit : (n place b : ℕ) (more : List ℕ) → place + b < n → (b ≡ 255 → ⊥) → after_r8_from n place (b ∷ more) ≡ after_r8_from n (place + b + 1) more
after_hit n place b more lt ne = rw (ne_eqb b 255 ne, ne_eqb (place + b) n (λ (e : place + b ≡ n). omega arith)) refl

pub after_end : (n place b : ℕ) (more : List ℕ) → place + b ≡ n → (b ≡ 255 → ⊥) → after_r8_from n place (b ∷ more) ≡ more
after_end n place b more e ne = rw (ne_eqb b 255 ne, eq-eqb (place + b) n e) refl

-- ---- rising lists

pub rises_more : (low mid high x : ℕ) (xs : List ℕ) → Rises low mid xs → low ≤ x → mid ≤ x → x < high → Rises low high (xs ++ x ∷ [])
rises_more low mid high x [] r first le lt = (first, lt, tt)
rises_more low mid high x (y ∷ xs) r first le lt =
    let below : y < mid = r.1 in
    (r.0, omega arith, rises_more (y + 1) mid high x xs r.2 (omega arith) le lt)

pub rises_higher : (low mid high : ℕ) (xs : List ℕ) → Rises low mid xs → mid ≤ high → Rises low high xs
rises_higher low mid high [] r le = tt
rises_higher low mid high (y ∷ xs) r le =
    let below : y < mid = r.1 in
    (r.0, omega arith, rises_higher (y + 1) mid high xs r.2 le)

-- ---- where bytes lead

lead_more : (n : ℕ) (bytes : List ℕ) (b place next : ℕ) (named now : List ℕ) → LeadTo n bytes place named → next ≤ n → Rises 0 next now
    → ((ending : ℕ → Ending Kind) (more : List ℕ) → read_r8 n ending place named (b ∷ more) ≡ read_r8 n ending next now more)
    → ((more : List ℕ) → after_r8_from n place (b ∷ more) ≡ after_r8_from n next more) → LeadTo n (bytes ++ b ∷ []) next now
lead_more n bytes b place next named now lead within rises read left = record {
  read = λ ending more. ap (read_r8 n ending 0 []) (append_assoc bytes (b ∷ []) more) ∙ lead.read ending (b ∷ more) ∙ read ending more;
  left = λ more. ap (after_r8_from n 0) (append_assoc bytes (b ∷ []) more) ∙ lead.left (b ∷ more) ∙ left more;
  within = within;
  rises = rises;
}

run_more : (n place next : ℕ) (named now : List ℕ) (seen : ℕ) (bytes : List ℕ) → IsInRun n place named seen bytes → seen < length bytes → next ≤ n → Rises 0 next now
    → ((ending : ℕ → Ending Kind) (more : List ℕ) → read_r8 n ending place named (get_or bytes seen 0 ∷ more) ≡ read_r8 n ending next now more)
    → ((more : List ℕ) → after_r8_from n place (get_or bytes seen 0 ∷ more) ≡ after_r8_from n next more) → IsInRun n next now (seen + 1) bytes
run_more n place next named now seen bytes run lt within rises read left = record {
  within = omega arith;
  lead = subst (λ (l : List ℕ). LeadTo n l next now) (sym (take_more bytes seen 0 lt)) (lead_more n (take seen bytes) (get_or bytes seen 0) place next named now run.lead within rises read left);
}

pub run_start : (n : ℕ) → IsInRun n 0 [] 0 []
run_start n = record {
  within = omega arith;
  lead = record { read = λ ending more. refl; left = λ more. refl; within = omega arith; rises = tt };
}

pub run_anew : (n : ℕ) (bytes : List ℕ) → IsInRun n 0 [] 0 bytes
run_anew n bytes = record {
  within = omega arith;
  lead = record { read = λ ending more. refl; left = λ more. refl; within = omega arith; rises = tt };
}

-- 255 detectors that didn't fire, and none after them that did
pub run_long : (n place next : ℕ) (named : List ℕ) (seen : ℕ) (bytes : List ℕ) → IsInRun n place named seen bytes → seen < length bytes → next ≡ place + get_or bytes seen 0 → get_or bytes seen 0 ≡ 255 → next ≤ n
    → IsInRun n next named (seen + 1) bytes
run_long n place next named seen bytes run lt is e le =
    let b = get_or bytes seen 0 in
    subst (λ (k : ℕ). IsInRun n k named (seen + 1) bytes) (sym is)
    (run_more n place (place + b) named named seen bytes run lt (omega arith) (rises_higher 0 place (place + b) named run.lead.rises (omega arith))
    (λ ending more. read_long n ending place b named more (omega arith) e) (λ more. after_long n place b more e))

-- detectors that didn't fire, and one that did
pub run_hit : (n place next : ℕ) (named : List ℕ) (seen : ℕ) (bytes : List ℕ) → IsInRun n place named seen bytes → seen < length bytes → next ≡ place + get_or bytes seen 0 → (get_or bytes seen 0 ≡ 255 → ⊥) → next < n
    → IsInRun n (next + 1) (named ++ next ∷ []) (seen + 1) bytes
run_hit n place next named seen bytes run lt is ne below =
    let b = get_or bytes seen 0 in
    subst (λ (k : ℕ). IsInRun n (k + 1) (named ++ k ∷ []) (seen + 1) bytes) (sym is)
    (run_more n place (place + b + 1) named (named ++ (place + b) ∷ []) seen bytes run lt (omega arith) (rises_more 0 place (place + b + 1) (place + b) named run.lead.rises (omega arith) (omega arith) (omega arith))
    (λ ending more. read_hit n ending place b named more (omega arith) ne) (λ more. after_hit n place b more (omega arith) ne))

-- ---- answers

-- what the bytes hold, by those not yet seen
rest_read : (n place : ℕ) (named : List ℕ) (seen : ℕ) (rest : List ℕ) → IsInRun n place named seen rest → (ending : ℕ → Ending Kind) (more : List ℕ)
    → read_r8 n ending 0 [] (rest ++ more) ≡ read_r8 n ending place named (drop seen rest ++ more)
rest_read n place named seen rest run ending more =
    ap (λ (l : List ℕ). read_r8 n ending 0 [] (l ++ more)) (sym (take-append-drop seen rest))
    ∙ ap (read_r8 n ending 0 []) (append_assoc (take seen rest) (drop seen rest) more) ∙ run.lead.read ending (drop seen rest ++ more)

-- the same by the next byte
next_read : (n place : ℕ) (named : List ℕ) (seen : ℕ) (rest : List ℕ) → IsInRun n place named seen rest → seen < length rest → (ending : ℕ → Ending Kind) (more : List ℕ)
    → read_r8 n ending 0 [] (rest ++ more) ≡ read_r8 n ending place named (get_or rest seen 0 ∷ (drop (seen + 1) rest ++ more))
next_read n place named seen rest run lt ending more =
    rest_read n place named seen rest run ending more ∙ ap (λ (l : List ℕ). read_r8 n ending place named (l ++ more)) (drop_more rest seen 0 lt)

-- of what is, without more
no_more : {R : Type 0} (f : List ℕ → R) (rest left : List ℕ) (g : List ℕ → R) → ((more : List ℕ) → f (rest ++ more) ≡ g (left ++ more)) → f rest ≡ g left
no_more f rest left g h = ap f (sym (append-nil rest)) ∙ h [] ∙ ap g (append-nil left)

pub run_past : (n place : ℕ) (named : List ℕ) (seen : ℕ) (rest : List ℕ) (finished : Bool) → IsInRun n place named seen rest → seen < length rest → n < place + get_or rest seen 0 → AnswersR8 n rest finished rest (Refused LongRecord)
run_past n place named seen rest finished run lt past =
    let go = λ (ending : ℕ → Ending Kind) (more : List ℕ). next_read n place named seen rest run lt ending more ∙ read_past n ending place (get_or rest seen 0) named (drop (seen + 1) rest ++ more) past in (
      record {
        now = ap (records_r8 n) (sym (append-nil rest)) ∙ go end_r8 [];
        so_far = λ _. ap (prefix_r8 n) (sym (append-nil rest)) ∙ go open_r8 [];
        later = λ _ more. go end_r8 more;
      },
      refl,
    )

pub run_shot : (n place : ℕ) (named : List ℕ) (seen : ℕ) (rest : List ℕ) (finished : Bool) → IsInRun n place named seen rest → seen < length rest → (get_or rest seen 0 ≡ 255 → ⊥) → place + get_or rest seen 0 ≡ n
    → AnswersR8 n rest finished (drop (seen + 1) rest) (Shot named)
run_shot n place named seen rest finished run lt ne e =
    let b = get_or rest seen 0 in
    let left = drop (seen + 1) rest in
    let go = λ (ending : ℕ → Ending Kind) (more : List ℕ). next_read n place named seen rest run lt ending more ∙ read_end n ending place b named (left ++ more) e ne in
    let after : after_r8_from n 0 rest ≡ left =
    ap (after_r8_from n 0) (sym (take-append-drop seen rest)) ∙ run.lead.left (drop seen rest)
    ∙ ap (after_r8_from n place) (drop_more rest seen 0 lt) ∙ after_end n place b left e ne in (
      record {
        shorter = omega (arith, length-drop (seen + 1) rest);
        now = no_more (records_r8 n) rest left (λ l. with_first_shot named (records_r8 n l)) (go end_r8);
        so_far = λ _. no_more (prefix_r8 n) rest left (λ l. with_first_shot named (prefix_r8 n l)) (go open_r8);
        later = λ _ more. go end_r8 more;
        onward = λ _ more. go open_r8 more;
      },
      ap (λ (l : List ℕ). record { subject = n; rest = l; finished = finished }) (sym after),
    )

pub run_is_shot : (n place : ℕ) (named : List ℕ) (seen : ℕ) (rest : List ℕ) → IsInRun n place named seen rest → IsShotOf n named
run_is_shot n place named seen rest run = rises_shot n named (rises_higher 0 place n named run.lead.rises run.lead.within)

-- ---- the end of what was fed

all_read : (n place : ℕ) (named : List ℕ) (seen : ℕ) (rest : List ℕ) → IsInRun n place named seen rest → length rest ≤ seen → (ending : ℕ → Ending Kind) → read_r8 n ending 0 [] rest ≡ only (ending place)
all_read n place named seen rest run all ending =
    ap (read_r8 n ending 0 []) (sym (take_all seen rest all) ∙ sym (append-nil (take seen rest))) ∙ run.lead.read ending []

pub run_open : (n place : ℕ) (named : List ℕ) (seen : ℕ) (rest : List ℕ) (finished : Bool) → IsInRun n place named seen rest → length rest ≤ seen → finished ≡ false → AnswersR8 n rest finished rest NotYet
run_open n place named seen rest finished run all e = (e, all_read n place named seen rest run all open_r8, refl)

pub run_over : (n place : ℕ) (named : List ℕ) (seen : ℕ) (rest : List ℕ) (finished : Bool) → IsInRun n place named seen rest → length rest ≤ seen → finished ≡ true → place ≡ 0 → AnswersR8 n rest finished rest End
run_over n place named seen rest finished run all done none = (done, all_read n place named seen rest run all end_r8 ∙ ap (λ (k : ℕ). only (end_r8 k)) none, refl)

false_true : {P : Type 0} (b : Bool) → b ≡ true → b ≡ false → P
false_true b t f = absurd cc

pub run_short : (n place : ℕ) (named : List ℕ) (seen : ℕ) (rest : List ℕ) (finished : Bool) → IsInRun n place named seen rest → length rest ≤ seen → finished ≡ true → (place ≡ 0 → ⊥) → AnswersR8 n rest finished rest (Refused ShortRecord)
run_short n place named seen rest finished run all done some =
    let short : end_r8 place ≡ refused ShortRecord = rw (ne_eqb place 0 some) refl in (
      record {
        now = all_read n place named seen rest run all end_r8 ∙ ap only short;
        so_far = λ f. false_true finished done f;
        later = λ f. false_true finished done f;
      },
      refl,
    )
