-- Batches one after another, and one more at their end.
use Rattle.std.proofs.Common.{◌≡◌, ◌≢◌, ℕ, suc, ◌+◌, ◌*◌, ◌<◌, ◌≤◌, cond, not, Bool, true, false, List, [], ◌∷◌, ◌++◌, length, take, drop, get_or, count_by, refl, sym, ap, subst, ◌∙◌, arith, append_assoc, append-nil, length-append, length-drop}
use Rattle.std.proofs.Math.Nat.{mul-suc}
use Rattle.std.proofs.lemmas.List.{drop-append-le, drop_all, length-take-le, take-append-drop, take-append-le, take_all, take_more}
use Rattle.std.proofs.lemmas.List.Concat.{flat_map-append}
use Rattle.std.proofs.lemmas.List.Elements.{All-cons, All-head, All-nil, All-weaker}
use Rattle.std.proofs.lemmas.List.Sums.{sum_by-append, sum_by-cons}
use Rattle.std.proofs.lemmas.Slice.Zip.{AllZip-long}
use Rattle.std.specs.List.{All}
use Rattle.fb_book.specs.declared.entries.Entry.{Entry}
use Rattle.fb_crew.specs.Windows.{AreRows, IsHistoryOf, IsShotRow, best_places, is_best}
use Rattle.fb_graph.proofs.Sets.{is_in-All}
use Rattle.fb_graph.specs.Limits.{DecodingGraph, ShotValue}
use Rattle.fb_graph.specs.Parity.{is_in}
use Rattle.fb_graph.specs.declared.parts.Row.{Row}
use Rattle.fb_graph.specs.declared.parts.Row.TheVariants.{Best, Odd}
use Rattle.fb_plan.specs.Plans.{PlanTree}
use Rattle.fb_run.specs.Decoding.{AnswersBatch, AreBatches, Batch, all_rows, batch_text, batches_text, events_text}
use Rattle.fb_run.specs.InternalBatches.{AddsCounts}
use Rattle.fb_run.specs.Rows.{Counts, counts_of, is_odd}
use Rattle.fb_run.specs.InternalWrites.{tally_with, counts_in}
use Rattle.fb_run.specs.declared.batches.RowCounts.{RowCounts}
use Rattle.fb_report.specs.Texts.{rows_text}
use Rattle.fb_request.specs.Requests.{Decoding}

-- ---- counts

count_by-append : (p : Row → Bool) (xs ys : List Row) → count_by p (xs ++ ys) ≡ count_by p xs + count_by p ys
count_by-append p xs ys = sum_by-append (λ x. cond (p x) 1 0) xs ys

one_of_both : (b : Bool) → cond {A = ℕ} b 1 0 + cond {A = ℕ} (not b) 1 0 ≡ 1
one_of_both true = refl
one_of_both false = refl

-- each row is a correction or odd
pub counts_all : (rows : List Row) → (counts_of rows).best + (counts_of rows).odd ≡ length rows
counts_all [] = refl
counts_all (r ∷ rows) = omega (
  arith,
  sum_by-cons (λ x. cond (is_best x) 1 0) r rows,
  sum_by-cons (λ x. cond (is_odd x) 1 0) r rows,
  one_of_both (is_best r),
  counts_all rows,
)

same_counts : (a b c d : ℕ) → a ≡ c → b ≡ d → ◌≡◌ {A = Counts} (record { best = a; odd = b }) (record { best = c; odd = d })
same_counts a b c d p q = cc

pub counts_added : (tally more : RowCounts) (rows added : List Row) → counts_in tally ≡ counts_of rows → AddsCounts tally more added
    → counts_in more ≡ counts_of (rows ++ added)
counts_added tally more rows added so_far adds = same_counts _ _ _ _
    (adds.best ∙ ap (λ (c : Counts). c.best + (counts_of added).best) so_far ∙ sym (count_by-append is_best rows added))
    (adds.odd ∙ ap (λ (c : Counts). c.odd + (counts_of added).odd) so_far ∙ sym (count_by-append is_odd rows added))

-- the count of all rows, with these
pub rows_added : (tally more : RowCounts) (rows : List Row) → AddsCounts tally more rows → more.best + more.odd ≡ (tally.best + tally.odd) + length rows
rows_added tally more rows adds = omega (arith, adds.best, adds.odd, counts_all rows)

pub rows_added-take : (tally more : RowCounts) (rows : List Row) (i : ℕ) → i ≤ length rows → AddsCounts tally more (take i rows)
    → more.best + more.odd ≡ (tally.best + tally.odd) + i
rows_added-take tally more rows i le adds = omega (arith, rows_added tally more (take i rows) adds, length-take-le i rows le)

-- one more of the rows is counted
pub counts-take : (tally now : RowCounts) (rows : List Row) (i : ℕ) (row : Row) → i < length rows → row ≡ get_or rows i row → AddsCounts tally now (take i rows)
    → AddsCounts tally (tally_with now row) (take (i + 1) rows)
counts-take tally now rows i row less is adds = subst (AddsCounts tally (tally_with now row))
    (ap (λ r. take i rows ++ r ∷ []) is ∙ sym (take_more rows i row less))
    (by_row row)
  where
    by_row : (r : Row) → AddsCounts tally (tally_with now r) (take i rows ++ r ∷ [])
    by_row (Best edges base weight cuts) = record {
      best = omega (arith, adds.best, count_by-append is_best (take i rows) (Best edges base weight cuts ∷ []));
      odd = omega (arith, adds.odd, count_by-append is_odd (take i rows) (Best edges base weight cuts ∷ []));
    }
    by_row (Odd v) = record {
      best = omega (arith, adds.best, count_by-append is_best (take i rows) (Odd v ∷ []));
      odd = omega (arith, adds.odd, count_by-append is_odd (take i rows) (Odd v ∷ []));
    }

pub counted_rows : (tally : RowCounts) (rows : List Row) → counts_in tally ≡ counts_of rows → tally.best + tally.odd ≡ length rows
counted_rows tally rows e = ap (λ (c : Counts). c.best + c.odd) e ∙ counts_all rows

-- ---- rows and texts

all_rows-push : (bs : List Batch) (b : Batch) → all_rows (bs ++ b ∷ []) ≡ all_rows bs ++ b.rows
all_rows-push bs b = flat_map-append (λ (c : Batch). c.rows) bs (b ∷ []) ∙ ap (λ rows. all_rows bs ++ rows) (append-nil b.rows)

batches_text-push : (trace : Bool) (k : ℕ) (bs : List Batch) (b : Batch)
    → batches_text trace k (bs ++ b ∷ []) ≡ batches_text trace k bs ++ batch_text trace (k + length (all_rows bs)) b
batches_text-push trace k [] b =
    let e : k ≡ k + length (all_rows []) = omega arith in
    append-nil (batch_text trace k b) ∙ ap (λ n. batch_text trace n b) e
batches_text-push trace k (c ∷ bs) b =
    let e : (k + length c.rows) + length (all_rows bs) ≡ k + length (all_rows (c ∷ bs)) = omega (arith, length-append c.rows (all_rows bs)) in
    ap (λ text. batch_text trace k c ++ text)
    (batches_text-push trace (k + length c.rows) bs b ∙ ap (λ n. batches_text trace (k + length c.rows) bs ++ batch_text trace n b) e)
    ∙ sym (append_assoc (batch_text trace k c) (batches_text trace (k + length c.rows) bs) (batch_text trace (k + length (all_rows (c ∷ bs))) b))

-- ---- a history's slots are places of rows

places_later : (rows : List Row) (k : ℕ) → All (λ v. v < (k + 1) + length rows) (best_places (k + 1) rows)
    → All (λ v. v < k + suc (length rows)) (best_places (k + 1) rows)
places_later rows k within = All-weaker (λ v. v < (k + 1) + length rows) (λ v. v < k + suc (length rows)) (λ v less. omega arith) (best_places (k + 1) rows) within

places_within : (rows : List Row) (k : ℕ) → All (λ v. v < k + length rows) (best_places k rows)
places_within [] k = All-nil (λ v. v < k + length (let none : List Row = [] in none))
places_within (Best edges base weight cuts ∷ rows) k =
    All-cons (λ v. v < k + suc (length rows)) k (best_places (k + 1) rows) (omega arith) (places_later rows k (places_within rows (k + 1)))
places_within (Odd v ∷ rows) k = places_later rows k (places_within rows (k + 1))

pub slots_within : (rows : List Row) (history : List Entry) → All (λ e. is_in (best_places 0 rows) e.slot ≡ true) history
    → All (λ e. e.slot < length rows) history
slots_within rows history within = All-weaker (λ e. is_in (best_places 0 rows) e.slot ≡ true) (λ e. e.slot < length rows)
    (λ e held. omega (arith, is_in-All (λ v. v < 0 + length rows) (best_places 0 rows) (places_within rows 0) e.slot held)) history within

-- ---- a batch without shots

no_entry : (history : List Entry) → All (λ e. is_in (best_places 0 []) e.slot ≡ true) history → history ≡ []
no_entry [] within = refl
no_entry (e ∷ es) within = absurd (false_true (All-head (λ e. is_in (best_places 0 []) e.slot ≡ true) e es within))
  where
    false_true : ◌≡◌ {A = Bool} false true → ⊥
    false_true p = cc

no_rows : (g : DecodingGraph) (rows : List Row) → AreRows g [] rows → rows ≡ []
no_rows g [] answers = refl
no_rows g (r ∷ rows) answers = absurd answers

no_events : (trace : Bool) (first : ℕ) (history : List Entry) → (trace ≡ true → history ≡ []) → events_text trace first history ≡ []
no_events false first history none = refl
no_events true first history none = rw (none refl)

module _ (request : Decoding) (g : DecodingGraph) (t : PlanTree) where
  -- a batch without rows has no text
  pub bare-batch : (first : ℕ) (shots : List ShotValue) (b : Batch) → AnswersBatch request g t shots b → b.rows ≡ [] → batch_text request.trace first b ≡ []
  bare-batch first shots b answers none =
      ap (λ rows. rows_text first rows ++ events_text request.trace first b.history) none
      ∙ no_events request.trace first b.history (λ traced. no_entry b.history (history_of traced).within)
    where
      history_of : request.trace ≡ true → IsHistoryOf t request.workers [] b.history
      history_of traced = subst (λ rows. IsHistoryOf t request.workers rows b.history) none (answers.history traced)

  no_batch_rows : (b : Batch) → AnswersBatch request g t [] b → b.rows ≡ []
  no_batch_rows b answers = no_rows g b.rows answers.rows

  no_batch_text : (first : ℕ) (b : Batch) → AnswersBatch request g t [] b → batch_text request.trace first b ≡ []
  no_batch_text first b answers = bare-batch first [] b answers (no_batch_rows b answers)

  -- ---- the batches of shots

  append_not_nil : (xs ys : List ShotValue) → xs ≢ [] → xs ++ ys ≢ []
  append_not_nil [] ys some e = some refl
  append_not_nil (x ∷ xs) ys some e = cc

  are_batches-push : (shots more : List ShotValue) (bs : List Batch) (b : Batch) → more ≢ [] → length more ≤ request.window
      → length shots ≡ request.window * length bs → AreBatches request g t shots bs → AnswersBatch request g t more b
      → AreBatches request g t (shots ++ more) (bs ++ b ∷ [])
  are_batches-push shots more [] b some few full answers last = subst (λ s. AreBatches request g t (s ++ more) (b ∷ [])) (sym answers) (
    some,
    subst (λ s. AnswersBatch request g t s b) (sym (take_all request.window more few)) last,
    drop_all request.window more few,
  )
  are_batches-push shots more (c ∷ bs) b some few full (here, first, rest) last = (
    append_not_nil shots more here,
    subst (λ s. AnswersBatch request g t s c) (sym (take-append-le request.window shots more long)) first,
    subst (λ s. AreBatches request g t s (bs ++ b ∷ [])) (sym (drop-append-le request.window shots more long))
        (are_batches-push (drop request.window shots) more bs b some few fewer rest last),
  )
    where
      product : request.window * length (c ∷ bs) ≡ request.window * length bs + request.window
      product = mul-suc request.window (length bs)

      long : request.window ≤ length shots
      long = omega (arith, full, product)

      fewer : length (drop request.window shots) ≡ request.window * length bs
      fewer = omega (arith, full, product, length-drop request.window shots)

  pub rows_length : (shots : List ShotValue) (bs : List Batch) → AreBatches request g t shots bs → length (all_rows bs) ≡ length shots
  rows_length shots [] answers = sym (ap length answers)
  rows_length shots (b ∷ bs) (some, first, rest) = omega (
    arith,
    length-append b.rows (all_rows bs),
    AllZip-long (IsShotRow g) (take request.window shots) b.rows first.rows,
    rows_length (drop request.window shots) bs rest,
    length-append (take request.window shots) (drop request.window shots),
    ap length (take-append-drop request.window shots),
  )

  -- What a batch of further shots makes of the batches before it: it's one of them unless it has no shots.
  pub record AddsBatch (shots more : List ShotValue) (bs : List Batch) (b : Batch) : Type 0 where
    pub batches : List Batch
    pub answers : AreBatches request g t (shots ++ more) batches
    pub rows : all_rows batches ≡ all_rows bs ++ b.rows
    pub text : batches_text request.trace 0 batches ≡ batches_text request.trace 0 bs ++ batch_text request.trace (length (all_rows bs)) b
    pub grows : more ≢ [] → length batches ≡ length bs + 1

  pub adds_batch : (shots more : List ShotValue) (bs : List Batch) (b : Batch) → length more ≤ request.window → length shots ≡ request.window * length bs
      → AreBatches request g t shots bs → AnswersBatch request g t more b → AddsBatch shots more bs b
  adds_batch shots [] bs b few full answers last = record {
    batches = bs;
    answers = subst (λ s. AreBatches request g t s bs) (sym (append-nil shots)) answers;
    rows = sym (ap (λ rows. all_rows bs ++ rows) (no_batch_rows b last) ∙ append-nil (all_rows bs));
    text = sym (ap (λ text. batches_text request.trace 0 bs ++ text) (no_batch_text (length (all_rows bs)) b last)
        ∙ append-nil (batches_text request.trace 0 bs));
    grows = λ some. absurd (some refl);
  }
  adds_batch shots (s ∷ ss) bs b few full answers last = record {
    batches = bs ++ b ∷ [];
    answers = are_batches-push shots (s ∷ ss) bs b (λ e. cc) few full answers last;
    rows = all_rows-push bs b;
    text = batches_text-push request.trace 0 bs b ∙ ap (λ n. batches_text request.trace 0 bs ++ batch_text request.trace n b) as_many;
    grows = λ some. omega (arith, length-append bs (b ∷ []));
  }
    where
      as_many : 0 + length (all_rows bs) ≡ length (all_rows bs)
      as_many = omega arith
