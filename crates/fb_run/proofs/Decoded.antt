-- What has been decoded and written of a stream of shots.
use Rattle.std.proofs.Common.{◌≡◌, ℕ, suc, ◌+◌, ◌*◌, ◌<◌, ◌≤◌, ◌^◌, ◌⊎◌, inl, inr, true, List, [], ◌++◌, length, Option, None, Some, refl, sym, ap, subst, ◌∙◌, arith, append-nil, length-append}
use Rattle.std.proofs.KnownBytes.{Appends-nil, Appends-trans}
use Rattle.std.proofs.Math.Nat.{mul-suc}
use Rattle.std.proofs.lemmas.Slice.Zip.{AllZip-long}
use Rattle.std.specs.List.{All}
use Rattle.fb_crew.specs.Windows.{IsShotRow}
use Rattle.fb_graph.specs.Limits.{DecodingGraph, ShotValue}
use Rattle.fb_files.proofs.Gathered.{ended_read_out, first_of_none, gathered_so, given_few, given_first, gives_both, gives_none}
use Rattle.fb_files.specs.Judging.{most_shots}
use Rattle.fb_files.specs.InternalGathers.{EndsFrom, FirstFrom, GathersFrom}
use Rattle.fb_files.specs.Taking.{EndsSo, GivesShots}
use Rattle.fb_files.specs.declared.taking.ShotsEnd.{ShotsEnd}
use Rattle.fb_files.specs.declared.taking.ShotsEnd.TheVariants as end
use Rattle.fb_plan.specs.Plans.{PlanTree}
use Rattle.fb_ports.proofs.Onward.{prefix_second}
use Rattle.fb_ports.specs.Causes.{Appends, AppendsPrefix, Rose}
use Rattle.fb_run.proofs.Batched.{AddsBatch, adds_batch, counted_rows, counts_added, rows_added, rows_length, slots_within}
use Rattle.fb_run.specs.Decoding.{AnswersBatch, AreBatches, Batch, HaveWholeWindows, all_rows, batch_text, batches_text}
use Rattle.fb_run.specs.InternalBatches.{AddsCounts, TakesBatch}
use Rattle.fb_run.specs.Rows.{counts_of}
use Rattle.fb_run.specs.InternalWrites.{WritesBatches, WritesFirstBatches, counts_in}
use Rattle.fb_run.specs.declared.batches.RowCounts.{RowCounts}
use Rattle.fb_request.specs.declared.format.Format.{Format}
use Rattle.fb_shots.specs.Steps.{IsReadOut}
use Rattle.fb_shots.specs.Streams.{Stream, fresh}
use Rattle.fb_request.specs.Requests.{Decoding}

mul-more : (w n m : ℕ) → m ≡ n + 1 → w * m ≡ w * n + w
mul-more w n m e = let next : m ≡ suc n = omega (arith, e) in ap (λ k. w * k) next ∙ mul-suc w n

-- no shot was taken
pub none_decoded : (Ends : List ShotValue → Type 0) (request : Decoding) (t : PlanTree) (left : Option (List ℕ)) (format : Format) (g : DecodingGraph) (out : Option (List ℕ))
    → WritesFirstBatches (FirstFrom left format g) Ends request g t out out
none_decoded Ends request t left format g out = record {
  shots = [];
  input = first_of_none left format g;
  batches = [];
  answers = refl;
  windows = inl (omega arith);
  written = ([], [], refl, Appends-nil out);
}

module _ (request : Decoding) (t : PlanTree) (start : Stream) (before out : Option (List ℕ)) where
  -- The batches of the shots that a stream has given were written, and their rows are counted.
  pub record HasDecoded (now : Stream) (after new : Option (List ℕ)) (tally : RowCounts) : Type 0 where
    pub shots : List ShotValue
    pub gives : GivesShots start now before after shots
    pub batches : List Batch
    pub answers : AreBatches request start.graph t shots batches
    pub written : Appends out new (batches_text request.trace 0 batches)
    pub counts : counts_in tally ≡ counts_of (all_rows batches)

  -- the same, and each batch has as many shots as the window
  pub record IsDecoding (now : Stream) (after new : Option (List ℕ)) (tally : RowCounts) : Type 0 where
    pub so_far : HasDecoded now after new tally
    pub full : length so_far.shots ≡ request.window * length so_far.batches

  pub decoding_begins : (tally : RowCounts) → tally.best ≡ 0 → tally.odd ≡ 0 → IsDecoding start before out tally
  decoding_begins tally best odd = record {
    so_far = record {
      shots = [];
      gives = gives_none start before;
      batches = [];
      answers = refl;
      written = Appends-nil out;
      counts = cc;
    };
    full = omega arith;
  }

  module _ (is_fresh : start ≡ fresh start.format start.graph most_shots) (now : Stream) (after new : Option (List ℕ)) (tally : RowCounts) (decoding : IsDecoding now after new tally) where
    abbrev so_far : HasDecoded now after new tally
    so_far = decoding.so_far

    tally_rows : tally.best + tally.odd ≡ length (all_rows so_far.batches)
    tally_rows = counted_rows tally (all_rows so_far.batches) so_far.counts

    pub so_far_first : (Ends : List ShotValue → Type 0) → WritesFirstBatches (FirstFrom before start.format start.graph) Ends request start.graph t out new
    so_far_first Ends = record {
      shots = so_far.shots;
      input = given_first start now before after so_far.shots is_fresh so_far.gives;
      batches = so_far.batches;
      answers = so_far.answers;
      windows = inl decoding.full;
      written = (batches_text request.trace 0 so_far.batches, [], sym (append-nil (batches_text request.trace 0 so_far.batches)), so_far.written);
    }

    -- the next batch
    module _ (last : Stream) (rest : Option (List ℕ)) (b : Batch) (ending : Option ShotsEnd) (taken : TakesBatch request t now last after rest b ending) where
      abbrev shots : List ShotValue
      shots = so_far.shots ++ taken.shots

      answers : AnswersBatch request start.graph t taken.shots b
      answers = subst (λ (g : DecodingGraph). AnswersBatch request g t taken.shots b) so_far.gives.graph taken.answers

      gives : GivesShots start taken.takes.middle before taken.takes.between shots
      gives = gives_both start now taken.takes.middle before after taken.takes.between so_far.shots taken.shots so_far.gives taken.takes.gives

      -- the numbers of all rows fit
      pub fits_more : (tally.best + tally.odd) + length b.rows < 2 ^ 32
      fits_more = omega (
        arith,
        tally_rows,
        rows_length request start.graph t so_far.shots so_far.batches so_far.answers,
        AllZip-long (IsShotRow start.graph) taken.shots b.rows answers.rows,
        length-append so_far.shots taken.shots,
        given_few start taken.takes.middle before taken.takes.between shots is_fresh gives,
      )

      pub slots_more : request.trace ≡ true → All (λ e. e.slot < length b.rows) b.history
      slots_more traced = slots_within b.rows b.history (answers.history traced).within

      adds : AddsBatch request start.graph t so_far.shots taken.shots so_far.batches b
      adds = adds_batch request start.graph t so_far.shots taken.shots so_far.batches b taken.takes.few decoding.full so_far.answers answers

      text : batches_text request.trace 0 adds.batches
          ≡ batches_text request.trace 0 so_far.batches ++ batch_text request.trace (tally.best + tally.odd) b
      text = adds.text ∙ ap (λ n. batches_text request.trace 0 so_far.batches ++ batch_text request.trace n b) (sym tally_rows)

      ends_at : (ended : Option ShotsEnd) → ending ≡ ended → EndsSo taken.takes.middle last taken.takes.between rest ended
      ends_at ended is = subst (λ (e : Option ShotsEnd). EndsSo taken.takes.middle last taken.takes.between rest e) is taken.takes.ends

      -- the shots of one more window
      fills_more : length taken.shots ≡ request.window → 1 ≤ request.window → HaveWholeWindows request shots adds.batches
      fills_more full some = omega (
        arith,
        length-append so_far.shots taken.shots,
        decoding.full,
        full,
        mul-more request.window (length so_far.batches) (length adds.batches) (adds.grows (λ none. omega (arith, ap length none, full, some))),
      )

      -- the shots fill windows, or end after the last of these
      fills_or_ends : 1 ≤ request.window → (faults risen : ℕ) → (ending ≡ Some end.ReadFault → Rose faults risen)
          → HaveWholeWindows request shots adds.batches ⊎ EndsFrom before start.format start.graph rest faults risen shots
      fills_or_ends some faults risen rises = by_ending ending refl
        where
          by_ending : (e : Option ShotsEnd) → ending ≡ e
              → HaveWholeWindows request shots adds.batches ⊎ EndsFrom before start.format start.graph rest faults risen shots
          by_ending None is = inl (fills_more (taken.takes.full is) some)
          by_ending (Some ended) is = inr (record {
            ended = ended;
            gathers = gathered_so start taken.takes.middle before taken.takes.between shots is_fresh gives last rest ended (ends_at (Some ended) is);
            rises = λ failed. rises (is ∙ ap Some failed);
          })

      module _ (newer : Option (List ℕ)) where
        pub more_first : 1 ≤ request.window → (faults risen : ℕ) → (ending ≡ Some end.ReadFault → Rose faults risen)
            → AppendsPrefix new newer (batch_text request.trace (tally.best + tally.odd) b)
            → WritesFirstBatches (FirstFrom before start.format start.graph) (EndsFrom before start.format start.graph rest faults risen) request start.graph t out newer
        more_first some faults risen rises part = record {
          shots = shots;
          input = given_first start taken.takes.middle before taken.takes.between shots is_fresh gives;
          batches = adds.batches;
          answers = adds.answers;
          windows = fills_or_ends some faults risen rises;
          written = subst (AppendsPrefix out newer) (sym text)
              (prefix_second out new newer (batches_text request.trace 0 so_far.batches) (batch_text request.trace (tally.best + tally.odd) b) so_far.written part);
        }

        module _ (counts : RowCounts) (all : Appends new newer (batch_text request.trace (tally.best + tally.odd) b)) (counted : AddsCounts tally counts b.rows) where
          more_decoded : HasDecoded taken.takes.middle taken.takes.between newer counts
          more_decoded = record {
            shots = shots;
            gives = gives;
            batches = adds.batches;
            answers = adds.answers;
            written = subst (Appends out newer) (sym text)
                (Appends-trans out new newer (batches_text request.trace 0 so_far.batches) (batch_text request.trace (tally.best + tally.odd) b) so_far.written all);
            counts = counts_added tally counts (all_rows so_far.batches) b.rows so_far.counts counted ∙ ap counts_of (sym adds.rows);
          }

          decoding_full : length taken.shots ≡ request.window → 1 ≤ request.window → IsDecoding taken.takes.middle taken.takes.between newer counts
          unfolding more_decoded
          decoding_full full some = record { so_far = more_decoded; full = fills_more full some }

          pub decoding_more : ending ≡ None → 1 ≤ request.window → IsDecoding last rest newer counts
          decoding_more none some =
              let same = ends_at None none in
              subst (λ (s : Stream). IsDecoding s rest newer counts) (sym same.0)
              (subst (λ (left : Option (List ℕ)). IsDecoding taken.takes.middle left newer counts) (sym same.1)
              (decoding_full (taken.takes.full none) some))

          pub few_decoded : counts.best + counts.odd < 2 ^ 32
          few_decoded = omega (arith, rows_added tally counts b.rows counted, fits_more)

          -- all shots have been taken
          pub all_decoded : (ended : ShotsEnd) → ending ≡ Some ended
              → WritesBatches (λ shots. GathersFrom before start.format start.graph rest shots ended) request start.graph t out newer counts
          all_decoded ended is = record {
            shots = more_decoded.shots;
            input = gathered_so start taken.takes.middle before taken.takes.between more_decoded.shots is_fresh more_decoded.gives last rest ended (ends_at (Some ended) is);
            batches = more_decoded.batches;
            answers = more_decoded.answers;
            written = more_decoded.written;
            counts = more_decoded.counts;
          }

          pub all_read_out : (ended : ShotsEnd) → ending ≡ Some ended → ended ≡ end.End → IsReadOut before rest
          all_read_out ended is at_end =
              ended_read_out start taken.takes.middle before taken.takes.between shots is_fresh gives last rest ended (ends_at (Some ended) is) at_end
