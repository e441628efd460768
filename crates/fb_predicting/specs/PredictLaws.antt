-- That predictions in a format that readers of shots know are read back.
use Rattle.std.specs.Prelude.{◌≡◌, ℕ, ◌^◌, ◌<◌, List, length, map}
use Rattle.fb_graph.specs.declared.parts.Row.{Row}
use Rattle.fb_predict.specs.Observing.{observed_bits}
use Rattle.fb_predicting.specs.Predictions.{predictions}
use Rattle.fb_records.specs.Records.{Records, at_end}
use Rattle.fb_request.specs.declared.coding.Coding.{Coding}
use Rattle.fb_shots_stim.specs.CodedShots.{ones_from}
use Rattle.fb_shots_stim.specs.declared.answer.Kind.{Kind}

-- A reader of shots gives for each row the numbers of the observables that it flips, and no more, where there is one
-- observable at least.
abbrev pub PredictionsReadBack : (ℕ → List ℕ → Records (List ℕ) Kind) → Coding → Type 0
PredictionsReadBack records to =
    (observables : List (List ℕ)) (rows : List Row) → 0 < length observables → length observables < 2 ^ 32
    → records (length observables) (predictions to observables rows)
    ≡ record { shots = map (λ row. ones_from 0 (observed_bits observables row)) rows; ending = at_end }
