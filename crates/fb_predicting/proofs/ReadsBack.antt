-- Predictions are read back.
use Rattle.std.proofs.Common.{◌≡◌, ℕ, false, List, [], ◌∷◌, ◌++◌, length, map, All, refl, ap, ◌∙◌}
use Rattle.std.specs.List.{flat_map}
use Rattle.std.proofs.lemmas.List.{length-map}
use Rattle.std.proofs.lemmas.List.Elements.{All-nil, All-cons}
use Rattle.fb_graph.specs.Parity.{is_in, is_odd_count}
use Rattle.fb_graph.specs.declared.parts.Row.{Row}
use Rattle.fb_graph.specs.declared.parts.Row.TheVariants.{Best, Odd}
use Rattle.fb_predict.specs.Codings.{coded}
use Rattle.fb_predict.specs.Observing.{observed_bits}
use Rattle.fb_predicting.specs.PredictLaws.{PredictionsReadBack}
use Rattle.fb_records.specs.Records.{Records, at_end}
use Rattle.fb_request.specs.declared.coding.Coding.{Coding}
use Rattle.fb_shots_stim.specs.CodedShots.{ReadsBack, ones_from}
use Rattle.fb_shots_stim.specs.declared.answer.Kind.{Kind}

texts : {X Y : Type 0} (g : X → Y) (f : Y → List ℕ) (xs : List X) → flat_map (λ x. f (g x)) xs ≡ flat_map f (map g xs)
texts g f [] = refl
texts g f (x ∷ xs) = ap (λ l. f (g x) ++ l) (texts g f xs)

places : (observables : List (List ℕ)) (rows : List Row)
    → map (ones_from 0) (map (observed_bits observables) rows) ≡ map (λ row. ones_from 0 (observed_bits observables row)) rows
places observables [] = refl
places observables (row ∷ rows) = ap (λ l. ones_from 0 (observed_bits observables row) ∷ l) (places observables rows)

as_many : (observables : List (List ℕ)) (row : Row) → length (observed_bits observables row) ≡ length observables
as_many observables (Best edges base weight cuts) = length-map observables (λ list. is_odd_count (is_in list) edges)
as_many observables (Odd vertex) = length-map observables (λ list. false)

all_as_many : (observables : List (List ℕ)) (rows : List Row) → All (λ bits. length bits ≡ length observables) (map (observed_bits observables) rows)
all_as_many observables [] = All-nil (λ bits. length bits ≡ length observables)
all_as_many observables (row ∷ rows) =
    All-cons (λ bits. length bits ≡ length observables) (observed_bits observables row) (map (observed_bits observables) rows) (as_many observables row) (all_as_many observables rows)

pub read_back : (records : ℕ → List ℕ → Records (List ℕ) Kind) (to : Coding) → ReadsBack records (coded to) → PredictionsReadBack records to
read_back records to law observables rows some few =
    ap (records (length observables)) (texts (observed_bits observables) (coded to) rows)
    ∙ law (length observables) (map (observed_bits observables) rows) some few (all_as_many observables rows)
    ∙ ap (λ l. record { shots = l; ending = at_end }) (places observables rows)
