-- What a check of a row finds: the first rule that the row breaks. For a correction these are the rules of its
-- certificate (Edmonds and Johnson 1973).
use Rattle.std.specs.Prelude.{ℕ, ℤ, pos, ◌+ℤ◌, ◌≤ℤ◌, ◌≡◌, ◌≤◌, ◌==◌, ◌+◌, ◌&&◌, ◌⊎◌, ⊤, All, Bool, not, if◌then◌else◌, nat_lt, List, [], ◌∷◌, length, Option, Some, None}
use Rattle.std.specs.List.{find}
use Rattle.std.specs.Option.{option_map, option_or, is_some, unwrap_or}
use Rattle.std.specs.Ordering.{int_eq, nat_cmp, is_lt}
use Rattle.std.specs.Cmp.Lexicographic.{slice_cmp}
use Rattle.fb_graph.specs.Parity.{differ, is_odd_count, is_in}
use Rattle.fb_graph.specs.Problem.{Problem, Flips, IsEdgeSet, edge_at, touches}
use Rattle.fb_graph.specs.Certificate.{load_of, total_value}
use Rattle.fb_graph.specs.Components.{IsFirstOdd}
use Rattle.fb_graph.specs.Limits.{DecodingGraph, ShotValue, problem_of}
use Rattle.fb_graph.specs.ShotGraphs.{shot_problem}
use Rattle.fb_graph.specs.Signs.{base_of, shifted_defects, signed_weight_of, solved_problem}
use Rattle.fb_graph.specs.declared.parts.Cut.{Cut}
use Rattle.fb_graph.specs.declared.parts.Row.{Row}
use Rattle.fb_graph.specs.declared.parts.Row.TheVariants.{Best, Odd}
use Rattle.fb_graph.specs.Leasts.{least}
use Rattle.fb_verify.specs.declared.verdicts.Verdict.{Verdict}
use Rattle.fb_verify.specs.declared.verdicts.Verdict.TheVariants.{Good, EdgeOutOfRange, EdgesNotRising, WrongParity, WeightNotSum, BaseDiffers, CutEmpty, VertexOutOfRange, CutsNotRising, CutHoldsVirtual, CutEven, Overloaded, SumDiffers, OddWrong}

-- the first number of the list that isn't below the bound
abbrev pub first_beyond : ℕ → List ℕ → Option ℕ
first_beyond bound numbers = find (λ k. not (nat_lt k bound)) numbers

-- the first number of the list that isn't above the one before it, that of the first number being `before`
abbrev pub first_fall_after : ℕ → List ℕ → Option ℕ
first_fall_after before [] = None
first_fall_after before (k ∷ ks) = if nat_lt before k then first_fall_after k ks else Some k

-- the first number of the list that isn't above the one before it
abbrev pub first_fall : List ℕ → Option ℕ
first_fall [] = None
first_fall (k ∷ ks) = first_fall_after k ks

-- the vertex is real, and the parity of the edges there isn't the defects'
abbrev pub has_wrong_parity : Problem → List ℕ → ℕ → Bool
has_wrong_parity p edges v =
    p.is_real v && differ (is_odd_count (λ k. touches v (edge_at p.edges k)) edges) (p.is_defect v)

-- the cuts load the edge above its weight
abbrev pub is_overloaded : Problem → List Cut → ℕ → Bool
is_overloaded p cuts k = nat_lt (edge_at p.edges k).weight (load_of cuts (edge_at p.edges k))

-- the fault, if the condition holds
abbrev pub fault_if : Bool → Verdict → Option Verdict
fault_if holds fault = if holds then Some fault else None

-- the fault of two numbers, if they differ
abbrev pub fault_of_two : (ℤ → ℤ → Verdict) → ℤ → ℤ → Option Verdict
fault_of_two fault a b = if int_eq a b then None else Some (fault a b)

-- the first fault of several
abbrev pub first_of : List (Option Verdict) → Option Verdict
first_of [] = None
first_of (fault ∷ faults) = option_or fault (first_of faults)

-- the first fault of cut j, given the vertices of the cut before it (none before the first: the empty list is
-- below all others); a cut holds an odd number of the shifted defects
abbrev pub cut_fault : DecodingGraph → ShotValue → ℕ → List ℕ → List ℕ → Option Verdict
cut_fault g shot j before vertices = first_of (
    fault_if (length vertices == 0) (CutEmpty j)
    ∷ option_map VertexOutOfRange (first_beyond g.vertices vertices)
    ∷ fault_if (is_some (first_fall vertices)) (CutsNotRising j)
    ∷ fault_if (not (is_lt (slice_cmp nat_cmp before vertices))) (CutsNotRising j)
    ∷ option_map CutHoldsVirtual (find (is_in g.virtuals) vertices)
    ∷ fault_if (not (is_odd_count (is_in (shifted_defects g shot)) vertices)) (CutEven j)
    ∷ [])

-- the first fault of the first cut that has one, the cuts being counted from j on
abbrev pub cuts_fault : DecodingGraph → ShotValue → ℕ → List ℕ → List Cut → Option Verdict
cuts_fault g shot j before [] = None
cuts_fault g shot j before (c ∷ cs) =
    option_or (cut_fault g shot j before c.vertices) (cuts_fault g shot (j + 1) c.vertices cs)

-- the first fault of the edges of a correction
abbrev pub choice_fault : DecodingGraph → ShotValue → List ℕ → Option Verdict
choice_fault g shot edges = first_of (
    option_map EdgeOutOfRange (first_beyond (length g.edges) edges)
    ∷ option_map EdgesNotRising (first_fall edges)
    ∷ option_map WrongParity (least g.vertices (has_wrong_parity (problem_of g shot) edges))
    ∷ [])

-- the first fault of its weight and its base, which are compared with what the edges weigh for this shot
abbrev pub sums_fault : DecodingGraph → ShotValue → List ℕ → ℤ → ℤ → Option Verdict
sums_fault g shot edges base weight = first_of (
    fault_of_two WeightNotSum weight (signed_weight_of g shot edges)
    ∷ fault_of_two BaseDiffers base (base_of g shot)
    ∷ [])

-- The first fault of its certificate. The cuts' loads are compared with what edges weigh for this shot without their
-- signs, and the weight with the sum of the base, which is known to be the shot's, and of the cuts' values.
abbrev pub certificate_fault : DecodingGraph → ShotValue → ℤ → List Cut → Option Verdict
certificate_fault g shot weight cuts = first_of (
    cuts_fault g shot 0 [] cuts
    ∷ option_map Overloaded (least (length g.edges) (is_overloaded (solved_problem g shot) cuts))
    ∷ fault_of_two SumDiffers weight (base_of g shot +ℤ pos (total_value cuts))
    ∷ [])

-- the first fault of a correction with its certificate
abbrev pub best_fault : DecodingGraph → ShotValue → List ℕ → ℤ → ℤ → List Cut → Option Verdict
best_fault g shot edges base weight cuts = first_of (
    choice_fault g shot edges ∷ sums_fault g shot edges base weight ∷ certificate_fault g shot weight cuts ∷ [])

-- what a check finds of a correction with its certificate
abbrev pub best_verdict : DecodingGraph → ShotValue → List ℕ → ℤ → ℤ → List Cut → Verdict
best_verdict g shot edges base weight cuts = unwrap_or (best_fault g shot edges base weight cuts) Good

-- What a check finds of an odd row. Which component is the first odd one is a relation, and so this is one.
abbrev pub IsOddVerdict : DecodingGraph → ShotValue → ℕ → Verdict → Type 0
IsOddVerdict g shot v verdict =
    (IsFirstOdd (problem_of g shot) (Some v) × (verdict ≡ Good))
    ⊎ ((¬ IsFirstOdd (problem_of g shot) (Some v)) × (verdict ≡ OddWrong v))

-- what a check finds of a row
abbrev pub IsVerdict : DecodingGraph → ShotValue → Row → Verdict → Type 0
IsVerdict g shot (Best edges base weight cuts) verdict = verdict ≡ best_verdict g shot edges base weight cuts
IsVerdict g shot (Odd v) verdict = IsOddVerdict g shot v verdict

-- the row's cuts have values of at least 1, as a report that is read has them
abbrev pub HasPositiveValues : Row → Type 0
HasPositiveValues (Best edges base weight cuts) = All (λ c. 1 ≤ c.value) cuts
HasPositiveValues (Odd v) = ⊤

-- no edge set that flips the shot weighs less than the row's correction; none flips a shot whose row is odd
abbrev pub IsLeastWeight : DecodingGraph → ShotValue → Row → Type 0
IsLeastWeight g shot (Best edges base weight cuts) =
    (other : List ℕ) → IsEdgeSet (shot_problem g shot) other → Flips (shot_problem g shot) other
    → weight ≤ℤ signed_weight_of g shot other
IsLeastWeight g shot (Odd v) =
    (other : List ℕ) → IsEdgeSet (shot_problem g shot) other → ¬ Flips (shot_problem g shot) other
