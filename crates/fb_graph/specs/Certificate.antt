-- The certificate of a correction: weighted odd cuts (Edmonds and Johnson 1973). Every correction crosses every odd
-- cut, so cuts that load no edge above its weight add up to at most the weight of every correction.
use Rattle.std.specs.Prelude.{ℕ, ◌≡◌, ◌≤◌, true, false, cond, List, [], ◌∷◌, All, sum_by}
use Rattle.std.specs.Ordering.{nat_cmp}
use Rattle.std.specs.Cmp.Lexicographic.{slice_cmp}
use Rattle.std.specs.List.Sorted.{IsStrictlyIncreasing}
use Rattle.std.specs.declared.cmp.Ordering.TheVariants.{Less}
use Rattle.fb_graph.specs.Parity.{is_odd_count, is_in}
use Rattle.fb_graph.specs.Problem.{Problem, Flips, IsEdgeSet, weight_of, crosses}
use Rattle.fb_graph.specs.declared.parts.Edge.{Edge}
use Rattle.fb_graph.specs.declared.parts.Cut.{Cut}

-- no number occurs twice in the list
abbrev pub AreDistinct : List ℕ → Type 0
AreDistinct [] = Unit {0}
AreDistinct (v ∷ vs) = (is_in vs v ≡ false) × AreDistinct vs

-- distinct real vertices, an odd number of them defects (so at least one)
pub record IsOddCut (p : Problem) (c : Cut) : Type 0 where
  pub distinct : AreDistinct c.vertices
  pub real : All (λ v. p.is_real v ≡ true) c.vertices
  pub odd : is_odd_count p.is_defect c.vertices ≡ true

-- the sum of the values of the cuts that hold exactly one end of the edge
abbrev pub load_of : List Cut → Edge → ℕ
load_of cuts e = sum_by (λ c. cond (crosses c.vertices e) c.value 0) cuts

-- the cuts are feasible: no edge's load is above its weight
abbrev pub Fits : Problem → List Cut → Type 0
Fits p cuts = All (λ e. load_of cuts e ≤ e.weight) p.edges

-- a feasible list of odd cuts
pub record IsPacking (p : Problem) (cuts : List Cut) : Type 0 where
  pub odd : All (IsOddCut p) cuts
  pub fits : Fits p cuts

-- the sum of the cuts' values
abbrev pub total_value : List Cut → ℕ
total_value cuts = sum_by (λ c. c.value) cuts

-- a cut as a report prints it: an odd cut of value at least 1 whose vertices strictly rise
pub record IsPrintedCut (p : Problem) (c : Cut) : Type 0 where
  pub odd : IsOddCut p c
  pub positive : 1 ≤ c.value
  pub rising : IsStrictlyIncreasing c.vertices

-- the cut comes before the next one: entry by entry, a proper prefix first
abbrev pub IsBefore : Cut → List Cut → Type 0
IsBefore c [] = Unit {0}
IsBefore c (d ∷ ds) = slice_cmp nat_cmp c.vertices d.vertices ≡ Less

-- the cuts' lists strictly rise
abbrev pub AreRising : List Cut → Type 0
AreRising [] = Unit {0}
AreRising (c ∷ cs) = IsBefore c cs × AreRising cs

-- A correction of the problem with its certificate. If it holds, no correction weighs less (see the law of weak
-- duality).
pub record IsCertified (p : Problem) (chosen : List ℕ) (weight : ℕ) (cuts : List Cut) : Type 0 where
  pub edge_set : IsEdgeSet p chosen
  pub flips : Flips p chosen
  pub weighs : weight ≡ weight_of p chosen
  pub printed : All (IsPrintedCut p) cuts
  pub rising : AreRising cuts
  pub fits : Fits p cuts
  pub total : weight ≡ total_value cuts
