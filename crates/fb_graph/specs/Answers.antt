-- What the right row of a shot is.
use Rattle.std.specs.Prelude.{ℕ, ◌≡◌, List, All, Some, None, ℤ, pos, ◌+ℤ◌, ◌≤ℤ◌}
use Rattle.fb_graph.specs.Problem.{IsEdgeSet, Flips}
use Rattle.fb_graph.specs.Certificate.{IsCertified, IsPrintedCut, AreRising, Fits, total_value}
use Rattle.fb_graph.specs.Components.{IsFirstOdd}
use Rattle.fb_graph.specs.Limits.{DecodingGraph, ShotValue, IsGraph, IsShot}
use Rattle.fb_graph.specs.ShotGraphs.{shot_problem}
use Rattle.fb_graph.specs.Signs.{IsUnshifted, signed_weight_of, base_of, solved_problem}
use Rattle.fb_graph.specs.declared.parts.Cut.{Cut}
use Rattle.fb_graph.specs.declared.parts.Row.{Row}
use Rattle.fb_graph.specs.declared.parts.Row.TheVariants.{Best, Odd}

-- A correction with its certificate: it flips just the shot's defects, and weighs the sum of the negative weights and
-- of the values of feasible odd cuts. If it holds, no correction weighs less (see the laws of signed weights).
pub record IsBest (g : DecodingGraph) (shot : ShotValue) (chosen : List ℕ) (base weight : ℤ) (cuts : List Cut)
    : Type 0 where
  pub edge_set : IsEdgeSet (shot_problem g shot) chosen
  pub flips : Flips (shot_problem g shot) chosen
  pub bases : base ≡ base_of g shot
  pub weighs : weight ≡ signed_weight_of g shot chosen
  pub printed : All (IsPrintedCut (solved_problem g shot)) cuts
  pub rising : AreRising cuts
  pub fits : Fits (solved_problem g shot) cuts
  pub total : weight ≡ base +ℤ pos (total_value cuts)

-- the odd row of the first odd component if there is one, else a correction with its certificate
abbrev pub IsRight : DecodingGraph → ShotValue → Row → Type 0
IsRight g shot (Best edges base weight cuts) =
    IsFirstOdd (shot_problem g shot) None × IsBest g shot edges base weight cuts
IsRight g shot (Odd v) = IsFirstOdd (shot_problem g shot) (Some v)

-- A correction with its certificate weighs least, so two of them weigh the same.
abbrev pub BestWeighsLeast : Type 0
BestWeighsLeast = (g : DecodingGraph) (shot : ShotValue) (chosen : List ℕ) (base weight : ℤ) (cuts : List Cut)
    → IsGraph g → IsShot g shot → IsBest g shot chosen base weight cuts → (other : List ℕ) → IsEdgeSet (shot_problem g shot) other
    → Flips (shot_problem g shot) other → weight ≤ℤ signed_weight_of g shot other

-- A shot with such a correction has no odd component.
abbrev pub BestHasNoOdd : Type 0
BestHasNoOdd = (g : DecodingGraph) (shot : ShotValue) (chosen : List ℕ) (base weight : ℤ) (cuts : List Cut) → IsGraph g
    → IsShot g shot → IsBest g shot chosen base weight cuts → IsFirstOdd (shot_problem g shot) None

-- A certified correction of what is solved, taken together with the negative edges, is such a correction of the shot.
abbrev pub UnshiftedIsBest : Type 0
UnshiftedIsBest = (g : DecodingGraph) (shot : ShotValue) (chosen unshifted : List ℕ) (weight : ℕ) (cuts : List Cut)
    → IsGraph g → IsShot g shot → IsCertified (solved_problem g shot) chosen weight cuts → IsUnshifted g shot chosen unshifted
    → IsBest g shot unshifted (base_of g shot) (base_of g shot +ℤ pos weight) cuts
