-- From a solved part to the row of a report.
use Rattle.std.specs.Prelude.{ℕ, ◌≡◌, ◌<◌, ◌==◌, true, List, All, flat_map}
use Rattle.std.specs.List.Sorted.{IsStrictlyIncreasing}
use Rattle.fb_graph.specs.Parity.{is_odd_count}
use Rattle.fb_graph.specs.Problem.{Problem}
use Rattle.fb_graph.specs.Certificate.{AreRising, IsCertified, total_value}
use Rattle.fb_graph.specs.Components.{IsWalkBy}
use Rattle.fb_graph.specs.Printed.{HasPositiveCuts}
use Rattle.fb_graph.specs.Laws.{IsPart, IsSolved, Link, odd_edges, odd_ones}
use Rattle.fb_graph.specs.Dual.{Node, all_cuts}
use Rattle.fb_graph.specs.declared.parts.Cut.{Cut}
use Rattle.fb_laws.specs.Works.{HasDefects, positive_cuts}
use Rattle.fb_graph.specs.Nests.{IsNest}

-- Strictly rising numbers below n that have the parities of a list are the numbers that occur in it an odd number of
-- times.
abbrev pub OddOnesOnly : Type 0
OddOnesOnly = (n : ℕ) (numbers ones : List ℕ) → IsStrictlyIncreasing ones → All (λ k. k < n) ones
    → ((k : ℕ) → is_odd_count (λ j. j == k) ones ≡ is_odd_count (λ j. j == k) numbers) → ones ≡ odd_ones n numbers

-- So rising numbers with the parities of the edges on some walks are their correction.
abbrev pub OddEdgesOnly : Type 0
OddEdgesOnly = (p : Problem) (links : List Link) (ones : List ℕ) → All (λ l. IsWalkBy p l.walk l.from l.to) links
    → IsStrictlyIncreasing ones
    → ((k : ℕ) → is_odd_count (λ j. j == k) ones ≡ is_odd_count (λ j. j == k) (flat_map (λ l. l.walk) links))
    → ones ≡ odd_edges p links

-- A best row of a part that has every real vertex of the whole is one of the whole.
abbrev pub BestOfWhole : Type 0
BestOfWhole = (part whole : Problem) (chosen : List ℕ) (weight : ℕ) (cuts : List Cut) → IsPart part whole
    → ((v : ℕ) → whole.is_real v ≡ true → part.is_real v ≡ true) → IsCertified part chosen weight cuts
    → IsCertified whole chosen weight cuts

-- The cuts of a solved nest, printed in rising order, certify its correction.
abbrev pub SolvedIsBest : Type 0
SolvedIsBest = (p : Problem) (nodes : List Node) (chosen : List ℕ) (printed : List Cut) → IsNest p nodes
    → HasDefects p nodes → IsSolved p (positive_cuts nodes) chosen → HasPositiveCuts (all_cuts nodes) printed
    → AreRising printed → IsCertified p chosen (total_value (all_cuts nodes)) printed
