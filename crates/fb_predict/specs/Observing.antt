-- The bits of observables that the row of a shot flips.
use Rattle.std.specs.Prelude.{ℕ, Bool, false, List, map}
use Rattle.fb_graph.specs.Parity.{is_odd_count, is_in}
use Rattle.fb_graph.specs.declared.parts.Row.{Row}
use Rattle.fb_graph.specs.declared.parts.Row.TheVariants.{Best, Odd}

-- The bit of an observable is set if an odd number of the row's edges are among its own, each edge as often as the row
-- lists it. A row without a correction sets none.
abbrev pub observed_bits : List (List ℕ) → Row → List Bool
observed_bits observables (Best edges base weight cuts) = map (λ list. is_odd_count (is_in list) edges) observables
observed_bits observables (Odd vertex) = map (λ list. false) observables
