-- What follows if a dual state and a store of blossoms have the same nodes.
use Rattle.std.specs.Prelude.{ℕ, ◌≡◌, true, List, Option}
use Rattle.fb_graph.specs.Dual.{Node, is_outer}
use Rattle.fb_blossoms.specs.Nodes as blossoms
use Rattle.fb_half.specs.Parts.{AreAgreed}

-- A node is outer in the one exactly if it is outer in the other.
abbrev pub OuterInStore : Type 0
OuterInStore = (nodes : List Node) (store : List (Option blossoms.Node)) (name : ℕ) → AreAgreed nodes store
    → is_outer nodes name ≡ true → blossoms.IsOuter store name

abbrev pub OuterInNodes : Type 0
OuterInNodes = (nodes : List Node) (store : List (Option blossoms.Node)) (name : ℕ) → AreAgreed nodes store
    → blossoms.IsOuter store name → is_outer nodes name ≡ true
