-- The premises of the laws on agreed nodes are met: the longer line's blossom under other names, and a store of
-- blossoms with a free place that holds the same nodes.
use Rattle.std.specs.Prelude.{ℕ, ◌≡◌, ◌+◌, true, false, List, [], ◌∷◌, Option, Some, None}
use Rattle.fb_graph.specs.Dual.{Node, is_outer}
use Rattle.fb_graph.specs.RenamedNodes.{renamed_nodes}
use Rattle.fb_links.specs.declared.cycle.CycleStep.{CycleStep}
use Rattle.fb_blossoms.specs.Nodes as blossoms
use Rattle.fb_half.specs.Parts.{AreAgreed}
use Rattle.fb_witnesses.specs.HeldWitnesses.{held_nodes}

-- three leaves with the names 1, 2 and 3, and their blossom with the name 4
abbrev pub agreed_nodes : List Node
agreed_nodes = renamed_nodes (λ n. n + 1) held_nodes

abbrev pub cycle_step : ℕ → ℕ → CycleStep
cycle_step node link = record { node = node; link = link }

abbrev pub agreed_store : List (Option blossoms.Node)
agreed_store =
    None ∷ Some (blossoms.leaf 1) ∷ Some (blossoms.leaf 3) ∷ Some (blossoms.leaf 4)
    ∷ Some (record {
      defects = 1 ∷ 3 ∷ 4 ∷ [];
      cycle = cycle_step 1 17 ∷ cycle_step 2 5 ∷ cycle_step 3 12 ∷ [];
    }) ∷ []

abbrev pub AgreedWitness : Type 0
AgreedWitness = AreAgreed agreed_nodes agreed_store × (is_outer agreed_nodes 4 ≡ true)
    × blossoms.IsOuter agreed_store 4 × (is_outer agreed_nodes 2 ≡ false) × ¬ blossoms.IsOuter agreed_store 2
