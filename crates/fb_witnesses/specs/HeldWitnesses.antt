-- The premises of the laws on held defects are met: the tree of the longer line as a blossom, whose set has a
-- vertex that is no defect.
use Rattle.std.specs.Prelude.{ℕ, ◌≡◌, ◌==◌, true, false, List, [], ◌∷◌, Some, if◌then◌else◌}
use Rattle.fb_graph.specs.Parity.{is_in}
use Rattle.fb_graph.specs.Dual.{Node, cover_of, is_live, is_outer, leaves, top_at}
use Rattle.fb_graph.specs.Moves.{joined_nodes}
use Rattle.fb_graph.specs.Nests.{IsNest}
use Rattle.fb_laws.specs.HeldDefects.{AreHeld}
use Rattle.fb_witnesses.specs.NestedWitnesses.{low_nodes}
use Rattle.fb_witnesses.specs.TreeWitnesses.{long_line}

abbrev pub held_nodes : List Node
held_nodes = joined_nodes 3 (0 ∷ 1 ∷ 2 ∷ []) low_nodes

abbrev pub held_defects : ℕ → List ℕ
held_defects name =
    if name == 0 then 1 ∷ [] else if name == 1 then 3 ∷ [] else if name == 2 then 4 ∷ [] else 1 ∷ 3 ∷ 4 ∷ []

abbrev pub HeldWitness : Type 0
HeldWitness = IsNest long_line held_nodes × AreHeld held_nodes held_defects × (is_live held_nodes 3 ≡ true)
    × (is_outer held_nodes 3 ≡ true) × (is_in (held_defects 3) 4 ≡ true) × (is_in (leaves held_nodes) 4 ≡ true)
    × (cover_of held_nodes 4 ≡ Some 3) × (is_in (top_at held_nodes 3) 2 ≡ true) × (is_in (held_defects 3) 2 ≡ false)
