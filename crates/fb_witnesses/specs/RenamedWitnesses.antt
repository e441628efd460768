-- The premises of the laws on other names are met: the pentagon's nodes with a blossom, a match and an unmatched
-- node, each under the name of another.
use Rattle.std.specs.Prelude.{ℕ, ◌≡◌, ◌-◌, true, List, [], ◌∷◌, map, Some, nat_lt, if◌then◌else◌}
use Rattle.fb_graph.specs.Laws.{Link}
use Rattle.fb_graph.specs.Dual.{cover_of, is_live, is_outer, node_at}
use Rattle.fb_graph.specs.RenamedNodes.{AreRenamedApart}
use Rattle.fb_laws.specs.PartStates.{PartState, IsPartState, live_links}
use Rattle.fb_laws.specs.RenamedStates.{AreCyclesRenamed, renamed_state}
use Rattle.fb_laws.specs.StateBlossoms.{with_cycle}
use Rattle.fb_witnesses.specs.StateWitnesses.{blossom_pair, pentagon, pentagon_links}

-- the eight names in the reverse order; every other name stays
abbrev pub mirrored_name : ℕ → ℕ
mirrored_name n = if nat_lt n 8 then 7 - n else n

abbrev pub mirrored_cycles : ℕ → List Link
mirrored_cycles = with_cycle 0 pentagon_links (λ n. [])

abbrev pub mirrored_pair : PartState
mirrored_pair = renamed_state mirrored_name mirrored_cycles blossom_pair

-- The state holds what each of the laws asks of nests, works and states. The blossom's name goes from 7 to 0, that of
-- the unmatched node from 6 to 1.
abbrev pub RenamedWitness : Type 0
RenamedWitness = IsPartState pentagon blossom_pair × AreRenamedApart mirrored_name blossom_pair.nodes
    × AreCyclesRenamed mirrored_name blossom_pair mirrored_cycles × (is_live blossom_pair.nodes 7 ≡ true)
    × (is_outer blossom_pair.nodes 7 ≡ true) × (cover_of blossom_pair.nodes 4 ≡ Some 7)
    × IsPartState pentagon mirrored_pair
    × (map (λ n. n.name) mirrored_pair.nodes ≡ 7 ∷ 6 ∷ 5 ∷ 4 ∷ 3 ∷ 2 ∷ 1 ∷ 0 ∷ [])
    × ((node_at mirrored_pair.nodes 7).children ≡ 3 ∷ 7 ∷ 6 ∷ 5 ∷ 4 ∷ []) × (mirrored_pair.unmatched ≡ 1 ∷ [])
    × (is_outer mirrored_pair.nodes 0 ≡ true) × (cover_of mirrored_pair.nodes 4 ≡ Some 0)
    × (live_links mirrored_pair ≡ live_links blossom_pair)
