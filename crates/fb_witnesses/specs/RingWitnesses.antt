-- A minus blossom of a half-solved part that can be opened along its ring: the pentagon's, between the corner beside its
-- parent and the one beside its child, three links on, so two back.
use Rattle.std.specs.Prelude.{ℕ, ◌≡◌, List, [], ◌∷◌}
use Rattle.fb_laws.specs.PartStates.{IsSearchState}
use Rattle.fb_laws.specs.RingWays.{couples_after, way_to}
use Rattle.fb_laws.specs.StateRings.{MayOpenAlong, round_of}
use Rattle.fb_witnesses.specs.StateWitnesses.{blossom_branch, inner_blossom, pentagon, pentagon_couples, pentagon_way}

abbrev pub corners : List ℕ
corners = 4 ∷ 0 ∷ 1 ∷ 2 ∷ 3 ∷ []

abbrev pub RingWitness : Type 0
RingWitness = IsSearchState pentagon inner_blossom × MayOpenAlong inner_blossom [] [] blossom_branch corners 3 3
    × (way_to 3 (round_of inner_blossom blossom_branch corners 3) ≡ pentagon_way)
    × (couples_after 3 (round_of inner_blossom blossom_branch corners 3) ≡ pentagon_couples)
