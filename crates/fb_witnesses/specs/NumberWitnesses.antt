-- The premises of the laws on links by their steps and numbers are met: a walk of three steps, a tree whose
-- links have the numbers of a table, and the pentagon's ring by such numbers.
use Rattle.std.specs.Prelude.{ℕ, ◌≡◌, ◌≢◌, ◌+◌, ◌%◌, ◌≤◌, ◌==◌, List, [], ◌∷◌, ◌++◌, map, length, drop, reverse, All, if◌then◌else◌}
use Rattle.fb_graph.specs.Parity.{is_in}
use Rattle.fb_graph.specs.Laws.{Link}
use Rattle.fb_laws.specs.Fusion.{IsLinkOf}
use Rattle.fb_laws.specs.LinkNumbers.{IsCycleJoined, links_dropped, links_matched, tree_links}
use Rattle.fb_laws.specs.OpenedCycles.{PassOf, matched_beside, opened_tree}
use Rattle.fb_laws.specs.OpenedLinks.{every_second}
use Rattle.fb_laws.specs.RingReads.{round_by}
use Rattle.fb_laws.specs.RingWays.{Round, couples_after, even_round, even_steps, round_at, way_to}
use Rattle.fb_laws.specs.SearchBlossoms.{joined_tree}
use Rattle.fb_laws.specs.StepLinks.{IsStepOf, IsTurn, LeadsAlong, PlainStep, StepParts, ending_steps, link_of_steps, starting_steps}
use Rattle.fb_laws.specs.TreeCycles.{ArePaths, cycle_links}
use Rattle.fb_laws.specs.Trees.{EntryOf, minus_names}
use Rattle.fb_witnesses.specs.MetWitnesses.{met_line, middle_link}
use Rattle.fb_witnesses.specs.RingWitnesses.{corners}
use Rattle.fb_witnesses.specs.InternalSamples.{link}
use Rattle.fb_witnesses.specs.StateWitnesses.{pentagon_links, two_branches}

abbrev pub plain_parts : StepParts PlainStep
plain_parts = record { from = λ s. s.from; to = λ s. s.to; edge = λ s. s.edge }

abbrev pub plain_step : ℕ → ℕ → ℕ → PlainStep
plain_step u v k = record { from = u; to = v; edge = k }

abbrev pub turned_step : PlainStep → PlainStep
turned_step s = plain_step s.to s.from s.edge

-- two steps on to vertex 3, one step there from the other side, and the whole way
abbrev pub near_steps : List PlainStep
near_steps = plain_step 1 2 1 ∷ plain_step 2 3 2 ∷ []

abbrev pub far_steps : List PlainStep
far_steps = plain_step 4 3 3 ∷ []

abbrev pub whole_steps : List PlainStep
whole_steps = near_steps ++ plain_step 3 4 3 ∷ []

abbrev pub StepsWitness : Type 0
StepsWitness = (near_steps ≢ []) × (far_steps ≢ []) × (whole_steps ≢ []) × LeadsAlong plain_parts whole_steps 1 4
    × All (IsStepOf met_line plain_parts) whole_steps × IsTurn plain_parts turned_step
    × (link_of_steps plain_parts whole_steps ≡ middle_link) × IsLinkOf met_line middle_link
    × (link_of_steps plain_parts (map turned_step (reverse whole_steps)) ≡ link 4 1 (3 ∷ 2 ∷ 1 ∷ []))
    × (link_of_steps plain_parts
    (ending_steps plain_parts turned_step 3 near_steps ++ starting_steps plain_parts turned_step 3 far_steps)
    ≡ middle_link)

abbrev pub entry : ℕ → ℕ → ℕ → ℕ → ℕ → EntryOf ℕ
entry parent tree minus matched plus =
    record { parent = parent; tree = tree; minus = minus; matched = matched; plus = plus }

-- the branches of corner 4 by the numbers of their links, and a further one that hangs on the second
abbrev pub first_numbered : EntryOf ℕ
first_numbered = entry 4 17 0 5 1

abbrev pub second_numbered : EntryOf ℕ
second_numbered = entry 4 23 3 9 2

abbrev pub numbered_tree : List (EntryOf ℕ)
numbered_tree = entry 2 31 8 14 10 ∷ second_numbered ∷ first_numbered ∷ []

-- a minus blossom with a branch on either side of it, and the way along which it is opened
abbrev pub blossom_numbered : EntryOf ℕ
blossom_numbered = entry 6 31 7 14 5

abbrev pub numbered_way : List (PassOf ℕ)
numbered_way = record { matched = 12; plus = 1; tree = 17; minus = 0 } ∷ []

-- The search ends at node 10; link 12 closes the cycle of the first two branches; a blossom is opened.
abbrev pub MovedWitness : Type 0
MovedWitness = (tree_links numbered_tree ≡ 31 ∷ 23 ∷ 17 ∷ 14 ∷ 9 ∷ 5 ∷ [])
    × (links_matched numbered_tree 10 ≡ 23 ∷ 31 ∷ 5 ∷ []) × (links_dropped numbered_tree 10 ≡ 9 ∷ 14 ∷ 17 ∷ [])
    × ArePaths numbered_tree 1 2 [] (first_numbered ∷ []) (second_numbered ∷ [])
    × IsCycleJoined (is_in corners) numbered_tree (first_numbered ∷ []) (second_numbered ∷ [])
    × (tree_links (joined_tree (is_in corners) 7 numbered_tree) ≡ 31 ∷ 14 ∷ [])
    × (cycle_links (first_numbered ∷ []) 12 (second_numbered ∷ []) ≡ 17 ∷ 5 ∷ 12 ∷ 9 ∷ 23 ∷ [])
    × (minus_names (second_numbered ∷ first_numbered ∷ []) ≡ minus_names two_branches.tree)
    × (tree_links (opened_tree (entry 5 41 8 19 9 ∷ []) blossom_numbered (entry 6 23 10 28 11 ∷ []) 2 numbered_way)
    ≡ 41 ∷ 17 ∷ 31 ∷ 23 ∷ 19 ∷ 14 ∷ 12 ∷ 28 ∷ [])

-- the ring of the pentagon's corners by numbers, begun at corner 2
abbrev pub ring_numbers : List ℕ
ring_numbers = 17 ∷ 5 ∷ 12 ∷ 9 ∷ 23 ∷ []

abbrev pub ring_table : ℕ → Link
ring_table k =
    if k == 17 then link 4 0 (4 ∷ []) else if k == 5 then link 0 1 (0 ∷ []) else if k == 12 then link 1 2 (1 ∷ [])
    else if k == 9 then link 2 3 (2 ∷ []) else link 4 3 (3 ∷ [])

abbrev pub numbered_round : Round ℕ
numbered_round = round_at 3 corners ring_numbers

-- Three links on is corner 0, so two back over the links 12 and 5; beside the way link 23 matches a couple.
abbrev pub RingNumbersWitness : Type 0
RingNumbersWitness = (map ring_table ring_numbers ≡ pentagon_links)
    × (length numbered_round.links ≡ length numbered_round.others + 1) × (length numbered_round.others % 2 ≡ 0)
    × (3 ≤ length numbered_round.others)
    × (way_to 3 numbered_round ≡ record { matched = 12; plus = 1; tree = 5; minus = 0 } ∷ [])
    × (every_second (drop (even_steps 3 numbered_round) (even_round 3 numbered_round).links) ≡ 23 ∷ [])
    × (matched_beside (couples_after 3 (round_by ring_table numbered_round)) ≡ link 4 3 (3 ∷ []) ∷ [])
