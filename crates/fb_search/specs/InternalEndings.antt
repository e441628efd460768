-- What becomes of a tree's links as a search ends: which nodes they match then, and which are forgotten.
use Rattle.std.specs.Prelude.{ℕ, List, [], ◌∷◌, ◌++◌, map, Option, Some, None, if◌then◌else◌, ◌≡◌}
use Rattle.fb_graph.specs.Parity.{is_in}
use Rattle.fb_laws.specs.Trees.{EntryOf, branches_beside, path_to}
use Rattle.fb_links.specs.declared.cycle.CycleStep.{CycleStep}
use Rattle.fb_links.specs.declared.walk.Step.{Step}
use Rattle.fb_links.specs.Table.{link_at}
use Rattle.fb_half.specs.declared.matches.Match.{Match}

-- a branch on the path to the node at which the search ends: its parent is matched with its minus node by the tree's link
abbrev pub path_match : EntryOf ℕ → Match
path_match e = record { link = e.tree; first = e.parent; second = Some e.minus }

-- a branch beside the path keeps its match
abbrev pub beside_match : EntryOf ℕ → Match
beside_match e = record { link = e.matched; first = e.minus; second = Some e.plus }

-- The steps of a path down from the root: to a minus node by the tree's link, from there to its plus node by the matched
-- one, and so on. Each parent is matched with the minus node under it.
abbrev pub swapped_match : ℕ → CycleStep → Match
swapped_match parent minus = record { link = minus.link; first = parent; second = Some minus.node }

abbrev pub swapped_from : ℕ → List CycleStep → List Match
swapped_from parent (minus ∷ plus ∷ rest) = swapped_match parent minus ∷ swapped_from plus.node rest
swapped_from parent rest = []

-- the matches of the tree's nodes but for the last plus node
abbrev pub ended_matches : List (EntryOf ℕ) → ℕ → List Match
ended_matches tree name = map path_match (path_to tree name) ++ map beside_match (branches_beside tree name)

-- all matches once the search has ended: kept ones, those made of the tree, and the one that ends it
abbrev pub all_matches : List Match → List (EntryOf ℕ) → ℕ → Match → List Match
all_matches kept tree name out = kept ++ (ended_matches tree name ++ out ∷ [])

-- no link has one of these numbers any more, and nothing else changes
abbrev pub Forgets : List ℕ → List (Option (List Step)) → List (Option (List Step)) → Type 0
Forgets ids old new = (k : ℕ) → link_at new k ≡ (if is_in ids k then None else link_at old k)
