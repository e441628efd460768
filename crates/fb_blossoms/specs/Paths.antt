-- Paths of links inside a blossom.
use Rattle.std.specs.Prelude.{ℕ, suc, ◌≡◌, ◌%◌, ◌<◌, ◌==◌, Bool, true, List, [], ◌∷◌, ◌++◌, length, Option}
use Rattle.std.specs.List.{list_any}
use Rattle.fb_links.specs.Lists.{AreDistinct, is_in}
use Rattle.fb_links.specs.declared.walk.Step.{Step}
use Rattle.fb_links.specs.declared.cycle.CycleStep.{CycleStep}
use Rattle.fb_links.specs.Walks.{is_end, other_end}
use Rattle.fb_links.specs.Table.{walk_at}
use Rattle.fb_blossoms.specs.Nodes.{AreWithin, Node, cycle_at, defects_at}
use Rattle.fb_blossoms.specs.Links.{LeadsOver, link_after, node_after}

mutual
  -- The even path inside a node from one of its defects to another, by levels. From a defect to itself it has no links.
  -- Else it goes round the node's cycle, from the child that holds the one to the child that holds the other, by the way
  -- round of an even number of steps. Inside each child that it passes it is that child's even path, from the defect where
  -- it enters the child to the defect where it leaves it.
  pub data IsEvenPath (links : List (Option (List Step))) (nodes : List (Option Node)) : ℕ → ℕ → ℕ → List ℕ → Type 0 where
    stays : (name d : ℕ) → is_in (defects_at nodes name) d ≡ true → IsEvenPath links nodes name d d []
    goes_round : (name from to : ℕ) (path : List ℕ) (onward : Bool) (s steps : ℕ) → s < length (cycle_at nodes name)
        → steps < length (cycle_at nodes name) → steps % 2 ≡ 0 → GoesRound links nodes name onward s steps from to path
        → IsEvenPath links nodes name from to path

  -- The rest of such a path: it is at the defect `from` of the child that is k steps from the child at the place s,
  -- where it ends. In the last child it is the child's even path. Before that it is the child's even path to the defect
  -- where the link to the next child leaves it, the link, and the rest from the defect where the link enters the next child.
  pub data GoesRound (links : List (Option (List Step))) (nodes : List (Option Node)) : ℕ → Bool → ℕ → ℕ → ℕ → ℕ → List ℕ → Type 0 where
    ends_here : (name : ℕ) (onward : Bool) (s from to : ℕ) (path : List ℕ)
        → IsEvenPath links nodes (node_after (cycle_at nodes name) onward s 0) from to path
        → GoesRound links nodes name onward s 0 from to path
    goes_on : (name : ℕ) (onward : Bool) (s k from exit entry to : ℕ) (front rest : List ℕ)
        → IsEvenPath links nodes (node_after (cycle_at nodes name) onward s (suc k)) from exit front
        → LeadsOver links nodes (link_after (cycle_at nodes name) onward s k) (node_after (cycle_at nodes name) onward s (suc k)) exit
        (node_after (cycle_at nodes name) onward s k) entry
        → GoesRound links nodes name onward s k entry to rest
        → GoesRound links nodes name onward s (suc k) from to (front ++ link_after (cycle_at nodes name) onward s k ∷ rest)

-- the links lead from the one defect to the other, each from the defect that the one before it led to
abbrev pub Leads : List (Option (List Step)) → ℕ → List ℕ → ℕ → Type 0
Leads links from [] to = from ≡ to
Leads links from (l ∷ ls) to = (is_end (walk_at links l) from ≡ true) × Leads links (other_end from (walk_at links l)) ls to

-- the defects that they lead to, one after another
abbrev pub reached_defects : List (Option (List Step)) → ℕ → List ℕ → List ℕ
reached_defects links from [] = []
reached_defects links from (l ∷ ls) = other_end from (walk_at links l) ∷ reached_defects links (other_end from (walk_at links l)) ls

-- whether a step of the cycle has the link
abbrev pub has_link : List CycleStep → ℕ → Bool
has_link cycle l = list_any (λ s. s.link == l) cycle

-- the link is in the cycle of the node, or of a node inside it
abbrev pub IsLinkIn : List (Option Node) → ℕ → ℕ → Type 0
IsLinkIn nodes name l =
    (m : ℕ) × AreWithin (defects_at nodes m) (defects_at nodes name) × (has_link (cycle_at nodes m) l ≡ true)

-- An even number of links inside the node, which lead from the one defect to the other and pass no defect twice. So the
-- second, the fourth and each further second link match each defect of the path but the first one, and the links between
-- them each defect but the last one.
pub record IsSimpleEvenPath (links : List (Option (List Step))) (nodes : List (Option Node)) (name from to : ℕ) (path : List ℕ) : Type 0 where
  pub leads : Leads links from path to
  pub even : length path % 2 ≡ 0
  pub once : AreDistinct (from ∷ reached_defects links from path)
  pub within : AreWithin (reached_defects links from path) (defects_at nodes name)
  pub inside : (l : ℕ) → is_in path l ≡ true → IsLinkIn nodes name l
