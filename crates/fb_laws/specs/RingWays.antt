-- The even way round a blossom's ring between two of its children, and the couples beside it, link by link (Edmonds
-- 1965): what code does when it opens a minus blossom.
use Rattle.std.specs.Prelude.{ℕ, ◌≡◌, ◌+◌, ◌-◌, ◌%◌, ◌≤◌, ◌==◌, true, false, List, [], ◌∷◌, ◌++◌, length, take, drop, reverse, get_or, if◌then◌else◌}
use Rattle.std.specs.List.Sorted.{IsPermutation}
use Rattle.fb_graph.specs.Parity.{is_in}
use Rattle.fb_graph.specs.Problem.{Problem}
use Rattle.fb_graph.specs.Laws.{Link}
use Rattle.fb_graph.specs.Dual.{Node}
use Rattle.fb_graph.specs.Nests.{IsNest}
use Rattle.fb_graph.specs.Moves.{MaySplit}
use Rattle.fb_laws.specs.OpenedCycles.{Couple, Pass, PassOf, ArePassed, AreCoupled, grown_on, last_of, matched_beside, matched_on, opened_tree, paired_of}
use Rattle.fb_laws.specs.OpenedLinks.{round_from}
use Rattle.fb_laws.specs.SearchOpenings.{IsOpenedTree}
use Rattle.fb_laws.specs.Searches.{IsSearch}
use Rattle.fb_laws.specs.TreeCycles.{AreLinked}
use Rattle.fb_laws.specs.Trees.{Connects, Entry}
use Rattle.fb_laws.specs.Works.{AreMatchedLinks}

-- a ring from one of its nodes on: the other nodes, the first link to them, and so on to the last link back
pub record Round (L : Type 0) : Type 0 where
  pub others : List ℕ
  pub links : List L

-- the ring from the node at a place on
abbrev pub round_at : {L : Type 0} → ℕ → List ℕ → List L → Round L
round_at place names links = record {
  others = drop (place + 1) names ++ take place names;
  links = round_from place links;
}

-- the same in the other direction
abbrev pub turned_round : {L : Type 0} → Round L → Round L
turned_round r = record { others = reverse r.others; links = reverse r.links }

-- The links lead round, from the node and back to it.
abbrev pub IsRoundFrom : List Node → ℕ → Round Link → Type 0
IsRoundFrom nodes from r = AreLinked nodes from (r.others ++ from ∷ []) r.links

-- To the node `steps` links on it is an even number of links on, or else an even number back.
abbrev pub even_round : {L : Type 0} → ℕ → Round L → Round L
even_round steps r = if steps % 2 == 0 then r else turned_round r

abbrev pub even_steps : {L : Type 0} → ℕ → Round L → ℕ
even_steps steps r = if steps % 2 == 0 then steps else length r.others + 1 - steps

-- two links at a time: the first one is matched, the second one is the tree's
abbrev pub passes_along : {L : Type 0} → List ℕ → List L → List (PassOf L)
passes_along (plus ∷ minus ∷ names) (matched ∷ tree ∷ links) =
    record { matched = matched; plus = plus; tree = tree; minus = minus } ∷ passes_along names links
passes_along names links = []

-- two nodes at a time, and the link between them, which is every second one
abbrev pub couples_along : List ℕ → List Link → List Couple
couples_along (first ∷ second ∷ names) (before ∷ link ∷ links) =
    record { first = first; link = link; second = second } ∷ couples_along names links
couples_along names links = []

-- the way to the node `steps` links on
abbrev pub way_to : {L : Type 0} → ℕ → Round L → List (PassOf L)
way_to steps r =
    passes_along (take (even_steps steps r) (even_round steps r).others)
    (take (even_steps steps r) (even_round steps r).links)

-- the couples from there on
abbrev pub couples_after : ℕ → Round Link → List Couple
couples_after steps r =
    couples_along (drop (even_steps steps r) (even_round steps r).others)
    (drop (even_steps steps r) (even_round steps r).links)

-- the way leads from the one node to the other, and all other nodes are in pairs
pub record IsWayRound (nodes : List Node) (from to : ℕ) (r : Round Link) (way : List Pass) (couples : List Couple) : Type 0 where
  pub ends : last_of from way ≡ to
  pub passed : ArePassed nodes from way
  pub coupled : AreCoupled nodes couples
  pub all : IsPermutation (from ∷ r.others) (last_of from way ∷ paired_of from way couples)
  pub links : (p : Problem) (ns : List Node) → AreMatchedLinks p ns r.links
      → AreMatchedLinks p ns (matched_on way ++ (grown_on way ++ matched_beside couples))

-- It does round a ring of an odd number of nodes.
abbrev pub EvenWayRound : Type 0
EvenWayRound = (nodes : List Node) (from : ℕ) (r : Round Link) (steps : ℕ) → IsRoundFrom nodes from r
    → length r.others % 2 ≡ 0 → steps ≤ length r.others
    → IsWayRound nodes from (get_or (from ∷ r.others) steps from) r (way_to steps r) (couples_after steps r)

-- A ring may be begun at any of its nodes.
abbrev pub RoundBegun : Type 0
RoundBegun = (nodes : List Node) (first : ℕ) (names : List ℕ) (links : List Link) (place : ℕ)
    → AreLinked nodes first (names ++ first ∷ []) links → place ≤ length names
    → IsRoundFrom nodes (get_or (first ∷ names) place first) (round_at place (first ∷ names) links)
    × IsPermutation (first ∷ names)
    (get_or (first ∷ names) place first ∷ (round_at place (first ∷ names) links).others)

-- So a minus blossom with one layer of value 0 is opened, given its ring, the place of the child at which the tree's
-- link ends, and how many links on the matched one ends: the way and the couples give the tree that keeps the search.
abbrev pub BlossomOpenedAlong : Type 0
BlossomOpenedAlong = (p : Problem) (before after : List Node) (b : Node) (newer older : List Entry) (e : Entry)
    (rest : List Link) (unmatched : List ℕ) (root r first : ℕ) (names : List ℕ) (links : List Link) (place steps from : ℕ)
    (round : Round Link)
    → IsNest p (before ++ b ∷ after) → MaySplit (before ++ b ∷ after) b.name → e.minus ≡ b.name
    → IsSearch p (before ++ b ∷ after) (newer ++ e ∷ older) rest unmatched root r
    → IsPermutation b.children (first ∷ names) → AreLinked (before ++ after) first (names ++ first ∷ []) links
    → AreMatchedLinks p (before ++ b ∷ after) links
    → ((n : ℕ) → is_in b.children n ≡ true → is_in unmatched n ≡ false)
    → place ≤ length names → from ≡ get_or (first ∷ names) place first → round ≡ round_at place (first ∷ names) links
    → steps ≤ length names → Connects (before ++ after) e.tree e.parent from
    → Connects (before ++ after) e.matched (get_or (from ∷ round.others) steps from) e.plus
    → IsOpenedTree p (before ++ b ∷ after) (before ++ after) newer older
    (opened_tree newer e older from (way_to steps round)) e
    (last_of from (way_to steps round)) (paired_of from (way_to steps round) (couples_after steps round))
    (matched_on (way_to steps round) ++ matched_beside (couples_after steps round)) rest
    (matched_beside (couples_after steps round) ++ rest) unmatched root
