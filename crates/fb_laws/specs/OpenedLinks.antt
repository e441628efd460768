-- All blossoms of a part with nothing unmatched opened at once, from the one made last to the one made first. One
-- child of each keeps the end of a link at the blossom; the others are matched in pairs by every second link of the
-- ring from there (Edmonds 1965). So what a part is solved by depends on its state alone.
use Rattle.std.specs.Prelude.{ℕ, ◌≡◌, ◌+◌, ◌<◌, ◌==◌, ◌||◌, Bool, true, false, List, [], ◌∷◌, ◌++◌, length, take, drop, get_or, flat_map, sum_by, if◌then◌else◌}
use Rattle.std.specs.List.{list_any}
use Rattle.std.specs.List.Sorted.{IsStrictlyIncreasing}
use Rattle.fb_graph.specs.Parity.{is_in, is_odd_count}
use Rattle.fb_graph.specs.Problem.{Problem}
use Rattle.fb_graph.specs.Certificate.{AreRising, IsCertified, total_value}
use Rattle.fb_graph.specs.Printed.{HasPositiveCuts}
use Rattle.fb_graph.specs.Laws.{IsPart, Link, IsPerfect, IsSolved, odd_edges}
use Rattle.fb_graph.specs.Dual.{Node, all_cuts, is_empty}
use Rattle.fb_graph.specs.declared.parts.Cut.{Cut}
use Rattle.fb_graph.specs.Ends.{ends_in}
use Rattle.fb_laws.specs.Works.{AreMatchedLinks, positive_cuts}
use Rattle.fb_graph.specs.Nests.{child_sets}
use Rattle.fb_laws.specs.NestSolutions.{leaf_sets}
use Rattle.fb_laws.specs.Opening.{IsLevel}
use Rattle.fb_laws.specs.PartStates.{PartState, IsPartState}

-- some link ends in the set
abbrev pub has_end : List Link → List ℕ → Bool
has_end links set = list_any (λ l. is_in set l.from || is_in set l.to) links

-- the place of the first element that passes the test, or the length if none does
abbrev pub place_of : {X : Type 0} → (X → Bool) → List X → ℕ
place_of test [] = 0
place_of test (x ∷ xs) = if test x then 0 else 1 + place_of test xs

-- the list begun at a place, and gone round
abbrev pub round_from : {X : Type 0} → ℕ → List X → List X
round_from place xs = drop place xs ++ take place xs

-- the second element, the fourth and so on
abbrev pub every_second : {X : Type 0} → List X → List X
every_second [] = []
every_second (x ∷ []) = []
every_second (x ∷ y ∷ xs) = y ∷ every_second xs

-- The links that match a blossom's children in pairs, but for the one in which a link ends: every second link of the
-- ring from that child on.
abbrev pub pair_links : List Link → List (List ℕ) → List Link → List Link
pair_links links sets ring = every_second (round_from (place_of (has_end links) sets) ring)

-- the links with one node more opened
abbrev pub with_opened : List Node → (ℕ → List Link) → Node → List Link → List Link
with_opened nodes cycles n links =
    links ++ (if is_empty n.children then [] else pair_links links (child_sets nodes n) (cycles n.name))

-- the links with some nodes opened, the last one first
abbrev pub opened_over : List Node → (ℕ → List Link) → List Node → List Link → List Link
opened_over nodes cycles [] links = links
opened_over nodes cycles (n ∷ ns) links = with_opened nodes cycles n (opened_over nodes cycles ns links)

-- the links of a part with all its blossoms opened
abbrev pub opened_links : PartState → List Link
opened_links s = opened_over s.nodes s.cycles s.nodes s.matches

-- They match the defects, each once, and cross no cut of positive value twice; all of them are tight.
abbrev pub OpenedLevel : Type 0
OpenedLevel = (p : Problem) (s : PartState) → IsPartState p s → s.unmatched ≡ []
    → IsLevel (positive_cuts s.nodes) (leaf_sets s.nodes) (opened_links s) × AreMatchedLinks p s.nodes (opened_links s)

-- So they are a perfect matching of the part's defects with one another and with the boundary,
abbrev pub OpenedPerfect : Type 0
OpenedPerfect = (p : Problem) (s : PartState) → IsPartState p s → s.unmatched ≡ []
    → IsPerfect p (positive_cuts s.nodes) (opened_links s)

-- and the edges that lie on an odd number of them are a correction that weighs what the cuts are worth:
abbrev pub PartSolved : Type 0
PartSolved = (p : Problem) (s : PartState) → IsPartState p s → s.unmatched ≡ []
    → IsSolved p (positive_cuts s.nodes) (odd_edges p (opened_links s))

-- a best row, given the cuts as they are printed.
abbrev pub PartIsBest : Type 0
PartIsBest = (p : Problem) (s : PartState) (printed : List Cut) → IsPartState p s → s.unmatched ≡ []
    → HasPositiveCuts (all_cuts s.nodes) printed → AreRising printed
    → IsCertified p (odd_edges p (opened_links s)) (total_value (all_cuts s.nodes)) printed

-- Written with the edge numbers that the links' walks have an odd number of times, it is a best row of every problem
-- with the same real vertices and defects.
abbrev pub RowOfPart : Type 0
RowOfPart = (p whole : Problem) (s : PartState) (ones : List ℕ) (printed : List Cut) → IsPartState p s
    → s.unmatched ≡ [] → IsPart p whole → ((v : ℕ) → whole.is_real v ≡ true → p.is_real v ≡ true)
    → IsStrictlyIncreasing ones
    → ((k : ℕ) → is_odd_count (λ j. j == k) ones
    ≡ is_odd_count (λ j. j == k) (flat_map (λ l. l.walk) (opened_links s)))
    → HasPositiveCuts (all_cuts s.nodes) printed → AreRising printed
    → IsCertified whole ones (total_value (all_cuts s.nodes)) printed

-- When a blossom's turn comes, just one end of the links lies in its children,
abbrev pub EndAtTurn : Type 0
EndAtTurn = (p : Problem) (s : PartState) (before after : List Node) (n : Node) → IsPartState p s → s.unmatched ≡ []
    → s.nodes ≡ before ++ n ∷ after → is_empty n.children ≡ false
    → sum_by (λ set. ends_in set (opened_over s.nodes s.cycles after s.matches)) (child_sets s.nodes n) ≡ 1

-- so that any child in which a link ends is the one.
abbrev pub OnePlace : Type 0
OnePlace = (links : List Link) (sets : List (List ℕ)) (i : ℕ) → sum_by (λ set. ends_in set links) sets ≡ 1
    → i < length sets → has_end links (get_or sets i []) ≡ true → place_of (has_end links) sets ≡ i
