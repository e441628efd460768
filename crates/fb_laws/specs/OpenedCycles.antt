-- A minus blossom of a search's tree opened along its cycle (Edmonds 1965): the even way round between the two
-- children at which the blossom's links end takes its place in the tree, and the children beside the way are matched
-- in pairs.
use Rattle.std.specs.Prelude.{ℕ, ◌≡◌, ◌%◌, true, false, List, [], ◌∷◌, ◌++◌, map, length, All}
use Rattle.std.specs.List.Sorted.{IsPermutation}
use Rattle.fb_graph.specs.Parity.{is_in}
use Rattle.fb_graph.specs.Problem.{Problem}
use Rattle.fb_graph.specs.Certificate.{AreDistinct}
use Rattle.fb_graph.specs.Laws.{Link}
use Rattle.fb_graph.specs.Dual.{Node, IsDual}
use Rattle.fb_graph.specs.Nests.{IsNest}
use Rattle.fb_graph.specs.Moves.{MaySplit, split_nodes}
use Rattle.fb_laws.specs.Works.{AreMatchedLinks}
use Rattle.fb_laws.specs.Trees.{Entry, EntryOf, Connects, plus_names}
use Rattle.fb_laws.specs.Searches.{IsSearch}
use Rattle.fb_laws.specs.SearchOpenings.{IsSplit, IsOpenedTree}
use Rattle.fb_laws.specs.TreeCycles.{AreLinked}

-- Two steps of the way: a link that is matched, to a child that becomes plus, and a link of the tree from there to a
-- child that becomes minus.
pub record PassOf (L : Type 0) : Type 0 where
  pub matched : L
  pub plus : ℕ
  pub tree : L
  pub minus : ℕ

abbrev pub Pass : Type 0
Pass = PassOf Link

-- two children beside the way, and the link that matches them
pub record Couple : Type 0 where
  pub first : ℕ
  pub link : Link
  pub second : ℕ

-- the way goes on from the child
abbrev pub ArePassed : List Node → ℕ → List Pass → Type 0
ArePassed nodes from [] = Unit {0}
ArePassed nodes from (s ∷ ss) =
    Connects nodes s.matched from s.plus × Connects nodes s.tree s.plus s.minus × ArePassed nodes s.minus ss

abbrev pub AreCoupled : List Node → List Couple → Type 0
AreCoupled nodes couples = All (λ c. Connects nodes c.link c.first c.second) couples

-- the child at which the way ends
abbrev pub last_of : {L : Type 0} → ℕ → List (PassOf L) → ℕ
last_of from [] = from
last_of from (s ∷ ss) = last_of s.minus ss

-- the other children of the way, which are matched in pairs
abbrev pub paired_on : {L : Type 0} → ℕ → List (PassOf L) → List ℕ
paired_on from [] = []
paired_on from (s ∷ ss) = from ∷ s.plus ∷ paired_on s.minus ss

abbrev pub paired_beside : List Couple → List ℕ
paired_beside [] = []
paired_beside (c ∷ cs) = c.first ∷ c.second ∷ paired_beside cs

-- all children but the one at which the way ends
abbrev pub paired_of : ℕ → List Pass → List Couple → List ℕ
paired_of from way couples = paired_on from way ++ paired_beside couples

abbrev pub matched_on : {L : Type 0} → List (PassOf L) → List L
matched_on way = map (λ s. s.matched) way

abbrev pub grown_on : {L : Type 0} → List (PassOf L) → List L
grown_on way = map (λ s. s.tree) way

abbrev pub matched_beside : List Couple → List Link
matched_beside couples = map (λ c. c.link) couples

-- the branches along the way, the last one first: from the parent over a link to the minus node, and so on to the
-- matched link to the plus node
abbrev pub opened_branches : {L : Type 0} → ℕ → L → ℕ → List (PassOf L) → L → ℕ → List (EntryOf L)
opened_branches parent tree minus [] matched plus =
    record { parent = parent; tree = tree; minus = minus; matched = matched; plus = plus } ∷ []
opened_branches parent tree minus (s ∷ ss) matched plus =
    opened_branches s.plus s.tree s.minus ss matched plus
    ++ record { parent = parent; tree = tree; minus = minus; matched = s.matched; plus = s.plus } ∷ []

-- they take the place of the branch of the blossom
abbrev pub opened_tree : {L : Type 0} → List (EntryOf L) → EntryOf L → List (EntryOf L) → ℕ → List (PassOf L) → List (EntryOf L)
opened_tree newer e older from way = newer ++ (opened_branches e.parent e.tree from way e.matched e.plus ++ older)

-- The blossom's children along the way from the one at which the link of the tree ends to the one at which the
-- matched link ends, and the others in pairs.
pub record IsOpenedCycle (p : Problem) (nodes others : List Node) (e : Entry) (from : ℕ) (way : List Pass) (couples : List Couple) (unmatched : List ℕ) : Type 0 where
  pub split : IsSplit nodes others e.minus (last_of from way ∷ paired_of from way couples)
  pub distinct : AreDistinct (last_of from way ∷ paired_of from way couples)
  pub above : Connects others e.tree e.parent from
  pub below : Connects others e.matched (last_of from way) e.plus
  pub passed : ArePassed others from way
  pub coupled : AreCoupled others couples
  pub links : AreMatchedLinks p nodes (matched_on way ++ (grown_on way ++ matched_beside couples))
  pub closed : (n : ℕ) → is_in (last_of from way ∷ paired_of from way couples) n ≡ true → is_in unmatched n ≡ false

-- Then the tree with the way's branches in the place of the blossom's is one that keeps the search.
abbrev pub CycleOpened : Type 0
CycleOpened = (p : Problem) (nodes others : List Node) (newer older : List Entry) (e : Entry) (rest : List Link)
    (unmatched : List ℕ) (root r from : ℕ) (way : List Pass) (couples : List Couple)
    → IsOpenedCycle p nodes others e from way couples unmatched → IsDual p others
    → IsSearch p nodes (newer ++ e ∷ older) rest unmatched root r
    → IsOpenedTree p nodes others newer older (opened_tree newer e older from way) e (last_of from way)
    (paired_of from way couples) (matched_on way ++ matched_beside couples) rest (matched_beside couples ++ rest) unmatched
    root

-- What was plus still is.
abbrev pub StillPlus : Type 0
StillPlus = (newer older : List Entry) (e : Entry) (root from n : ℕ) (way : List Pass)
    → is_in (plus_names root (newer ++ e ∷ older)) n ≡ true
    → is_in (plus_names root (opened_tree newer e older from way)) n ≡ true

-- Round an odd cycle there is such a way between any two of its nodes, in the one direction or the other.
abbrev pub WayRound : Type 0
WayRound = (nodes : List Node) (first : ℕ) (names : List ℕ) (links : List Link) (from to : ℕ)
    → AreLinked nodes first (names ++ first ∷ []) links → length names % 2 ≡ 0
    → is_in (first ∷ names) from ≡ true → is_in (first ∷ names) to ≡ true
    → (way : List Pass) × (couples : List Couple) × (last_of from way ≡ to) × ArePassed nodes from way
    × AreCoupled nodes couples × IsPermutation (first ∷ names) (last_of from way ∷ paired_of from way couples)
    × ((p : Problem) (others : List Node) → AreMatchedLinks p others links
    → AreMatchedLinks p others (matched_on way ++ (grown_on way ++ matched_beside couples)))

-- A blossom split off a nest leaves the defects that it held under its children, and all else as it was.
abbrev pub SplitOff : Type 0
SplitOff = (p : Problem) (before after : List Node) (b : Node) (children : List ℕ)
    → MaySplit (before ++ b ∷ after) b.name → IsNest p (before ++ b ∷ after)
    → ((n : ℕ) → is_in children n ≡ is_in b.children n)
    → (split_nodes b.name (before ++ b ∷ after) ≡ before ++ after)
    × IsSplit (before ++ b ∷ after) (before ++ after) b.name children

-- So a link that ends under the blossom ends under one of its children.
abbrev pub EndUnderChild : Type 0
EndUnderChild = (p : Problem) (nodes others : List Node) (blossom other : ℕ) (children : List ℕ) (l : Link)
    → IsDual p nodes → IsSplit nodes others blossom children → AreMatchedLinks p nodes (l ∷ [])
    → (other ≡ blossom → ⊥) → Connects nodes l other blossom
    → (child : ℕ) × (is_in children child ≡ true) × Connects others l other child

-- So a minus blossom with one layer of value 0 can be opened, given its cycle and the two children at which the
-- blossom's links end: there is a way between the two for which the tree is one that keeps the search.
abbrev pub BlossomOpened : Type 0
BlossomOpened = (p : Problem) (before after : List Node) (b : Node) (newer older : List Entry) (e : Entry)
    (rest : List Link) (unmatched : List ℕ) (root r first : ℕ) (names : List ℕ) (links : List Link) (from to : ℕ)
    → IsNest p (before ++ b ∷ after) → MaySplit (before ++ b ∷ after) b.name → e.minus ≡ b.name
    → IsSearch p (before ++ b ∷ after) (newer ++ e ∷ older) rest unmatched root r
    → IsPermutation b.children (first ∷ names) → AreLinked (before ++ after) first (names ++ first ∷ []) links
    → AreMatchedLinks p (before ++ b ∷ after) links
    → ((n : ℕ) → is_in b.children n ≡ true → is_in unmatched n ≡ false)
    → is_in b.children from ≡ true → Connects (before ++ after) e.tree e.parent from
    → is_in b.children to ≡ true → Connects (before ++ after) e.matched to e.plus
    → (way : List Pass) × (couples : List Couple) × (last_of from way ≡ to)
    × IsOpenedTree p (before ++ b ∷ after) (before ++ after) newer older (opened_tree newer e older from way) e
    (last_of from way) (paired_of from way couples) (matched_on way ++ matched_beside couples) rest
    (matched_beside couples ++ rest) unmatched root
