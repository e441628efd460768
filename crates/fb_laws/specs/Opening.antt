-- Blossoms opened level by level, until the links match the defects themselves (Edmonds 1965). The cuts stay.
use Rattle.std.specs.Prelude.{ℕ, ◌≡◌, ◌≤◌, ◌<◌, ◌⊎◌, Bool, true, List, [], ◌∷◌, ◌++◌, map, length, get_or, All}
use Rattle.std.specs.List.Sorted.{IsPermutation}
use Rattle.fb_graph.specs.Parity.{is_in}
use Rattle.fb_graph.specs.Problem.{Problem}
use Rattle.fb_graph.specs.Certificate.{IsPacking}
use Rattle.fb_graph.specs.Laws.{Link, IsPerfect, IsSolved, odd_edges}
use Rattle.fb_graph.specs.Dual.{IsWithin}
use Rattle.fb_graph.specs.declared.parts.Cut.{Cut}
use Rattle.fb_graph.specs.Ends.{ends_in, AreAllApart, crossing_links}
use Rattle.fb_laws.specs.Blossoms.{ArePaired}
use Rattle.fb_graph.specs.Links.{IsTightLink}

-- Sets that lie apart, each with one end of all links, and cuts of which each is crossed at most once.
pub record IsLevel (cuts : List Cut) (sets : List (List ℕ)) (links : List Link) : Type 0 where
  pub apart : AreAllApart sets
  pub ends : All (λ s. ends_in s links ≡ 1) sets
  pub once : All (λ c. crossing_links c.vertices links ≤ 1) cuts

-- the cut lies within one of the sets
abbrev pub IsWithinOne : Cut → List (List ℕ) → Type 0
IsWithinOne c sets = (i : ℕ) × (i < length sets) × IsWithin c.vertices (get_or sets i [])

-- the cut holds all of these sets or nothing of them
abbrev pub IsAlikeOver : Cut → List (List ℕ) → Type 0
IsAlikeOver c sets = (b : Bool) × All (λ s. (v : ℕ) → is_in s v ≡ true → is_in c.vertices v ≡ b) sets

-- A blossom's set opened: its children, the one that keeps the blossom's link and the others in pairs with new links.
-- As cuts are nested or apart, each lies within a child or treats all children alike.
pub record IsOpening (cuts : List Cut) (set kept : List ℕ) (paired : List (List ℕ)) (links : List Link) : Type 0 where
  pub pairs : ArePaired paired links
  pub apart : AreAllApart (kept ∷ paired)
  pub within : All (λ s. IsWithin s set) (kept ∷ paired)
  pub nested : All (λ c. IsWithinOne c (kept ∷ paired) ⊎ IsAlikeOver c paired) cuts

-- A set with one end lets no cut within it be crossed twice.
abbrev pub WithinOnce : Type 0
WithinOnce = (cut set : List ℕ) (links : List Link) → IsWithin cut set → ends_in set links ≡ 1
    → crossing_links cut links ≤ 1

-- The outer nodes of a solved part are the first level: each is matched once, and each cut lies within one of them.
abbrev pub FirstLevel : Type 0
FirstLevel = (cuts : List Cut) (sets : List (List ℕ)) (links : List Link) → AreAllApart sets
    → All (λ s. ends_in s links ≡ 1) sets → All (λ c. IsWithinOne c sets) cuts → IsLevel cuts sets links

-- Opening a blossom leads from a level to the next one.
abbrev pub NextLevel : Type 0
NextLevel = (cuts : List Cut) (set kept : List ℕ) (paired rest : List (List ℕ)) (links more : List Link)
    → IsLevel cuts (set ∷ rest) links → IsOpening cuts set kept paired more → ends_in kept links ≡ 1
    → IsLevel cuts (kept ∷ paired ++ rest) (more ++ links)

-- The order of sets and links doesn't matter.
abbrev pub LevelPermuted : Type 0
LevelPermuted = (cuts : List Cut) (sets more : List (List ℕ)) (links others : List Link) → IsPermutation sets more
    → IsPermutation links others → IsLevel cuts sets links → IsLevel cuts more others

-- one blossom opened: its set, the child that keeps its link, the other children, the new links, and the sets beside it
pub record Opened : Type 0 where
  pub set : List ℕ
  pub kept : List ℕ
  pub paired : List (List ℕ)
  pub links : List Link
  pub rest : List (List ℕ)

-- from these sets and links the openings lead, one after another, to those
abbrev pub IsOpenedTo : List Cut → List (List ℕ) → List Link → List Opened → List (List ℕ) → List Link → Type 0
IsOpenedTo cuts sets links [] last_sets last_links = IsPermutation sets last_sets × IsPermutation links last_links
IsOpenedTo cuts sets links (o ∷ os) last_sets last_links =
    IsPermutation sets (o.set ∷ o.rest) × IsOpening cuts o.set o.kept o.paired o.links × (ends_in o.kept links ≡ 1)
    × IsOpenedTo cuts (o.kept ∷ o.paired ++ o.rest) (o.links ++ links) os last_sets last_links

-- They lead from a level to a level.
abbrev pub LevelsOpened : Type 0
LevelsOpened = (cuts : List Cut) (sets last_sets : List (List ℕ)) (links last_links : List Link)
    (openings : List Opened)
    → IsLevel cuts sets links → IsOpenedTo cuts sets links openings last_sets last_links
    → IsLevel cuts last_sets last_links

-- the sets of single defects
abbrev pub single_sets : List ℕ → List (List ℕ)
single_sets defects = map (λ d. d ∷ []) defects

-- the link's real ends are defects
abbrev pub EndsAtDefects : Problem → List ℕ → Link → Type 0
EndsAtDefects p defects l = (p.is_real l.from ≡ true → is_in defects l.from ≡ true) × (p.is_real l.to ≡ true → is_in defects l.to ≡ true)

-- no link ends at a real vertex that isn't a defect
abbrev pub EndAtDefects : Problem → List ℕ → List Link → Type 0
EndAtDefects p defects links = All (EndsAtDefects p defects) links

-- At the last level the tight links are a perfect matching of the defects.
abbrev pub LastLevel : Type 0
LastLevel = (p : Problem) (cuts : List Cut) (defects : List ℕ) (links : List Link)
    → IsLevel cuts (single_sets defects) links
    → All (IsTightLink p cuts) links → EndAtDefects p defects links
    → ((v : ℕ) → p.is_real v ≡ true → p.is_defect v ≡ is_in defects v) → IsPerfect p cuts links

-- So they give a correction that weighs what the cuts are worth.
abbrev pub LevelSolved : Type 0
LevelSolved = (p : Problem) (cuts : List Cut) (defects : List ℕ) (links : List Link) → IsPacking p cuts
    → IsLevel cuts (single_sets defects) links → All (IsTightLink p cuts) links → EndAtDefects p defects links
    → ((v : ℕ) → p.is_real v ≡ true → p.is_defect v ≡ is_in defects v) → IsSolved p cuts (odd_edges p links)
