-- Laws of the definitions.
use Rattle.std.specs.Prelude.{ℕ, ◌≡◌, ◌⊎◌, ◌+◌, ◌<◌, true, List, ◌++◌, length, Option, Some, None}
use Rattle.fb_links.specs.Lists.{is_in}
use Rattle.fb_links.specs.declared.walk.Step.{Step}
use Rattle.fb_links.specs.Walks.{walk_weight, start_of, end_of, Runs, IsChained, turned_walk, share_end, meeting_vertex, other_end, joined_walk}
use Rattle.fb_links.specs.Table.{IsLink, Adds, is_live, link_at}
use Rattle.fb_links.specs.Merged.{AreMerged, new_numbers}
use Rattle.fb_links.specs.Names.{name_by}

-- A walk that leads from one vertex to another has these ends, if it has a step.
abbrev pub EndsOfWalk : Type 0
EndsOfWalk = (walk : List Step) (from to : ℕ) → 0 < length walk → Runs walk from to
    → (start_of walk ≡ from) × (end_of walk ≡ to)

-- A walk that leads from one vertex to another has each step begin where the one before it ended.
abbrev pub RunIsChained : Type 0
RunIsChained = (walk : List Step) (from to : ℕ) → Runs walk from to → IsChained walk

-- A reversed walk leads back.
abbrev pub TurnedLeadsBack : Type 0
TurnedLeadsBack = (walk : List Step) (from to : ℕ) → Runs walk from to → Runs (turned_walk walk) to from

-- A reversed walk has the same weight.
abbrev pub TurnedWeighsSame : Type 0
TurnedWeighsSame = (walk : List Step) → walk_weight (turned_walk walk) ≡ walk_weight walk

-- a link's walk reversed: it may be a link's too, and has the ends exchanged
pub record IsTurned (walk : List Step) : Type 0 where
  pub link : IsLink (turned_walk walk)
  pub start : start_of (turned_walk walk) ≡ end_of walk
  pub end : end_of (turned_walk walk) ≡ start_of walk

abbrev pub TurnedIsLink : Type 0
TurnedIsLink = (walk : List Step) → IsLink walk → IsTurned walk

-- Two walks of which the second begins where the first ends lead from the first one's start to the second one's end.
abbrev pub WalkGoesOn : Type 0
WalkGoesOn = (first second : List Step) (from via to : ℕ) → Runs first from via → Runs second via to
    → Runs (first ++ second) from to

-- The weight of two walks, one after the other, is the sum of their weights.
abbrev pub WalksWeigh : Type 0
WalksWeigh = (first second : List Step) → walk_weight (first ++ second) ≡ walk_weight first + walk_weight second

-- the joined walk of two links leads from the other end of the first to the other end of the second
pub record IsJoinedWalk (a b : List Step) : Type 0 where
  pub some : 0 < length (joined_walk a b)
  pub leads : Runs (joined_walk a b) (other_end (meeting_vertex a b) a) (other_end (meeting_vertex a b) b)
  pub chained : IsChained (joined_walk a b)
  pub start : start_of (joined_walk a b) ≡ other_end (meeting_vertex a b) a
  pub end : end_of (joined_walk a b) ≡ other_end (meeting_vertex a b) b
  pub weighs : walk_weight (joined_walk a b) ≡ walk_weight a + walk_weight b

abbrev pub JoinedWalk : Type 0
JoinedWalk = (a b : List Step) → IsLink a → IsLink b → share_end a b ≡ true → IsJoinedWalk a b

-- A link stays as it is when another one is added.
abbrev pub LinksStay : Type 0
LinksStay = (old new : List (Option (List Step))) (id : ℕ) (walk : List Step) → Adds old new id walk
    → (k : ℕ) (other : List Step) → link_at old k ≡ Some other → link_at new k ≡ Some other

-- If two tables are merged, each link of the left one stays as it is.
abbrev pub LeftStays : Type 0
LeftStays = (left right : List (Option (List Step))) (pairs : List (ℕ × ℕ)) (new : List (Option (List Step)))
    → AreMerged left right pairs new → (id : ℕ) (walk : List Step) → link_at left id ≡ Some walk
    → link_at new id ≡ Some walk

-- a link of the right table: its walk is under its new number, which no link of the left table has
pub record IsRenamed (left right : List (Option (List Step))) (pairs : List (ℕ × ℕ)) (new : List (Option (List Step)))
    (id : ℕ) : Type 0 where
  pub moved : link_at new (name_by pairs id) ≡ link_at right id
  pub fresh : link_at left (name_by pairs id) ≡ None
  pub listed : is_in (new_numbers pairs) (name_by pairs id) ≡ true

abbrev pub RightIsRenamed : Type 0
RightIsRenamed = (left right : List (Option (List Step))) (pairs : List (ℕ × ℕ)) (new : List (Option (List Step)))
    → AreMerged left right pairs new → (id : ℕ) → is_live right id ≡ true → IsRenamed left right pairs new id

-- No two links of the right table get the same number.
abbrev pub RightStaysApart : Type 0
RightStaysApart = (left right : List (Option (List Step))) (pairs : List (ℕ × ℕ)) (new : List (Option (List Step)))
    → AreMerged left right pairs new → (a b : ℕ) → is_live right a ≡ true → is_live right b ≡ true
    → name_by pairs a ≡ name_by pairs b → a ≡ b

-- Each link of the new table is one of the left table, or one of the right table under its new number.
abbrev pub LinksOfEither : Type 0
LinksOfEither = (left right : List (Option (List Step))) (pairs : List (ℕ × ℕ)) (new : List (Option (List Step)))
    → AreMerged left right pairs new → (id : ℕ) → is_live new id ≡ true
    → (is_live left id ≡ true) ⊎ ((old : ℕ) × (is_live right old ≡ true) × (name_by pairs old ≡ id))
