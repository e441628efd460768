-- Links by their numbers.
use Rattle.std.specs.Prelude.{ℕ, ◌≡◌, ◌≢◌, ◌<◌, ◌^◌, Bool, List, [], length, get_or, Option, Some, None, is_some, unwrap_or}
use Rattle.fb_links.specs.declared.walk.Step.{Step}
use Rattle.fb_links.specs.Walks.{walk_weight, IsChained}

-- the walk of the link of this number; `None` if no link has it
abbrev pub link_at : List (Option (List Step)) → ℕ → Option (List Step)
link_at links id = get_or links id None

-- whether a link has the number
abbrev pub is_live : List (Option (List Step)) → ℕ → Bool
is_live links id = is_some (link_at links id)

-- the walk of the link of this number; without steps if no link has it
abbrev pub walk_at : List (Option (List Step)) → ℕ → List Step
walk_at links id = unwrap_or (link_at links id) []

-- the walk of a link: at least one step, each beginning where the one before it ended, of a weight below 2^64
pub record IsLink (walk : List Step) : Type 0 where
  pub some : 0 < length walk
  pub chained : IsChained walk
  pub light : walk_weight walk < 2 ^ 64

-- the walk is stored under a number that no link had, and nothing else changes
pub record Adds (old new : List (Option (List Step))) (id : ℕ) (walk : List Step) : Type 0 where
  pub fresh : link_at old id ≡ None
  pub added : link_at new id ≡ Some walk
  pub others : (k : ℕ) → k ≢ id → link_at new k ≡ link_at old k

-- no link has the number any more, and nothing else changes
pub record Removes (old new : List (Option (List Step))) (id : ℕ) : Type 0 where
  pub gone : link_at new id ≡ None
  pub others : (k : ℕ) → k ≢ id → link_at new k ≡ link_at old k
