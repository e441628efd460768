-- While two tables are made one.
use Rattle.std.specs.Prelude.{ℕ, ◌≡◌, ◌<◌, ◌≤◌, false, List, length, Option, None, All}
use Rattle.fb_links.specs.Lists.{AreDistinct, is_in}
use Rattle.fb_links.specs.declared.walk.Step.{Step}
use Rattle.fb_links.specs.Table.{is_live, link_at}
use Rattle.fb_links.specs.Merged.{IsMoved, old_numbers, new_numbers}

-- `rest` is the beginning of the right table that is still to move; the links after it are moved
pub record AreMerging (left right rest : List (Option (List Step))) (pairs : List (ℕ × ℕ))
    (new : List (Option (List Step))) : Type 0 where
  pub unread : (id : ℕ) → id < length rest → link_at rest id ≡ link_at right id
  pub unlisted : (id : ℕ) → id < length rest → is_in (old_numbers pairs) id ≡ false
  pub listed : (id : ℕ) → length rest ≤ id → is_in (old_numbers pairs) id ≡ is_live right id
  pub once : AreDistinct (old_numbers pairs)
  pub moved : All (IsMoved right new) pairs
  pub fresh : All (λ p. link_at left p.1 ≡ None) pairs
  pub apart : AreDistinct (new_numbers pairs)
  pub others : (id : ℕ) → is_in (new_numbers pairs) id ≡ false → link_at new id ≡ link_at left id
