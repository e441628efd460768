-- Two tables of links made one: the right one's links move into the left one, under new numbers.
use Rattle.std.specs.Prelude.{ℕ, ◌≡◌, true, false, List, map, Option, None, All}
use Rattle.fb_links.specs.declared.walk.Step.{Step}
use Rattle.fb_links.specs.Lists.{AreDistinct, is_in}
use Rattle.fb_links.specs.Table.{is_live, link_at}

-- the old numbers of the links that move
abbrev pub old_numbers : List (ℕ × ℕ) → List ℕ
old_numbers pairs = map (λ p. p.0) pairs

-- and their new numbers
abbrev pub new_numbers : List (ℕ × ℕ) → List ℕ
new_numbers pairs = map (λ p. p.1) pairs

-- the walk of a link of the right table is in the new one under the new number
abbrev pub IsMoved : List (Option (List Step)) → List (Option (List Step)) → ℕ × ℕ → Type 0
IsMoved right new p = (is_live right p.0 ≡ true) × (link_at new p.1 ≡ link_at right p.0)

-- The left table with the right one's links. Each of these is listed once, by its old and its new number. No link of
-- the left table has a new number, and all other numbers are as in the left table.
pub record AreMerged (left right : List (Option (List Step))) (pairs : List (ℕ × ℕ)) (new : List (Option (List Step)))
    : Type 0 where
  pub listed : (id : ℕ) → is_in (old_numbers pairs) id ≡ is_live right id
  pub once : AreDistinct (old_numbers pairs)
  pub moved : All (IsMoved right new) pairs
  pub fresh : All (λ p. link_at left p.1 ≡ None) pairs
  pub apart : AreDistinct (new_numbers pairs)
  pub others : (id : ℕ) → is_in (new_numbers pairs) id ≡ false → link_at new id ≡ link_at left id
