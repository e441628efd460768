-- What the index of leaves has.
use Rattle.std.specs.Prelude.{ℕ, ◌≡◌, ◌&&◌, ◌==◌, ◌⊎◌, Bool, true, List, Option, Some, is_some}
use Rattle.std.specs.List.{list_any}
use Rattle.fb_links.specs.Lists.{is_in}
use Rattle.fb_blossoms.specs.InternalItems.{Item}
use Rattle.fb_blossoms.specs.InternalForest.{own_at, parent_at}

-- the index has the leaves that it had, and what is new in it leads to leaves
pub record IsGrown (slots : List (Option Item)) (old new : ℕ → Option ℕ) : Type 0 where
  pub known : (d x : ℕ) → new d ≡ Some x → (old d ≡ Some x) ⊎ (is_in (own_at slots x) d ≡ true)
  pub stays : (d x : ℕ) → is_in (own_at slots x) d ≡ true → old d ≡ Some x → new d ≡ Some x

-- the index has each leaf among the chosen nodes
abbrev pub HasLeaves : List (Option Item) → (ℕ → Option ℕ) → (ℕ → Bool) → Type 0
HasLeaves slots index is_chosen =
    (d x : ℕ) → is_in (own_at slots x) d ≡ true → is_chosen x ≡ true → index d ≡ Some x

-- the node is one of the pairs' new numbers, and in a blossom
abbrev pub is_taken_child : List (Option Item) → List (ℕ × ℕ) → ℕ → Bool
is_taken_child slots names x = list_any (λ p. p.1 == x) names && is_some (parent_at slots x)
