-- Items under other names.
use Rattle.std.specs.Prelude.{ℕ, ◌≡◌, ◌+◌, ◌≤◌, ◌==◌, ◌⊎◌, Bool, true, false, if◌then◌else◌, List, [], ◌∷◌, ◌++◌, length, nat_lt, Option, Some, None, option_map}
use Rattle.std.specs.List.{list_any}
use Rattle.fb_blossoms.specs.InternalItems.{Item}
use Rattle.fb_links.specs.Names.{name_by}
use Rattle.slab.specs.Slab.{Slab, Updates, get}
use Rattle.fb_blossoms.specs.InternalForest.{is_kept, item_at}
use Rattle.fb_blossoms.specs.Merged.{new_count, old_count, renamed_cycle}

-- the item as if `more` further nodes had been made before it
abbrev pub shifted_item : ℕ → Item → Item
shifted_item more i = record i { made = i.made + more }

abbrev pub renamed_item : (ℕ → ℕ) → (ℕ → ℕ) → Item → Item
renamed_item f g i = record i { parent = option_map f i.parent; cycle = renamed_cycle f g i.cycle }

-- the pair is in the list
abbrev pub is_pair : List (ℕ × ℕ) → ℕ → ℕ → Bool
is_pair names a b = list_any (λ p. if p.0 == a then p.1 == b else false) names

-- the items below a bound are put into free slots, each later by `more`, and the list has their names
pub record AreTaken (old right new : List (Option Item)) (more bound : ℕ) (names : List (ℕ × ℕ)) : Type 0 where
  pub listed : (a : ℕ) → old_count names a ≡ (if is_kept right a then (if nat_lt a bound then 1 else 0) else 0)
  pub distinct : (b : ℕ) → new_count names b ≤ 1
  pub taken : (a b : ℕ) → is_pair names a b ≡ true → item_at new b ≡ option_map (shifted_item more) (item_at right a)
  pub alive : (a b : ℕ) → is_pair names a b ≡ true → is_kept right a ≡ true
  pub fresh : (a b : ℕ) → is_pair names a b ≡ true → item_at old b ≡ None
  pub stays : (x : ℕ) → is_kept old x ≡ true → item_at new x ≡ item_at old x
  pub only : (x : ℕ) → is_kept new x ≡ true → (is_kept old x ≡ true) ⊎ ((a : ℕ) × (is_pair names a x ≡ true))

-- the item renamed, if the list has its number as a new one
abbrev pub renamed_among : List (ℕ × ℕ) → (ℕ → ℕ) → (ℕ → ℕ) → ℕ → Option Item → Option Item
renamed_among names f g x o = if list_any (λ p. p.1 == x) names then option_map (renamed_item f g) o else o

-- all items are taken
abbrev pub AreAllTaken : Slab Item → Slab Item → Slab Item → ℕ → List (ℕ × ℕ) → Type 0
AreAllTaken old right new more names = AreTaken old.slots right.slots new.slots more (length right.slots) names

-- a free slot has the item now, later by `more`, and the list its name; without an item all stays as it was
abbrev pub IsStepOver : Slab Item → Slab Item → List (ℕ × ℕ) → List (ℕ × ℕ) → ℕ → ℕ → Option Item → Type 0
IsStepOver old new names names' key more None = (new ≡ old) × (names' ≡ names)
IsStepOver old new names names' key more (Some i) =
    (b : ℕ) × (names' ≡ names ++ (key, b) ∷ []) × (get old b ≡ None) × Updates old new b (Some (shifted_item more i))

-- the right one's items are in free slots of the left one's table, under the names of the list
pub record AreJoined (old right new : List (Option Item)) (more : ℕ) (links names : List (ℕ × ℕ)) : Type 0 where
  pub listed : (a : ℕ) → old_count names a ≡ (if is_kept right a then 1 else 0)
  pub distinct : (b : ℕ) → new_count names b ≤ 1
  pub apart : (a c : ℕ) → is_kept right a ≡ true → is_kept right c ≡ true → name_by names a ≡ name_by names c → a ≡ c
  pub fresh : (a : ℕ) → is_kept right a ≡ true → item_at old (name_by names a) ≡ None
  pub under : (a : ℕ) → is_kept right a ≡ true
      → item_at new (name_by names a) ≡ option_map (λ i. renamed_item (name_by names) (name_by links) (shifted_item more i)) (item_at right a)
  pub stays : (x : ℕ) → is_kept old x ≡ true → item_at new x ≡ item_at old x
  pub only : (x : ℕ) → is_kept new x ≡ true → (is_kept old x ≡ true) ⊎ ((a : ℕ) × (is_kept right a ≡ true) × (name_by names a ≡ x))
  pub named : (a : ℕ) → is_kept right a ≡ true → list_any (λ p. p.1 == name_by names a) names ≡ true
