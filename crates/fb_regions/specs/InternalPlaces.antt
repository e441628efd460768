-- The index by which a node is found by its name.
use Rattle.std.specs.Prelude.{ℕ, ◌≡◌, ◌==◌, false, true, List, [], ◌∷◌, map, drop, get_or, Option, Some, None}
use Rattle.std.specs.List.{position}
use Rattle.fb_graph.specs.Parity.{is_in}
use Rattle.fb_regions.specs.declared.region.Region.{Region}

abbrev pub place_in : List (Option ℕ) → ℕ → Option ℕ
place_in places name = get_or places name None

-- the entry of each name is the place of its node
pub record IsIndex (regions : List Region) (places : List (Option ℕ)) : Type 0 where
  pub entry : (name : ℕ) → place_in places name ≡ position (λ r. r.name == name) regions

-- so it is for each name but those of the nodes from a place on
pub record IsIndexBefore (start : ℕ) (regions : List Region) (places : List (Option ℕ)) : Type 0 where
  pub entry : (name : ℕ) → is_in (map (λ r. r.name) (drop start regions)) name ≡ false
      → place_in places name ≡ position (λ r. r.name == name) regions

-- the node that joins this one, if one does, is among these
abbrev pub IsJoinedIn : List Region → Option ℕ → Type 0
IsJoinedIn regions None = Unit {0}
IsJoinedIn regions (Some name) = is_in (map (λ r. r.name) regions) name ≡ true

-- each node comes before the one that joins it, and no other node has its name
abbrev pub AreJoinedAbove : List Region → Type 0
AreJoinedAbove [] = Unit {0}
AreJoinedAbove (r ∷ rs) = IsJoinedIn rs r.parent × (is_in (map (λ s. s.name) rs) r.name ≡ false) × AreJoinedAbove rs
