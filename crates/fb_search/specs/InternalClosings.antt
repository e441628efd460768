-- What becomes of the watch and of the unmatched nodes as a cycle becomes a blossom.
use Rattle.std.specs.Prelude.{ℕ, ◌≡◌, ◌<◌, ◌≤◌, true, false, List, ◌∷◌, length}
use Rattle.std.specs.List.Sorted.{IsPermutation}
use Rattle.fb_graph.specs.Parity.{is_in}
use Rattle.fb_graph.specs.Problem.{Problem, edge_at, touches}
use Rattle.fb_graph.specs.Dual.{Node, top_at}
use Rattle.fb_regions.specs.declared.roles.Role.{Role}
use Rattle.fb_regions.specs.declared.roles.Role.TheVariants.{Minus}
use Rattle.fb_half.specs.Matchings.{MatchingValue}
use Rattle.fb_obstacles.specs.Watched.{AreBounded, Watched}

-- The edges at each minus node among these are watched, and all that were watched before. The bounds of other edges stay right.
pub record WatchesMinusBy (p : Problem) (nodes : List Node) (role : ℕ → Role) (names : List ℕ) (old new : Watched) : Type 0 where
  pub room : new.edge_count ≡ old.edge_count
  pub minus : new.nodes ≡ old.nodes
  pub kept : (k : ℕ) → is_in old.edges k ≡ true → is_in new.edges k ≡ true
  pub near : (name v k : ℕ) → is_in names name ≡ true → role name ≡ Minus → is_in (top_at nodes name) v ≡ true
      → k < length p.edges → touches v (edge_at p.edges k) ≡ true → is_in new.edges k ≡ true
  pub bounds : (before after : ℕ → ℕ)
      → ((k : ℕ) → ((name v : ℕ) → is_in names name ≡ true → role name ≡ Minus → is_in (top_at nodes name) v ≡ true
      → touches v (edge_at p.edges k) ≡ false) → before k ≤ after k)
      → AreBounded before old → AreBounded after new

-- The new name is listed as unmatched in the place of the old one. Both may be the same.
pub record IsReplacedBy (old_name new_name : ℕ) (before after : MatchingValue) : Type 0 where
  -- the other unmatched nodes
  pub beside : List ℕ
  pub was : IsPermutation before.unmatched (old_name ∷ beside)
  pub unmatched : IsPermutation (new_name ∷ beside) after.unmatched
  pub matches : after.matches ≡ before.matches
