-- What each step of trees that grow together does: less is left to do, of the same part.
use Rattle.std.specs.Prelude.{ℕ, ◌≡◌, ◌+◌, ◌-◌, ◌*◌, ◌≤◌, Bool, true, false, List, ◌∷◌, length, map}
use Rattle.fb_graph.specs.Parity.{is_in}
use Rattle.fb_graph.specs.Steps.{stepped_nodes}
use Rattle.fb_laws.specs.Measures.{IsLower}
use Rattle.fb_laws.specs.SearchLayers.{left_to_do}
use Rattle.fb_half.specs.Parts.{PartValue, problem_in}
use Rattle.fb_obstacles.specs.declared.obstacle.Obstacle.{Obstacle}
use Rattle.fb_obstacles.specs.InternalWatching.{lowered_bounds}
use Rattle.fb_obstacles.specs.Obstacles.{Obstructs}
use Rattle.fb_obstacles.specs.Watched.{Watched}
use Rattle.fb_trees.specs.Forests.{all_roles, bare_trees, trees_in}
use Rattle.fb_search.specs.declared.growing.GrowingPieces.{GrowingPieces}
use Rattle.fb_search.specs.InternalGrowing.{GrowingValue, IsGrowing, growing_of, roles_among, waiting_in}
use Rattle.fb_search.specs.InternalPaces.{ArePaced}
use Rattle.fb_search.specs.Progress.{AreKept, IsSamePart}

-- what is still to do: the unmatched nodes, then what one tree would have to do in the roles of all; the last part is
-- whether the next step may be free
abbrev pub still_to_do : GrowingValue → Bool → List ℕ
still_to_do w free =
    length w.part.matching.unmatched ∷ left_to_do (problem_in w.part) w.part.nodes (all_roles (trees_in w.forest)) free

-- The trees have grown on in the same part. A node that waits waited before, and is as it was. A tree that is gone has taken at
-- least one unmatched node with it, its root, and at most two.
pub record IsGrownFrom (before after : GrowingValue) : Type 0 where
  pub part : IsSamePart before.part after.part
  pub waits : (n : ℕ) → is_in (waiting_in after) n ≡ true → is_in (waiting_in before) n ≡ true
  pub kept : AreKept (waiting_in after) before.part.nodes after.part.nodes
  pub least : length after.part.matching.unmatched + length (trees_in before.forest)
      ≤ length before.part.matching.unmatched + length (trees_in after.forest)
  pub most : length before.part.matching.unmatched + 2 * length (trees_in after.forest)
      ≤ length after.part.matching.unmatched + 2 * length (trees_in before.forest)

-- The obstacle is removed: less is left to do, though the next step may be free again.
pub record GrowsOn (before after : GrowingValue) : Type 0 where
  pub grown : IsGrownFrom before after
  pub less : IsLower (still_to_do after true) (still_to_do before false)

-- The same with a free step before it, if there was no obstacle.
pub record HasGrownOn (before after : GrowingValue) : Type 0 where
  pub grown : IsGrownFrom before after
  pub less : IsLower (still_to_do after true) (still_to_do before true)

-- The trees have at most made their free step: what they become once an obstacle is removed now, they become from before.
abbrev pub HasGrownFree : GrowingValue → GrowingValue → Type 0
HasGrownFree before now = (after : GrowingValue) → GrowsOn now after → HasGrownOn before after

-- the watch after a step of this length: no slack falls by more than twice as much, nor twice the value of a top layer
abbrev pub lowered_by : ℕ → Watched → Watched
lowered_by k watched = record watched { bounds = map (λ b. b - 2 * k) watched.bounds; nodes = lowered_bounds (2 * k) watched.nodes }

-- the trees after a step of this length
abbrev pub grown_by : ℕ → GrowingValue → GrowingValue
grown_by k w = record w {
  part = record w.part { nodes = stepped_nodes (all_roles (trees_in w.forest)) k w.part.nodes };
  watched = lowered_by k w.watched;
}

-- Both are the same trees, but for the edges that they watch.
pub record IsGrowthRewatched (before after : GrowingValue) : Type 0 where
  pub same : after ≡ record before { watched = after.watched }
  pub room : after.watched.edge_count ≡ before.watched.edge_count

-- the trees of the part, each of them one of these nodes alone
pub record HasBegunAt (roots : List ℕ) (work : PartValue) (growing : GrowingValue) : Type 0 where
  pub part : growing.part ≡ work
  pub forest : growing.forest ≡ bare_trees roots

-- the obstacle is in the trees' way
abbrev pub Blocks : GrowingValue → Obstacle → Type 0
Blocks w o = Obstructs (problem_in w.part) (roles_among w.forest) w.part.nodes o

-- They are growing trees again, of which the obstacle is removed.
pub record AreGrowing (before : GrowingValue) (after : GrowingPieces) : Type 0 where
  pub paced : ArePaced after.parts after.forest
  pub keeps : IsGrowing (growing_of after)
  pub grows_on : GrowsOn before (growing_of after)
