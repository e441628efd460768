-- A part while it has no nodes, and while its defects become nodes, one after another.
use Rattle.std.specs.Prelude.{ℕ, ◌≡◌, ◌==◌, if◌then◌else◌, true, List, [], ◌∷◌, length, Option, Some, None}
use Rattle.fb_graph.specs.Certificate.{AreDistinct}
use Rattle.fb_graph.specs.Dual.{Node}
use Rattle.fb_graph.specs.Problem.{Problem}
use Rattle.fb_plan.specs.Plans.{JobValue}
use Rattle.fb_plan.specs.Reaches.{is_reached}
use Rattle.fb_plan.specs.declared.reach.Reach.{Reach}
use Rattle.fb_blossoms.specs.Nodes as blossoms
use Rattle.fb_half.specs.Beginnings.{leaves_by}
use Rattle.fb_half.specs.Matchings.{MatchingValue}
use Rattle.fb_half.specs.Parts.{PartValue}

-- all real vertices of the problem lie within the reach
abbrev pub LiesWithin : Problem → Reach → Type 0
LiesWithin p r = (v : ℕ) → p.is_real v ≡ true → is_reached r v ≡ true

-- a part without nodes
abbrev pub empty_part : JobValue → ℕ → ℕ → PartValue
empty_part j s n = record {
  job = j;
  slot = s;
  node = n;
  nodes = [];
  links = [];
  store = [];
  matching = record { matches = []; unmatched = [] };
}

-- the leaf of this name
abbrev pub leaf_at : List ℕ → List ℕ → ℕ → Option blossoms.Node
leaf_at [] defects x = None
leaf_at (name ∷ names) [] x = None
leaf_at (name ∷ names) (v ∷ defects) x = if name == x then Some (blossoms.leaf v) else leaf_at names defects x

-- What the nodes, the store and the matching are when these defects have become nodes.
pub record IsStarted (done : List ℕ) (nodes : List Node) (store : List (Option blossoms.Node)) (m : MatchingValue) : Type 0 where
  pub nodes_are : nodes ≡ leaves_by m.unmatched done
  pub count : length m.unmatched ≡ length done
  pub matches : m.matches ≡ []
  pub names : AreDistinct m.unmatched
  pub entries : (x : ℕ) → blossoms.node_at store x ≡ leaf_at m.unmatched done x
