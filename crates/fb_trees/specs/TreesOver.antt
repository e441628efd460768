-- The nodes of trees, over which a step is made.
use Rattle.std.specs.Prelude.{ℕ, ◌≡◌, true, List, [], ◌∷◌}
use Rattle.fb_graph.specs.Parity.{is_in}
use Rattle.fb_graph.specs.Problem.{Problem}
use Rattle.fb_graph.specs.Certificate.{AreDistinct}
use Rattle.fb_graph.specs.Dual.{IsCrossed, Node, is_live, top_at}
use Rattle.fb_graph.specs.Steps.{Roles}
use Rattle.fb_graph.specs.Covers.{AreRoles}
use Rattle.fb_laws.specs.Trees.{minus_names, plus_names, roles_of}
use Rattle.fb_trees.specs.Branches.{Grown}
use Rattle.fb_trees.specs.declared.branch.Branch.{Branch}
use Rattle.fb_trees.specs.Forests.{all_minus, all_plus}

-- the roles of the nodes of these names
abbrev pub roles_by_names : List ℕ → List ℕ → Roles
roles_by_names plus minus = record { is_plus = is_in plus; is_minus = is_in minus }

-- These are outer nodes, none of them comes twice or is both, and an edge leaves each plus node.
pub record AreOver (p : Problem) (plus minus : List ℕ) (nodes : List Node) : Type 0 where
  pub roles : AreRoles (roles_by_names plus minus) nodes
  pub plus_once : AreDistinct plus
  pub minus_once : AreDistinct minus
  pub plus_live : (name : ℕ) → is_in plus name ≡ true → is_live nodes name ≡ true
  pub minus_live : (name : ℕ) → is_in minus name ≡ true → is_live nodes name ≡ true
  pub crossed : (name : ℕ) → is_in plus name ≡ true → IsCrossed p (top_at nodes name)

-- the same of all trees
abbrev pub AreTreesOver : Problem → List Grown → List Node → Type 0
AreTreesOver p trees nodes = AreOver p (all_plus trees) (all_minus trees) nodes

-- The tree's nodes are outer ones, none of them comes twice, and an edge leaves each plus node.
pub record IsTreeOver (p : Problem) (t : Grown) (nodes : List Node) : Type 0 where
  pub roles : AreRoles (roles_of t.root t.branches) nodes
  pub plus : AreDistinct (plus_names t.root t.branches)
  pub minus : AreDistinct (minus_names t.branches)
  pub plus_live : (name : ℕ) → is_in (plus_names t.root t.branches) name ≡ true → is_live nodes name ≡ true
  pub minus_live : (name : ℕ) → is_in (minus_names t.branches) name ≡ true → is_live nodes name ≡ true
  pub crossed : (name : ℕ) → is_in (plus_names t.root t.branches) name ≡ true → IsCrossed p (top_at nodes name)

-- the nodes of the branches
abbrev pub branch_names : List Branch → List ℕ
branch_names [] = []
branch_names (b ∷ bs) = b.minus ∷ b.plus ∷ branch_names bs
