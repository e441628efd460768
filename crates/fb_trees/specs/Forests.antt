-- Several alternating trees at once (Edmonds 1965), as contracts see them: a list of trees by their numbers. A tree that was
-- dissolved is gone, and its number stays.
use Rattle.std.specs.Prelude.{ℕ, ◌≡◌, true, false, List, [], ◌∷◌, ◌++◌, map, get_or, set, Option, Some, None, if◌then◌else◌}
use Rattle.fb_graph.specs.Parity.{is_in}
use Rattle.fb_graph.specs.Steps.{Roles}
use Rattle.fb_regions.specs.Paces.{Paced, pace_in}
use Rattle.fb_regions.specs.declared.roles.Role.{Role}
use Rattle.fb_regions.specs.declared.roles.Role.TheVariants.{Plus, Minus, Out}
use Rattle.fb_laws.specs.Trees.{minus_names, plus_names}
use Rattle.fb_links.specs.declared.cycle.CycleStep.{CycleStep}
use Rattle.fb_trees.specs.Branches.{Grown}
use Rattle.fb_trees.specs.Replacements.{IsReplaced, MayReplace}
use Rattle.fb_trees.specs.Rooted.{IsMinus, IsPlus, IsRooted, bare, is_node}

abbrev pub tree_at : List (Option Grown) → ℕ → Option Grown
tree_at forest t = get_or forest t None

-- the tree of this number is this one, and has the node
pub record IsTreeOf (forest : List (Option Grown)) (node t : ℕ) (g : Grown) : Type 0 where
  pub at : tree_at forest t ≡ Some g
  pub has : is_node g node ≡ true

-- the node is in a tree
pub record IsInside (forest : List (Option Grown)) (node : ℕ) : Type 0 where
  pub tree : ℕ
  pub grown : Grown
  pub is : IsTreeOf forest node tree grown

-- the node is in no tree
abbrev pub IsOutside : List (Option Grown) → ℕ → Type 0
IsOutside forest node = (t : ℕ) (g : Grown) → tree_at forest t ≡ Some g → is_node g node ≡ false

-- the node is a plus node of a tree
pub record IsPlusNode (forest : List (Option Grown)) (node : ℕ) : Type 0 where
  pub tree : ℕ
  pub grown : Grown
  pub at : tree_at forest tree ≡ Some grown
  pub plus : IsPlus grown node

-- the node is a minus node of a tree
pub record IsMinusNode (forest : List (Option Grown)) (node : ℕ) : Type 0 where
  pub tree : ℕ
  pub grown : Grown
  pub at : tree_at forest tree ≡ Some grown
  pub minus : IsMinus grown node

-- both are plus nodes of one tree
pub record ArePlusTogether (forest : List (Option Grown)) (a b : ℕ) : Type 0 where
  pub tree : ℕ
  pub grown : Grown
  pub at : tree_at forest tree ≡ Some grown
  pub first : IsPlus grown a
  pub second : IsPlus grown b

-- one tree for each root, the root alone
abbrev pub bare_trees : List ℕ → List (Option Grown)
bare_trees roots = map (λ r. Some (bare r)) roots

-- the trees that aren't dissolved
abbrev pub trees_in : List (Option Grown) → List Grown
trees_in [] = []
trees_in (None ∷ ts) = trees_in ts
trees_in (Some t ∷ ts) = t ∷ trees_in ts

-- the plus nodes of all trees
abbrev pub all_plus : List Grown → List ℕ
all_plus [] = []
all_plus (t ∷ ts) = plus_names t.root t.branches ++ all_plus ts

-- the minus nodes of all trees
abbrev pub all_minus : List Grown → List ℕ
all_minus [] = []
all_minus (t ∷ ts) = minus_names t.branches ++ all_minus ts

-- the roles that the trees give
abbrev pub all_roles : List Grown → Roles
all_roles ts = record { is_plus = is_in (all_plus ts); is_minus = is_in (all_minus ts) }

-- the role of a node: out if it is in no tree
abbrev pub role_among : List (Option Grown) → ℕ → Role
role_among forest name =
    if is_in (all_plus (trees_in forest)) name then Plus
    else (if is_in (all_minus (trees_in forest)) name then Minus else Out)

-- each node moves as its role in the trees says, and no other node moves
abbrev pub AreInPace : {S : Type 0} → Paced S → List (Option Grown) → Type 0
AreInPace regions forest = (name : ℕ) → pace_in regions name ≡ role_among forest name

-- each tree is one by itself, and no node is in two of them
pub record AreRootedApart (forest : List (Option Grown)) : Type 0 where
  pub rooted : (t : ℕ) (g : Grown) → tree_at forest t ≡ Some g → IsRooted g.root g.branches
  pub apart : (s t node : ℕ) (g h : Grown) → IsTreeOf forest node s g → IsTreeOf forest node t h → s ≡ t

-- the first of the names
abbrev pub first_name : List ℕ → ℕ
first_name [] = 0
first_name (n ∷ ns) = n

-- Nodes of one tree can give way to the path, whose nodes are in no tree.
pub record MayReplaceIn (forest : List (Option Grown)) (gone : List ℕ) (path : List CycleStep) : Type 0 where
  pub tree : ℕ
  pub grown : Grown
  pub is : IsTreeOf forest (first_name gone) tree grown
  pub may : MayReplace grown gone path
  pub fresh : (n : ℕ) → is_in (map (λ s. s.node) path) n ≡ true → IsOutside forest n

-- that tree is replaced, and no other changes
pub record IsReplacedIn (old : List (Option Grown)) (gone : List ℕ) (path : List CycleStep) (t : ℕ) (g : Grown) (new : List (Option Grown)) : Type 0 where
  pub after : Grown
  pub replaced : IsReplaced g gone path after
  pub new_is : new ≡ set old t (Some after)
