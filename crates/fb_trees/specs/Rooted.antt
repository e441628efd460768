-- What a tree keeps, and the roles that it gives (Edmonds 1965).
use Rattle.std.specs.Prelude.{ℕ, ◌≡◌, Bool, true, false, List, [], ◌∷◌, ◌++◌, All, if◌then◌else◌}
use Rattle.fb_graph.specs.Parity.{is_in}
use Rattle.fb_graph.specs.Certificate.{AreDistinct}
use Rattle.fb_regions.specs.declared.roles.Role.{Role}
use Rattle.fb_regions.specs.declared.roles.Role.TheVariants.{Plus, Minus, Out}
use Rattle.fb_laws.specs.Trees.{EntryOf, plus_names, minus_names, tree_names}
use Rattle.fb_trees.specs.Branches.{Grown}

-- the parent of each branch is the root or the plus node of an older branch
abbrev pub AreHung : {L : Type 0} → ℕ → List (EntryOf L) → Type 0
AreHung root [] = Unit {0}
AreHung root (e ∷ es) = (is_in (plus_names root es) e.parent ≡ true) × AreHung root es

-- no node comes twice, and each branch hangs on the root or on an older branch
pub record IsRooted (root : ℕ) (branches : List (EntryOf ℕ)) : Type 0 where
  pub names : AreDistinct (tree_names root branches)
  pub hung : AreHung root branches

-- the node is plus
abbrev pub IsPlus : Grown → ℕ → Type 0
IsPlus t name = is_in (plus_names t.root t.branches) name ≡ true

-- the node is minus
abbrev pub IsMinus : Grown → ℕ → Type 0
IsMinus t name = is_in (minus_names t.branches) name ≡ true

-- one of the branches has the node as its minus node
pub record IsBranchAt (t : Grown) (name : ℕ) (e : EntryOf ℕ) : Type 0 where
  pub newer : List (EntryOf ℕ)
  pub older : List (EntryOf ℕ)
  pub there : t.branches ≡ newer ++ e ∷ older
  pub minus : e.minus ≡ name

-- whether the node is in the tree
abbrev pub is_node : Grown → ℕ → Bool
is_node t name = is_in (tree_names t.root t.branches) name

-- the role of a node: out if it isn't in the tree
abbrev pub role_in : Grown → ℕ → Role
role_in t name =
    if is_in (plus_names t.root t.branches) name then Plus
    else (if is_in (minus_names t.branches) name then Minus else Out)

-- the tree of the root alone
abbrev pub bare : ℕ → Grown
bare root = record { root = root; branches = [] }

-- the tree with one branch more
abbrev pub attached_grown : Grown → EntryOf ℕ → Grown
attached_grown t e = record t { branches = e ∷ t.branches }

-- The branches that a blossom takes in, those with a minus node in it, hang on its base or on one another, and only the
-- base hangs on a branch that it doesn't take in.
pub record AreTakenIn (joined : ℕ → Bool) (base root : ℕ) (branches : List (EntryOf ℕ)) : Type 0 where
  pub inner : All (λ e. joined e.minus ≡ true → (joined e.parent ≡ true) × (joined e.plus ≡ true)) branches
  pub outer : All (λ e. joined e.minus ≡ false → joined e.plus ≡ true → e.plus ≡ base) branches
  pub roots : joined root ≡ true → root ≡ base
