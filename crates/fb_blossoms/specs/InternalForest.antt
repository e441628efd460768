-- What a store keeps of the nodes as they are stored.
use Rattle.std.specs.Prelude.{ℕ, zero, suc, ◌≡◌, ◌<◌, ◌%◌, ◌≤◌, ◌⊎◌, Bool, true, if◌then◌else◌, List, [], ◌∷◌, ◌++◌, map, length, flat_map, get_or, Option, Some, None, is_some, option_map}
use Rattle.fb_links.specs.Lists.{is_in}
use Rattle.fb_links.specs.declared.cycle.CycleStep.{CycleStep}
use Rattle.fb_blossoms.specs.InternalItems.{Item}
use Rattle.fb_blossoms.specs.Nodes.{Node, HasDistinctNodes, is_on}
use Rattle.fb_blossoms.specs.Links.{step_at}

abbrev pub item_at : List (Option Item) → ℕ → Option Item
item_at slots name = get_or slots name None

abbrev pub parent_in : Option Item → Option ℕ
parent_in None = None
parent_in (Some i) = i.parent

abbrev pub place_of : Option Item → ℕ
place_of None = 0
place_of (Some i) = i.place

abbrev pub made_in : Option Item → ℕ
made_in None = 0
made_in (Some i) = i.made

abbrev pub own_in : Option Item → List ℕ
own_in None = []
own_in (Some i) = i.own

abbrev pub cycle_in : Option Item → List CycleStep
cycle_in None = []
cycle_in (Some i) = i.cycle

abbrev pub parent_at : List (Option Item) → ℕ → Option ℕ
parent_at slots name = parent_in (item_at slots name)

abbrev pub place_at : List (Option Item) → ℕ → ℕ
place_at slots name = place_of (item_at slots name)

abbrev pub made_at : List (Option Item) → ℕ → ℕ
made_at slots name = made_in (item_at slots name)

abbrev pub own_at : List (Option Item) → ℕ → List ℕ
own_at slots name = own_in (item_at slots name)

abbrev pub steps_at : List (Option Item) → ℕ → List CycleStep
steps_at slots name = cycle_in (item_at slots name)

abbrev pub is_kept : List (Option Item) → ℕ → Bool
is_kept slots name = is_some (item_at slots name)

-- the defects of a node, down to the given number of levels
abbrev pub defects_in : List (Option Item) → ℕ → ℕ → List ℕ
defects_in slots zero name = []
defects_in slots (suc levels) name =
    own_at slots name ++ flat_map (λ s. defects_in slots levels s.node) (steps_at slots name)

-- the node that an item is: each child was made before it, so that it has no more levels than nodes made before it
abbrev pub node_of : List (Option Item) → Item → Node
node_of slots i = record { defects = i.own ++ flat_map (λ s. defects_in slots i.made s.node) i.cycle; cycle = i.cycle }

abbrev pub nodes_of : List (Option Item) → List (Option Node)
nodes_of slots = map (option_map (node_of slots)) slots

-- no defect of its own, and an odd cycle
pub record IsOddItem (own : List ℕ) (cycle : List CycleStep) : Type 0 where
  pub bare : own ≡ []
  pub odd : length cycle % 2 ≡ 1
  pub three : 3 ≤ length cycle
  pub distinct : HasDistinctNodes cycle

-- one defect, and no cycle
pub record IsLeafItem (own : List ℕ) (cycle : List CycleStep) : Type 0 where
  pub defect : ℕ
  pub alone : own ≡ defect ∷ []
  pub bare : cycle ≡ []

abbrev pub IsItem : List ℕ → List CycleStep → Type 0
IsItem own cycle = IsLeafItem own cycle ⊎ IsOddItem own cycle

-- the node is at this place of the cycle
abbrev pub IsPlaceOf : List CycleStep → ℕ → ℕ → Type 0
IsPlaceOf cycle x k = (k < length cycle) × ((step_at cycle k).node ≡ x)

pub record IsForest (slots : List (Option Item)) (made : ℕ) : Type 0 where
  pub shaped : (x : ℕ) → is_kept slots x ≡ true → IsItem (own_at slots x) (steps_at slots x)
  pub young : (x : ℕ) → is_kept slots x ≡ true → made_at slots x < made
  -- a node's parent is the blossom that has it in its cycle, and was made after it
  pub up : (x p : ℕ) → parent_at slots x ≡ Some p → is_on (steps_at slots p) x ≡ true
  pub down : (x p : ℕ) → is_on (steps_at slots p) x ≡ true → parent_at slots x ≡ Some p
  pub older : (x p : ℕ) → parent_at slots x ≡ Some p → made_at slots x < made_at slots p
  -- it is at its place there
  pub placed : (x p : ℕ) → parent_at slots x ≡ Some p → IsPlaceOf (steps_at slots p) x (place_at slots x)

-- no defect is an item's own twice
abbrev pub AreOwnApart : List (Option Item) → Type 0
AreOwnApart slots = (d x y : ℕ) → is_in (own_at slots x) d ≡ true → is_in (own_at slots y) d ≡ true → x ≡ y

-- the index leads to the leaves of defects, and has each leaf that is in a blossom
pub record IsKept (slots : List (Option Item)) (index : ℕ → Option ℕ) (made : ℕ) : Type 0 where
  pub forest : IsForest slots made
  pub apart : AreOwnApart slots
  pub leaf_at : (d x : ℕ) → index d ≡ Some x → own_at slots x ≡ d ∷ []
  pub leaf_of : (d x p : ℕ) → is_in (own_at slots x) d ≡ true → parent_at slots x ≡ Some p → index d ≡ Some x

-- the last place of a node in a cycle; 0 if it is not there
abbrev pub last_place : List CycleStep → ℕ → ℕ
last_place [] x = 0
last_place (s ∷ ss) x = if is_on ss x then suc (last_place ss x) else 0

-- the item under another parent
abbrev pub with_parent : Option ℕ → ℕ → Item → Item
with_parent parent place i = record i { parent = parent; place = place }

-- the item, under another parent if the cycle has it
abbrev pub reparented_item : List CycleStep → Option ℕ → ℕ → Option Item → Option Item
reparented_item cycle parent x o = if is_on cycle x then option_map (with_parent parent (last_place cycle x)) o else o

-- k steps up from the one node lead to the other
abbrev pub Climbs : List (Option Item) → ℕ → ℕ → ℕ → Type 0
Climbs slots zero x top = x ≡ top
Climbs slots (suc k) x top = (p : ℕ) × (parent_at slots x ≡ Some p) × Climbs slots k p top

-- the defects that an item's node holds
abbrev pub held_at : List (Option Item) → ℕ → List ℕ
held_at slots name = defects_in slots (suc (made_at slots name)) name

-- the outer node above the node
pub record IsTopOf (slots : List (Option Item)) (name top : ℕ) : Type 0 where
  pub kept : is_kept slots top ≡ true
  pub outermost : parent_at slots top ≡ None
  pub climbs : (k : ℕ) × Climbs slots k name top

-- the child of the node that is on the way up from the leaf
pub record IsChildOver (slots : List (Option Item)) (name leaf child : ℕ) : Type 0 where
  pub child_of : parent_at slots child ≡ Some name
  pub climbs : (k : ℕ) × Climbs slots k leaf child

-- the items below the node down to the leaf, each the child of the one before
abbrev pub LeadsDownTo : List (Option Item) → ℕ → ℕ → List ℕ → Type 0
LeadsDownTo slots name leaf [] = name ≡ leaf
LeadsDownTo slots name leaf (x ∷ xs) = (parent_at slots x ≡ Some name) × LeadsDownTo slots x leaf xs
