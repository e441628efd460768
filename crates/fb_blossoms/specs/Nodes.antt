-- Blossoms as contracts see them: a table of nodes by number. A node is a leaf, which is one defect, or a blossom, which
-- is an odd cycle of nodes (Edmonds 1965).
use Rattle.std.specs.Prelude.{ℕ, ◌≡◌, ◌≢◌, ◌%◌, ◌≤◌, ◌==◌, ◌⊎◌, Bool, true, false, List, [], ◌∷◌, length, flat_map, get_or, Option, Some, None, MatchOption, is_some, refl}
use Rattle.std.specs.List.{list_any}
use Rattle.std.specs.Coded.{Coded, code_by, coded×, coded_list, coded_option, coded_ℕ}
use Rattle.fb_links.specs.Lists.{is_in}
use Rattle.fb_links.specs.declared.cycle.CycleStep.{CycleStep}
use Rattle.fb_blossoms.specs.InternalItems.{step_code}

pub record Node : Type 0 where
  -- the defects that it holds
  pub defects : List ℕ
  -- the steps of its cycle; none for a leaf
  pub cycle : List CycleStep

abbrev pub node_code : Coded Node
node_code =
    code_by (List ℕ × List CycleStep) (coded× (coded_list coded_ℕ) (coded_list step_code)) (λ n. (n.defects, n.cycle))
    (λ x. record { defects = x.0; cycle = x.1 }) (λ _. refl)

abbrev pub table_code : Coded (List (Option Node))
table_code = coded_list (coded_option node_code)

-- the node of this number; none if it isn't live
abbrev pub node_at : List (Option Node) → ℕ → Option Node
node_at nodes name = get_or nodes name None

abbrev pub is_live : List (Option Node) → ℕ → Bool
is_live nodes name = is_some (node_at nodes name)

abbrev pub defects_of : Option Node → List ℕ
defects_of None = []
defects_of (Some n) = n.defects

abbrev pub cycle_of : Option Node → List CycleStep
cycle_of None = []
cycle_of (Some n) = n.cycle

abbrev pub defects_at : List (Option Node) → ℕ → List ℕ
defects_at nodes name = defects_of (node_at nodes name)

abbrev pub cycle_at : List (Option Node) → ℕ → List CycleStep
cycle_at nodes name = cycle_of (node_at nodes name)

-- the node is one of the cycle's
abbrev pub is_on : List CycleStep → ℕ → Bool
is_on cycle name = list_any (λ s. s.node == name) cycle

-- no node of the cycle comes twice
abbrev pub HasDistinctNodes : List CycleStep → Type 0
HasDistinctNodes [] = Unit {0}
HasDistinctNodes (s ∷ ss) = (is_on ss s.node ≡ false) × HasDistinctNodes ss

-- no blossom has the node in its cycle
abbrev pub IsOuter : List (Option Node) → ℕ → Type 0
IsOuter nodes name = (p : ℕ) → is_on (cycle_at nodes p) name ≡ false

-- each defect of the first list is in the second
abbrev pub AreWithin : List ℕ → List ℕ → Type 0
AreWithin inner outer = (d : ℕ) → is_in inner d ≡ true → is_in outer d ≡ true

-- the node of one defect
abbrev pub leaf : ℕ → Node
leaf d = record { defects = d ∷ []; cycle = [] }

-- the defects of the cycle's nodes, one node after another
abbrev pub defects_along : List (Option Node) → List CycleStep → List ℕ
defects_along nodes cycle = flat_map (λ s. defects_at nodes s.node) cycle

-- the node that has the nodes of the cycle as its children
abbrev pub blossom : List (Option Node) → List CycleStep → Node
blossom nodes cycle = record { defects = defects_along nodes cycle; cycle = cycle }

-- an odd number of live nodes, at least three of them and all different
pub record IsOddCycle (nodes : List (Option Node)) (cycle : List CycleStep) : Type 0 where
  pub odd : length cycle % 2 ≡ 1
  pub three : 3 ≤ length cycle
  pub distinct : HasDistinctNodes cycle
  pub live : (x : ℕ) → is_on cycle x ≡ true → is_live nodes x ≡ true

-- the cycle's nodes are outer
abbrev pub AreOuter : List (Option Node) → List CycleStep → Type 0
AreOuter nodes cycle = (x : ℕ) → is_on cycle x ≡ true → IsOuter nodes x

-- a blossom holds what its children hold
pub record IsBlossom (nodes : List (Option Node)) (n : Node) : Type 0 where
  pub cycle : IsOddCycle nodes n.cycle
  pub defects : n.defects ≡ defects_along nodes n.cycle

abbrev pub IsLeaf : Node → Type 0
IsLeaf n = (d : ℕ) × (n ≡ leaf d)

-- what a store of blossoms keeps
pub record IsNested (nodes : List (Option Node)) : Type 0 where
  pub shaped : (x : ℕ) (n : Node) → node_at nodes x ≡ Some n → IsLeaf n ⊎ IsBlossom nodes n
  pub holding : (x : ℕ) → is_live nodes x ≡ true → defects_at nodes x ≢ []
  -- a node is in at most one cycle
  pub once : (p q x : ℕ) → is_on (cycle_at nodes p) x ≡ true → is_on (cycle_at nodes q) x ≡ true → p ≡ q
  -- a defect is one leaf, in one child of a blossom, and in one outer node
  pub leaves : (x y d : ℕ) → node_at nodes x ≡ Some (leaf d) → node_at nodes y ≡ Some (leaf d) → x ≡ y
  pub children : (p x y d : ℕ) → is_on (cycle_at nodes p) x ≡ true → is_on (cycle_at nodes p) y ≡ true
      → is_in (defects_at nodes x) d ≡ true → is_in (defects_at nodes y) d ≡ true → x ≡ y
  pub outer : (x y d : ℕ) → IsOuter nodes x → IsOuter nodes y
      → is_in (defects_at nodes x) d ≡ true → is_in (defects_at nodes y) d ≡ true → x ≡ y

-- the node is new under this number, and all else stays
pub record Adds (old new : List (Option Node)) (name : ℕ) (n : Node) : Type 0 where
  pub fresh : node_at old name ≡ None
  pub added : node_at new name ≡ Some n
  pub others : (x : ℕ) → x ≢ name → node_at new x ≡ node_at old x

-- the number is free, and all else stays
pub record TakesOff (old new : List (Option Node)) (name : ℕ) : Type 0 where
  pub gone : node_at new name ≡ None
  pub others : (x : ℕ) → x ≢ name → node_at new x ≡ node_at old x

-- the outer node holds all that the node holds
pub record IsOuterOf (nodes : List (Option Node)) (name outer : ℕ) : Type 0 where
  pub live : is_live nodes outer ≡ true
  pub outermost : IsOuter nodes outer
  pub round : AreWithin (defects_at nodes name) (defects_at nodes outer)

-- the blossom that has the node in its cycle; none if no blossom has
abbrev pub IsParent : List (Option Node) → ℕ → Option ℕ → Type 0
IsParent nodes name parent = MatchOption parent (IsOuter nodes name) (λ p. is_on (cycle_at nodes p) name ≡ true)

-- the child of the node holds the defect
pub record IsChildHolding (nodes : List (Option Node)) (name d child : ℕ) : Type 0 where
  pub child_of : is_on (cycle_at nodes name) child ≡ true
  pub holds : is_in (defects_at nodes child) d ≡ true
