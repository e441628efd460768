-- Two stores as one: the nodes of the second come under new names.
use Rattle.std.specs.Prelude.{ℕ, ◌≡◌, ◌≢◌, ◌≤◌, ◌==◌, ◌⊎◌, true, if◌then◌else◌, List, map, count_by, Option, Some, None, option_map}
use Rattle.fb_links.specs.declared.cycle.CycleStep.{CycleStep}
use Rattle.fb_links.specs.Names.{name_by}
use Rattle.fb_blossoms.specs.Nodes.{Node, is_live, leaf, node_at}

-- the step, its node renamed by the one function and its link by the other
abbrev pub renamed_step : (ℕ → ℕ) → (ℕ → ℕ) → CycleStep → CycleStep
renamed_step f g s = record { node = f s.node; link = g s.link }

abbrev pub renamed_cycle : (ℕ → ℕ) → (ℕ → ℕ) → List CycleStep → List CycleStep
renamed_cycle f g cycle = map (renamed_step f g) cycle

-- the node with its cycle renamed, its defects as they are
abbrev pub renamed_node : (ℕ → ℕ) → (ℕ → ℕ) → Node → Node
renamed_node f g n = record { defects = n.defects; cycle = renamed_cycle f g n.cycle }

-- how often the list has the number as an old one, and as a new one
abbrev pub old_count : List (ℕ × ℕ) → ℕ → ℕ
old_count names a = count_by (λ p. p.0 == a) names

abbrev pub new_count : List (ℕ × ℕ) → ℕ → ℕ
new_count names b = count_by (λ p. p.1 == b) names

-- no defect is a leaf of both stores
abbrev pub AreLeavesApart : List (Option Node) → List (Option Node) → Type 0
AreLeavesApart left right = (d x y : ℕ) → node_at left x ≡ Some (leaf d) → node_at right y ≢ Some (leaf d)

-- The new store has the left one's nodes, and the right one's under their new names.
pub record IsMerged (left right new : List (Option Node)) (links names : List (ℕ × ℕ)) : Type 0 where
  -- the list has each live name of the right one once, and no other
  pub listed : (a : ℕ) → old_count names a ≡ (if is_live right a then 1 else 0)
  -- no two of them have one new name, and no new name is live in the left one
  pub distinct : (b : ℕ) → new_count names b ≤ 1
  pub apart : (a c : ℕ) → is_live right a ≡ true → is_live right c ≡ true → name_by names a ≡ name_by names c → a ≡ c
  pub fresh : (a : ℕ) → is_live right a ≡ true → node_at left (name_by names a) ≡ None
  pub left_stays : (x : ℕ) → is_live left x ≡ true → node_at new x ≡ node_at left x
  pub right_renamed : (a : ℕ) → is_live right a ≡ true
      → node_at new (name_by names a) ≡ option_map (renamed_node (name_by names) (name_by links)) (node_at right a)
  -- and nothing else is new
  pub nothing_else : (x : ℕ) → is_live new x ≡ true
      → (is_live left x ≡ true) ⊎ ((a : ℕ) × (is_live right a ≡ true) × (name_by names a ≡ x))
