-- States with the same defects, loads and potentials. A vertex absorbed, or an empty layer taken off, leads from one to the other.
use Rattle.std.specs.Prelude.{ℕ, ◌≡◌, ◌==◌, true, false, List, Some, None}
use Rattle.fb_graph.specs.Parity.{is_in}
use Rattle.fb_graph.specs.Certificate.{load_of}
use Rattle.fb_graph.specs.Dual.{Node, all_cuts, leaves, cover_of, height_of, is_live, is_outer, change_at, taller_node}
use Rattle.fb_graph.specs.declared.parts.Edge.{Edge}

-- two states with the same defects, loads and potentials, and the same nodes over the defects
pub record AreAlike (nodes others : List Node) : Type 0 where
  pub defects : leaves others ≡ leaves nodes
  pub loads : (e : Edge) → load_of (all_cuts others) e ≡ load_of (all_cuts nodes) e
  pub heights : (v : ℕ) → height_of (all_cuts others) v ≡ height_of (all_cuts nodes) v
  pub covers : (d : ℕ) → is_in (leaves nodes) d ≡ true → cover_of others d ≡ cover_of nodes d

-- The states before and after a vertex that is no defect is absorbed are alike, either way round: an empty layer taken
-- off undoes it.
abbrev pub TallerAlike : Type 0
TallerAlike = (nodes : List Node) (name v : ℕ) → is_in (leaves nodes) v ≡ false
    → AreAlike nodes (change_at name (taller_node v) nodes) × AreAlike (change_at name (taller_node v) nodes) nodes

-- Only the vertex itself gets another node over it.
abbrev pub TallerCovers : Type 0
TallerCovers = (nodes : List Node) (name v u : ℕ) → (v == u) ≡ false
    → cover_of (change_at name (taller_node v) nodes) u ≡ cover_of nodes u

abbrev pub TallerCovered : Type 0
TallerCovered = (nodes : List Node) (name v : ℕ) → is_live nodes name ≡ true → is_outer nodes name ≡ true
    → cover_of nodes v ≡ None → cover_of (change_at name (taller_node v) nodes) v ≡ Some name
