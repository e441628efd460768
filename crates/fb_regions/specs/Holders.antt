-- The outer node that holds a vertex, and the vertex's potential.
use Rattle.std.specs.Prelude.{ℕ, ◌≡◌, List, Option, Some, None, option_map}
use Rattle.fb_graph.specs.Dual.{Node, all_cuts, cover_of, height_of}
use Rattle.fb_regions.specs.declared.regions.Holder.{Holder}

abbrev pub potential_by : Option Holder → ℕ
potential_by (Some h) = h.potential
potential_by None = 0

-- no node holds an uncovered vertex, whose potential is 0
pub record IsHolder (nodes : List Node) (v : ℕ) (holder : Option Holder) : Type 0 where
  pub node : option_map (λ h. h.node) holder ≡ cover_of nodes v
  pub potential : potential_by holder ≡ height_of (all_cuts nodes) v
