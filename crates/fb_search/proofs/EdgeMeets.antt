-- The nodes over the ends of a tight edge where a tree meets another node, or itself.
use Rattle.std.proofs.Common.{ℕ, ◌≡◌, inl, inr, List, Some, ap, ◌∙◌}
use Rattle.fb_graph.specs.Components.{Leads}
use Rattle.fb_graph.specs.Dual.{Node, cover_of}
use Rattle.fb_graph.specs.declared.parts.Edge.{Edge}

-- both ends of the edge are under a node
abbrev pub AreHeld : List Node → Edge → Type 0
AreHeld nodes e = (a b : ℕ) × (cover_of nodes e.first ≡ Some a) × (cover_of nodes e.second ≡ Some b)

pub held_by : (nodes : List Node) (e : Edge) (u v a b : ℕ) → Leads e u v → cover_of nodes u ≡ Some a → cover_of nodes v ≡ Some b
    → AreHeld nodes e
held_by nodes e u v a b (inl (first, second)) at_u at_v =
    (a, b, ap (cover_of nodes) first ∙ at_u, ap (cover_of nodes) second ∙ at_v)
held_by nodes e u v a b (inr (second, first)) at_u at_v =
    (b, a, ap (cover_of nodes) first ∙ at_v, ap (cover_of nodes) second ∙ at_u)
