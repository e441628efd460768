-- Looks at one edge after another.
use Rattle.std.proofs.Common.{ℕ, ◌≡◌, ◌<◌, List, length, sym, subst}
use Rattle.fb_graph.specs.Problem.{Problem, edge_at, no_edge}
use Rattle.fb_graph.specs.Limits.{IsWithinLimits}
use Rattle.fb_graph.specs.Dual.{Node, IsDual}
use Rattle.fb_graph.specs.Covers.{AreRoles}
use Rattle.fb_regions.specs.declared.roles.Role.{Role}
use Rattle.fb_obstacles.specs.declared.looking.Look.{Look}
use Rattle.fb_obstacles.specs.Obstacles.{BearsStep, HavePlusParity, Obstructs, roles_by}
use Rattle.fb_obstacles.specs.InternalLooks.{edge_look, Limits}
use Rattle.fb_obstacles.proofs.EdgeLooks.{edge_limits}

-- what a look at one edge tells
pub edge_looked : (p : Problem) (role_of : ℕ → Role) (nodes : List Node) (k : ℕ) (l : Look) → IsDual p nodes
    → AreRoles (roles_by role_of) nodes → HavePlusParity (roles_by role_of) nodes → IsWithinLimits p → k < length p.edges
    → l ≡ edge_look p role_of nodes k
    → Limits (λ j. BearsStep (roles_by role_of) nodes j (edge_at p.edges k)) (Obstructs p (roles_by role_of) nodes) l
edge_looked p role_of nodes k l dual roles (r, parity) limits less looked =
    subst (Limits (λ j. BearsStep (roles_by role_of) nodes j (edge_at p.edges k)) (Obstructs p (roles_by role_of) nodes))
    (sym looked)
    (edge_limits p role_of nodes r k dual roles parity (limits.each_edge k no_edge less).even less)
