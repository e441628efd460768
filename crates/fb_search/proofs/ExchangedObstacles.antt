-- Obstacles don't see the problem's own defects, only those of the nodes.
use Rattle.std.proofs.Common.{ℕ, ◌+◌, Bool, List}
use Rattle.fb_graph.specs.Problem.{Problem}
use Rattle.fb_graph.specs.Dual.{Node}
use Rattle.fb_graph.specs.Steps.{MayStep, Roles}
use Rattle.fb_obstacles.specs.declared.obstacle.Obstacle.{Obstacle}
use Rattle.fb_obstacles.specs.declared.obstacle.Obstacle.TheVariants.{Absorb, Boundary, Meet, PlusPair, LayerEmpty, BlossomEmpty, ZeroMinus, Free}
use Rattle.fb_obstacles.specs.Obstacles.{IsFree, IsObstacle, IsTightFrom, Obstructs}

-- the problem with other defects
abbrev exchanged : Problem → (ℕ → Bool) → Problem
exchanged p defects = record p { is_defect = defects }

module _ (p : Problem) (defects : ℕ → Bool) (roles : Roles) (nodes : List Node) where
  tight_exchanged : (k u v : ℕ) → IsTightFrom p roles nodes k u v → IsTightFrom (exchanged p defects) roles nodes k u v
  tight_exchanged k u v is = record { within = is.within; leads = is.leads; tight = is.tight; plus = is.plus }

  may_exchanged : (k : ℕ) → MayStep p roles nodes k → MayStep (exchanged p defects) roles nodes k
  may_exchanged k may = record { edges = may.edges; tops = may.tops }

  pub obstructs_exchanged : (o : Obstacle) → Obstructs p roles nodes o → Obstructs (exchanged p defects) roles nodes o
  obstructs_exchanged (Absorb k) (u, v, is) =
      (u, v, record { edge = tight_exchanged k u v is.edge; uncovered = is.uncovered; real = is.real })
  obstructs_exchanged (Boundary k) (u, v, is) =
      (u, v, record { edge = tight_exchanged k u v is.edge; real = is.real })
  obstructs_exchanged (Meet k) (u, v, name, is) = (
    u,
    v,
    name,
    record {
      edge = tight_exchanged k u v is.edge;
      covered = is.covered;
      not_plus = is.not_plus;
      not_minus = is.not_minus;
    },
  )
  obstructs_exchanged (PlusPair k) (u, v, is) =
      (u, v, record { edge = tight_exchanged k u v is.edge; other = is.other; apart = is.apart })
  obstructs_exchanged (LayerEmpty name) is = is
  obstructs_exchanged (BlossomEmpty name) is = is
  obstructs_exchanged (ZeroMinus name) is = is
  obstructs_exchanged (Free k) is = is

module _ (p : Problem) (defects : ℕ → Bool) (roles : Roles) (nodes : List Node) where
  pub free_exchanged : (k : ℕ) → IsFree p roles nodes k → IsFree (exchanged p defects) roles nodes k
  free_exchanged k is = record {
    none = λ o there. is.none o (obstructs_exchanged (exchanged p defects) p.is_defect roles nodes o there);
    some = is.some;
    greatest = record {
      allowed = may_exchanged p defects roles nodes k is.greatest.allowed;
      greatest = λ may. is.greatest.greatest (may_exchanged (exchanged p defects) p.is_defect roles nodes (k + 1) may);
    };
  }

  pub obstacle_exchanged : (o : Obstacle) → IsObstacle p roles nodes o → IsObstacle (exchanged p defects) roles nodes o
  obstacle_exchanged (Absorb k) is = obstructs_exchanged p defects roles nodes (Absorb k) is
  obstacle_exchanged (Boundary k) is = obstructs_exchanged p defects roles nodes (Boundary k) is
  obstacle_exchanged (Meet k) is = obstructs_exchanged p defects roles nodes (Meet k) is
  obstacle_exchanged (PlusPair k) is = obstructs_exchanged p defects roles nodes (PlusPair k) is
  obstacle_exchanged (LayerEmpty name) is = is
  obstacle_exchanged (BlossomEmpty name) is = is
  obstacle_exchanged (ZeroMinus name) is = is
  obstacle_exchanged (Free k) is = free_exchanged k is
