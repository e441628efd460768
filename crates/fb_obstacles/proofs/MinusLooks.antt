-- Looks that name an obstacle at a minus node.
use Rattle.std.proofs.Common.{ℕ, ◌≡◌, ◌==◌, ◌/◌, Bool, true, false, List, Option, Some, None, subst, if◌then◌else◌}
use Rattle.fb_graph.specs.Problem.{Problem, edge_at}
use Rattle.fb_graph.specs.Dual.{Node}
use Rattle.fb_graph.specs.Steps.{Roles}
use Rattle.fb_regions.specs.declared.roles.Role.{Role}
use Rattle.fb_obstacles.specs.Obstacles.{BearOne, IsAtMinus, residue_at}
use Rattle.fb_obstacles.specs.InternalLooks.{IsMinusLook, LimitsBoth, both_looks, bounded_look, cover_at, edge_look, far_end, look_if}
use Rattle.fb_obstacles.specs.declared.obstacle.Obstacle.{Obstacle}
use Rattle.fb_obstacles.specs.declared.obstacle.Obstacle.TheVariants as obstacle
use Rattle.fb_obstacles.specs.declared.looking.Look.{Look}
use Rattle.fb_obstacles.specs.declared.looking.Look.TheVariants.{Clear, Within, Blocked}
use Rattle.fb_obstacles.specs.declared.ends.Cover.{Cover}
use Rattle.fb_obstacles.specs.declared.ends.Cover.TheVariants.{Plus, Minus, Out, Bare, Virtual}

bounded_not_minus : (bound : ℕ) (o : Obstacle) → (IsAtMinus o → ⊥) → IsMinusLook (bounded_look bound o) → ⊥
bounded_not_minus bound o apart h = by (bound == 0) h
  where
    by : (b : Bool) → IsMinusLook (if b then Blocked o else Within bound) → ⊥
    by true there = apart there
    by false there = there

-- no look at an edge does
edge_not_minus : (far : Option Cover) (residue k : ℕ) → IsMinusLook (look_if far residue k) → ⊥
edge_not_minus None residue k h = h
edge_not_minus (Some (Plus n)) residue k h = bounded_not_minus (residue / 2) (obstacle.PlusPair k) (λ x. x) h
edge_not_minus (Some Minus) residue k h = h
edge_not_minus (Some Out) residue k h = bounded_not_minus residue (obstacle.Meet k) (λ x. x) h
edge_not_minus (Some Bare) residue k h = bounded_not_minus residue (obstacle.Absorb k) (λ x. x) h
edge_not_minus (Some Virtual) residue k h = bounded_not_minus residue (obstacle.Boundary k) (λ x. x) h

pub look_not_minus : (p : Problem) (role_of : ℕ → Role) (nodes : List Node) (k : ℕ) (look : Look) → look ≡ edge_look p role_of nodes k
    → IsMinusLook look → ⊥
look_not_minus p role_of nodes k look is h =
    edge_not_minus
    (far_end (cover_at p role_of nodes (edge_at p.edges k).first) (cover_at p role_of nodes (edge_at p.edges k).second))
    (residue_at p nodes k) k (subst IsMinusLook is h)

-- both looks in one do only where the first one does, if the second doesn't
pub both_minus : (a b c : Look) → c ≡ both_looks a b → (IsMinusLook b → ⊥) → IsMinusLook c → IsMinusLook a
both_minus a b c is apart h = by a b apart (subst IsMinusLook is h)
  where
    by : (x y : Look) → (IsMinusLook y → ⊥) → IsMinusLook (both_looks x y) → IsMinusLook x
    by (Blocked o) y none there = there
    by Clear (Blocked o) none there = absurd (none there)
    by (Within i) (Blocked o) none there = absurd (none there)
    by Clear Clear none there = there
    by Clear (Within j) none there = there
    by (Within i) Clear none there = there
    by (Within i) (Within j) none there = there

-- edges that limit a step of length 1 no further bear one where both looks in one name a minus node
pub bear_one : (p : Problem) (roles : Roles) (nodes : List Node) (tops ks : List ℕ) (a b c : Look) → LimitsBoth p roles nodes tops ks a
    → c ≡ both_looks a b → (IsMinusLook a → ⊥) → IsMinusLook c → BearOne p roles nodes ks
bear_one p roles nodes tops ks a b c limits is apart h = by a limits apart (subst IsMinusLook is h)
  where
    by : (x : Look) → LimitsBoth p roles nodes tops ks x → (IsMinusLook x → ⊥) → IsMinusLook (both_looks x b) → BearOne p roles nodes ks
    by Clear all none there = (all 1).1
    by (Within i) all none there = (all.1 1 all.0).1
    by (Blocked o) all none there = absurd (none there)
