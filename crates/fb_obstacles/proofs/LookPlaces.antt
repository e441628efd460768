-- The obstacle that a look at an edge finds is at that edge.
use Rattle.std.proofs.Common.{ℕ, ◌≡◌, ◌/◌, ◌==◌, Bool, true, false, if◌then◌else◌, Option, Some, None, refl, ap, subst}
use Rattle.std.proofs.lemmas.Bool.{false≢true}
use Rattle.fb_obstacles.specs.InternalLooks.{bounded_look, look_if}
use Rattle.fb_obstacles.specs.Obstacles.{IsAtEdge}
use Rattle.fb_obstacles.specs.declared.ends.Cover.{Cover}
use Rattle.fb_obstacles.specs.declared.ends.Cover.TheVariants.{Plus, Minus, Out, Bare, Virtual}
use Rattle.fb_obstacles.specs.declared.looking.Look.{Look}
use Rattle.fb_obstacles.specs.declared.looking.Look.TheVariants.{Clear, Within, Blocked}
use Rattle.fb_obstacles.specs.declared.obstacle.Obstacle.{Obstacle}
use Rattle.fb_obstacles.specs.declared.obstacle.Obstacle.TheVariants as obstacle

abbrev is_blocked : Look → Bool
is_blocked Clear = false
is_blocked (Within j) = false
is_blocked (Blocked o) = true

abbrev found_in : Obstacle → Look → Obstacle
found_in other Clear = other
found_in other (Within j) = other
found_in other (Blocked o) = o

bounded_there : (bound k : ℕ) (x o : Obstacle) → IsAtEdge k x → bounded_look bound x ≡ Blocked o → IsAtEdge k o
bounded_there bound k x o at is = step (bound == 0) is
  where
    step : (b : Bool) → (if b then Blocked x else Within bound) ≡ Blocked o → IsAtEdge k o
    step true e = subst (IsAtEdge k) (ap (found_in x) e) at
    step false e = absurd (false≢true (ap is_blocked e))

pub blocked_there : (far : Option Cover) (residue k : ℕ) (o : Obstacle) → look_if far residue k ≡ Blocked o → IsAtEdge k o
blocked_there None residue k o is = absurd (false≢true (ap is_blocked is))
blocked_there (Some (Plus n)) residue k o is = bounded_there (residue / 2) k (obstacle.PlusPair k) o refl is
blocked_there (Some Minus) residue k o is = absurd (false≢true (ap is_blocked is))
blocked_there (Some Out) residue k o is = bounded_there residue k (obstacle.Meet k) o refl is
blocked_there (Some Bare) residue k o is = bounded_there residue k (obstacle.Absorb k) o refl is
blocked_there (Some Virtual) residue k o is = bounded_there residue k (obstacle.Boundary k) o refl is
