-- A dual state as contracts see it: its nodes, and which of them move with the clock.
use Rattle.std.specs.Prelude.{ℕ, ◌≡◌, Bool, true, false, List, [], if◌then◌else◌}
use Rattle.fb_graph.specs.Dual.{Node}
use Rattle.fb_graph.specs.Parity.{is_in}
use Rattle.fb_graph.specs.Steps.{Roles}
use Rattle.fb_regions.specs.declared.roles.Role.{Role}
use Rattle.fb_regions.specs.declared.roles.Role.TheVariants.{Plus, Minus, Out}

-- a dual state over a scope, its nodes in the order in which they were made
pub record Paced (S : Type 0) : Type 0 where
  pub scope : S
  pub nodes : List Node
  -- the names of the nodes whose top layers grow with the clock, and of those whose top layers shrink with it
  pub plus : List ℕ
  pub minus : List ℕ

abbrev pub grows : Role → Bool
grows Plus = true
grows Minus = false
grows Out = false

abbrev pub shrinks : Role → Bool
shrinks Plus = false
shrinks Minus = true
shrinks Out = false

-- how the named node moves
abbrev pub pace_in : {S : Type 0} → Paced S → ℕ → Role
pace_in r name = if is_in r.plus name then Plus else if is_in r.minus name then Minus else Out

-- the paces as two tests of names
abbrev pub paces_of : {S : Type 0} → Paced S → Roles
paces_of r = record { is_plus = is_in r.plus; is_minus = is_in r.minus }

-- no node moves
pub record IsAtRest {S : Type 0} (r : Paced S) : Type 0 where
  pub plus : r.plus ≡ []
  pub minus : r.minus ≡ []

-- the same state with no node moving
abbrev pub rested : {S : Type 0} → Paced S → Paced S
rested r = record r { plus = []; minus = [] }

-- nothing but paces has changed
abbrev pub IsRepaced : {S : Type 0} → Paced S → Paced S → Type 0
IsRepaced before after = after ≡ record before { plus = after.plus; minus = after.minus }
