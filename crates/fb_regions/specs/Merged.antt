-- Two dual states as one.
use Rattle.std.specs.Prelude.{ℕ, ◌≡◌, true, false, List}
use Rattle.fb_graph.specs.Dual.{Node, is_live}
use Rattle.fb_graph.specs.RenamedNodes.{AreRenamedApart}

-- the right one's nodes get different names, none of which is live in the left one
pub record AreNewNames (left right : List Node) (name : ℕ → ℕ) : Type 0 where
  pub apart : AreRenamedApart name right
  pub fresh : (a : ℕ) → is_live right a ≡ true → is_live left (name a) ≡ false
