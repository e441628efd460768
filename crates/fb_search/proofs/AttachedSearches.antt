-- The branch of a node that a tree has met, and of its mate.
use Rattle.std.proofs.Common.{ℕ}
use Rattle.fb_laws.specs.Trees.{EntryOf}
use Rattle.fb_search.specs.declared.growing_meets.Met.{Met}

-- the branch of the node and its mate
abbrev pub branch_met : Met → ℕ → EntryOf ℕ
branch_met met mate = record { parent = met.plus; tree = met.link; minus = met.other; matched = met.taken.link; plus = mate }
