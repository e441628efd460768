-- How far trees that grow together have come since they began.
use Rattle.std.specs.Prelude.{ℕ, ◌≡◌, ◌+◌, ◌*◌, ◌≤◌, true, false, List, [], length}
use Rattle.fb_graph.specs.Parity.{is_in}
use Rattle.fb_laws.specs.Measures.{rank_of}
use Rattle.fb_half.specs.Parts.{PartValue, problem_in}
use Rattle.fb_trees.specs.Forests.{trees_in}
use Rattle.fb_search.specs.InternalGrowing.{GrowingValue}
use Rattle.fb_search.specs.InternalGrowth.{IsGrownFrom, still_to_do}
use Rattle.fb_search.specs.Progress.{AreKept, IsSamePart}

-- what is left to do as one number
abbrev pub growth_rank : GrowingValue → ℕ
growth_rank w = rank_of ((problem_in w.part).vertices + 2) (still_to_do w true)

-- The trees have grown on from the first ones, with room to watch as many edges.
pub record HasGrownFrom (first now : GrowingValue) : Type 0 where
  pub grown : IsGrownFrom first now
  pub edges : now.watched.edge_count ≡ first.watched.edge_count

-- the same with no tree left
pub record HasGrownThrough (first last : GrowingValue) : Type 0 where
  pub from : HasGrownFrom first last
  pub none : trees_in last.forest ≡ []

-- Trees have grown from these unmatched nodes until each is matched, with some of the other ones. The nodes that are still unmatched
-- are as they were.
pub record AreMatched (roots : List ℕ) (before after : PartValue) : Type 0 where
  pub part : IsSamePart before after
  pub others : (n : ℕ) → is_in after.matching.unmatched n ≡ true
      → (is_in before.matching.unmatched n ≡ true) × (is_in roots n ≡ false)
  pub kept : AreKept after.matching.unmatched before.nodes after.nodes
  pub least : length after.matching.unmatched + length roots ≤ length before.matching.unmatched
  pub most : length before.matching.unmatched ≤ length after.matching.unmatched + 2 * length roots
