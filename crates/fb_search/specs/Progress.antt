-- What a search promises: its root is matched, and all else stays as it was.
use Rattle.std.specs.Prelude.{ℕ, ◌≡◌, ◌+◌, ◌<◌, ◌≤◌, true, List, length}
use Rattle.fb_graph.specs.Parity.{is_in}
use Rattle.fb_graph.specs.Dual.{Node}
use Rattle.fb_laws.specs.Works.{names_without}
use Rattle.fb_regions.specs.Moves.{node_named}
use Rattle.fb_half.specs.Parts.{PartValue}

-- both are of the same node of the same plan, for the same shot
pub record IsSamePart (before after : PartValue) : Type 0 where
  pub job : after.job ≡ before.job
  pub slot : after.slot ≡ before.slot
  pub node : after.node ≡ before.node

-- The nodes of these names are the same: their children, their layers and the values of these.
abbrev pub AreKept : List ℕ → List Node → List Node → Type 0
AreKept names before after = (n : ℕ) → is_in names n ≡ true → node_named after n ≡ node_named before n

-- The root is matched, with at most one other unmatched node. The unmatched nodes are some of those before, each as it was.
pub record IsSearched (root : ℕ) (before after : PartValue) : Type 0 where
  pub part : IsSamePart before after
  pub others : (n : ℕ) → is_in after.matching.unmatched n ≡ true → is_in (names_without root before.matching.unmatched) n ≡ true
  pub kept : AreKept after.matching.unmatched before.nodes after.nodes
  pub fewer : length after.matching.unmatched < length before.matching.unmatched
  pub few : length before.matching.unmatched ≤ length after.matching.unmatched + 2
