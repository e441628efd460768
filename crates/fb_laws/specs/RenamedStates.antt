-- What a part keeps between searches, its nodes under other names.
use Rattle.std.specs.Prelude.{ℕ, ◌≡◌, true, List, map}
use Rattle.fb_graph.specs.Parity.{is_in}
use Rattle.fb_graph.specs.Problem.{Problem}
use Rattle.fb_graph.specs.Laws.{Link}
use Rattle.fb_graph.specs.Dual.{Node, is_live}
use Rattle.fb_graph.specs.Nests.{IsNest}
use Rattle.fb_graph.specs.RenamedNodes.{AreRenamedApart, renamed_nodes}
use Rattle.fb_laws.specs.NestedSearches.{IsNestedWork}
use Rattle.fb_laws.specs.PartStates.{PartState, IsPartState, live_links}
use Rattle.fb_laws.specs.Works.{AreMatchedLinks, IsWork}

-- Links see no names.
abbrev pub LinksRenamed : Type 0
LinksRenamed = (p : Problem) (nodes : List Node) (links : List Link) (f : ℕ → ℕ) → AreMatchedLinks p nodes links
    → AreMatchedLinks p (renamed_nodes f nodes) links

-- Of a nest whose unmatched names are those of nodes, the unmatched names are replaced as well.
abbrev pub WorkRenamed : Type 0
WorkRenamed = (p : Problem) (nodes : List Node) (links : List Link) (unmatched : List ℕ) (f : ℕ → ℕ)
    → AreRenamedApart f nodes → ((n : ℕ) → is_in unmatched n ≡ true → is_live nodes n ≡ true) → IsNest p nodes
    → IsWork p nodes links unmatched → IsWork p (renamed_nodes f nodes) links (map f unmatched)

abbrev pub NestedWorkRenamed : Type 0
NestedWorkRenamed = (p : Problem) (nodes : List Node) (links : List Link) (unmatched : List ℕ) (f : ℕ → ℕ)
    → AreRenamedApart f nodes → ((n : ℕ) → is_in unmatched n ≡ true → is_live nodes n ≡ true)
    → IsNestedWork p nodes links unmatched → IsNestedWork p (renamed_nodes f nodes) links (map f unmatched)

-- the state of a part under other names, with the links round each blossom by its new name
abbrev pub renamed_state : (ℕ → ℕ) → (ℕ → List Link) → PartState → PartState
renamed_state f cycles s = record {
  nodes = renamed_nodes f s.nodes;
  cycles = cycles;
  matches = s.matches;
  unmatched = map f s.unmatched;
}

-- each node has the links under its new name that it had under its old one
abbrev pub AreCyclesRenamed : (ℕ → ℕ) → PartState → (ℕ → List Link) → Type 0
AreCyclesRenamed f s cycles = (n : ℕ) → is_live s.nodes n ≡ true → cycles (f n) ≡ s.cycles n

-- So the whole state of a part stays, and with it the links that it keeps.
abbrev pub StateRenamed : Type 0
StateRenamed = (p : Problem) (s : PartState) (f : ℕ → ℕ) (cycles : ℕ → List Link) → AreRenamedApart f s.nodes
    → AreCyclesRenamed f s cycles → IsPartState p s → IsPartState p (renamed_state f cycles s)

abbrev pub LiveLinksRenamed : Type 0
LiveLinksRenamed = (s : PartState) (f : ℕ → ℕ) (cycles : ℕ → List Link) → AreCyclesRenamed f s cycles
    → live_links (renamed_state f cycles s) ≡ live_links s
