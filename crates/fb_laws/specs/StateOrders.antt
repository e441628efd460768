-- What doesn't matter in a half-solved part: the order of its links and of its unmatched names, and links that are kept
-- for names that no node has.
use Rattle.std.specs.Prelude.{ℕ, ◌≡◌, true, List, ◌∷◌, false}
use Rattle.std.specs.List.Sorted.{IsPermutation}
use Rattle.fb_graph.specs.Problem.{Problem}
use Rattle.fb_graph.specs.Laws.{Link}
use Rattle.fb_graph.specs.Dual.{Node, is_live}
use Rattle.fb_laws.specs.Forming.{Child, names_of}
use Rattle.fb_laws.specs.PartStates.{PartState, SearchState, IsPartState, IsSearchState}
use Rattle.fb_laws.specs.SearchBlossoms.{IsJoining}
use Rattle.fb_laws.specs.StateBlossoms.{joined_state}
use Rattle.fb_laws.specs.Works.{names_without}

-- both tables give the same links to each node
abbrev pub AgreeAt : List Node → (ℕ → List Link) → (ℕ → List Link) → Type 0
AgreeAt nodes cycles other = (n : ℕ) → is_live nodes n ≡ true → other n ≡ cycles n

abbrev pub PartReordered : Type 0
PartReordered = (p : Problem) (s : PartState) (cycles : ℕ → List Link) (matches : List Link) (unmatched : List ℕ)
    → AgreeAt s.nodes s.cycles cycles → IsPermutation s.matches matches → IsPermutation s.unmatched unmatched
    → IsPartState p s
    → IsPartState p (record s { cycles = cycles; matches = matches; unmatched = unmatched })

abbrev pub SearchReordered : Type 0
SearchReordered = (p : Problem) (s : SearchState) (cycles : ℕ → List Link) (rest : List Link) (unmatched : List ℕ)
    → AgreeAt s.nodes s.cycles cycles → IsPermutation s.rest rest → IsPermutation s.unmatched unmatched
    → IsSearchState p s
    → IsSearchState p (record s { cycles = cycles; rest = rest; unmatched = unmatched })

-- When nodes are joined, the unmatched ones beside the tree stay as they were. So they do by every other move, and the
-- roots of a part's searches may be listed once.
abbrev pub OthersStay : Type 0
OthersStay = (p : Problem) (s : SearchState) (name : ℕ) (base : Child) (others : List Child) (links : List Link)
    → IsJoining s.nodes s.tree s.root name base others → is_live s.nodes name ≡ false → IsSearchState p s
    → names_without (joined_state name (names_of (base ∷ others)) links s).root
    (joined_state name (names_of (base ∷ others)) links s).unmatched
    ≡ names_without s.root s.unmatched
