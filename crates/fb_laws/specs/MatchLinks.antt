-- The link that matches an outer node, to the boundary or to another outer node: its mate.
use Rattle.std.specs.Prelude.{ℕ, ◌≡◌, ◌⊎◌, true, false, List, ◌∷◌, ◌++◌, All, Some}
use Rattle.fb_graph.specs.Parity.{is_in}
use Rattle.fb_graph.specs.Problem.{Problem}
use Rattle.fb_graph.specs.Laws.{Link}
use Rattle.fb_graph.specs.Dual.{Node, cover_of, is_live, is_outer}
use Rattle.fb_laws.specs.Searches.{IsSearch, LeavesNode}
use Rattle.fb_laws.specs.Trees.{Entry, Connects, tree_names}
use Rattle.fb_laws.specs.Works.{IsMatching}

-- the link has no end under the outer node
abbrev pub EndsElsewhere : List Node → ℕ → Link → Type 0
EndsElsewhere nodes name l = (cover_of nodes l.from ≡ Some name → ⊥) × (cover_of nodes l.to ≡ Some name → ⊥)

-- it leads from the outer node to a boundary vertex
abbrev pub LeadsToBoundary : Problem → List Node → ℕ → Link → Type 0
LeadsToBoundary p nodes name l = (v : ℕ) × LeavesNode nodes l name v × (p.is_real v ≡ false)

-- it leads from the one outer node to another
abbrev pub LeadsToMate : List Node → ℕ → Link → Type 0
LeadsToMate nodes name l = (mate : ℕ) × Connects nodes l name mate × (name ≡ mate → ⊥)

-- one link among the others is the match of the outer node, and no other ends under it
pub record IsMatchOf (p : Problem) (nodes : List Node) (name : ℕ) (before : List Link) (l : Link) (after : List Link) : Type 0 where
  pub leads : LeadsToBoundary p nodes name l ⊎ LeadsToMate nodes name l
  pub others : All (EndsElsewhere nodes name) (before ++ after)

-- just one of the links matches the outer node
abbrev pub HasMatch : Problem → List Node → List Link → ℕ → Type 0
HasMatch p nodes links name =
    (before : List Link) × (l : Link) × (after : List Link) × (links ≡ before ++ l ∷ after)
    × IsMatchOf p nodes name before l after

-- An outer node has just one match unless it is unmatched.
abbrev pub MatchOf : Type 0
MatchOf = (p : Problem) (nodes : List Node) (links : List Link) (unmatched : List ℕ) (name : ℕ)
    → IsMatching p nodes links unmatched → is_live nodes name ≡ true → is_outer nodes name ≡ true
    → is_in unmatched name ≡ false → HasMatch p nodes links name

-- So an outer node that a search meets outside its tree is unmatched, or its match is among the links beside the tree.
abbrev pub MatchOfMet : Type 0
MatchOfMet = (p : Problem) (nodes : List Node) (tree : List Entry) (rest : List Link) (unmatched : List ℕ)
    (root r name : ℕ) → IsSearch p nodes tree rest unmatched root r → is_live nodes name ≡ true
    → is_outer nodes name ≡ true → is_in (tree_names root tree) name ≡ false
    → (is_in unmatched name ≡ true) ⊎ HasMatch p nodes rest name

-- The mate of such a node is outside the tree too, and neither of the two is unmatched.
abbrev pub MateOutside : Type 0
MateOutside = (p : Problem) (nodes : List Node) (tree : List Entry) (before : List Link) (l : Link) (after : List Link)
    (unmatched : List ℕ) (root r name mate : ℕ) → IsSearch p nodes tree (before ++ l ∷ after) unmatched root r
    → Connects nodes l name mate
    → (is_in (tree_names root tree) mate ≡ false) × (is_in unmatched name ≡ false) × (is_in unmatched mate ≡ false)
