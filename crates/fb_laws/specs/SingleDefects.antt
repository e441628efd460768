-- An outer node of one defect, as a minus node is that has shrunk to nothing: two links that end under it meet there.
use Rattle.std.specs.Prelude.{ℕ, ◌≡◌, ◌==◌, ◌⊎◌, true, List, [], ◌∷◌, All, Some, if◌then◌else◌}
use Rattle.fb_graph.specs.Parity.{is_in}
use Rattle.fb_graph.specs.Problem.{Problem}
use Rattle.fb_graph.specs.Certificate.{total_value}
use Rattle.fb_graph.specs.Laws.{Link}
use Rattle.fb_graph.specs.Dual.{Node, IsDual, all_cuts, cover_of, height_of, layers_at, leaves}
use Rattle.fb_graph.specs.Nests.{IsNest}
use Rattle.fb_laws.specs.MetLinks.{joined_link, turned_link}
use Rattle.fb_laws.specs.Trees.{Connects}
use Rattle.fb_laws.specs.Works.{AreMatchedLinks}

-- the named node joins no others
abbrev pub IsSingle : List Node → ℕ → Type 0
IsSingle nodes name = All (λ n. n.name ≡ name → n.children ≡ []) nodes

-- the vertex is a defect under the outer node
pub record IsDefectUnder (nodes : List Node) (name d : ℕ) : Type 0 where
  pub defect : is_in (leaves nodes) d ≡ true
  pub under : cover_of nodes d ≡ Some name

-- There is one defect under an outer node that joins no others.
abbrev pub OneDefect : Type 0
OneDefect = (p : Problem) (nodes : List Node) (name d e : ℕ) → IsNest p nodes → IsSingle nodes name
    → IsDefectUnder nodes name d → IsDefectUnder nodes name e → d ≡ e

-- Its potential is the sum of the node's own layers.
abbrev pub DefectHeight : Type 0
DefectHeight = (p : Problem) (nodes : List Node) (name d : ℕ) → IsNest p nodes → IsSingle nodes name
    → IsDefectUnder nodes name d → height_of (all_cuts nodes) d ≡ total_value (layers_at nodes name)

-- the link, turned round if it doesn't end at the vertex
abbrev pub ending_link : ℕ → Link → Link
ending_link v l = if v == l.to then l else turned_link l

-- the link, turned round if it doesn't begin at the vertex
abbrev pub starting_link : ℕ → Link → Link
starting_link v l = if v == l.from then l else turned_link l

-- the two links as one that leads through the vertex
abbrev pub link_through : ℕ → Link → Link → Link
link_through v l m = joined_link (ending_link v l) (starting_link v m)

-- the link has an end at the vertex
abbrev pub HasEnd : Link → ℕ → Type 0
HasEnd l v = (l.from ≡ v) ⊎ (l.to ≡ v)

-- If a node of one defect has only layers without value, two links to it, as its tree link and its matched link, meet
-- at the defect and are one link between the nodes at their other ends.
abbrev pub LinksThrough : Type 0
LinksThrough = (p : Problem) (nodes : List Node) (l m : Link) (a name b : ℕ) → IsNest p nodes → IsSingle nodes name
    → total_value (layers_at nodes name) ≡ 0 → AreMatchedLinks p nodes (l ∷ m ∷ []) → Connects nodes l a name
    → Connects nodes m name b → (a ≡ name → ⊥) → (name ≡ b → ⊥) → (a ≡ b → ⊥)
    → (d : ℕ) × IsDefectUnder nodes name d × HasEnd l d × HasEnd m d
    × AreMatchedLinks p nodes (link_through d l m ∷ []) × Connects nodes (link_through d l m) a b

-- No other vertex is an end of both.
abbrev pub EndsMeetUnder : Type 0
EndsMeetUnder = (p : Problem) (nodes : List Node) (l m : Link) (a name b v : ℕ) → IsDual p nodes
    → AreMatchedLinks p nodes (l ∷ m ∷ []) → Connects nodes l a name → Connects nodes m name b → (a ≡ name → ⊥)
    → (name ≡ b → ⊥) → (a ≡ b → ⊥) → HasEnd l v → HasEnd m v → IsDefectUnder nodes name v
