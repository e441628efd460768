-- A cycle of nodes that becomes a blossom (Edmonds 1965), in a part with unmatched nodes.
use Rattle.std.specs.Prelude.{ℕ, ◌≡◌, ◌*◌, false, List, [], ◌∷◌, ◌++◌, map, length, All}
use Rattle.std.specs.List.{concat}
use Rattle.fb_graph.specs.Parity.{is_in}
use Rattle.fb_graph.specs.Problem.{Problem}
use Rattle.fb_graph.specs.Laws.{Link}
use Rattle.fb_graph.specs.Dual.{Node, IsDual}
use Rattle.fb_graph.specs.Counts.{as_count}
use Rattle.fb_graph.specs.Covers.{HaveParity}
use Rattle.fb_graph.specs.Ends.{AreAllApart}
use Rattle.fb_laws.specs.Blossoms.{IsInside}
use Rattle.fb_laws.specs.Works.{IsMatching, IsSetOf}

-- a node of the cycle, by its name and its set
pub record Child : Type 0 where
  pub name : ℕ
  pub set : List ℕ

abbrev pub sets_of : List Child → List (List ℕ)
sets_of children = map (λ c. c.set) children

abbrev pub names_of : List Child → List ℕ
names_of children = map (λ c. c.name) children

-- the blossom of these children, with one layer without value
abbrev pub blossom_of : ℕ → List Child → Node
blossom_of name children = record {
  name = name;
  children = names_of children;
  below = [];
  top = record { value = 0; vertices = concat (sets_of children) };
}

-- The base is matched as it may be, the others among one another by the inner links; all have one parity.
pub record IsCycle (nodes : List Node) (base : Child) (others : List Child) (inner : List Link) (unmatched : List ℕ) (r : ℕ)
    : Type 0 where
  pub nodes_are : All (λ c. IsSetOf nodes c.name c.set) (base ∷ others)
  pub apart : AreAllApart (sets_of (base ∷ others))
  pub inside : All (IsInside (concat (sets_of (base ∷ others)))) inner
  pub even : length others ≡ 2 * length inner
  pub matched : All (λ c. is_in unmatched c.name ≡ false) others
  pub parity : HaveParity (is_in (names_of (base ∷ others))) nodes r

-- The blossom takes the place of its base: it is unmatched if the base was.
abbrev pub MatchingFormed : Type 0
MatchingFormed = (p : Problem) (nodes : List Node) (name : ℕ) (base : Child) (others : List Child)
    (inner rest : List Link) (unmatched remaining : List ℕ) (r : ℕ) → IsCycle nodes base others inner unmatched r
    → IsDual p (nodes ++ blossom_of name (base ∷ others) ∷ [])
    → as_count (is_in remaining name) ≡ as_count (is_in unmatched base.name)
    → ((n : ℕ) → is_in (names_of (base ∷ others)) n ≡ false → (n ≡ name → ⊥) → is_in remaining n ≡ is_in unmatched n)
    → IsMatching p nodes (inner ++ rest) unmatched
    → IsMatching p (nodes ++ blossom_of name (base ∷ others) ∷ []) rest remaining
