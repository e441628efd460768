-- The states of two separated parts as one state of the whole (Wu and Zhong 2023), before seam vertices become real.
use Rattle.std.specs.Prelude.{ℕ, ◌≡◌, ◌⊎◌, Bool, true, false, List, ◌++◌, map, All}
use Rattle.fb_graph.specs.Parity.{is_in}
use Rattle.fb_graph.specs.Problem.{Problem}
use Rattle.fb_graph.specs.Laws.{Link, IsPart}
use Rattle.fb_graph.specs.Dual.{Node, IsDual, is_live}
use Rattle.fb_graph.specs.NestUnions.{AreParts}
use Rattle.fb_laws.specs.Paths.{LeadsOut}
use Rattle.fb_graph.specs.Singles.{Single, nodes_of, vertices_of}
use Rattle.fb_laws.specs.Works.{IsMatching, IsSetOf}

-- What two parts keep, the whole keeps of both together, if its real vertices are those of the parts. Names may not
-- clash, and the whole's dual state is that of both lists of nodes.
abbrev pub MatchingsMerged : Type 0
MatchingsMerged = (left right whole : Problem) (nodes others : List Node) (links more : List Link)
    (unmatched open_ : List ℕ)
    → AreParts left right whole
    → ((v : ℕ) → whole.is_real v ≡ true → (left.is_real v ≡ true) ⊎ (right.is_real v ≡ true))
    → IsDual whole (nodes ++ others)
    → ((n : ℕ) → is_in open_ n ≡ true → is_live nodes n ≡ false)
    → ((n : ℕ) → is_in unmatched n ≡ true → is_live others n ≡ false)
    → IsMatching left nodes links unmatched → IsMatching right others more open_
    → IsMatching whole (nodes ++ others) (links ++ more) (unmatched ++ open_)

-- a node whose link to a seam vertex is forgotten
pub record Freed : Type 0 where
  pub name : ℕ
  pub set : List ℕ
  pub link : Link
  pub seam : ℕ

abbrev pub freed_links : List Freed → List Link
freed_links freed = map (λ f. f.link) freed

abbrev pub freed_names : List Freed → List ℕ
freed_names freed = map (λ f. f.name) freed

-- no link ends at one of the vertices
abbrev pub EndElsewhere : (ℕ → Bool) → List Link → Type 0
EndElsewhere seam links = All (λ l. (seam l.from ≡ false) × (seam l.to ≡ false)) links

-- Seam vertices become real. Links to them are forgotten, which leaves their nodes unmatched, and defects among them
-- come as new unmatched nodes without value.
pub record IsSeam (p whole : Problem) (nodes : List Node) (freed : List Freed) (links : List Link)
    (singles : List Single)
    (seam : ℕ → Bool) : Type 0 where
  pub part : IsPart p whole
  pub covered : (v : ℕ) → whole.is_real v ≡ true → (p.is_real v ≡ true) ⊎ (seam v ≡ true)
  pub unreal : (v : ℕ) → seam v ≡ true → p.is_real v ≡ false
  pub freed_are : All (λ f. IsSetOf nodes f.name f.set × LeadsOut f.link f.set f.seam × (seam f.seam ≡ true)) freed
  pub elsewhere : EndElsewhere seam links
  pub at_seam : All (λ s. seam s.vertex ≡ true) singles
  pub bare : All (λ s. s.value ≡ 0) singles
  pub defects : (v : ℕ) → seam v ≡ true → whole.is_defect v ≡ is_in (vertices_of singles) v

abbrev pub SeamOpened : Type 0
SeamOpened = (p whole : Problem) (nodes : List Node) (freed : List Freed) (links : List Link) (singles : List Single)
    (seam : ℕ → Bool) (unmatched : List ℕ) → IsSeam p whole nodes freed links singles seam
    → IsDual whole (nodes ++ nodes_of singles)
    → IsMatching p nodes (freed_links freed ++ links) unmatched
    → IsMatching whole (nodes ++ nodes_of singles) links (unmatched ++ (freed_names freed ++ map (λ s. s.name) singles))
