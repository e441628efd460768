-- Alternating paths of a tree, from its root: links of the tree and matched links by turns (Edmonds 1965).
use Rattle.std.specs.Prelude.{ℕ, ◌≡◌, ◌+◌, ◌⊎◌, Bool, true, false, List, [], ◌∷◌, ◌++◌, map, All}
use Rattle.fb_graph.specs.Parity.{is_in}
use Rattle.fb_graph.specs.Laws.{Link}
use Rattle.fb_graph.specs.Counts.{as_count}
use Rattle.fb_graph.specs.Ends.{ends_in}

-- the link has an end in the one set, and its other end at the vertex
abbrev pub LeadsOut : Link → List ℕ → ℕ → Type 0
LeadsOut l set v = ((is_in set l.from ≡ true) × (l.to ≡ v)) ⊎ ((is_in set l.to ≡ true) × (l.from ≡ v))

-- the link has an end in each set
abbrev pub Joins : Link → List ℕ → List ℕ → Type 0
Joins l a b = (v : ℕ) × LeadsOut l a v × (is_in b v ≡ true)

-- Two steps away from the root: a link of the tree to a minus node, and the matched link from there to a plus node. Of
-- the nodes there are only their sets.
pub record Branch : Type 0 where
  pub tree : Link
  pub minus : List ℕ
  pub matched : Link
  pub plus : List ℕ

abbrev pub IsPath : List ℕ → List Branch → Type 0
IsPath root [] = Unit {0}
IsPath root (b ∷ bs) = Joins b.tree root b.minus × Joins b.matched b.minus b.plus × IsPath b.plus bs

-- the plus node at the end of the path
abbrev pub tip_of : List ℕ → List Branch → List ℕ
tip_of root [] = root
tip_of root (b ∷ bs) = tip_of b.plus bs

abbrev pub tree_links : List Branch → List Link
tree_links path = map (λ b. b.tree) path

abbrev pub matched_links : List Branch → List Link
matched_links path = map (λ b. b.matched) path

-- whether the one set holds the other, by its first vertex
abbrev pub holds : List ℕ → List ℕ → Bool
holds set [] = false
holds set (v ∷ vs) = is_in set v

-- the set holds all of the other or nothing of it
abbrev pub IsWhole : List ℕ → List ℕ → Type 0
IsWhole set part = (v : ℕ) → is_in part v ≡ true → is_in set v ≡ holds set part

abbrev pub AreWholeOnPath : List ℕ → List ℕ → List Branch → Type 0
AreWholeOnPath set root path = IsWhole set root × All (λ b. IsWhole set b.minus × IsWhole set b.plus) path

-- A path may go on from the end of another one.
abbrev pub PathsJoined : Type 0
PathsJoined = (root : List ℕ) (path more : List Branch) → IsPath root path → IsPath (tip_of root path) more
    → IsPath root (path ++ more)

-- Along a path a set has as many ends of tree links as of matched ones, but for the two ends of the path. The set may
-- be any that divides no node of the path: a node's own, or a cut.
abbrev pub PathEnds : Type 0
PathEnds = (set root : List ℕ) (path : List Branch) → IsPath root path → AreWholeOnPath set root path
    → ends_in set (tree_links path) + as_count (holds set (tip_of root path))
    ≡ ends_in set (matched_links path) + as_count (holds set root)

-- Augmenting: the path's tree links take the place of its matched ones, with a link from its tip to a vertex outside.
-- So one end more lies in a set that holds the root, and one more in a set that holds the vertex.
abbrev pub Augmented : Type 0
Augmented = (set root : List ℕ) (path : List Branch) (out : Link) (v : ℕ) (rest : List Link) → IsPath root path
    → AreWholeOnPath set root path → LeadsOut out (tip_of root path) v
    → ends_in set (tree_links path ++ out ∷ rest)
    ≡ ends_in set (matched_links path ++ rest) + as_count (holds set root) + as_count (is_in set v)

-- If the vertex is in a node that was matched to the boundary, that link goes, and only the root has an end more.
abbrev pub AugmentedReleasing : Type 0
AugmentedReleasing = (set root : List ℕ) (path : List Branch) (out old : Link) (v b : ℕ) (other : List ℕ)
    (rest : List Link)
    → IsPath root path → AreWholeOnPath set root path → LeadsOut out (tip_of root path) v → is_in other v ≡ true
    → IsWhole set other → LeadsOut old other b → is_in set b ≡ false
    → ends_in set (tree_links path ++ out ∷ rest)
    ≡ ends_in set (matched_links path ++ old ∷ rest) + as_count (holds set root)
