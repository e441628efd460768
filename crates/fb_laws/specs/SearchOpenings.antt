-- A blossom of a search opened: its children are outer nodes again, matched with one another but for one of them.
use Rattle.std.specs.List.Sorted.{IsPermutation}
use Rattle.std.specs.Prelude.{ℕ, ◌≡◌, Bool, true, false, List, [], ◌∷◌, ◌++◌, Some}
use Rattle.fb_graph.specs.Parity.{is_in}
use Rattle.fb_graph.specs.Problem.{Problem}
use Rattle.fb_graph.specs.Certificate.{AreDistinct, load_of}
use Rattle.fb_graph.specs.Laws.{Link}
use Rattle.fb_graph.specs.Dual.{Node, IsDual, all_cuts, leaves, cover_of, height_of, is_empty, top_at}
use Rattle.fb_graph.specs.declared.parts.Edge.{Edge}
use Rattle.fb_graph.specs.Ends.{ends_in}
use Rattle.fb_laws.specs.Measures.{IsLower}
use Rattle.fb_graph.specs.Steps.{Roles}
use Rattle.fb_laws.specs.Works.{AreMatchedLinks, IsMatching}
use Rattle.fb_laws.specs.Trees.{Entry, Connects, IsTree, grown_links, paired_links, tree_names}
use Rattle.fb_laws.specs.Searches.{IsOuterNode, IsSearch}
use Rattle.fb_laws.specs.SearchLayers.{left_to_do}

-- The state with the blossom and the one without it, by their defects: each of those under the blossom is under a child,
-- all others are under the nodes that they were under.
pub record IsSplit (nodes others : List Node) (blossom : ℕ) (children : List ℕ) : Type 0 where
  pub defects : leaves others ≡ leaves nodes
  pub loads : (e : Edge) → load_of (all_cuts others) e ≡ load_of (all_cuts nodes) e
  pub heights : (v : ℕ) → height_of (all_cuts others) v ≡ height_of (all_cuts nodes) v
  pub outside : (d n : ℕ) → is_in (leaves nodes) d ≡ true → cover_of nodes d ≡ Some n → (n ≡ blossom → ⊥)
      → (cover_of others d ≡ Some n) × (is_in children n ≡ false)
  pub inside : (d : ℕ) → is_in (leaves nodes) d ≡ true → cover_of nodes d ≡ Some blossom
      → (n : ℕ) × (cover_of others d ≡ Some n) × (is_in children n ≡ true)

-- the nodes in pairs, each pair with a link that connects it
abbrev pub PairUp : List Node → List ℕ → List Link → Type 0
PairUp nodes [] [] = Unit {0}
PairUp nodes (a ∷ b ∷ names) (l ∷ links) = Connects nodes l a b × PairUp nodes names links
PairUp nodes (a ∷ []) links = ⊥
PairUp nodes [] (l ∷ links) = ⊥
PairUp nodes (a ∷ b ∷ names) [] = ⊥

-- A matched blossom opened: one child keeps its link, the others are matched in pairs.
abbrev pub MatchingOpened : Type 0
MatchingOpened = (p : Problem) (nodes others : List Node) (blossom kept : ℕ) (paired : List ℕ) (more links : List Link)
    (unmatched : List ℕ) → IsSplit nodes others blossom (kept ∷ paired) → AreDistinct (kept ∷ paired)
    → PairUp others paired more → AreMatchedLinks p others more → IsOuterNode others kept
    → ends_in (top_at others kept) links ≡ 1 → is_in unmatched blossom ≡ false → ((n : ℕ) → is_in (kept ∷ paired) n ≡ true → is_in unmatched n ≡ false)
    → IsDual p others → IsMatching p nodes links unmatched → IsMatching p others (more ++ links) unmatched

-- A branch of the tree whose minus node is a blossom, and the tree with other branches in its place: the links are the
-- same but for the new ones, and the names are the old ones or those of children.
pub record IsOpenedTree (p : Problem) (nodes others : List Node) (newer older tree : List Entry) (e : Entry) (kept : ℕ) (paired : List ℕ) (more rest later : List Link) (unmatched : List ℕ) (root : ℕ) : Type 0 where
  pub split : IsSplit nodes others e.minus (kept ∷ paired)
  pub distinct : AreDistinct (kept ∷ paired)
  pub pairs : PairUp others paired more
  pub new : AreMatchedLinks p others more
  pub kept_is : IsOuterNode others kept
  pub one_kept : ends_in (top_at others kept) (paired_links (newer ++ e ∷ older) ++ rest) ≡ 1
  pub closed : (n : ℕ) → is_in (e.minus ∷ kept ∷ paired) n ≡ true → is_in unmatched n ≡ false
  pub links : IsPermutation (more ++ (paired_links (newer ++ e ∷ older) ++ rest)) (paired_links tree ++ later)
  pub names : AreDistinct (tree_names root tree)
  pub old : (n : ℕ) → is_in (tree_names root tree) n ≡ true → is_in (kept ∷ paired) n ≡ false
      → is_in (tree_names root (newer ++ e ∷ older)) n ≡ true
  pub joined : IsTree others root tree
  pub grown : AreMatchedLinks p others (grown_links tree)

-- Such a tree keeps the search.
abbrev pub SearchOpened : Type 0
SearchOpened = (p : Problem) (nodes others : List Node) (newer older tree : List Entry) (e : Entry) (kept : ℕ)
    (paired : List ℕ) (more rest later : List Link) (unmatched : List ℕ) (root r : ℕ)
    → IsOpenedTree p nodes others newer older tree e kept paired more rest later unmatched root → IsDual p others
    → IsSearch p nodes (newer ++ e ∷ older) rest unmatched root r → IsSearch p others tree later unmatched root r

-- Opening a blossom that isn't plus lowers the blossoms that aren't, and not fewer defects are plus.
abbrev pub OpenedLowers : Type 0
OpenedLowers = (p : Problem) (before after : List Node) (b : Node) (children : List ℕ) (roles later : Roles)
    (free freed : Bool) → IsSplit (before ++ b ∷ after) (before ++ after) b.name children
    → roles.is_plus b.name ≡ false → is_empty b.children ≡ false
    → ((n : ℕ) → roles.is_plus n ≡ true → later.is_plus n ≡ true)
    → IsLower (left_to_do p (before ++ after) later freed) (left_to_do p (before ++ b ∷ after) roles free)
