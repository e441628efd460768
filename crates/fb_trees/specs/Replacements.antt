-- Nodes of a tree in the place of others: a blossom in that of its cycle, or some children of a minus blossom in that of
-- the blossom (Edmonds 1965).
use Rattle.std.specs.Prelude.{ℕ, ◌≡◌, ◌%◌, true, false, List, [], ◌∷◌, ◌++◌, map, length, Option}
use Rattle.fb_graph.specs.Parity.{is_in}
use Rattle.fb_graph.specs.Certificate.{AreDistinct}
use Rattle.fb_links.specs.declared.cycle.CycleStep.{CycleStep}
use Rattle.fb_links.specs.declared.walk.Step.{Step}
use Rattle.fb_links.specs.Table.{is_live}
use Rattle.fb_laws.specs.Trees.{EntryOf}
use Rattle.fb_laws.specs.SearchBlossoms.{joined_tree, renamed_name}
use Rattle.fb_laws.specs.OpenedCycles.{PassOf, opened_tree}
use Rattle.fb_trees.specs.Branches.{Grown}
use Rattle.fb_trees.specs.Rooted.{AreTakenIn, IsMinus, is_node}

-- A blossom of that name can take the place of the nodes: the branches that it takes in hang together on one of the
-- nodes, its base, and the name is new in the tree.
pub record MayJoin (t : Grown) (gone : List ℕ) (name : ℕ) : Type 0 where
  pub base : ℕ
  pub taken : AreTakenIn (is_in gone) base t.root t.branches
  pub fresh : is_node t name ≡ false

-- the tree with the blossom in the place of the nodes
abbrev pub joined_grown : Grown → List ℕ → ℕ → Grown
joined_grown t gone name = record {
  root = renamed_name (is_in gone) name t.root;
  branches = joined_tree (is_in gone) name t.branches;
}

-- The steps lead over children of a blossom, from the one at which the link of the tree ends to the one at which the
-- matched link ends. Their links are by turns matched and of the tree. The last step's link doesn't count.
abbrev pub way_from : CycleStep → List CycleStep → List (PassOf ℕ)
way_from s [] = []
way_from s (t ∷ []) = []
way_from s (t ∷ u ∷ us) =
    record { matched = s.link; plus = t.node; tree = t.link; minus = u.node } ∷ way_from u us

abbrev pub way_of : List CycleStep → List (PassOf ℕ)
way_of [] = []
way_of (s ∷ ss) = way_from s ss

-- there is a link from each step to the next one. That of the last step doesn't count
abbrev pub AreLinkedOn : List (Option (List Step)) → List CycleStep → Type 0
AreLinkedOn links [] = Unit {0}
AreLinkedOn links (s ∷ []) = Unit {0}
AreLinkedOn links (s ∷ t ∷ ts) = (is_live links s.link ≡ true) × AreLinkedOn links (t ∷ ts)

-- the node of the first step
abbrev pub first_node : List CycleStep → ℕ
first_node [] = 0
first_node (s ∷ ss) = s.node

-- A minus node can give way to an odd number of other nodes, each of them new in the tree.
pub record MayOpen (t : Grown) (name : ℕ) (path : List CycleStep) : Type 0 where
  pub minus : IsMinus t name
  pub odd : length path % 2 ≡ 1
  pub distinct : AreDistinct (map (λ s. s.node) path)
  pub fresh : (n : ℕ) → is_in (map (λ s. s.node) path) n ≡ true → is_node t n ≡ false

-- the tree with the nodes of the path in the place of the minus node
pub record IsOpened (old : Grown) (name : ℕ) (path : List CycleStep) (new : Grown) : Type 0 where
  pub newer : List (EntryOf ℕ)
  pub branch : EntryOf ℕ
  pub older : List (EntryOf ℕ)
  pub was : old.branches ≡ newer ++ branch ∷ older
  pub minus : branch.minus ≡ name
  pub root : new.root ≡ old.root
  pub branches : new.branches ≡ opened_tree newer branch older (first_node path) (way_of path)

-- One node gives way to the path, and more than one to the path's only node.
abbrev pub MayReplace : Grown → List ℕ → List CycleStep → Type 0
MayReplace t (name ∷ []) path = MayOpen t name path
MayReplace t (m ∷ n ∷ ns) (s ∷ []) = MayJoin t (m ∷ n ∷ ns) s.node
MayReplace t gone path = ⊥

abbrev pub IsReplaced : Grown → List ℕ → List CycleStep → Grown → Type 0
IsReplaced old (name ∷ []) path new = IsOpened old name path new
IsReplaced old (m ∷ n ∷ ns) (s ∷ []) new = new ≡ joined_grown old (m ∷ n ∷ ns) s.node
IsReplaced old gone path new = ⊥
