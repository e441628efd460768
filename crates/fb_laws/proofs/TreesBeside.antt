-- Trees of a forest that stay while nodes change elsewhere.
use Rattle.std.proofs.Common.{ℕ, ◌≡◌, ◌%◌, inl, inr, Bool, true, List, [], ◌∷◌, All, Some, refl, sym, ap, ◌∙◌, subst}
use Rattle.std.specs.Option.{IsSome}
use Rattle.std.proofs.lemmas.List.Elements.{All-nil, All-cons, All-head, All-tail}
use Rattle.fb_graph.specs.Parity.{is_in}
use Rattle.fb_graph.specs.Problem.{Problem}
use Rattle.fb_graph.specs.Laws.{Link}
use Rattle.fb_graph.specs.Alike.{AreAlike}
use Rattle.fb_graph.specs.Dual.{Node, IsDual, all_cuts, cover_of, height_of, leaves}
use Rattle.fb_graph.proofs.Floods.{is_in-left, is_in-right}
use Rattle.fb_graph.proofs.Nodes.{All-left, All-right}
use Rattle.fb_graph.proofs.Sets.{is_in-head, is_in-tail}
use Rattle.fb_laws.specs.Forests.{AnyTree, forest_grown, forest_names, forest_paired}
use Rattle.fb_laws.specs.Opening.{EndAtDefects, EndsAtDefects}
use Rattle.fb_laws.specs.Searches.{IsOuterNode}
use Rattle.fb_laws.specs.Trees.{Connects, Entry, IsTree, grown_links, paired_links, tree_names}
use Rattle.fb_laws.specs.Works.{AreMatchedLinks}
use Rattle.fb_laws.proofs.ForestStates.{AreTrees}
use Rattle.fb_laws.proofs.JoinedThree.{root_plus}
use Rattle.fb_laws.proofs.LayeredSearches.{cover_before, links_alike}
use Rattle.fb_laws.proofs.SearchTrees.{plus_in_tree}

-- Nodes change, but defects, potentials and tight links don't, nor what is under nodes of these names.
pub record AreKept (p : Problem) (nodes others : List Node) (names : ℕ → Bool) : Type 0 where
  pub defects : leaves others ≡ leaves nodes
  pub heights : (v : ℕ) → height_of (all_cuts others) v ≡ height_of (all_cuts nodes) v
  pub under : (d n : ℕ) → is_in (leaves nodes) d ≡ true → names n ≡ true → cover_of nodes d ≡ Some n → cover_of others d ≡ Some n
  pub back : (d n : ℕ) → is_in (leaves nodes) d ≡ true → names n ≡ true → cover_of others d ≡ Some n → cover_of nodes d ≡ Some n
  pub links : (links : List Link) → AreMatchedLinks p nodes links → AreMatchedLinks p others links

module _ (p : Problem) (nodes others : List Node) (names : ℕ → Bool) (kept : AreKept p nodes others names) (dual : IsDual p nodes) where
  end_kept : (v n : ℕ) → (p.is_real v ≡ true → is_in (leaves nodes) v ≡ true) → names n ≡ true → cover_of nodes v ≡ Some n
      → cover_of others v ≡ Some n
  end_kept v n at named cover = kept.under v n (at (dual.real v (subst IsSome (sym cover) refl))) named cover

  link_kept : (l : Link) (a b : ℕ) → EndsAtDefects p (leaves nodes) l → names a ≡ true → names b ≡ true → Connects nodes l a b
      → Connects others l a b
  link_kept l a b at here there (inl (from, to)) = inl (end_kept l.from a at.0 here from, end_kept l.to b at.1 there to)
  link_kept l a b at here there (inr (to, from)) = inr (end_kept l.to a at.1 here to, end_kept l.from b at.0 there from)

  tree_kept : (root : ℕ) (tree : List Entry) → ((n : ℕ) → is_in (tree_names root tree) n ≡ true → names n ≡ true)
      → EndAtDefects p (leaves nodes) (grown_links tree) → EndAtDefects p (leaves nodes) (paired_links tree)
      → IsTree nodes root tree → IsTree others root tree
  tree_kept root [] named grown paired joined = tt
  tree_kept root (e ∷ es) named grown paired (parent, tree, matched, joined) = (
    parent,
    link_kept e.tree e.parent e.minus (All-head (EndsAtDefects p (leaves nodes)) e.tree (grown_links es) grown)
        (later e.parent (plus_in_tree root es e.parent parent)) minus tree,
    link_kept e.matched e.minus e.plus (All-head (EndsAtDefects p (leaves nodes)) e.matched (paired_links es) paired) minus
        (named e.plus (is_in-tail e.minus (e.plus ∷ tree_names root es) e.plus (is_in-head e.plus (tree_names root es)))) matched,
    tree_kept root es later (All-tail (EndsAtDefects p (leaves nodes)) e.tree (grown_links es) grown)
        (All-tail (EndsAtDefects p (leaves nodes)) e.matched (paired_links es) paired) joined,
  )
    where
      later : (n : ℕ) → is_in (tree_names root es) n ≡ true → names n ≡ true
      later n among =
          named n (is_in-tail e.minus (e.plus ∷ tree_names root es) n (is_in-tail e.plus (tree_names root es) n among))

      minus : names e.minus ≡ true
      minus = named e.minus (is_in-head e.minus (e.plus ∷ tree_names root es))

  forest_kept : (trees : List AnyTree) → ((n : ℕ) → is_in (forest_names trees) n ≡ true → names n ≡ true)
      → EndAtDefects p (leaves nodes) (forest_grown trees) → EndAtDefects p (leaves nodes) (forest_paired trees)
      → All (λ t. IsTree nodes t.root t.branches) trees → All (λ t. IsTree others t.root t.branches) trees
  forest_kept [] named grown paired joined = All-nil (λ (t : AnyTree). IsTree others t.root t.branches)
  forest_kept (t ∷ ts) named grown paired joined =
      All-cons (λ (u : AnyTree). IsTree others u.root u.branches) t ts
      (tree_kept t.root t.branches (λ n among. named n (is_in-left (tree_names t.root t.branches) (forest_names ts) n among))
      (All-left (EndsAtDefects p (leaves nodes)) (grown_links t.branches) (forest_grown ts) grown)
      (All-left (EndsAtDefects p (leaves nodes)) (paired_links t.branches) (forest_paired ts) paired)
      (All-head (λ (u : AnyTree). IsTree nodes u.root u.branches) t ts joined))
      (forest_kept ts (λ n among. named n (is_in-right (tree_names t.root t.branches) (forest_names ts) n among))
      (All-right (EndsAtDefects p (leaves nodes)) (grown_links t.branches) (forest_grown ts) grown)
      (All-right (EndsAtDefects p (leaves nodes)) (paired_links t.branches) (forest_paired ts) paired)
      (All-tail (λ (u : AnyTree). IsTree nodes u.root u.branches) t ts joined))

  roots_kept : (trees : List AnyTree) → ((n : ℕ) → is_in (forest_names trees) n ≡ true → names n ≡ true)
      → All (λ t. IsOuterNode nodes t.root) trees → All (λ t. IsOuterNode others t.root) trees
  roots_kept [] named outer = All-nil (λ (t : AnyTree). IsOuterNode others t.root)
  roots_kept (t ∷ ts) named outer =
      let (d, leaf, cover) = All-head (λ (u : AnyTree). IsOuterNode nodes u.root) t ts outer in
      All-cons (λ (u : AnyTree). IsOuterNode others u.root) t ts
      (d, ap (λ l. is_in l d) kept.defects ∙ leaf, kept.under d t.root leaf (named t.root here) cover)
      (roots_kept ts (λ n among. named n (is_in-right (tree_names t.root t.branches) (forest_names ts) n among))
      (All-tail (λ (u : AnyTree). IsOuterNode nodes u.root) t ts outer))
    where
      here : is_in (forest_names (t ∷ ts)) t.root ≡ true
      here =
          is_in-left (tree_names t.root t.branches) (forest_names ts) t.root
          (plus_in_tree t.root t.branches t.root (root_plus t.root t.branches))

-- So trees stay whose nodes do.
pub trees_kept : (p : Problem) (nodes others : List Node) (trees : List AnyTree) (r : ℕ)
    → AreKept p nodes others (is_in (forest_names trees)) → IsDual p nodes → AreMatchedLinks p nodes (forest_paired trees)
    → AreTrees p nodes trees r → AreTrees p others trees r
trees_kept p nodes others trees r kept dual paired are = record {
  outer = roots_kept p nodes others (is_in (forest_names trees)) kept dual trees (λ n among. among) are.outer;
  names = are.names;
  joined =
      forest_kept p nodes others (is_in (forest_names trees)) kept dual trees (λ n among. among) are.grown.at_defects
      paired.at_defects are.joined;
  grown = kept.links (forest_grown trees) are.grown;
  parity = λ d name leaf cover among.
      let before : is_in (leaves nodes) d ≡ true = ap (λ l. is_in l d) (sym kept.defects) ∙ leaf in
      ap (λ h. h % 2) (kept.heights d) ∙ are.parity d name before (kept.back d name before among cover) among;
}

-- All nodes stay where layers without value come and go.
pub kept_alike : (p : Problem) (nodes others : List Node) (names : ℕ → Bool) → AreAlike nodes others → IsDual p nodes → IsDual p others
    → AreKept p nodes others names
kept_alike p nodes others names alike old dual = record {
  defects = alike.defects;
  heights = alike.heights;
  under = λ d n leaf named cover. alike.covers d leaf ∙ cover;
  back = λ d n leaf named cover. cover_before p nodes others alike old dual d n (ap (λ l. is_in l d) alike.defects ∙ leaf) cover;
  links = links_alike p nodes others alike old dual;
}
