-- A tree with an opened blossom.
use Rattle.std.proofs.Common.{ℕ, ◌≡◌, ◌%◌, ◌==◌, ◌⊎◌, inl, inr, not, true, false, List, ◌∷◌, ◌++◌, Some, sym, ap, ◌∙◌}
use Rattle.std.proofs.lemmas.Bool.{both_ways, and_parts}
use Rattle.fb_graph.specs.Parity.{is_in}
use Rattle.fb_graph.specs.Laws.{Link}
use Rattle.fb_graph.specs.Problem.{Problem}
use Rattle.fb_graph.specs.Covers.{HaveParity}
use Rattle.fb_graph.specs.Dual.{IsDual, Node, all_cuts, leaves, cover_of, height_of}
use Rattle.fb_graph.proofs.Sets.{is_in-head, is_in-tail, is_in-filter}
use Rattle.fb_laws.specs.Works.{names_without}
use Rattle.fb_laws.specs.Trees.{Entry, plus_names, minus_names, tree_names, paired_links}
use Rattle.fb_laws.specs.SearchOpenings.{IsOpenedTree, SearchOpened}
use Rattle.fb_laws.proofs.HalvesKept.{matching_permuted}
use Rattle.fb_laws.proofs.JoinedThree.{mid_names, root_plus}
use Rattle.fb_laws.proofs.OpenedSearches.{matching_opened, leaf_before, cover_split}
use Rattle.fb_laws.proofs.SearchTrees.{minus_in_tree, exclusive_names}

pub search_opened : SearchOpened
search_opened p nodes others newer older tree e kept paired more rest later unmatched root r opened dual state = record {
  matching =
      matching_permuted p others (more ++ (paired_links (newer ++ e ∷ older) ++ rest)) (paired_links tree ++ later) unmatched opened.links
      (matching_opened p nodes others e.minus kept paired more (paired_links (newer ++ e ∷ older) ++ rest) unmatched opened.split opened.distinct
      opened.pairs opened.new opened.kept_is opened.one_kept
      (opened.closed e.minus (is_in-head e.minus (kept ∷ paired)))
      (λ n among. opened.closed n (is_in-tail e.minus (kept ∷ paired) n among)) dual state.matching);
  root_is = (
    state.root_is.0,
    ap (λ l. is_in l state.root_is.0) opened.split.defects ∙ state.root_is.1,
    (opened.split.outside state.root_is.0 root state.root_is.1 state.root_is.2 root_other).0,
  );
  open_root = state.open_root;
  names = opened.names;
  joined = opened.joined;
  grown = opened.grown;
  parity = λ d n leaf cover among.
      let at : is_in (leaves nodes) d ≡ true = leaf_before p nodes others e.minus (kept ∷ paired) opened.split old dual d leaf in
      ap (λ h. h % 2) (opened.split.heights d)
      ∙ in_tree d n at among (cover_split p nodes others e.minus (kept ∷ paired) opened.split old dual d n at cover);
}
  where
    old : IsDual p nodes
    old = state.matching.dual

    root_other : root ≡ e.minus → ⊥
    root_other same =
        both_ways (is_in (minus_names (newer ++ e ∷ older)) e.minus)
        (exclusive_names root (newer ++ e ∷ older) state.names e.minus
        (ap (is_in (plus_names root (newer ++ e ∷ older))) (sym same) ∙ root_plus root (newer ++ e ∷ older)))
        (mid_names root newer older e).0

    in_tree : (d n : ℕ) → is_in (leaves nodes) d ≡ true → is_in (tree_names root tree) n ≡ true
        → (cover_of nodes d ≡ Some n) × (n ≡ e.minus → ⊥) × (is_in (kept ∷ paired) n ≡ false) ⊎ (cover_of nodes d ≡ Some e.minus) × (is_in (kept ∷ paired) n ≡ true)
        → height_of (all_cuts nodes) d % 2 ≡ r
    in_tree d n at among (inl (here, other, out)) = state.parity d n at here (opened.old n among out)
    in_tree d n at among (inr (here, child)) =
        state.parity d e.minus at here (minus_in_tree root (newer ++ e ∷ older) e.minus (mid_names root newer older e).0)

-- what is unmatched beside the root stays as it was
pub even_opened : (p : Problem) (nodes others : List Node) (newer older tree : List Entry) (e : Entry) (kept : ℕ)
    (paired : List ℕ) (more rest later : List Link) (unmatched : List ℕ) (root : ℕ)
    → IsOpenedTree p nodes others newer older tree e kept paired more rest later unmatched root → IsDual p nodes → IsDual p others
    → HaveParity (is_in (names_without root unmatched)) nodes 0
    → HaveParity (is_in (names_without root unmatched)) others 0
even_opened p nodes others newer older tree e kept paired more rest later unmatched root opened old dual even d n leaf cover among =
    let at : is_in (leaves nodes) d ≡ true = leaf_before p nodes others e.minus (kept ∷ paired) opened.split old dual d leaf in
    ap (λ h. h % 2) (opened.split.heights d)
    ∙ still_open at (cover_split p nodes others e.minus (kept ∷ paired) opened.split old dual d n at cover)
  where
    still_open : is_in (leaves nodes) d ≡ true
        → (cover_of nodes d ≡ Some n) × (n ≡ e.minus → ⊥) × (is_in (kept ∷ paired) n ≡ false) ⊎ (cover_of nodes d ≡ Some e.minus) × (is_in (kept ∷ paired) n ≡ true)
        → height_of (all_cuts nodes) d % 2 ≡ 0
    still_open at (inl (here, other, out)) = even d n at here among
    still_open at (inr (here, child)) =
        absurd
        (both_ways (is_in unmatched n) (opened.closed n (is_in-tail e.minus (kept ∷ paired) n child))
        (and_parts (is_in unmatched n) (not (n == root)) (sym (is_in-filter (λ m. not (m == root)) unmatched n) ∙ among)).0)
