-- Nodes that wait for a tree: they are outer, and they stay as they are while trees change.
use Rattle.std.proofs.Common.{ℕ, ◌≡◌, ◌%◌, Bool, true, false, List, ◌∷◌, ◌++◌, sym, ap, ◌∙◌}
use Rattle.std.proofs.lemmas.Bool.{both_ways, false_from_ne_true}
use Rattle.fb_graph.specs.Parity.{is_in}
use Rattle.fb_graph.specs.Problem.{Problem}
use Rattle.fb_graph.specs.Covers.{HaveParity}
use Rattle.fb_graph.specs.Dual.{Node, is_live, leaves}
use Rattle.fb_graph.proofs.Floods.{is_in-right}
use Rattle.fb_laws.specs.Forests.{AnyTree, forest_names, forest_roots}
use Rattle.fb_laws.specs.ForestStates.{ForestState, IsForestState, among_trees, tree_of}
use Rattle.fb_laws.specs.PartStates.{SearchState}
use Rattle.fb_laws.specs.Searches.{IsOuterNode}
use Rattle.fb_laws.specs.Trees.{tree_names}
use Rattle.fb_laws.proofs.ForestStates.{in_forest}
use Rattle.fb_laws.proofs.LoweredParts.{set_outer}
use Rattle.fb_laws.proofs.MatchLinks.{set_of}
use Rattle.fb_laws.proofs.TreesBeside.{AreKept}

module _ (p : Problem) (s : ForestState) (state : IsForestState p s) (n : ℕ) (waits : is_in s.waiting n ≡ true) where
  unmatched : is_in s.unmatched n ≡ true
  unmatched = state.forest.roots n ∙ is_in-right (forest_roots s.trees) s.waiting n waits

  pub waiting_live : is_live s.nodes n ≡ true
  waiting_live = state.names.live n unmatched

  pub waiting_outer : IsOuterNode s.nodes n
  waiting_outer =
      set_outer p s.nodes n state.nest.dual (set_of p s.nodes n state.nest.dual waiting_live (state.outer n unmatched))

-- They are in none of the trees.
pub waiting_apart : (p : Problem) (before after : List AnyTree) (waiting : List ℕ) (s : SearchState)
    → IsForestState p (among_trees before after waiting s) → (n : ℕ) → is_in waiting n ≡ true
    → is_in (tree_names s.root s.tree) n ≡ false
waiting_apart p before after waiting s state n waits =
    false_from_ne_true (is_in (tree_names s.root s.tree) n)
    (λ here.
    both_ways (is_in (forest_names (before ++ tree_of s ∷ after)) n) (state.forest.apart n waits)
    (in_forest before after (tree_of s) n here))

-- Potentials under nodes that stay keep their parity.
pub parity_kept : (p : Problem) (nodes others : List Node) (names : ℕ → Bool) (r : ℕ) → AreKept p nodes others names
    → HaveParity names nodes r → HaveParity names others r
parity_kept p nodes others names r kept parity d name leaf cover among =
    let before : is_in (leaves nodes) d ≡ true = ap (λ l. is_in l d) (sym kept.defects) ∙ leaf in
    ap (λ h. h % 2) (kept.heights d) ∙ parity d name before (kept.back d name before among cover) among
