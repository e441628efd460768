-- What the calls that join a cycle of a search's tree ask for.
use Rattle.std.proofs.Common.{ℕ, ◌≡◌, ◌⊎◌, inl, inr, true, false, List, [], ◌∷◌, map, All, Option, refl, sym, ap, ◌∙◌, subst}
use Rattle.std.proofs.lemmas.Bool.{both_ways, false_from_ne_true}
use Rattle.fb_graph.specs.Parity.{is_in}
use Rattle.fb_graph.specs.Problem.{Problem}
use Rattle.fb_graph.specs.Laws.{Link}
use Rattle.fb_graph.specs.Dual.{Node, is_live, is_outer}
use Rattle.fb_graph.specs.Moves.{MayJoin, blossom, joined_nodes}
use Rattle.fb_graph.specs.Nests.{IsNest}
use Rattle.fb_graph.proofs.Among.{IsAmong, All_among, among_either, among_outer}
use Rattle.fb_graph.proofs.Sets.{is_in-All}
use Rattle.fb_links.specs.declared.walk.Step.{Step}
use Rattle.fb_laws.specs.PartStates.{SearchState}
use Rattle.fb_laws.specs.SearchBlossoms.{AreBranches, child_at}
use Rattle.fb_laws.specs.Searches.{IsSearch}
use Rattle.fb_laws.specs.StateBlossoms.{MayClose}
use Rattle.fb_laws.specs.TreeCycles.{ArePaths, cycle_nodes, last_plus}
use Rattle.fb_laws.specs.Trees.{EntryOf, tree_names}
use Rattle.fb_laws.proofs.MoveBridges.{joining_allowed}
use Rattle.fb_laws.proofs.StateBlossoms.{ring_joining, ring_some}
use Rattle.fb_laws.proofs.TreeCycles.{names_at}
use Rattle.fb_trees.specs.Replacements as replacements
use Rattle.fb_trees.proofs.Mapped.{names_moved}
use Rattle.fb_trees.proofs.Taken.{taken_from}
use Rattle.fb_half.specs.Translations.{entry_by, link_by}
use Rattle.fb_search.proofs.Renamed.{closed_within}
use Rattle.fb_search.proofs.Cycles.{cycle_from, same_cycle, paths_of}

module _ (p : Problem) (s : SearchState) (links : List (Option (List Step))) (branches : List (EntryOf ℕ))
    (tree_is : s.tree ≡ map (entry_by links) branches) (name a b closing : ℕ) (shared up down : List (EntryOf ℕ))
    (may : MayClose p s name a b (link_by links closing)) (paths : ArePaths branches a b shared up down)
    (rest : List Link) (nest : IsNest p s.nodes)
    (search : IsSearch p s.nodes s.tree rest s.unmatched s.root s.parity) where
  abbrev cycle : List ℕ
  cycle = cycle_from s.root shared up down

  -- the cycle's nodes are in the tree
  pub cycle_within : (n : ℕ) → is_in cycle n ≡ true → is_in (tree_names s.root branches) n ≡ true
  cycle_within n on =
      ap (λ ns. is_in ns n) (sym (ap (tree_names s.root) tree_is ∙ names_moved (link_by links) s.root branches))
      ∙ closed_within p s name a b (link_by links closing) (map (entry_by links) shared) (map (entry_by links) up)
      (map (entry_by links) down) may (paths_of links s.tree branches tree_is a b shared up down paths) rest nest search n
      (ap (λ ns. is_in ns n) (same_cycle links s.root shared up down) ∙ on)

  -- the nodes may be joined in the dual state
  pub nodes_may_join : MayJoin s.nodes name cycle
  nodes_may_join =
      subst (MayJoin s.nodes name) (same_cycle links s.root shared up down)
      (subst (λ ns. MayJoin s.nodes name (last_plus s.root (map (entry_by links) shared) ∷ ns))
      (names_at s.nodes (cycle_nodes (map (entry_by links) up) (map (entry_by links) down)))
      (joining_allowed s.nodes s.tree s.root name (child_at s.nodes (last_plus s.root (map (entry_by links) shared)))
      (map (child_at s.nodes) (cycle_nodes (map (entry_by links) up) (map (entry_by links) down)))
      (ring_joining p s name a b (link_by links closing) (map (entry_by links) shared) (map (entry_by links) up)
      (map (entry_by links) down) may (paths_of links s.tree branches tree_is a b shared up down paths) rest nest search)
      (ring_some p s name a b (link_by links closing) (map (entry_by links) shared) (map (entry_by links) up)
      (map (entry_by links) down) may (paths_of links s.tree branches tree_is a b shared up down paths) rest nest search)
      may.fresh))

  -- the blossom is an outer node then
  pub outer_made : is_outer (joined_nodes name cycle s.nodes) name ≡ true
  outer_made =
      among_outer (joined_nodes name cycle s.nodes) name
      (λ r among. by r (among_either s.nodes (blossom name cycle s.nodes ∷ []) r among))
    where
      other : (c : ℕ) → is_live s.nodes c ≡ true → c ≡ name → ⊥
      other c live same = both_ways (is_live s.nodes name) may.fresh (ap (is_live s.nodes) (sym same) ∙ live)

      by : (r : Node) → IsAmong r s.nodes ⊎ IsAmong r (blossom name cycle s.nodes ∷ []) → is_in r.children name ≡ false
      by r (inl among) =
          false_from_ne_true (is_in r.children name)
          (λ h.
          other name
          (is_in-All (λ x. is_live s.nodes x ≡ true) r.children
          (All_among (λ n. All (λ c. is_live s.nodes c ≡ true) n.children) s.nodes nest.forest.live r
          among) name h)
          refl)
      by r (inr (inl e)) =
          ap (λ (x : Node). is_in x.children name) (sym e)
          ∙ false_from_ne_true (is_in cycle name)
          (λ h. other name (is_in-All (λ x. is_live s.nodes x ≡ true) cycle nodes_may_join.live name h) refl)
      by r (inr (inr none)) = absurd none

  -- and the blossom may take their place in the tree
  pub tree_may_join : is_in (tree_names s.root branches) name ≡ false
      → replacements.MayJoin (record { root = s.root; branches = branches }) cycle name
  tree_may_join fresh = record {
    base = last_plus s.root (map (entry_by links) shared);
    taken =
        taken_from (link_by links) (is_in cycle) (last_plus s.root (map (entry_by links) shared)) s.root branches
        (subst (λ t. AreBranches (is_in cycle) (last_plus s.root (map (entry_by links) shared)) s.root t) tree_is
        (subst (λ c. AreBranches (is_in c) (last_plus s.root (map (entry_by links) shared)) s.root s.tree)
        (same_cycle links s.root shared up down)
        (subst
        (λ ns.
        AreBranches (is_in (last_plus s.root (map (entry_by links) shared) ∷ ns))
        (last_plus s.root (map (entry_by links) shared)) s.root s.tree)
        (names_at s.nodes (cycle_nodes (map (entry_by links) up) (map (entry_by links) down)))
        (ring_joining p s name a b (link_by links closing) (map (entry_by links) shared) (map (entry_by links) up)
        (map (entry_by links) down) may (paths_of links s.tree branches tree_is a b shared up down paths)
        rest nest search).branches)));
    fresh = fresh;
  }
