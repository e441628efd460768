-- The matching of a search after a cycle of its tree becomes a blossom.
use Rattle.std.proofs.Common.{ℕ, ◌≡◌, true, false, List, ◌++◌, map, Option, sym, ap, ◌∙◌, subst}
use Rattle.std.specs.List.Sorted.{IsPermutation}
use Rattle.std.proofs.lemmas.Bool.{both_ways, false_from_ne_true}
use Rattle.fb_graph.specs.Parity.{is_in}
use Rattle.fb_graph.specs.Problem.{Problem}
use Rattle.fb_graph.specs.Dual.{AreOuterApart, is_live}
use Rattle.fb_graph.specs.Laws.{Link}
use Rattle.fb_graph.specs.Moves.{joined_nodes}
use Rattle.fb_graph.specs.Nests.{IsNest}
use Rattle.fb_graph.proofs.JoinedNests.{nest_joined}
use Rattle.fb_links.specs.declared.walk.Step.{Step}
use Rattle.fb_laws.specs.PartStates.{SearchState}
use Rattle.fb_laws.specs.SearchBlossoms.{joined_tree, renamed_name}
use Rattle.fb_laws.specs.Searches.{IsSearch}
use Rattle.fb_laws.specs.StateBlossoms.{MayClose}
use Rattle.fb_laws.specs.TreeCycles.{ArePaths}
use Rattle.fb_laws.specs.Trees.{EntryOf, tree_names}
use Rattle.fb_laws.proofs.OpenedBlossoms.{same_permuted}
use Rattle.fb_trees.proofs.Mapped.{joined_moved, names_moved}
use Rattle.fb_half.specs.Matchings.{IsMatchingOf, MatchingValue, listed_names, matched_names}
use Rattle.fb_half.specs.Translations.{entry_by, link_by}
use Rattle.fb_search.proofs.Cycles.{cycle_from, same_cycle, paths_of}
use Rattle.fb_search.proofs.JoinConditions.{cycle_within, nodes_may_join, outer_made}
use Rattle.fb_search.proofs.Matched.{IsRenamed, matching_joined}
use Rattle.fb_search.proofs.Renamed.{closed_renamed, cover_joined}
use Rattle.fb_graph.proofs.Floods.{is_in-right}

module _ (p : Problem) (s : SearchState) (links : List (Option (List Step))) (branches : List (EntryOf ℕ))
    (tree_is : s.tree ≡ map (entry_by links) branches) (name a b closing : ℕ) (shared up down : List (EntryOf ℕ))
    (may : MayClose p s name a b (link_by links closing)) (paths : ArePaths branches a b shared up down)
    (rest : List Link) (nest : IsNest p s.nodes)
    (search : IsSearch p s.nodes s.tree rest s.unmatched s.root s.parity) (m : MatchingValue) where
  abbrev cycle : List ℕ
  cycle = cycle_from s.root shared up down

  names_are : tree_names s.root s.tree ≡ tree_names s.root branches
  names_are = ap (tree_names s.root) tree_is ∙ names_moved (link_by links) s.root branches

  names_after : is_in (tree_names s.root branches) name ≡ false
      → IsRenamed cycle (tree_names s.root branches)
      (tree_names (renamed_name (is_in cycle) name s.root) (joined_tree (is_in cycle) name branches)) name
  names_after fresh_in_tree =
      subst (λ ns. IsRenamed cycle (tree_names s.root branches) ns name)
      (ap (λ t. tree_names (renamed_name (is_in cycle) name s.root) (joined_tree (is_in cycle) name t)) tree_is
      ∙ (ap (tree_names (renamed_name (is_in cycle) name s.root))
      (joined_moved (link_by links) (is_in cycle) name branches)
      ∙ names_moved (link_by links) (renamed_name (is_in cycle) name s.root) (joined_tree (is_in cycle) name branches)))
      (subst
      (λ ns.
      IsRenamed cycle ns (tree_names (renamed_name (is_in cycle) name s.root) (joined_tree (is_in cycle) name s.tree))
      name)
      names_are
      (subst
      (λ c.
      IsRenamed c (tree_names s.root s.tree)
      (tree_names (renamed_name (is_in c) name s.root) (joined_tree (is_in c) name s.tree)) name)
      (same_cycle links s.root shared up down)
      (closed_renamed p s name a b (link_by links closing) (map (entry_by links) shared) (map (entry_by links) up)
      (map (entry_by links) down) may (paths_of links s.tree branches tree_is a b shared up down paths) rest nest search
      (ap (λ ns. is_in ns name) names_are ∙ fresh_in_tree))))

  pub apart_after : AreOuterApart (joined_nodes name cycle s.nodes)
  apart_after =
      (nest_joined p s.nodes name cycle
      (nodes_may_join p s links branches tree_is name a b closing shared up down may paths rest nest search) nest).dual.apart

  -- The matching lists the tree's nodes, and others outside it, in any order. After it, it lists the same others and the
  -- nodes of the tree with the blossom in it.
  module _ (all outside : List ℕ) (was : IsMatchingOf p s.nodes links m all)
      (old_names : IsPermutation (listed_names m ++ all) (outside ++ tree_names s.root branches)) where
    fresh_in_tree : is_in (tree_names s.root branches) name ≡ false
    fresh_in_tree =
        false_from_ne_true (is_in (tree_names s.root branches) name)
        (λ there.
        both_ways (is_live s.nodes name) may.fresh
        (was.live name
        (sym (same_permuted (listed_names m ++ all) (outside ++ tree_names s.root branches) old_names name)
        ∙ is_in-right outside (tree_names s.root branches) name there)).0)

    pub matching_ring : (m2 : MatchingValue) (all2 : List ℕ) → m2.matches ≡ m.matches
        → IsPermutation
        (outside ++ tree_names (renamed_name (is_in cycle) name s.root) (joined_tree (is_in cycle) name branches))
        (listed_names m2 ++ all2)
        → ((n : ℕ) → is_in (matched_names m.matches) n ≡ true → is_in outside n ≡ true)
        → IsMatchingOf p (joined_nodes name cycle s.nodes) links m2 all2
    matching_ring m2 all2 same new_names matched =
        matching_joined p s.nodes name cycle links m m2 all all2 outside (tree_names s.root branches)
        (tree_names (renamed_name (is_in cycle) name s.root) (joined_tree (is_in cycle) name branches)) was old_names new_names same
        (names_after fresh_in_tree)
        (cycle_within p s links branches tree_is name a b closing shared up down may paths rest nest search) may.fresh
        (outer_made p s links branches tree_is name a b closing shared up down may paths rest nest search)
        matched (cover_joined s.nodes name cycle apart_after)
