-- The live links of a search after a cycle of its tree becomes a blossom: those of the cycle lead round it now.
use Rattle.std.proofs.Common.{ℕ, ◌≡◌, ◌+◌, List, ◌∷◌, ◌++◌, map, length, Option, sym, ap, ◌∙◌, subst}
use Rattle.std.specs.List.Sorted.{IsPermutation}
use Rattle.std.proofs.lemmas.List.{length-map}
use Rattle.fb_graph.specs.Parity.{is_in}
use Rattle.fb_graph.specs.Problem.{Problem}
use Rattle.fb_graph.specs.Laws.{Link}
use Rattle.fb_graph.specs.Certificate.{AreDistinct}
use Rattle.fb_graph.specs.Moves.{joined_nodes}
use Rattle.fb_graph.specs.Nests.{IsNest}
use Rattle.fb_graph.proofs.Sets.{is_in-tail}
use Rattle.fb_links.specs.declared.cycle.CycleStep.{CycleStep}
use Rattle.fb_links.specs.declared.walk.Step.{Step}
use Rattle.fb_blossoms.specs.Nodes.{Adds}
use Rattle.fb_blossoms.specs.Nodes as blossoms
use Rattle.fb_laws.specs.LinkNumbers.{IsCycleJoined, tree_links}
use Rattle.fb_laws.specs.PartStates.{SearchState}
use Rattle.fb_laws.specs.SearchBlossoms.{inner_branches, joined_tree}
use Rattle.fb_laws.specs.Searches.{IsSearch}
use Rattle.fb_laws.specs.StateBlossoms.{MayClose}
use Rattle.fb_laws.specs.TreeCycles.{ArePaths, cycle_links, cycle_nodes, last_plus}
use Rattle.fb_laws.specs.Trees.{EntryOf, minus_names}
use Rattle.fb_laws.proofs.LinkNumbers.{branches_counted, cycle_in_search, links_joined_in}
use Rattle.fb_trees.proofs.Mapped.{minus_moved}
use Rattle.fb_half.specs.Parts.{AreLinksOf}
use Rattle.fb_half.specs.Translations.{entry_by, link_by, ring_links}
use Rattle.fb_search.proofs.Agreed.{nodes_of}
use Rattle.fb_search.proofs.Cycles.{cycle_from, paths_of, same_cycle}
use Rattle.fb_search.proofs.Linked.{closed_numbers, links_reordered, rings_joined}

module _ (p : Problem) (s : SearchState) (links : List (Option (List Step))) (branches : List (EntryOf ℕ))
    (tree_is : s.tree ≡ map (entry_by links) branches) (name a b closing : ℕ) (shared up down : List (EntryOf ℕ))
    (may : MayClose p s name a b (link_by links closing)) (paths : ArePaths branches a b shared up down)
    (rest : List Link) (nest : IsNest p s.nodes)
    (search : IsSearch p s.nodes s.tree rest s.unmatched s.root s.parity) where
  abbrev cycle : List ℕ
  cycle = cycle_from s.root shared up down

  counted : AreDistinct cycle
      × (length (inner_branches (is_in cycle) s.tree)
      ≡ length (map (entry_by links) up) + length (map (entry_by links) down))
  counted =
      subst
      (λ c.
      AreDistinct c
      × (length (inner_branches (is_in c) s.tree)
      ≡ length (map (entry_by links) up) + length (map (entry_by links) down)))
      (same_cycle links s.root shared up down)
      (cycle_in_search p s name a b (link_by links closing) (map (entry_by links) shared) (map (entry_by links) up)
      (map (entry_by links) down) may
      (paths_of links s.tree branches tree_is a b shared up down paths) rest nest search)

  cycle_joined : IsCycleJoined (is_in cycle) branches up down
  cycle_joined = record {
    nodes = λ n there. is_in-tail (last_plus s.root shared) (cycle_nodes up down) n there;
    distinct = counted.0.1;
    branches =
        branches_counted (is_in cycle) s.tree branches
        (sym (ap minus_names tree_is ∙ minus_moved (link_by links) branches))
        ∙ (counted.1
        ∙ (ap (λ k. k + length (map (entry_by links) down)) (length-map up (entry_by links))
        ∙ ap (λ k. length up + k) (length-map down (entry_by links))));
  }

  -- the cycle's links are those of the tree that leave it, with the one that closes it
  pub numbers_joined : IsPermutation (closing ∷ tree_links branches)
      (tree_links (joined_tree (is_in cycle) name branches) ++ cycle_links up closing down)
  numbers_joined = links_joined_in (is_in cycle) name a b closing branches shared up down paths cycle_joined

  pub links_closed : (old new : List (Option blossoms.Node)) (steps : List CycleStep) (matches : List ℕ)
      → nodes_of steps ≡ cycle → map (λ c. c.link) steps ≡ cycle_links up closing down
      → Adds old new name (blossoms.blossom old steps)
      → AreLinksOf p links (closing ∷ (tree_links branches ++ (matches ++ ring_links s.nodes old)))
      → AreLinksOf p links
      (tree_links (joined_tree (is_in cycle) name branches) ++ (matches ++ ring_links (joined_nodes name cycle s.nodes) new))
  links_closed old new steps matches nodes_are links_are adds are =
      links_reordered p links (closing ∷ (tree_links branches ++ (matches ++ ring_links s.nodes old)))
      (tree_links (joined_tree (is_in cycle) name branches) ++ (matches ++ ring_links (joined_nodes name cycle s.nodes) new))
      (subst
      (λ l.
      IsPermutation (closing ∷ (tree_links branches ++ (matches ++ ring_links s.nodes old)))
      (tree_links (joined_tree (is_in cycle) name branches) ++ (matches ++ l)))
      (sym rings)
      (closed_numbers closing (tree_links branches) (tree_links (joined_tree (is_in cycle) name branches))
      (cycle_links up closing down) matches (ring_links s.nodes old) numbers_joined))
      are
    where
      rings : ring_links (joined_nodes name cycle s.nodes) new ≡ ring_links s.nodes old ++ cycle_links up closing down
      rings =
          subst
          (λ c. ring_links (joined_nodes name c s.nodes) new ≡ ring_links s.nodes old ++ map (λ x. x.link) steps) nodes_are
          (rings_joined s.nodes old new name steps may.fresh adds)
          ∙ ap (λ l. ring_links s.nodes old ++ l) links_are
