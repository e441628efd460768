-- The branch of a minus node of one of several trees, which has shrunk to its defect: its joined links close a cycle.
use Rattle.std.proofs.Common.{ℕ, ◌≡◌, true, List, [], ◌∷◌, ◌++◌, map, Option, Some, unwrap_or, sym, ap, ◌∙◌, subst}
use Rattle.fb_graph.proofs.Floods.{is_in-left}
use Rattle.fb_laws.specs.Forests.{forest_paired}
use Rattle.fb_laws.specs.ForestStates.{IsForestState, tree_of}
use Rattle.fb_laws.specs.Trees.{Connects, EntryOf}
use Rattle.fb_laws.specs.Works.{AreMatchedLinks}
use Rattle.fb_laws.proofs.ForestStates.{forest_tree}
use Rattle.fb_laws.proofs.SearchTrees.{connects_sym}
use Rattle.fb_trees.proofs.Names.{minus_in_names}
use Rattle.fb_links.specs.declared.walk.Step.{Step}
use Rattle.fb_links.specs.Table.{Adds, walk_at}
use Rattle.fb_links.specs.Walks.{joined_walk}
use Rattle.fb_half.specs.Matchings.{match_links}
use Rattle.fb_half.specs.Parts.{kept_links, problem_in}
use Rattle.fb_half.specs.Translations.{link_by, link_of}
use Rattle.fb_regions.specs.Paces.{shrinks}
use Rattle.fb_obstacles.specs.Obstacles.{IsZeroDefect}
use Rattle.fb_trees.specs.Branches.{Grown}
use Rattle.fb_trees.specs.Forests.{IsMinusNode, IsTreeOf, role_among, tree_at, trees_in}
use Rattle.fb_trees.specs.Rooted.{IsBranchAt}
use Rattle.fb_search.specs.InternalGrowing.{GrowingValue, IsGrowing, grown_ids, waiting_in}
use Rattle.fb_search.specs.InternalGrowingRings.{ClosesIn}
use Rattle.fb_search.proofs.ForestPlaces.{after_by, before_by, own_state, state_among}
use Rattle.fb_search.proofs.RelinkedForests.{growing_linked, relinked_growing}
use Rattle.fb_search.proofs.RingRoles.{ids_here, minus_place}
use Rattle.fb_search.proofs.RolesAmong.{minus_among}
use Rattle.fb_search.proofs.RoundedSearches.{IsRounding, rounding_in}

-- a minus node is one of a tree
pub minus_node : (forest : List (Option Grown)) (name : ℕ) → shrinks (role_among forest name) ≡ true → IsMinusNode forest name
minus_node forest name minus = minus_place forest name (minus_among forest name minus)

pub in_its_tree : (forest : List (Option Grown)) (name : ℕ) (node : IsMinusNode forest name) → IsTreeOf forest name node.tree node.grown
in_its_tree forest name node =
    record { at = node.at; has = minus_in_names node.grown.root node.grown.branches name node.minus }

module _ (w : GrowingValue) (t : ℕ) (g : Grown) (at : tree_at w.forest t ≡ Some g) (are : IsGrowing w) (name : ℕ)
    (e : EntryOf ℕ) (zero : IsZeroDefect w.part.nodes name) (branch : IsBranchAt g name e) where
  pub ring_rounding : IsRounding w.part g e
  ring_rounding =
      rounding_in w.part g
      (forest_paired (before_by w t ++ after_by w t) ++ map (link_by w.part.links) (match_links w.part.matching.matches))
      are.state.0 are.state.1.nest
      (forest_tree (problem_in w.part) w.part.nodes (before_by w t) (after_by w t) (tree_of (own_state w g are.state.0))
      (map (link_by w.part.links) (match_links w.part.matching.matches)) w.part.matching.unmatched (waiting_in w) are.state.0
      (subst (IsForestState (problem_in w.part)) (state_among w t g are.state.0 at) are.state.1).forest)
      (λ id h.
      are.links.live id ∙ is_in-left (grown_ids (trees_in w.forest)) (kept_links w.part) id (ids_here w.forest t g at id h))
      are.links.steps name e zero branch

  module _ (id : ℕ) (new : List (Option (List Step)))
      (adds : Adds w.part.links new id (joined_walk (walk_at w.part.links e.tree) (walk_at w.part.links e.matched))) where
    made : link_of (joined_walk (walk_at w.part.links e.tree) (walk_at w.part.links e.matched)) ≡ link_by new id
    made = ap (λ o. link_of (unwrap_or o [])) (sym adds.added)

    -- the joined link closes a cycle
    pub ring_rounded : ClosesIn (relinked_growing new w) e.plus e.parent id
    ring_rounded = record {
      growing =
          growing_linked w id (joined_walk (walk_at w.part.links e.tree) (walk_at w.part.links e.matched)) new are adds
          ring_rounding.links.steps;
      tree = t;
      grown = g;
      at = at;
      first = ring_rounding.plus;
      second = ring_rounding.parent;
      apart = ring_rounding.apart;
      connects = connects_sym w.part.nodes (link_by new id) e.parent e.plus
          (subst (λ l. Connects w.part.nodes l e.parent e.plus) made ring_rounding.links.connects);
      tight = subst (λ l. AreMatchedLinks (problem_in w.part) w.part.nodes (l ∷ [])) made ring_rounding.links.matched;
    }
