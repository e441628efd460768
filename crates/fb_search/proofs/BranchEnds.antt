-- The two links of a minus blossom's branch lead to it from other nodes, so that each ends at one of its children.
use Rattle.std.proofs.Common.{ℕ, ◌≡◌, ◌≢◌, ◌⊎◌, inl, inr, true, List, [], ◌∷◌, map, refl, sym, ap, ◌∙◌, subst}
use Rattle.std.proofs.lemmas.Bool.{both_ways}
use Rattle.fb_graph.specs.Parity.{is_in}
use Rattle.fb_graph.specs.Laws.{Link}
use Rattle.fb_graph.specs.Moves.{MaySplit}
use Rattle.fb_graph.proofs.Among.{IsAmong, among_right, map_among, among_is_in}
use Rattle.fb_laws.specs.LinkNumbers.{tree_links}
use Rattle.fb_laws.specs.Trees.{Connects, Entry, EntryOf, grown_links, minus_names, paired_links, plus_names}
use Rattle.fb_laws.specs.Works.{AreMatchedLinks}
use Rattle.fb_laws.proofs.OpenedCycles.{parent_plus}
use Rattle.fb_laws.proofs.SearchStates.{links_left}
use Rattle.fb_laws.proofs.SearchTrees.{connects_sym, exclusive_names}
use Rattle.fb_laws.proofs.TreePaths.{among_plus, tree_connects}
use Rattle.fb_links.specs.Table.{is_live}
use Rattle.fb_half.specs.Parts.{kept_links}
use Rattle.fb_half.specs.Translations.{entry_by}
use Rattle.fb_trees.specs.Rooted.{IsBranchAt}
use Rattle.fb_search.specs.InternalOpenings.{EndsAtChild, MayEnter}
use Rattle.fb_search.specs.InternalSearching.{SearchValue, problem_of, searched_links}
use Rattle.fb_search.proofs.Openings.{IsOpening, Opens}
use Rattle.fb_search.proofs.RoundedSearches.{link_among}
use Rattle.fb_graph.proofs.Floods.{is_in-left, is_in-right}

module _ {more : List ℕ} (w : SearchValue) (name : ℕ) (e : EntryOf ℕ) (are : IsOpening more w) (may : MaySplit w.part.nodes name)
    (branch : IsBranchAt w.tree name e) where
  abbrev entry : Entry
  entry = entry_by w.part.links e

  abbrev tree : List Entry
  tree = map (entry_by w.part.links) w.tree.branches

  among : IsAmong e w.tree.branches
  among = subst (IsAmong e) (sym branch.there) (among_right branch.newer (e ∷ branch.older) e (inl refl))

  entry_among : IsAmong entry tree
  entry_among = map_among (entry_by w.part.links) w.tree.branches e among

  connected : Connects w.part.nodes entry.tree e.parent e.minus × Connects w.part.nodes entry.matched e.minus e.plus
  connected = tree_connects w.part.nodes w.tree.root tree are.search.joined entry entry_among

  -- a plus node is another node
  plus_apart : (n : ℕ) → is_in (plus_names w.tree.root tree) n ≡ true → n ≢ name
  plus_apart n plus same =
      both_ways (is_in (minus_names tree) n)
      (exclusive_names w.tree.root tree are.search.names n plus)
      (ap (is_in (minus_names tree)) (same ∙ sym branch.minus)
      ∙ among_is_in (minus_names tree) e.minus (map_among (λ x. x.minus) tree entry entry_among))

  tight : (l : Link) → IsAmong l (grown_links tree) ⊎ IsAmong l (paired_links tree)
      → AreMatchedLinks (problem_of w) w.part.nodes (l ∷ [])
  tight l (inl a) = link_among (problem_of w) w.part.nodes (grown_links tree) l are.search.grown a
  tight l (inr a) =
      link_among (problem_of w) w.part.nodes (paired_links tree) l
      (links_left (problem_of w) w.part.nodes (paired_links tree) are.rest are.search.matching.links_are) a

  live : (id : ℕ) → is_in (tree_links w.tree.branches) id ≡ true → is_live w.part.links id ≡ true
  live id within =
      are.links.live id
      ∙ is_in-right more (searched_links w) id (is_in-left (tree_links w.tree.branches) (kept_links w.part) id within)

  pub enters_above : MayEnter w.part name e.parent e.tree
  enters_above = record {
    nest = are.nest;
    agreed = are.agreed;
    may_split = may;
    live = live e.tree (is_in-left (grown_links w.tree.branches) (paired_links w.tree.branches) e.tree
        (among_is_in (grown_links w.tree.branches) e.tree (map_among (λ x. x.tree) w.tree.branches e among)));
    tight = tight entry.tree (inl (map_among (λ x. x.tree) tree entry entry_among));
    apart = plus_apart e.parent (parent_plus w.part.nodes w.tree.root tree are.search.joined entry entry_among);
    connects = subst (Connects w.part.nodes entry.tree e.parent) branch.minus connected.0;
  }

  pub enters_below : MayEnter w.part name e.plus e.matched
  enters_below = record {
    nest = are.nest;
    agreed = are.agreed;
    may_split = may;
    live = live e.matched (is_in-right (grown_links w.tree.branches) (paired_links w.tree.branches) e.matched
        (among_is_in (paired_links w.tree.branches) e.matched (map_among (λ x. x.matched) w.tree.branches e among)));
    tight = tight entry.matched (inr (map_among (λ x. x.matched) tree entry entry_among));
    apart = plus_apart e.plus (among_plus w.tree.root tree entry entry_among);
    connects = subst (Connects w.part.nodes entry.matched e.plus) branch.minus
        (connects_sym w.part.nodes entry.matched e.minus e.plus connected.1);
  }

-- So it may be opened, given the children at which the links end.
pub opens_by : {more : List ℕ} (w : SearchValue) (name : ℕ) (e : EntryOf ℕ) (above below : ℕ) → IsOpening more w → MaySplit w.part.nodes name
    → IsBranchAt w.tree name e
    → ((other : ℕ) → MayEnter w.part name other e.tree → EndsAtChild w.part name other e.tree above)
    → ((other : ℕ) → MayEnter w.part name other e.matched → EndsAtChild w.part name other e.matched below)
    → Opens w name e above below
opens_by w name e above below are may branch first second = record {
  may_split = may;
  branch = branch;
  at_above = first e.parent (enters_above w name e are may branch);
  at_below = second e.plus (enters_below w name e are may branch);
}
