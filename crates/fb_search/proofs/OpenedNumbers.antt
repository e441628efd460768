-- The tree and the numbers of the live links after a minus blossom is opened.
use Rattle.std.proofs.Common.{ℕ, ◌≡◌, List, ◌∷◌, ◌++◌, Option, append_assoc, sym, ap, ◌∙◌, subst}
use Rattle.std.specs.List.Sorted.{IsPermutation}
use Rattle.std.proofs.lemmas.List.{map-append}
use Rattle.std.proofs.lemmas.List.Sorted.{IsPermutation-append_right}
use Rattle.fb_graph.proofs.Floods.{is_in-right}
use Rattle.fb_graph.specs.Certificate.{AreDistinct}
use Rattle.fb_graph.specs.Moves.{split_nodes}
use Rattle.fb_links.specs.declared.cycle.CycleStep.{CycleStep}
use Rattle.fb_blossoms.specs.Nodes as blossoms
use Rattle.fb_laws.specs.LinkNumbers.{tree_links}
use Rattle.fb_laws.specs.OpenedCycles.{grown_on, matched_on, opened_tree}
use Rattle.fb_laws.specs.Trees.{EntryOf, tree_names}
use Rattle.fb_laws.proofs.LinkNumbers.{links_opened}
use Rattle.fb_half.specs.Matchings.{match_links}
use Rattle.fb_half.specs.Parts.{AreLinksOf}
use Rattle.fb_half.specs.Translations.{link_by, ring_at, ring_links}
use Rattle.fb_trees.specs.Branches.{Grown}
use Rattle.fb_trees.specs.Replacements.{first_node, way_of}
use Rattle.fb_trees.proofs.Mapped.{names_moved}
use Rattle.fb_obstacles.specs.Watched.{Watched}
use Rattle.fb_search.specs.InternalOpenings.{couples_on, links_left}
use Rattle.fb_search.specs.InternalSearching.{SearchValue, problem_of, searched_links}
use Rattle.fb_search.proofs.Linked.{rings_split}
use Rattle.fb_search.proofs.OpenedConditions.{nest, rest, ring_parted, way, way_first}
use Rattle.fb_search.proofs.OpenedLinks.{AreSameLinks, link_stays, links_stay}
use Rattle.fb_search.proofs.OpenedNames.{IsSameBranch, numbers_opened, same_branch}
use Rattle.fb_search.proofs.Openings.{HasOpened, IsOpening, Opens, opened_search, round_in}
use Rattle.fb_links.proofs.MovedLinks.{Table}

module _ {more : List ℕ} (w : SearchValue) (name : ℕ) (e : EntryOf ℕ) (above below : ℕ) (are : IsOpening more w)
    (opens : Opens w name e above below) (links : Table) (store : List (Option blossoms.Node)) (tree : Grown) (watched : Watched)
    (has : HasOpened w name above below links store tree watched) where
  abbrev Way : List CycleStep
  Way = way w name e above below are opens

  abbrev Rest : List CycleStep
  Rest = rest w name e above below are opens

  abbrev Left : List ℕ
  Left = links_left (round_in w.part name above below) below

  abbrev pub after : SearchValue
  after = opened_search name Rest links store tree watched w

  same : IsSameBranch has.grown.newer has.grown.branch has.grown.older opens.branch.newer e opens.branch.older
  same =
      same_branch w.tree.root has.grown.newer has.grown.branch has.grown.older opens.branch.newer e opens.branch.older
      (sym has.grown.was ∙ opens.branch.there) (has.grown.minus ∙ sym opens.branch.minus)
      (subst (λ t. AreDistinct (tree_names w.tree.root t)) has.grown.was
      (subst AreDistinct (names_moved (link_by w.part.links) w.tree.root w.tree.branches) are.search.names))

  -- the branches along the way take the place of the blossom's
  pub branches_are : tree.branches ≡ opened_tree opens.branch.newer e opens.branch.older above (way_of Way)
  branches_are =
      has.grown.branches
      ∙ (ap (λ l. opened_tree l has.grown.branch has.grown.older (first_node Way) (way_of Way)) same.newer_are
      ∙ (ap (λ x. opened_tree opens.branch.newer x has.grown.older (first_node Way) (way_of Way)) same.branch_is
      ∙ (ap (λ l. opened_tree opens.branch.newer e l (first_node Way) (way_of Way)) same.older_are
      ∙ ap (λ f. opened_tree opens.branch.newer e opens.branch.older f (way_of Way))
      (way_first w name e above below are opens))))

  tree_numbers : IsPermutation (tree_links w.tree.branches ++ (grown_on (way_of Way) ++ matched_on (way_of Way)))
      (tree_links tree.branches)
  tree_numbers =
      subst (λ t. IsPermutation (tree_links t ++ (grown_on (way_of Way) ++ matched_on (way_of Way))) (tree_links tree.branches))
      (sym opens.branch.there)
      (subst
      (λ t.
      IsPermutation (tree_links (opens.branch.newer ++ e ∷ opens.branch.older) ++ (grown_on (way_of Way) ++ matched_on (way_of Way)))
      (tree_links t))
      (sym branches_are) (links_opened opens.branch.newer opens.branch.older e above (way_of Way)))

  -- the numbers that were live are those that are kept and those that are left
  pub numbers : IsPermutation (searched_links w) (searched_links after ++ Left)
  numbers =
      subst
      (λ l.
      IsPermutation (searched_links w) ((tree_links tree.branches ++ (l ++ ring_links (split_nodes name w.part.nodes) store)) ++ Left))
      (sym (map-append (λ m. m.link) w.part.matching.matches (couples_on Rest)))
      (numbers_opened (tree_links w.tree.branches) (tree_links tree.branches) (grown_on (way_of Way) ++ matched_on (way_of Way))
      (match_links w.part.matching.matches) (match_links (couples_on Rest)) Left (ring_links w.part.nodes w.part.store)
      (ring_at w.part.store name) (ring_links (split_nodes name w.part.nodes) store)
      (rings_split w.part.nodes w.part.store store name (nest w name e above below are opens).dual.names opens.may_split.live
      has.taken_off)
      (ring_parted w name e above below are opens) tree_numbers)

  numbers_all : IsPermutation (more ++ searched_links w) ((more ++ searched_links after) ++ Left)
  numbers_all =
      subst (IsPermutation (more ++ searched_links w)) (sym (append_assoc more (searched_links after) Left))
      (IsPermutation-append_right more (searched_links w) (searched_links after ++ Left) numbers)

  pub links_after : AreLinksOf (problem_of w) links (more ++ searched_links after)
  links_after =
      links_stay (problem_of w) w.part.links links (more ++ searched_links w) (more ++ searched_links after) Left are.links numbers_all
      has.forgets

  pub links_kept_all : AreSameLinks w.part.links links (more ++ searched_links after)
  links_kept_all =
      link_stays (problem_of w) w.part.links links (more ++ searched_links w) (more ++ searched_links after) Left are.links numbers_all
      has.forgets

  pub links_kept : AreSameLinks w.part.links links (searched_links after)
  links_kept k there = links_kept_all k (is_in-right more (searched_links after) k there)
