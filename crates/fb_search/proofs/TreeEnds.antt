-- A tree meets the boundary or an unmatched node: what the calls that end the search ask for, and that a part is left.
use Rattle.std.proofs.Common.{ℕ, ◌≡◌, ◌≢◌, ◌⊎◌, inl, inr, true, List, [], ◌∷◌, ◌++◌, map, refl, sym, ap, ◌∙◌, subst, append-nil}
use Rattle.std.specs.List.Sorted.{IsPermutation}
use Rattle.std.proofs.lemmas.Bool.{false≢true}
use Rattle.std.proofs.lemmas.Grind.{flat_map-append}
use Rattle.std.proofs.lemmas.List.Sorted.{IsPermutation-cons, IsPermutation-middle, IsPermutation-trans}
use Rattle.fb_graph.specs.Parity.{is_in}
use Rattle.fb_graph.specs.Certificate.{AreDistinct}
use Rattle.fb_graph.specs.Covers.{passes}
use Rattle.fb_graph.specs.Dual.{Node}
use Rattle.fb_graph.proofs.Sets.{is_in-cases}
use Rattle.fb_laws.specs.LinkNumbers.{links_dropped}
use Rattle.fb_laws.specs.Trees.{EntryOf, IsTree, plus_names}
use Rattle.fb_laws.proofs.OpenedBlossoms.{distinct_permuted, same_permuted}
use Rattle.fb_links.specs.declared.walk.Step.{Step}
use Rattle.fb_links.specs.Table.{Adds}
use Rattle.fb_trees.specs.Rooted.{AreHung}
use Rattle.fb_trees.proofs.Mapped.{plus_moved}
use Rattle.fb_trees.proofs.Names.{root_plus}
use Rattle.fb_half.specs.declared.matches.Match.{Match}
use Rattle.fb_half.specs.Parts.{IsPart}
use Rattle.fb_half.specs.Matchings.{matched_names, names_of}
use Rattle.fb_half.specs.Translations.{entry_by, link_by}
use Rattle.fb_search.specs.InternalEndings.{Forgets, ended_matches}
use Rattle.fb_search.specs.InternalTightEdges.{LeadsOut, Meets}
use Rattle.fb_trees.specs.InternalMetWalks.{IsMetWalk, IsOut, IsOutWalk, IsTightWalk}
use Rattle.fb_search.specs.Progress.{IsSearched}
use Rattle.fb_search.specs.InternalSearching.{IsSearching, SearchValue, problem_of, roles_in}
use Rattle.fb_search.proofs.EndedCases.{taken_at_boundary, taken_with}
use Rattle.fb_search.proofs.EndedLinks.{names_listed}
use Rattle.fb_search.proofs.EndedMatches.{AreTaken}
use Rattle.fb_search.proofs.EndedParts.{part_after}
use Rattle.fb_search.proofs.EndedWays.{AreRelinked, boundary_match, ended_at_boundary, ended_with, met_match}
use Rattle.fb_search.proofs.RolesInTree.{plus_in_tree}
use Rattle.fb_search.proofs.ScopeWalks.{IsBetweenThem, between_them}
use Rattle.fb_search.proofs.AttachedBranches.{plus_role}
use Rattle.fb_links.proofs.MovedLinks.{Table}

pub hung_of : (nodes : List Node) (root : ℕ) (table : Table) (tree : List (EntryOf ℕ))
    → IsTree nodes root (map (entry_by table) tree) → AreHung root tree
hung_of nodes root table [] is = tt
hung_of nodes root table (e ∷ es) (parent, first, second, rest) =
    (sym (ap (λ l. is_in l e.parent) (plus_moved (link_by table) root es)) ∙ parent, hung_of nodes root table es rest)

pub tree_hung : (w : SearchValue) → IsSearching w → AreHung w.tree.root w.tree.branches
tree_hung w are = hung_of w.part.nodes w.tree.root w.part.links w.tree.branches are.state.1.search.search.joined

-- the plus node over the inner end
pub leaving_plus : (w : SearchValue) (k plus : ℕ) → LeadsOut w k plus
    → is_in (plus_names w.tree.root w.tree.branches) plus ≡ true
leaving_plus w k plus leads =
    plus_in_tree w.tree plus (sym (ap (passes (roles_in w).is_plus) leads.covered) ∙ leads.obstacle.edge.plus)

pub meeting_plus : (w : SearchValue) (k plus other : ℕ) → Meets w k plus other
    → is_in (plus_names w.tree.root w.tree.branches) plus ≡ true
meeting_plus w k plus other meets =
    plus_in_tree w.tree plus (sym (ap (passes (roles_in w).is_plus) meets.covered) ∙ meets.obstacle.edge.plus)

pub leads_out : (w : SearchValue) (k plus : ℕ) (leads : LeadsOut w k plus)
    → IsOut (problem_of w) w.part.nodes k plus leads.outer
leads_out w k plus leads = record {
  inner = leads.inner;
  within = leads.obstacle.edge.within;
  leads = leads.obstacle.edge.leads;
  tight = leads.obstacle.edge.tight;
  covered = leads.covered;
  boundary = leads.obstacle.real;
}

-- a node that the tree meets is none of its plus nodes
other_than : (w : SearchValue) (k plus other name : ℕ) → Meets w k plus other
    → is_in (plus_names w.tree.root w.tree.branches) name ≡ true → name ≢ other
other_than w k plus other name meets is same =
    false≢true (sym meets.obstacle.not_plus ∙ (ap (roles_in w).is_plus (sym same) ∙ plus_role w.tree name is))

pub root_apart : (w : SearchValue) (k plus other : ℕ) → Meets w k plus other → w.tree.root ≢ other
root_apart w k plus other meets = other_than w k plus other w.tree.root meets (root_plus w.tree.root w.tree.branches)

pub meets_between : (w : SearchValue) (k plus other : ℕ) → Meets w k plus other
    → IsBetweenThem (problem_of w) w.part.nodes k plus other
meets_between w k plus other meets =
    between_them (problem_of w) w.part.nodes k meets.inner meets.outer plus other
    (record {
      within = meets.obstacle.edge.within;
      leads = meets.obstacle.edge.leads;
      tight = meets.obstacle.edge.tight;
    })
    meets.covered meets.obstacle.covered
    (other_than w k plus other plus meets (meeting_plus w k plus other meets))

-- taking the other node off the list leaves the root there
pub root_left : (w : SearchValue) (k plus other : ℕ) (rest : List ℕ) → IsSearching w → Meets w k plus other
    → IsPermutation w.part.matching.unmatched (other ∷ rest) → is_in rest w.tree.root ≡ true
root_left w k plus other rest are meets moved =
    by (is_in-cases other rest w.tree.root
    (same_permuted w.part.matching.unmatched (other ∷ rest) moved w.tree.root ∙ are.state.1.search.search.open_root))
  where
    by : (other ≡ w.tree.root) ⊎ (is_in rest w.tree.root ≡ true) → is_in rest w.tree.root ≡ true
    by (inl same) = absurd (root_apart w k plus other meets (sym same))
    by (inr there) = there

-- no name is listed twice where the tree's nodes are matched
pub ended_apart : (w : SearchValue) (name : ℕ) (unmatched : List ℕ) (out : Match) → IsSearching w
    → is_in (plus_names w.tree.root w.tree.branches) name ≡ true
    → AreTaken w.part.matching w.tree.root name unmatched w.part.matching.matches out
    → AreDistinct ((unmatched ++ matched_names w.part.matching.matches)
    ++ matched_names (ended_matches w.tree.branches name ++ out ∷ []))
ended_apart w name unmatched out are plus takes =
    subst (λ l. AreDistinct ((unmatched ++ matched_names w.part.matching.matches) ++ l)) (sym same)
    (distinct_permuted _ _
    (names_listed w.part.matching w.tree.root name w.tree.branches takes.taken unmatched w.part.matching.matches
    (tree_hung w are) plus takes.listed)
    are.matching.distinct)
  where
    same : matched_names (ended_matches w.tree.branches name ++ out ∷ [])
        ≡ matched_names (ended_matches w.tree.branches name) ++ name ∷ takes.taken
    same =
        flat_map-append names_of (ended_matches w.tree.branches name) (out ∷ [])
        ∙ ap (λ l. matched_names (ended_matches w.tree.branches name) ++ l) (append-nil (names_of out) ∙ takes.names)

-- the links that are forgotten
module _ (w : SearchValue) (name link : ℕ) (walk : List Step) (mid : Table) (are : IsSearching w) where
  pub relinked_by : (new : Table) → is_in (plus_names w.tree.root w.tree.branches) name ≡ true
      → IsTightWalk (problem_of w) w.part.nodes walk → Adds w.part.links mid link walk
      → Forgets (links_dropped w.tree.branches name) mid new → AreRelinked w name link walk new
  relinked_by new plus is adds forgets = record {
    hung = tree_hung w are;
    plus = plus;
    mid = mid;
    adds = adds;
    forgets = forgets;
    steps = is.steps;
    tight = is.tight;
  }

-- the search has ended at the boundary
module _ (w : SearchValue) (k plus link : ℕ) (unmatched : List ℕ) (are : IsSearching w) (leads : LeadsOut w k plus)
    (moved : IsPermutation w.part.matching.unmatched (w.tree.root ∷ unmatched)) where
  pub boundary_apart : AreDistinct ((unmatched ++ matched_names w.part.matching.matches)
      ++ matched_names (ended_matches w.tree.branches plus ++ boundary_match link plus ∷ []))
  boundary_apart =
      ended_apart w plus unmatched (boundary_match link plus) are (leaving_plus w k plus leads)
      (taken_at_boundary w.part.matching w.tree.root plus unmatched (boundary_match link plus) refl moved)

  pub boundary_ended : (walk : List Step) (mid new : Table) → IsOutWalk (problem_of w) w.part.nodes plus leads.outer walk
      → Adds w.part.links mid link walk → Forgets (links_dropped w.tree.branches plus) mid new
      → IsPart (part_after w plus new unmatched w.part.matching.matches (boundary_match link plus))
      × IsSearched w.tree.root w.part (part_after w plus new unmatched w.part.matching.matches (boundary_match link plus))
  boundary_ended walk mid new is adds forgets =
      ended_at_boundary w plus link leads.outer walk new unmatched are
      (relinked_by w plus link walk mid are new (leaving_plus w k plus leads) is.walk_is adds forgets) is.leaves
      leads.obstacle.real moved

-- the search has ended at the other node
module _ (w : SearchValue) (k plus other link : ℕ) (between unmatched : List ℕ) (are : IsSearching w)
    (meets : Meets w k plus other) (first : IsPermutation w.part.matching.unmatched (other ∷ between))
    (second : IsPermutation between (w.tree.root ∷ unmatched)) where
  pub met_apart : AreDistinct ((unmatched ++ matched_names w.part.matching.matches)
      ++ matched_names (ended_matches w.tree.branches plus ++ met_match link plus other ∷ []))
  met_apart =
      ended_apart w plus unmatched (met_match link plus other) are (meeting_plus w k plus other meets)
      (taken_with w.part.matching w.tree.root plus other unmatched (met_match link plus other) refl
      (IsPermutation-trans _ _ _ first
      (IsPermutation-trans _ _ _ (IsPermutation-cons other _ _ second)
      (IsPermutation-middle (other ∷ []) w.tree.root unmatched))))

  pub met_ended : (walk : List Step) (mid new : Table) → IsMetWalk (problem_of w) w.part.nodes plus other walk
      → is_in w.part.matching.unmatched other ≡ true → Adds w.part.links mid link walk
      → Forgets (links_dropped w.tree.branches plus) mid new
      → IsPart (part_after w plus new unmatched w.part.matching.matches (met_match link plus other))
      × IsSearched w.tree.root w.part (part_after w plus new unmatched w.part.matching.matches (met_match link plus other))
  met_ended walk mid new is unpaired adds forgets =
      ended_with w plus other link walk new between unmatched are
      (relinked_by w plus link walk mid are new (meeting_plus w k plus other meets) is.walk_is adds forgets) is.connects
      unpaired (root_apart w k plus other meets) first second
