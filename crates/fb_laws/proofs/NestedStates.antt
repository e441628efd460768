-- Each step of a search keeps its whole state.
use Rattle.std.proofs.Common.{ℕ, ◌≡◌, ◌==◌, not, true, List, [], ◌∷◌, ◌++◌, All, sym, ap, ◌∙◌, subst}
use Rattle.std.proofs.lemmas.Bool.{and_parts}
use Rattle.fb_graph.specs.Parity.{is_in}
use Rattle.fb_graph.specs.Problem.{Problem}
use Rattle.fb_graph.specs.Laws.{Link, HasNoOddClosed}
use Rattle.fb_graph.specs.Dual.{Node, IsCrossed, IsDual, is_outer}
use Rattle.fb_graph.proofs.ClosedSets.{edge_leaves}
use Rattle.fb_graph.proofs.Sets.{is_in-filter}
use Rattle.fb_laws.specs.Lengths.{HasPlus}
use Rattle.fb_graph.specs.Steps.{MayStep}
use Rattle.fb_laws.specs.Forming.{names_of, blossom_of}
use Rattle.fb_laws.specs.Trees.{Entry, plus_names, roles_of}
use Rattle.fb_laws.specs.Searches.{IsSearch}
use Rattle.fb_graph.specs.Alike.{AreAlike}
use Rattle.fb_graph.specs.Covers.{HaveParity}
use Rattle.fb_laws.specs.SearchBlossoms.{joined_tree, renamed_name}
use Rattle.fb_graph.specs.Nests.{IsNest}
use Rattle.fb_graph.specs.Moves.{joined_nodes, split_nodes, absorbed_nodes, uncovered_nodes}
use Rattle.fb_laws.specs.UnmatchedNames.{AreOuterNames}
use Rattle.fb_laws.specs.Works.{names_without}
use Rattle.fb_laws.specs.NestedSearches.{NestedWorkBegins, NestedSearchBegins, NestedFree, NestedStepped, NestedAbsorbed, NestedUncovered, NestedAttached, NestedJoined, NestedOpened, NestedEnded, NestedMet, NestedReleased}
use Rattle.fb_graph.proofs.Among.{among_All}
use Rattle.fb_graph.proofs.BeginningNests.{nest_begins}
use Rattle.fb_graph.proofs.Crossings.{free_step}
use Rattle.fb_laws.proofs.HalvesKept.{work_begins, odd_of_part}
use Rattle.fb_graph.proofs.JoinedNests.{nest_joined}
use Rattle.fb_laws.proofs.JoinedSearches.{even_joined, search_joined}
use Rattle.fb_laws.proofs.JoinedThree.{root_plus}
use Rattle.fb_laws.proofs.LayeredSearches.{parity_alike, search_alike}
use Rattle.fb_graph.proofs.TallerNodes.{taller_alike}
use Rattle.fb_graph.proofs.LoweredNests.{nest_uncovered}
use Rattle.fb_laws.proofs.MergedParts.{odd_in}
use Rattle.fb_laws.proofs.MoveBridges.{blossom_named, joining_allowed, no_leaf, uncovered_back}
use Rattle.fb_graph.proofs.NestParts.{top_is_odd}
use Rattle.fb_laws.proofs.OpenedTrees.{even_opened, search_opened}
use Rattle.fb_graph.proofs.RaisedNests.{nest_absorbed}
use Rattle.fb_laws.proofs.SearchEnds.{search_ended, search_met, search_released}
use Rattle.fb_laws.proofs.SearchStates.{even_begins, even_stepped, search_attached, search_begins, search_roles, search_stepped}
use Rattle.fb_laws.proofs.SearchTrees.{cover_place, plus_in_tree}
use Rattle.fb_graph.proofs.SourceWalks.{walks_begin, walks_joined, walks_split, walks_absorbed, walks_uncovered, walks_stepped}
use Rattle.fb_graph.proofs.SplitNests.{nest_split}
use Rattle.fb_laws.proofs.StepLengths.{greatest_step}
use Rattle.fb_graph.proofs.SteppedNests.{nest_stepped}
use Rattle.fb_laws.proofs.UnmatchedNames.{outer_begin, outer_fewer, outer_joined, outer_split, outer_stepped, outer_absorbed, outer_uncovered}

pub nested_work_begins : NestedWorkBegins
nested_work_begins p singles names vertices real zero_ defects = record {
  nest = nest_begins p singles names vertices real zero_;
  work = work_begins p singles names vertices real zero_ defects;
  walks = walks_begin p singles;
  outer = outer_begin singles;
}

pub nested_search_begins : NestedSearchBegins
nested_search_begins p nodes links unmatched root state outer open_root = record {
  nest = state.nest;
  search = search_begins p nodes links unmatched root state.work outer open_root;
  even = even_begins nodes unmatched root state.work.even;
  walks = state.walks;
  outer = state.outer;
}

pub nested_free : NestedFree
nested_free p nodes tree rest unmatched root r even no_odd clear state =
    let search = state.search in
    let are = search_roles p nodes tree rest unmatched root r search in
    let may : MayStep p (roles_of root tree) nodes 1 =
    free_step p (roles_of root tree) nodes r state.nest.dual are
    (λ d name leaf cover plus. search.parity d name leaf cover (plus_in_tree root tree name plus)) even clear in
    greatest_step p (roles_of root tree) nodes 1 are.exclusive has_plus no_odd
    (record { odd = odd_in p nodes state.nest.dual search.matching.defects; fits = state.nest.dual.packing.fits }) may
  where
    has_plus : HasPlus (roles_of root tree) nodes
    has_plus =
        let (d, leaf, cover) = state.search.root_is in
        let (i, less, named, outer, within) = cover_place nodes d root cover in
        (i, less, ap (is_in (plus_names root tree)) named ∙ root_plus root tree)

-- an edge leaves each node's set
crossed : (p : Problem) (nodes : List Node) (tree : List Entry) (rest : List Link) (unmatched : List ℕ) (root r : ℕ)
    → HasNoOddClosed p → IsNest p nodes
    → IsSearch p nodes tree rest unmatched root r
    → All (λ n. (roles_of root tree).is_plus n.name ≡ true → IsCrossed p n.top.vertices) nodes
crossed p nodes tree rest unmatched root r even nest search =
    among_All (λ n. (roles_of root tree).is_plus n.name ≡ true → IsCrossed p n.top.vertices) nodes
    (λ n a plus. edge_leaves p n.top even
    (odd_of_part p nodes n.top search.matching.defects (top_is_odd p nodes nest n a)))

pub nested_stepped : NestedStepped
nested_stepped p nodes tree rest unmatched root r k limits even may state =
    let are = search_roles p nodes tree rest unmatched root r state.search in
    let nest =
    nest_stepped p (roles_of root tree) nodes k limits are
    (crossed p nodes tree rest unmatched root r even state.nest state.search) may state.nest in
    record {
      nest = nest;
      search = search_stepped p nodes tree rest unmatched root r k may.tops nest.dual state.search;
      even = even_stepped p nodes tree rest unmatched root r k may.tops state.search state.even;
      walks = walks_stepped p (roles_of root tree) nodes k are may.tops state.nest state.walks;
      outer = outer_stepped (roles_of root tree) nodes k unmatched state.outer;
    }

pub nested_absorbed : NestedAbsorbed
nested_absorbed p nodes tree rest unmatched root r name k u v even may state =
    let nest = nest_absorbed p nodes name k u v even may state.nest in
    let alike = (taller_alike nodes name v (no_leaf p nodes v state.nest.dual may.uncovered)).0 in
    record {
      nest = nest;
      search = search_alike p nodes (absorbed_nodes name v nodes) tree rest unmatched root r alike nest.dual state.search;
      even =
          parity_alike p nodes (absorbed_nodes name v nodes) alike state.nest.dual nest.dual
          (is_in (names_without root unmatched)) 0 state.even;
      walks = walks_absorbed p nodes name k u v may state.nest state.walks;
      outer = outer_absorbed nodes name v unmatched state.outer;
    }

pub nested_uncovered : NestedUncovered
nested_uncovered p nodes tree rest unmatched root r name may state =
    let nest = nest_uncovered p nodes name may state.nest in
    let (v, given) = uncovered_back p nodes name may state.nest in
    let alike =
    subst (λ ns. AreAlike ns (uncovered_nodes name nodes)) given.back
    (taller_alike (uncovered_nodes name nodes) name v given.no_defect).1 in
    record {
      nest = nest;
      search = search_alike p nodes (uncovered_nodes name nodes) tree rest unmatched root r alike nest.dual state.search;
      even =
          parity_alike p nodes (uncovered_nodes name nodes) alike state.nest.dual nest.dual
          (is_in (names_without root unmatched)) 0 state.even;
      walks = walks_uncovered p nodes name may state.nest state.walks;
      outer = outer_uncovered nodes name unmatched state.outer;
    }

pub nested_attached : NestedAttached
nested_attached p nodes tree e rest unmatched root r even state plus met matched new = record {
  nest = state.nest;
  search = search_attached p nodes tree e rest unmatched root r even state.search plus met matched new;
  even = state.even;
  walks = state.walks;
  outer = state.outer;
}

pub nested_joined : NestedJoined
nested_joined p nodes tree rest unmatched remaining root r name base others joining some fresh same none outside
    state =
    let may = joining_allowed nodes tree root name base others joining some fresh in
    let nest = nest_joined p nodes name (names_of (base ∷ others)) may state.nest in
    let named : nodes ++ blossom_of name (base ∷ others) ∷ [] ≡ joined_nodes name (names_of (base ∷ others)) nodes =
    ap (λ b. nodes ++ b ∷ []) (blossom_named nodes name (base ∷ others) state.nest.dual.names joining.nodes_are) in
    record {
      nest = nest;
      search =
          subst
          (λ ns. IsSearch p ns (joined_tree (is_in (names_of (base ∷ others))) name tree) rest remaining
          (renamed_name (is_in (names_of (base ∷ others))) name root) r) named
          (search_joined p nodes tree rest unmatched remaining root r name base others joining
          (subst (IsDual p) (sym named) nest.dual) same
          outside state.search);
      even =
          subst
          (λ ns. HaveParity (is_in (names_without (renamed_name (is_in (names_of (base ∷ others))) name root) remaining)) ns 0)
          named
          (even_joined p nodes tree rest unmatched remaining root r name base others joining
          (subst (IsDual p) (sym named) nest.dual) same outside state.search state.even);
      walks = walks_joined p nodes name (names_of (base ∷ others)) may state.nest state.walks;
      outer =
          outer_joined nodes name (names_of (base ∷ others)) unmatched remaining
          (subst (λ ns. is_outer ns name ≡ true) named joining.fresh) none outside state.outer;
    }

pub nested_opened : NestedOpened
nested_opened p nodes newer older tree e kept paired more rest later unmatched root r may opened state =
    let nest = nest_split p nodes e.minus may state.nest in
    record {
      nest = nest;
      search =
          search_opened p nodes (split_nodes e.minus nodes) newer older tree e kept paired more rest later unmatched root r
          opened nest.dual state.search;
      even =
          even_opened p nodes (split_nodes e.minus nodes) newer older tree e kept paired more rest later unmatched root
          opened state.nest.dual nest.dual state.even;
      walks = walks_split p nodes e.minus may state.nest state.walks;
      outer = outer_split nodes e.minus unmatched state.outer;
    }

-- all but one of some outer names
pub outer_without : (nodes : List Node) (root : ℕ) (names : List ℕ) → AreOuterNames nodes names
    → AreOuterNames nodes (names_without root names)
outer_without nodes root names =
    outer_fewer nodes names (names_without root names)
    (λ n within.
    (and_parts (is_in names n) (not (n == root)) (sym (is_in-filter (λ m. not (m == root)) names n) ∙ within)).0)

pub nested_ended : NestedEnded
nested_ended p nodes tree rest unmatched root r name out v state plus new leaves_node boundary = record {
  nest = state.nest;
  work = search_ended p nodes tree rest unmatched root r name out v state.search state.even plus new leaves_node boundary;
  walks = state.walks;
  outer = outer_without nodes root unmatched state.outer;
}

pub nested_met : NestedMet
nested_met p nodes tree rest unmatched root r name other out state plus open_other differs new connects =
    record {
      nest = state.nest;
      work =
          search_met p nodes tree rest unmatched root r name other out state.search state.even plus open_other differs new
          connects;
      walks = state.walks;
      outer = outer_without nodes root (names_without other unmatched) (outer_without nodes other unmatched state.outer);
    }

pub nested_released : NestedReleased
nested_released p nodes tree old rest unmatched root r name other out b state plus new connects away boundary =
    record {
      nest = state.nest;
      work =
          search_released p nodes tree old rest unmatched root r name other out b state.search state.even plus new connects away
          boundary;
      walks = state.walks;
      outer = outer_without nodes root unmatched state.outer;
    }
