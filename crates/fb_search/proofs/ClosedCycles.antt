-- A link that closes a cycle of a tree in a half-solved part: what forming the blossom asks for. Other trees may grow
-- beside it.
use Rattle.std.proofs.Common.{ℕ, ◌≡◌, ◌≢◌, ◌≤◌, ◌==◌, Bool, true, false, List, [], ◌∷◌, ◌++◌, map, length, All, Option, None, is_some, refl, sym, ap, ◌∙◌, subst, arith, if◌then◌else◌}
use Rattle.std.proofs.Math.ListN.{get_or-eq_default}
use Rattle.std.proofs.lemmas.Bool.{both_ways, eq-eqb, false_from_ne_true}
use Rattle.std.proofs.lemmas.List.Folds.{list_any_at}
use Rattle.fb_graph.specs.Parity.{is_in}
use Rattle.fb_graph.specs.Dual.{is_live, no_node, top_at}
use Rattle.fb_graph.specs.Laws.{Link}
use Rattle.fb_graph.specs.Nests.{IsNest}
use Rattle.fb_graph.specs.Moves.{MayJoin}
use Rattle.fb_graph.proofs.Among.{IsAmong, among_right}
use Rattle.fb_graph.proofs.Sets.{All-from_is_in}
use Rattle.fb_links.specs.declared.cycle.CycleStep.{CycleStep}
use Rattle.fb_links.specs.Table as table
use Rattle.fb_blossoms.specs.Links as blossoms_links
use Rattle.fb_blossoms.specs.Nodes.{AreOuter, IsNested, IsOddCycle}
use Rattle.fb_blossoms.specs.Nodes as blossoms
use Rattle.fb_laws.specs.LinkNumbers.{tree_links}
use Rattle.fb_laws.specs.PartStates.{SearchState}
use Rattle.fb_laws.specs.SearchBlossoms.{joined_tree, renamed_name}
use Rattle.fb_laws.specs.Searches.{IsSearch}
use Rattle.fb_laws.specs.StateBlossoms.{MayClose}
use Rattle.fb_laws.specs.TreeCycles.{AreLinked, ArePaths, cycle_links, cycle_nodes, last_plus}
use Rattle.fb_laws.specs.Trees.{Connects, Entry, EntryOf, grown_links, paired_links, tree_names}
use Rattle.fb_laws.specs.Works.{AreMatchedLinks, IsSetOf}
use Rattle.fb_laws.proofs.OpenedBlossoms.{same_permuted}
use Rattle.fb_laws.proofs.RingLinks.{cycle_link_in, links_among}
use Rattle.fb_laws.proofs.SearchStates.{links_joined, links_left, named_set}
use Rattle.fb_laws.proofs.TreeCycles.{cycle_linked}
use Rattle.fb_laws.proofs.TreePaths.{path_among}
use Rattle.fb_trees.specs.Branches.{Grown}
use Rattle.fb_trees.specs.Replacements.{IsReplaced, MayReplace}
use Rattle.fb_trees.specs.Replacements as replacements
use Rattle.fb_trees.specs.TreeSteps.{IsCycle}
use Rattle.fb_trees.specs.Rooted.{IsPlus}
use Rattle.fb_trees.proofs.Mapped.{cycle_links_moved, cycle_moved, last_moved, names_moved, plus_moved}
use Rattle.fb_half.specs.Matchings.{listed_names}
use Rattle.fb_half.specs.Parts.{AreAgreed, PartValue, problem_in}
use Rattle.fb_half.specs.Translations.{cycles_by, entry_by, link_by}
use Rattle.fb_search.proofs.Agreed.{cycle_odd, cycle_outer, nodes_of}
use Rattle.fb_search.proofs.Cycles.{cycle_from, paths_of}
use Rattle.fb_search.proofs.JoinConditions.{nodes_may_join, tree_may_join}
use Rattle.fb_search.proofs.JoinLinks.{numbers_joined}
use Rattle.fb_search.proofs.LinkedSteps.{steps_linked}
use Rattle.fb_graph.proofs.Floods.{is_in-right}

-- several nodes may give way to one
one_for_many : (t : Grown) (gone : List ℕ) (s : CycleStep) → 3 ≤ length gone → replacements.MayJoin t gone s.node
    → MayReplace t gone (s ∷ [])
one_for_many t [] s three may = absurd (omega (arith, three))
one_for_many t (m ∷ []) s three may = absurd (omega (arith, three))
one_for_many t (m ∷ n ∷ ns) s three may = may

pub many_replaced : (old new : Grown) (gone : List ℕ) (s : CycleStep) → 3 ≤ length gone
    → IsReplaced old gone (s ∷ []) new
    → new ≡ replacements.joined_grown old gone s.node
many_replaced old new [] s three is = absurd (omega (arith, three))
many_replaced old new (m ∷ []) s three is = absurd (omega (arith, three))
many_replaced old new (m ∷ n ∷ ns) s three is = is

-- the tree with its links in the place of their numbers
abbrev linked : PartValue → Grown → List Entry
linked part tree = map (entry_by part.links) tree.branches

-- The link, which is kept beside those of the tree, is tight and leads between two of its plus nodes.
pub record ClosesTree (part : PartValue) (tree : Grown) (parity a b closing : ℕ) : Type 0 where
  -- the matched links that are not the tree's
  pub rest : List Link
  pub nest : IsNest (problem_in part) part.nodes
  pub search : IsSearch (problem_in part) part.nodes (linked part tree) rest part.matching.unmatched tree.root parity
  pub agreed : AreAgreed part.nodes part.store
  pub live : (id : ℕ) → is_in (closing ∷ tree_links tree.branches) id ≡ true → table.is_live part.links id ≡ true
  pub listed : (n : ℕ) → is_in (listed_names part.matching) n ≡ true → is_live part.nodes n ≡ true
  pub first : IsPlus tree a
  pub second : IsPlus tree b
  pub apart : a ≢ b
  pub connects : Connects part.nodes (link_by part.links closing) a b
  pub tight : AreMatchedLinks (problem_in part) part.nodes (link_by part.links closing ∷ [])

module _ (part : PartValue) (tree : Grown) (parity a b closing : ℕ) (closes : ClosesTree part tree parity a b closing) where
  abbrev s : SearchState
  s = record {
    nodes = part.nodes;
    cycles = cycles_by part.links part.store;
    tree = linked part tree;
    rest = closes.rest;
    unmatched = part.matching.unmatched;
    root = tree.root;
    parity = parity;
  }

  abbrev moved : List (EntryOf ℕ) → List Entry
  moved es = map (entry_by part.links) es

  -- whatever other matched links there are
  pub may_close : (name : ℕ) (others : List Link) → is_live part.nodes name ≡ false
      → MayClose (problem_in part) (record s { rest = others }) name a b (link_by part.links closing)
  may_close name others fresh = record {
    first = ap (λ ns. is_in ns a) (plus_moved (link_by part.links) tree.root tree.branches) ∙ closes.first;
    second = ap (λ ns. is_in ns b) (plus_moved (link_by part.links) tree.root tree.branches) ∙ closes.second;
    differ = closes.apart;
    connects = closes.connects;
    tight = closes.tight;
    fresh = fresh;
  }

  -- a name that no node has yet
  unused : is_live part.nodes (length part.store) ≡ false
  unused =
      closes.agreed.live (length part.store)
      ∙ ap (λ (o : Option blossoms.Node). is_some o) (get_or-eq_default part.store None (omega arith))

  -- the tree's nodes are live
  in_tree_live : (n : ℕ) → is_in (tree_names tree.root tree.branches) n ≡ true → is_live part.nodes n ≡ true
  in_tree_live n within =
      by (named_set (problem_in part) part.nodes (linked part tree) closes.rest part.matching.unmatched tree.root parity
      closes.search n (ap (λ ns. is_in ns n) (names_moved (link_by part.links) tree.root tree.branches) ∙ within))
    where
      by : IsSetOf part.nodes n (top_at part.nodes n) → is_live part.nodes n ≡ true
      by (i, less, outer, named, set) = list_any_at (λ m. m.name == n) part.nodes i no_node less (eq-eqb _ _ named)

  pub new_in_tree : (name : ℕ) → is_live part.nodes name ≡ false
      → is_in (tree_names tree.root tree.branches) name ≡ false
  new_in_tree name fresh =
      false_from_ne_true (is_in (tree_names tree.root tree.branches) name)
      (λ there. both_ways (is_live part.nodes name) fresh (in_tree_live name there))

  new_listed : (name : ℕ) → is_live part.nodes name ≡ false → is_in (listed_names part.matching) name ≡ false
  new_listed name fresh =
      false_from_ne_true (is_in (listed_names part.matching) name)
      (λ there.
      both_ways (is_live part.nodes name) fresh (closes.listed name there))

  -- the root's name, if it is another one after it, isn't listed yet
  pub root_unlisted : (name : ℕ) (gone : List ℕ) → is_live part.nodes name ≡ false
      → renamed_name (is_in gone) name tree.root ≢ tree.root
      → is_in (listed_names part.matching) (renamed_name (is_in gone) name tree.root) ≡ false
  root_unlisted name gone fresh differs = by (is_in gone tree.root) differs
    where
      by : (b : Bool) → (if b then name else tree.root) ≢ tree.root
          → is_in (listed_names part.matching) (if b then name else tree.root) ≡ false
      by true differ = new_listed name fresh
      by false differ = absurd (differ refl)

  module _ (steps : List CycleStep) (is : IsCycle tree a b closing steps) where
    pub steps_join : (name : ℕ) → is_live part.nodes name ≡ false → MayJoin part.nodes name (nodes_of steps)
    steps_join name fresh =
        subst (MayJoin part.nodes name) (sym is.nodes)
        (nodes_may_join (problem_in part) s part.links tree.branches refl name a b closing is.shared is.up is.down
        (may_close name closes.rest fresh) is.paths closes.rest closes.nest closes.search)

    pub steps_live : All (λ n. is_live part.nodes n ≡ true) (nodes_of steps)
    steps_live = (steps_join (length part.store) unused).live

    pub steps_odd : IsOddCycle part.store steps
    steps_odd =
        cycle_odd part.nodes part.store (length part.store) steps closes.agreed
        (steps_join (length part.store) unused)

    pub steps_outer : AreOuter part.store steps
    steps_outer =
        cycle_outer part.nodes part.store (length part.store) steps closes.agreed
        (steps_join (length part.store) unused)

    -- a new blossom may take the nodes' place in the tree
    pub steps_replaced : (name link : ℕ) → is_live part.nodes name ≡ false
        → MayReplace tree (nodes_of steps) (record { node = name; link = link } ∷ [])
    steps_replaced name link fresh =
        one_for_many tree (nodes_of steps) (record { node = name; link = link }) (steps_join name fresh).many.three
        (subst (λ gone. replacements.MayJoin tree gone name) (sym is.nodes)
        (tree_may_join (problem_in part) s part.links tree.branches refl name a b closing is.shared is.up is.down
        (may_close name closes.rest fresh) is.paths closes.rest closes.nest closes.search (new_in_tree name fresh)))

    -- the links of the steps are live and tight, and lead round
    numbers_live : (id : ℕ) → is_in (cycle_links is.up closing is.down) id ≡ true → table.is_live part.links id ≡ true
    numbers_live id there =
        closes.live id
        (sym
        (same_permuted (closing ∷ tree_links tree.branches)
        (tree_links (joined_tree (is_in cycle) (length part.store) tree.branches) ++ cycle_links is.up closing
        is.down)
        (numbers_joined (problem_in part) s part.links tree.branches refl (length part.store) a b closing is.shared
        is.up is.down (may_close (length part.store) closes.rest unused) is.paths closes.rest closes.nest closes.search) id)
        ∙ is_in-right (tree_links (joined_tree (is_in cycle) (length part.store) tree.branches))
        (cycle_links is.up closing is.down) id there)
      where
        cycle : List ℕ
        cycle = cycle_from tree.root is.shared is.up is.down

    paths : ArePaths s.tree a b (moved is.shared) (moved is.up) (moved is.down)
    paths = paths_of part.links s.tree tree.branches refl a b is.shared is.up is.down is.paths

    tight : AreMatchedLinks (problem_in part) part.nodes
        (cycle_links (moved is.up) (link_by part.links closing) (moved is.down))
    tight =
        let search = closes.search in
        links_among (problem_in part) part.nodes
        (cycle_links (moved is.up) (link_by part.links closing) (moved is.down))
        ((link_by part.links closing ∷ []) ++ (grown_links s.tree ++ paired_links s.tree))
        (cycle_link_in s.tree (moved is.up) (moved is.down) (link_by part.links closing)
        (λ e h. path_among s.tree a e (subst (IsAmong e) (sym paths.first)
        (among_right (moved is.shared) (moved is.up) e h)))
        (λ e h. path_among s.tree b e (subst (IsAmong e) (sym paths.second)
        (among_right (moved is.shared) (moved is.down) e h))))
        (links_joined (problem_in part) part.nodes (link_by part.links closing ∷ [])
        (grown_links s.tree ++ paired_links s.tree) closes.tight
        (links_joined (problem_in part) part.nodes (grown_links s.tree) (paired_links s.tree) search.grown
        (links_left (problem_in part) part.nodes (paired_links s.tree) s.rest search.matching.links_are)))

    links_are : cycle_links (moved is.up) (link_by part.links closing) (moved is.down)
        ≡ map (link_by part.links) (map (λ t. t.link) steps)
    links_are =
        cycle_links_moved (link_by part.links) is.up closing is.down ∙ ap (map (link_by part.links)) (sym is.links)

    round : AreLinked part.nodes (last_plus tree.root is.shared)
        (cycle_nodes is.up is.down ++ last_plus tree.root is.shared ∷ [])
        (cycle_links (moved is.up) (link_by part.links closing) (moved is.down))
    round =
        let may = may_close (length part.store) closes.rest unused in
        subst
        (λ ns.
        AreLinked part.nodes (last_plus tree.root is.shared) (ns ++ last_plus tree.root is.shared ∷ [])
        (cycle_links (moved is.up) (link_by part.links closing) (moved is.down)))
        (cycle_moved (link_by part.links) is.up is.down)
        (subst
        (λ n.
        AreLinked part.nodes n (cycle_nodes (moved is.up) (moved is.down) ++ n ∷ [])
        (cycle_links (moved is.up) (link_by part.links closing) (moved is.down)))
        (last_moved (link_by part.links) tree.root is.shared)
        (cycle_linked (problem_in part) part.nodes s.tree closes.rest s.unmatched s.root s.parity a b (moved is.shared)
        (moved is.up)
        (moved is.down) (link_by part.links closing) closes.search may.first may.second paths
        closes.connects))

    pub steps_round : IsNested part.store → blossoms_links.AreLinked part.links part.store steps
    steps_round nested =
        steps_linked (problem_in part) part.nodes part.store part.links closes.nest
        closes.agreed nested (last_plus tree.root is.shared) (cycle_nodes is.up is.down) steps is.nodes
        (subst
        (AreLinked part.nodes (last_plus tree.root is.shared)
        (cycle_nodes is.up is.down ++ last_plus tree.root is.shared ∷ []))
        links_are round)
        (subst (All (λ id. table.is_live part.links id ≡ true)) (sym is.links)
        (All-from_is_in (λ id. table.is_live part.links id ≡ true) (cycle_links is.up closing is.down) numbers_live))
        (subst (AreMatchedLinks (problem_in part) part.nodes) links_are tight)
