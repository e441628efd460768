-- What the calls that open a minus blossom ask for.
use Rattle.std.proofs.Common.{ℕ, ◌≡◌, ◌%◌, ◌⊎◌, inl, inr, All, true, false, List, [], ◌∷◌, ◌++◌, length, Option, sym, ap, ◌∙◌, subst, arith}
use Rattle.std.specs.List.Sorted.{IsPermutation}
use Rattle.std.proofs.lemmas.Bool.{both_ways, false_from_ne_true, false≢true, or_cases}
use Rattle.std.proofs.lemmas.List.{length-map, map-append}
use Rattle.std.proofs.lemmas.List.Concat.{flat_map-append}
use Rattle.fb_graph.specs.Parity.{is_in}
use Rattle.fb_graph.specs.Certificate.{AreDistinct}
use Rattle.fb_graph.specs.Dual.{Node, is_outer}
use Rattle.fb_graph.specs.Nests.{AreMany, IsNest}
use Rattle.fb_graph.proofs.Among.{All_among, among_All}
use Rattle.fb_graph.proofs.Places.{IsPlaced, placed}
use Rattle.fb_graph.proofs.Sets.{All-from_is_in, is_in-cases, is_in-head, is_in-tail}
use Rattle.fb_graph.proofs.Unions.{distinct_append}
use Rattle.fb_links.specs.declared.cycle.CycleStep.{CycleStep}
use Rattle.fb_links.specs.declared.walk.Step.{Step}
use Rattle.fb_links.specs.Table as table
use Rattle.fb_blossoms.specs.Nodes.{cycle_at}
use Rattle.fb_laws.specs.LinkNumbers.{tree_links}
use Rattle.fb_laws.specs.OpenedCycles.{grown_on, matched_on}
use Rattle.fb_laws.specs.TreeCycles.{nodes_along}
use Rattle.fb_laws.specs.Trees.{EntryOf, minus_names, tree_names}
use Rattle.fb_laws.proofs.OpenedBlossoms.{distinct_permuted, same_permuted}
use Rattle.fb_laws.proofs.TreePaths.{distinct_right}
use Rattle.fb_half.specs.Matchings.{listed_names, match_links, matched_names}
use Rattle.fb_half.specs.Translations.{children_at, ring_at, ring_links}
use Rattle.fb_trees.specs.Replacements.{AreLinkedOn, MayOpen, first_node, way_from, way_of}
use Rattle.fb_trees.specs.Rooted.{is_node}
use Rattle.fb_search.specs.InternalOpenings.{couples_on, links_left, rest_on, way_on}
use Rattle.fb_search.specs.InternalSearching.{SearchValue, problem_of, searched_links, unmatched_in}
use Rattle.fb_search.proofs.Agreed.{nodes_of, on_is_in}
use Rattle.fb_search.proofs.OpenedAlong.{couples_listed, first_is, links_parted, nodes_parted, way_listed, way_odd}
use Rattle.fb_search.proofs.OpenedNames.{along_way, names-along}
use Rattle.fb_search.proofs.OpenedSplits.{child_was_inner, children_many}
use Rattle.fb_search.proofs.Openings.{IsOpening, Opens, round_in}
use Rattle.fb_graph.proofs.Floods.{is_in-both, is_in-left, is_in-right}
use Rattle.fb_graph.proofs.Members.{distinct_left, is_in-append}

in_front : (t s : ℕ) (grown matched : List ℕ) (id : ℕ) → is_in (grown ++ matched) id ≡ true
    → is_in ((t ∷ grown) ++ (s ∷ matched)) id ≡ true
in_front t s grown matched id there = by (or_cases (is_in grown id) (is_in matched id) (sym (is_in-append grown matched id) ∙ there))
  where
    by : (is_in grown id ≡ true) ⊎ (is_in matched id ≡ true) → is_in ((t ∷ grown) ++ (s ∷ matched)) id ≡ true
    by (inl h) = is_in-left (t ∷ grown) (s ∷ matched) id (is_in-tail t grown id h)
    by (inr h) = is_in-right (t ∷ grown) (s ∷ matched) id (is_in-tail s matched id h)

-- the links that lead over an odd number of steps are those of the branches that the steps make
linked_on : (links : List (Option (List Step))) (s : CycleStep) (ss : List CycleStep) → length (s ∷ ss) % 2 ≡ 1
    → ((id : ℕ) → is_in (grown_on (way_from s ss) ++ matched_on (way_from s ss)) id ≡ true → table.is_live links id ≡ true)
    → AreLinkedOn links (s ∷ ss)
linked_on links s [] odd live = tt
linked_on links s (t ∷ []) odd live = absurd (omega (arith, odd))
linked_on links s (t ∷ u ∷ us) odd live = (
  live s.link
      (is_in-right (t.link ∷ grown_on (way_from u us)) (s.link ∷ matched_on (way_from u us)) s.link
      (is_in-head s.link (matched_on (way_from u us)))),
  (
    live t.link
        (is_in-left (t.link ∷ grown_on (way_from u us)) (s.link ∷ matched_on (way_from u us)) t.link
        (is_in-head t.link (grown_on (way_from u us)))),
    linked_on links u us (omega (arith, odd))
        (λ id there. live id (in_front t.link s.link (grown_on (way_from u us)) (matched_on (way_from u us)) id there)),
  ),
)

linked_way : (links : List (Option (List Step))) (steps : List CycleStep) → length steps % 2 ≡ 1
    → ((id : ℕ) → is_in (grown_on (way_of steps) ++ matched_on (way_of steps)) id ≡ true → table.is_live links id ≡ true)
    → AreLinkedOn links steps
linked_way links [] odd live = tt
linked_way links (s ∷ ss) odd live = linked_on links s ss odd live

module _ {more : List ℕ} (w : SearchValue) (name : ℕ) (e : EntryOf ℕ) (above below : ℕ) (are : IsOpening more w)
    (opens : Opens w name e above below) where
  abbrev pub cycle : List CycleStep
  cycle = cycle_at w.part.store name

  abbrev pub way : List CycleStep
  way = way_on (round_in w.part name above below) below

  abbrev pub rest : List CycleStep
  rest = rest_on (round_in w.part name above below) below

  pub nest : IsNest (problem_of w) w.part.nodes
  nest = are.nest

  pub children_are : All (λ n. n.name ≡ name → n.children ≡ nodes_of cycle) w.part.nodes
  children_are =
      among_All (λ n. n.name ≡ name → n.children ≡ nodes_of cycle) w.part.nodes
      (λ n a named.
      All_among (λ m. m.children ≡ children_at w.part.store m.name) w.part.nodes are.agreed.children n a
      ∙ ap (children_at w.part.store) named)

  pub many : AreMany (nodes_of cycle)
  many = children_many (problem_of w) w.part.nodes name (nodes_of cycle) opens.may_split nest children_are

  pub odd : length cycle % 2 ≡ 1
  odd = ap (λ k. k % 2) (sym (length-map cycle (λ s. s.node))) ∙ many.odd

  pub above_on : is_in (nodes_of cycle) above ≡ true
  above_on = sym (on_is_in cycle above) ∙ opens.at_above.on_cycle

  pub below_on : is_in (nodes_of cycle) below ≡ true
  below_on = sym (on_is_in cycle below) ∙ opens.at_below.on_cycle

  pub parted : IsPermutation (nodes_of cycle) (nodes_of way ++ nodes_of rest)
  parted = nodes_parted cycle above below many.distinct odd above_on below_on

  apart : AreDistinct (nodes_of way ++ nodes_of rest)
  apart = distinct_permuted (nodes_of cycle) (nodes_of way ++ nodes_of rest) parted many.distinct

  pub way_within : (n : ℕ) → is_in (nodes_of way) n ≡ true → is_in (nodes_of cycle) n ≡ true
  way_within n there =
      sym (same_permuted (nodes_of cycle) (nodes_of way ++ nodes_of rest) parted n)
      ∙ is_in-left (nodes_of way) (nodes_of rest) n there

  pub rest_within : (n : ℕ) → is_in (nodes_of rest) n ≡ true → is_in (nodes_of cycle) n ≡ true
  rest_within n there =
      sym (same_permuted (nodes_of cycle) (nodes_of way ++ nodes_of rest) parted n)
      ∙ is_in-right (nodes_of way) (nodes_of rest) n there

  pub inner : (n : ℕ) → is_in (nodes_of cycle) n ≡ true → is_outer w.part.nodes n ≡ false
  inner n there =
      child_was_inner (problem_of w) w.part.nodes name (nodes_of cycle) opens.may_split nest children_are n there

  -- nodes that are listed, or in the tree, are outer
  pub not_child : (n : ℕ) → is_in (listed_names w.part.matching ++ nodes_along w.tree.branches) n ≡ true
      → is_in (nodes_of cycle) n ≡ false
  not_child n listed =
      false_from_ne_true (is_in (nodes_of cycle) n)
      (λ there. both_ways (is_outer w.part.nodes n) (inner n there) (are.matching.live n listed).1)

  tree_listed : (n : ℕ) → is_in (tree_names w.tree.root w.tree.branches) n ≡ true
      → is_in (listed_names w.part.matching ++ nodes_along w.tree.branches) n ≡ true
  tree_listed n there =
      by (is_in-both (nodes_along w.tree.branches) (w.tree.root ∷ []) n
      (ap (λ l. is_in l n) (sym (names-along w.tree.root w.tree.branches)) ∙ there))
    where
      by : (is_in (nodes_along w.tree.branches) n ≡ true) ⊎ (is_in (w.tree.root ∷ []) n ≡ true)
          → is_in (listed_names w.part.matching ++ nodes_along w.tree.branches) n ≡ true
      by (inl h) = is_in-right (listed_names w.part.matching) (nodes_along w.tree.branches) n h
      by (inr h) = root (is_in-cases w.tree.root [] n h)
        where
          root : (w.tree.root ≡ n) ⊎ (is_in [] n ≡ true)
              → is_in (listed_names w.part.matching ++ nodes_along w.tree.branches) n ≡ true
          root (inl same) =
              is_in-left (listed_names w.part.matching) (nodes_along w.tree.branches) n
              (is_in-left (unmatched_in w) (matched_names w.part.matching.matches) n
              (ap (is_in (unmatched_in w)) (sym same) ∙ are.search.open_root))
          root (inr none) = absurd (false≢true none)

  pub way_opens : MayOpen w.tree name way
  way_opens = record {
    minus =
        ap (λ l. is_in (minus_names l) name) opens.branch.there
        ∙ (ap (λ l. is_in l name) (map-append (λ x. x.minus) opens.branch.newer (e ∷ opens.branch.older))
        ∙ is_in-right (minus_names opens.branch.newer) (minus_names (e ∷ opens.branch.older)) name
        (subst (λ x. is_in (e.minus ∷ minus_names opens.branch.older) x ≡ true) opens.branch.minus
        (is_in-head e.minus (minus_names opens.branch.older))));
    odd = way_odd cycle above below many.distinct odd above_on below_on;
    distinct = distinct_left (nodes_of way) (nodes_of rest) apart;
    fresh = λ n there.
        false_from_ne_true (is_node w.tree n)
        (λ h. both_ways (is_in (nodes_of cycle) n) (not_child n (tree_listed n h)) (way_within n there));
  }

  pub way_first : first_node way ≡ above
  way_first = first_is cycle above below many.distinct odd above_on below_on

  pub way_named : nodes_of way ≡ along_way above (way_of way)
  way_named =
      way_listed cycle above below many.distinct odd above_on below_on ∙ ap (λ n. along_way n (way_of way)) way_first

  pub couples_named : matched_names (couples_on rest) ≡ nodes_of rest
  couples_named = couples_listed cycle above below many.distinct odd above_on below_on

  pub couples_fresh : AreDistinct (listed_names w.part.matching ++ matched_names (couples_on rest))
  couples_fresh =
      subst (λ l. AreDistinct (listed_names w.part.matching ++ l)) (sym couples_named)
      (distinct_append (listed_names w.part.matching) (nodes_of rest)
      (distinct_left (listed_names w.part.matching) (nodes_along w.tree.branches) are.matching.distinct)
      (distinct_right (nodes_of way) (nodes_of rest) apart)
      (λ n listed.
      false_from_ne_true (is_in (nodes_of rest) n)
      (λ there.
      both_ways (is_in (nodes_of cycle) n)
      (not_child n (is_in-left (listed_names w.part.matching) (nodes_along w.tree.branches) n listed))
      (rest_within n there))))

  pub ring_parted : IsPermutation (ring_at w.part.store name)
      ((grown_on (way_of way) ++ matched_on (way_of way))
      ++ (match_links (couples_on rest) ++ links_left (round_in w.part name above below) below))
  ring_parted = links_parted cycle above below many.distinct odd above_on below_on

  -- the links round the blossom among those round all blossoms
  at : IsPlaced w.part.nodes name
  at = placed w.part.nodes name nest.dual.names opens.may_split.live

  abbrev front : List ℕ
  front = ring_links at.before w.part.store

  abbrev back : List ℕ
  back = ring_links at.after w.part.store

  rings_are : ring_links w.part.nodes w.part.store ≡ front ++ (ring_at w.part.store name ++ back)
  rings_are =
      ap (λ ns. ring_links ns w.part.store) at.whole
      ∙ (flat_map-append (λ (n : Node). ring_at w.part.store n.name) at.before (at.node ∷ at.after)
      ∙ ap (λ x. front ++ (ring_at w.part.store x ++ back)) at.named)

  rings_distinct : AreDistinct (front ++ (ring_at w.part.store name ++ back))
  rings_distinct =
      subst AreDistinct rings_are
      (distinct_right (match_links w.part.matching.matches) (ring_links w.part.nodes w.part.store)
      (distinct_right (tree_links w.tree.branches) (match_links w.part.matching.matches ++ ring_links w.part.nodes w.part.store)
      (distinct_right more (searched_links w) are.links.distinct)))

  pub left_distinct : AreDistinct (links_left (round_in w.part name above below) below)
  left_distinct =
      distinct_right (match_links (couples_on rest)) (links_left (round_in w.part name above below) below)
      (distinct_right (grown_on (way_of way) ++ matched_on (way_of way))
      (match_links (couples_on rest) ++ links_left (round_in w.part name above below) below)
      (distinct_permuted (ring_at w.part.store name) _ ring_parted
      (distinct_left (ring_at w.part.store name) back (distinct_right front (ring_at w.part.store name ++ back) rings_distinct))))

  -- a link round the blossom is one of the search's
  ring_live : (id : ℕ) → is_in (ring_at w.part.store name) id ≡ true → table.is_live w.part.links id ≡ true
  ring_live id there =
      are.links.live id
      ∙ is_in-right more (searched_links w) id
      (is_in-right (tree_links w.tree.branches) (match_links w.part.matching.matches ++ ring_links w.part.nodes w.part.store) id
      (is_in-right (match_links w.part.matching.matches) (ring_links w.part.nodes w.part.store) id
      (ap (λ l. is_in l id) rings_are
      ∙ is_in-right front (ring_at w.part.store name ++ back) id (is_in-left (ring_at w.part.store name) back id there))))

  pub way_linked : AreLinkedOn w.part.links way
  way_linked =
      linked_way w.part.links way (way_odd cycle above below many.distinct odd above_on below_on)
      (λ id there.
      ring_live id
      (sym (same_permuted (ring_at w.part.store name) _ ring_parted id)
      ∙ is_in-left (grown_on (way_of way) ++ matched_on (way_of way))
      (match_links (couples_on rest) ++ links_left (round_in w.part name above below) below) id there))

  pub left_live : All (λ id. table.is_live w.part.links id ≡ true) (links_left (round_in w.part name above below) below)
  left_live =
      All-from_is_in (λ id. table.is_live w.part.links id ≡ true) (links_left (round_in w.part name above below) below)
      (λ id there.
      ring_live id
      (sym (same_permuted (ring_at w.part.store name) _ ring_parted id)
      ∙ is_in-right (grown_on (way_of way) ++ matched_on (way_of way))
      (match_links (couples_on rest) ++ links_left (round_in w.part name above below) below) id
      (is_in-right (match_links (couples_on rest)) (links_left (round_in w.part name above below) below) id there)))
