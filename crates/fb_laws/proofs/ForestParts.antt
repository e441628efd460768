-- The whole state of a half-solved part while several trees grow: how it begins and ends, and what doesn't matter in it.
use Rattle.std.proofs.Common.{ℕ, ◌≡◌, ◌≤◌, ◌||◌, inl, inr, false, List, [], ◌∷◌, ◌++◌, map, length, All, Some, refl, sym, ap, ◌∙◌, subst, arith}
use Rattle.std.proofs.lemmas.Bool.{both_ways, false_from_ne_true}
use Rattle.std.proofs.lemmas.List.Elements.{All-head, All-tail}
use Rattle.std.proofs.lemmas.List.Sorted.{All-permutation, IsPermutation-append, IsPermutation-map, IsPermutation-refl}
use Rattle.std.specs.List.Sorted.{IsPermutation}
use Rattle.fb_graph.specs.Counts.{as_count}
use Rattle.fb_graph.specs.Ends.{ends_in}
use Rattle.fb_graph.specs.Parity.{is_in}
use Rattle.fb_graph.specs.Problem.{Problem}
use Rattle.fb_graph.specs.Certificate.{AreDistinct}
use Rattle.fb_graph.specs.Laws.{Link}
use Rattle.fb_graph.specs.Links.{IsTightLink}
use Rattle.fb_graph.specs.Dual.{Node, all_cuts, cover_of, leaves, top_at}
use Rattle.fb_graph.specs.Steps.{MayStep}
use Rattle.fb_graph.proofs.Crossings.{free_step}
use Rattle.fb_graph.proofs.EndSums.{ends_append}
use Rattle.fb_graph.proofs.Floods.{is_in-left, is_in-right}
use Rattle.fb_graph.proofs.Members.{is_in-append}
use Rattle.fb_graph.proofs.Nodes.{All-right}
use Rattle.fb_graph.proofs.Sets.{All-from_is_in}
use Rattle.fb_laws.specs.Forests.{AnyTree, IsForest, forest_grown, forest_names, forest_paired, forest_plus, forest_roles, forest_roots}
use Rattle.fb_laws.specs.ForestStates.{ForestMatchOfMet, ForestMateOutside, ForestStateBegins, ForestStateDone, ForestStateFree, ForestStatePermuted, ForestStateRelisted, ForestTight}
use Rattle.fb_laws.specs.Fusion.{IsLinkOf}
use Rattle.fb_laws.specs.Lengths.{HasPlus}
use Rattle.fb_laws.specs.Opening.{EndsAtDefects}
use Rattle.fb_laws.specs.PartStates.{all_cycle_links}
use Rattle.fb_laws.specs.Searches.{IsOuterNode}
use Rattle.fb_laws.specs.Trees.{Connects, IsTree, grown_links, paired_links, plus_names, tree_names}
use Rattle.fb_laws.specs.Works.{AreMatchedLinks, IsSetOf}
use Rattle.fb_laws.proofs.ForestEnds.{forest_done, matching_named, root_in_names, with_waiting}
use Rattle.fb_laws.proofs.ForestStates.{rest_beside}
use Rattle.fb_laws.proofs.ForestSteps.{forest_begins, forest_roles_are, plus_in_forest}
use Rattle.fb_laws.proofs.HalvesKept.{matching_permuted}
use Rattle.fb_laws.proofs.JoinedThree.{root_plus}
use Rattle.fb_laws.proofs.MatchLinks.{match_among, none_in_tree, set_of, under}
use Rattle.fb_laws.proofs.MergedParts.{odd_in}
use Rattle.fb_laws.proofs.OpenedBlossoms.{distinct_permuted, same_permuted}
use Rattle.fb_laws.proofs.PartStates.{unmatched_outer}
use Rattle.fb_laws.proofs.PermutedTrees.{each_permuted}
use Rattle.fb_laws.proofs.SearchStates.{links_joined, links_left, links_right}
use Rattle.fb_laws.proofs.SearchTrees.{cover_place, matched_named}
use Rattle.fb_laws.proofs.StateOrders.{cycles_agree}
use Rattle.fb_laws.proofs.StepLengths.{greatest_step}
use Rattle.fb_laws.proofs.TreePaths.{distinct_right}

pub forest_state_begins : ForestStateBegins
forest_state_begins p s roots waiting state distinct same = record {
  nest = state.work.nest;
  forest =
      forest_begins p s.nodes s.matches s.unmatched roots waiting state.work.work distinct same
      (All-from_is_in (λ n. IsOuterNode s.nodes n) roots
      (λ n within. unmatched_outer p s n state (same n ∙ is_in-left roots waiting n within)));
  walks = state.work.walks;
  outer = state.work.outer;
  cycles = state.cycles;
  names = state.names;
  waiting = distinct_right roots waiting distinct;
}

pub forest_state_done : ForestStateDone
forest_state_done p s no_tree state =
    let (work, same) =
    forest_done p s.nodes s.rest s.unmatched s.waiting s.parity
    (subst (λ ts. IsForest p s.nodes ts s.rest s.unmatched s.waiting s.parity) no_tree state.forest) in (
      record {
        work = record { nest = state.nest; work = work; walks = state.walks; outer = state.outer };
        cycles = state.cycles;
        names = state.names;
      },
      same,
    )

-- links in another order
links_reordered : (p : Problem) (nodes : List Node) (links more : List Link) → IsPermutation links more
    → AreMatchedLinks p nodes links → AreMatchedLinks p nodes more
links_reordered p nodes links more moved are = record {
  tight = All-permutation (IsTightLink p (all_cuts nodes)) links more moved are.tight;
  own = All-permutation (IsLinkOf p) links more moved are.own;
  at_defects = All-permutation (EndsAtDefects p (leaves nodes)) links more moved are.at_defects;
}

-- a forest in another order
pub forest_permuted : (p : Problem) (nodes : List Node) (trees other : List AnyTree) (rest more : List Link)
    (unmatched listed waiting : List ℕ) (r : ℕ) → IsPermutation trees other → IsPermutation rest more
    → ((n : ℕ) → is_in listed n ≡ is_in unmatched n) → IsForest p nodes trees rest unmatched waiting r
    → IsForest p nodes other more listed waiting r
forest_permuted p nodes trees other rest more unmatched listed waiting r moved links same state = record {
  matching =
      matching_named p nodes (forest_paired other ++ more) unmatched listed same
      (matching_permuted p nodes (forest_paired trees ++ rest) (forest_paired other ++ more) unmatched
      (IsPermutation-append (forest_paired trees) (forest_paired other) rest more
      (each_permuted (λ t. paired_links t.branches) trees other moved) links)
      state.matching);
  outer = All-permutation (λ t. IsOuterNode nodes t.root) trees other moved state.outer;
  roots = λ n.
      same n
      ∙ (state.roots n
      ∙ with_waiting (forest_roots trees) (forest_roots other) waiting n
      (sym
      (same_permuted (forest_roots trees) (forest_roots other) (IsPermutation-map (λ (t : AnyTree). t.root) trees other moved) n)));
  apart = λ n waits. same_permuted (forest_names trees) (forest_names other) names n ∙ state.apart n waits;
  even = state.even;
  names = distinct_permuted (forest_names trees) (forest_names other) names state.names;
  joined = All-permutation (λ t. IsTree nodes t.root t.branches) trees other moved state.joined;
  grown =
      links_reordered p nodes (forest_grown trees) (forest_grown other)
      (each_permuted (λ t. grown_links t.branches) trees other moved) state.grown;
  parity = λ d name leaf cover among.
      state.parity d name leaf cover (sym (same_permuted (forest_names trees) (forest_names other) names name) ∙ among);
}
  where
    names : IsPermutation (forest_names trees) (forest_names other)
    names = each_permuted (λ t. tree_names t.root t.branches) trees other moved

-- nodes that wait, of which only membership counts
waiting_named : (p : Problem) (nodes : List Node) (trees : List AnyTree) (rest : List Link) (unmatched waiting listed : List ℕ) (r : ℕ)
    → ((n : ℕ) → is_in listed n ≡ is_in waiting n) → IsForest p nodes trees rest unmatched waiting r
    → IsForest p nodes trees rest unmatched listed r
waiting_named p nodes trees rest unmatched waiting listed r same state = record {
  matching = state.matching;
  outer = state.outer;
  roots = λ n.
      state.roots n
      ∙ (is_in-append (forest_roots trees) waiting n
      ∙ (ap (λ b. is_in (forest_roots trees) n || b) (sym (same n)) ∙ sym (is_in-append (forest_roots trees) listed n)));
  apart = λ n waits. state.apart n (sym (same n) ∙ waits);
  even = λ d name leaf cover waits. state.even d name leaf cover (sym (same name) ∙ waits);
  names = state.names;
  joined = state.joined;
  grown = state.grown;
  parity = state.parity;
}

pub forest_state_permuted : ForestStatePermuted
forest_state_permuted p s trees rest moved links state = record {
  nest = state.nest;
  forest =
      forest_permuted p s.nodes s.trees trees s.rest rest s.unmatched s.unmatched s.waiting s.parity moved links (λ n. refl)
      state.forest;
  walks = state.walks;
  outer = state.outer;
  cycles = state.cycles;
  names = state.names;
  waiting = state.waiting;
}

pub forest_state_relisted : ForestStateRelisted
forest_state_relisted p s cycles unmatched waiting agree distinct same apart alike state = record {
  nest = state.nest;
  forest =
      waiting_named p s.nodes s.trees s.rest unmatched s.waiting waiting s.parity alike
      (forest_permuted p s.nodes s.trees s.trees s.rest s.rest s.unmatched unmatched s.waiting s.parity
      (IsPermutation-refl s.trees) (IsPermutation-refl s.rest) same state.forest);
  walks = state.walks;
  outer = λ n within. state.outer n (sym (same n) ∙ within);
  cycles = cycles_agree p s.nodes s.cycles cycles agree state.cycles;
  names = record { live = λ n within. state.names.live n (sym (same n) ∙ within); distinct = distinct };
  waiting = apart;
}

pub forest_tight : ForestTight
forest_tight p s state =
    let matched = state.forest.matching.links_are in
    links_joined p s.nodes (forest_grown s.trees) (forest_paired s.trees ++ (s.rest ++ all_cycle_links s.nodes s.cycles))
    state.forest.grown
    (links_joined p s.nodes (forest_paired s.trees) (s.rest ++ all_cycle_links s.nodes s.cycles)
    (links_left p s.nodes (forest_paired s.trees) s.rest matched)
    (links_joined p s.nodes s.rest (all_cycle_links s.nodes s.cycles)
    (links_right p s.nodes (forest_paired s.trees) s.rest matched) state.cycles.links))

-- the matched links of trees end under their nodes alone
none_in_forest : (nodes : List Node) (trees : List AnyTree) (name : ℕ) → AreDistinct (map (λ n. n.name) nodes)
    → All (λ t. IsTree nodes t.root t.branches) trees → is_in (forest_names trees) name ≡ false
    → ((v n : ℕ) → cover_of nodes v ≡ Some n → (n ≡ name → ⊥) → is_in (top_at nodes name) v ≡ false)
    → ends_in (top_at nodes name) (forest_paired trees) ≡ 0
none_in_forest nodes [] name distinct joined out other = refl
none_in_forest nodes (t ∷ ts) name distinct joined out other =
    omega (
      arith,
      ends_append (top_at nodes name) (paired_links t.branches) (forest_paired ts),
      none_in_tree nodes t.root t.branches name distinct (All-head (λ u. IsTree nodes u.root u.branches) t ts joined)
          (false_from_ne_true (is_in (tree_names t.root t.branches) name)
          (λ h.
          both_ways (is_in (forest_names (t ∷ ts)) name) out (is_in-left (tree_names t.root t.branches) (forest_names ts) name h)))
          other,
      none_in_forest nodes ts name distinct (All-tail (λ u. IsTree nodes u.root u.branches) t ts joined)
          (false_from_ne_true (is_in (forest_names ts) name)
          (λ h.
          both_ways (is_in (forest_names (t ∷ ts)) name) out (is_in-right (tree_names t.root t.branches) (forest_names ts) name h)))
          other,
    )

-- what is in no tree is no root
pub no_root : (trees : List AnyTree) (n : ℕ) → is_in (forest_names trees) n ≡ false → is_in (forest_roots trees) n ≡ false
no_root trees n out =
    false_from_ne_true (is_in (forest_roots trees) n) (λ h. both_ways (is_in (forest_names trees) n) out (root_in_names trees n h))

pub forest_match_of_met : ForestMatchOfMet
forest_match_of_met p s name state live outer out awake =
    match_among p s.nodes s.rest name state.nest.dual rest set
    (omega (
      arith,
      matched_named p s.nodes (forest_paired s.trees ++ s.rest) s.unmatched name (top_at s.nodes name) state.forest.matching set,
      ap as_count
          (state.forest.roots name
          ∙ (is_in-append (forest_roots s.trees) s.waiting name
          ∙ (ap (λ b. b || is_in s.waiting name) (no_root s.trees name out) ∙ awake))),
      ends_append (top_at s.nodes name) (forest_paired s.trees) s.rest,
      none_in_forest s.nodes s.trees name state.nest.dual.names state.forest.joined out other,
    ))
  where
    set : IsSetOf s.nodes name (top_at s.nodes name)
    set = set_of p s.nodes name state.nest.dual live outer

    rest : AreMatchedLinks p s.nodes s.rest
    rest = links_right p s.nodes (forest_paired s.trees) s.rest state.forest.matching.links_are

    other : (v n : ℕ) → cover_of s.nodes v ≡ Some n → (n ≡ name → ⊥) → is_in (top_at s.nodes name) v ≡ false
    other v n cover differs =
        false_from_ne_true (is_in (top_at s.nodes name) v)
        (λ within.
        let both : Some n ≡ Some name = sym cover ∙ under p s.nodes s.rest name state.nest.dual rest set v within in
        let same : n ≡ name = cc in
        differs same)

pub forest_mate_outside : ForestMateOutside
forest_mate_outside p s before l after name mate rest_is connects state = by connects
  where
    Outside : Link → Type 0
    Outside m =
        ((n : ℕ) → cover_of s.nodes m.from ≡ Some n → is_in (forest_names s.trees) n ≡ false)
        × ((n : ℕ) → cover_of s.nodes m.to ≡ Some n → is_in (forest_names s.trees) n ≡ false)

    out : Outside l
    out =
        All-head Outside l after
        (All-right Outside before (l ∷ after)
        (subst (All Outside) rest_is (rest_beside p s.nodes s.trees s.rest s.unmatched s.waiting s.parity state.forest)))

    by : Connects s.nodes l name mate → (is_in (forest_names s.trees) name ≡ false) × (is_in (forest_names s.trees) mate ≡ false)
    by (inl (from, to)) = (out.0 name from, out.1 mate to)
    by (inr (to, from)) = (out.1 name to, out.0 mate from)

-- there is a plus node if there is a tree
has_plus : (nodes : List Node) (trees : List AnyTree) → All (λ t. IsOuterNode nodes t.root) trees → 1 ≤ length trees
    → HasPlus (forest_roles trees) nodes
has_plus nodes [] outer some = absurd (omega (arith, some))
has_plus nodes (t ∷ ts) outer some =
    let (d, leaf, cover) = All-head (λ u. IsOuterNode nodes u.root) t ts outer in
    let (i, less, named, outer_is, within) = cover_place nodes d t.root cover in (
      i,
      less,
      ap (is_in (forest_plus (t ∷ ts))) named
          ∙ is_in-left (plus_names t.root t.branches) (forest_plus ts) t.root (root_plus t.root t.branches),
    )

pub forest_state_free : ForestStateFree
forest_state_free p s even no_odd some clear state =
    let are = forest_roles_are p s.nodes s.trees s.rest s.unmatched s.waiting s.parity state.forest in
    let may : MayStep p (forest_roles s.trees) s.nodes 1 =
    free_step p (forest_roles s.trees) s.nodes s.parity state.nest.dual are
    (λ d name leaf cover plus. state.forest.parity d name leaf cover (plus_in_forest s.trees name plus)) even clear in
    greatest_step p (forest_roles s.trees) s.nodes 1 are.exclusive (has_plus s.nodes s.trees state.forest.outer some) no_odd
    (record { odd = odd_in p s.nodes state.nest.dual state.forest.matching.defects; fits = state.nest.dual.packing.fits }) may
