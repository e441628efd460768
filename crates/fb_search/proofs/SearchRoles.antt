-- The roles of a search's nodes, and what is so of the nodes of its tree.
use Rattle.std.proofs.Common.{ℕ, ◌≡◌, ◌==◌, Bool, true, false, List, [], ◌∷◌, map, refl, sym, ap, ◌∙◌, subst, if◌then◌else◌}
use Rattle.std.proofs.lemmas.Bool.{both_ways, eq-eqb, false_from_ne_true}
use Rattle.fb_graph.specs.Parity.{is_in}
use Rattle.fb_graph.specs.Certificate.{AreDistinct}
use Rattle.fb_graph.specs.Laws.{HasNoOddClosed}
use Rattle.fb_graph.specs.Limits.{no_shot}
use Rattle.fb_graph.specs.Dual.{IsCrossed, is_live, no_node, top_at}
use Rattle.fb_graph.specs.Nests.{IsNest}
use Rattle.fb_graph.proofs.Among.{live_among, top_among}
use Rattle.fb_graph.proofs.ClosedSets.{edge_leaves}
use Rattle.fb_graph.proofs.NestParts.{top_is_odd}
use Rattle.std.proofs.lemmas.List.Folds.{list_any_at}
use Rattle.fb_graph.proofs.Sets.{is_in-tail}
use Rattle.fb_laws.specs.Trees.{Entry, minus_names, plus_names, roles_of, tree_names}
use Rattle.fb_laws.specs.Works.{IsSetOf}
use Rattle.fb_laws.proofs.HalvesKept.{odd_of_part}
use Rattle.fb_laws.proofs.SearchStates.{named_set}
use Rattle.fb_laws.proofs.SearchTrees.{minus_in_tree, plus_in_tree}
use Rattle.fb_plan.proofs.ShotPlans.{shot_even}
use Rattle.fb_regions.specs.declared.roles.Role.TheVariants.{Plus, Minus, Out}
use Rattle.fb_trees.proofs.Mapped as mapped
use Rattle.fb_half.specs.Translations.{entry_by, link_by}
use Rattle.fb_half.specs.Parts.{shot_of}
use Rattle.fb_regions.specs.Paces.{grows, shrinks}
use Rattle.fb_search.specs.InternalSearching.{IsSearching, SearchValue, problem_of, roles_in, state_at}
use Rattle.fb_trees.specs.TreesOver.{IsTreeOver}
use Rattle.fb_search.proofs.Runs.{tree_roles}

-- the tree with its links in the place of their numbers
abbrev pub linked_tree : SearchValue → List Entry
linked_tree w = map (entry_by w.part.links) w.tree.branches

module _ (w : SearchValue) (are : IsSearching w) where
  same_plus : plus_names w.tree.root (linked_tree w) ≡ plus_names w.tree.root w.tree.branches
  same_plus = mapped.plus_moved (link_by w.part.links) w.tree.root w.tree.branches

  same_minus : minus_names (linked_tree w) ≡ minus_names w.tree.branches
  same_minus = mapped.minus_moved (link_by w.part.links) w.tree.branches

  -- a plus node is not minus
  pub exclusive : (name : ℕ) → is_in (plus_names w.tree.root w.tree.branches) name ≡ true
      → is_in (minus_names w.tree.branches) name ≡ false
  exclusive = (tree_roles w are).exclusive

  shrinks_there : (name : ℕ) → (plus minus : Bool) → (plus ≡ true → minus ≡ false)
      → shrinks (if plus then Plus else (if minus then Minus else Out)) ≡ minus
  shrinks_there name true minus none = sym (none refl)
  shrinks_there name false true none = refl
  shrinks_there name false false none = refl

  grows_there : (plus minus : Bool) → grows (if plus then Plus else (if minus then Minus else Out)) ≡ plus
  grows_there true minus = refl
  grows_there false true = refl
  grows_there false false = refl

  -- the roles that a tree gives are those of its plus and minus nodes
  pub roles_in_tree : roles_in w ≡ roles_of w.tree.root w.tree.branches
  roles_in_tree i = record {
    is_plus = λ name.
        grows_there (is_in (plus_names w.tree.root w.tree.branches) name) (is_in (minus_names w.tree.branches) name) i;
    is_minus = λ name.
        shrinks_there name (is_in (plus_names w.tree.root w.tree.branches) name) (is_in (minus_names w.tree.branches) name) (exclusive name) i;
  }

  named_live : (name : ℕ) → is_in (tree_names w.tree.root (linked_tree w)) name ≡ true → is_live w.part.nodes name ≡ true
  named_live name there = by (named_set (problem_of w) w.part.nodes (linked_tree w) (state_at w 0).rest w.part.matching.unmatched w.tree.root are.state.0 are.state.1.search.search name there)
    where
      by : IsSetOf w.part.nodes name (top_at w.part.nodes name) → is_live w.part.nodes name ≡ true
      by (i, less, outer, named, set) = list_any_at (λ n. n.name == name) w.part.nodes i no_node less (eq-eqb _ _ named)

  pub plus_live : (name : ℕ) → is_in (plus_names w.tree.root w.tree.branches) name ≡ true → is_live w.part.nodes name ≡ true
  plus_live name plus =
      named_live name (plus_in_tree w.tree.root (linked_tree w) name (ap (λ l. is_in l name) same_plus ∙ plus))

  pub minus_live : (name : ℕ) → is_in (minus_names w.tree.branches) name ≡ true → is_live w.part.nodes name ≡ true
  minus_live name minus =
      named_live name (minus_in_tree w.tree.root (linked_tree w) name (ap (λ l. is_in l name) same_minus ∙ minus))

  -- no sub-problem of a shot that has a correction has an odd closed set
  pub no_odd_closed : HasNoOddClosed (problem_of w)
  no_odd_closed =
      shot_even w.part.job.graph w.part.job.plan w.part.node (shot_of w.part) are.job.graph (are.job.shots w.part.slot no_shot are.slot)
      (are.job.even w.part.slot no_shot are.slot)

  -- an edge leaves each live node
  pub crossed : (name : ℕ) → is_live w.part.nodes name ≡ true → IsCrossed (problem_of w) (top_at w.part.nodes name)
  crossed name live =
      let (m, among, named) = live_among w.part.nodes name live in
      let nest : IsNest (problem_of w) w.part.nodes = are.state.1.search.nest in
      subst (IsCrossed (problem_of w)) (sym (top_among w.part.nodes nest.dual.names m among) ∙ ap (top_at w.part.nodes) named)
      (edge_leaves (problem_of w) m.top no_odd_closed
      (odd_of_part (problem_of w) w.part.nodes m.top are.state.1.search.search.matching.defects (top_is_odd (problem_of w) w.part.nodes nest m among)))

-- the names of either role are distinct
pub distinct_roles : (root : ℕ) (es : List Entry) → AreDistinct (tree_names root es)
    → AreDistinct (plus_names root es) × AreDistinct (minus_names es)
distinct_roles root [] distinct = (distinct, tt)
distinct_roles root (e ∷ es) (minus_new, (plus_new, distinct)) =
    let (plus, minus) = distinct_roles root es distinct in (
      (false_from_ne_true (is_in (plus_names root es) e.plus) (λ there. both_ways (is_in (tree_names root es) e.plus) plus_new (plus_in_tree root es e.plus there)), plus),
      (
        false_from_ne_true (is_in (minus_names es) e.minus)
            (λ there.
            both_ways (is_in (e.plus ∷ tree_names root es) e.minus) minus_new
            (is_in-tail e.plus (tree_names root es) e.minus (minus_in_tree root es e.minus there))),
        minus,
      ),
    )

pub tree_over : (w : SearchValue) → IsSearching w → IsTreeOver (problem_of w) w.tree w.part.nodes
tree_over w are =
    let (plus, minus) = distinct_roles w.tree.root (linked_tree w) are.state.1.search.search.names in
    record {
      roles = tree_roles w are;
      plus = subst AreDistinct (same_plus w are) plus;
      minus = subst AreDistinct (same_minus w are) minus;
      plus_live = plus_live w are;
      minus_live = minus_live w are;
      crossed = λ name plus. crossed w are name (plus_live w are name plus);
    }
