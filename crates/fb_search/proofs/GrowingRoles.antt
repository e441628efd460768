-- The roles that trees which grow together give, and what is so of their nodes.
use Rattle.std.proofs.Common.{ℕ, ◌≡◌, ◌==◌, ◌≤◌, ◌<◌, ◌⊎◌, inl, inr, ◌||◌, Bool, true, false, List, [], ◌∷◌, ◌++◌, map, length, All, Option, refl, sym, ap, ◌∙◌, subst, if◌then◌else◌, arith}
use Rattle.std.proofs.lemmas.Bool.{both_ways, eq-eqb, eqb-true, false_from_ne_true, or_cases}
use Rattle.std.proofs.lemmas.List.{length-map}
use Rattle.std.proofs.lemmas.List.Elements.{All-head, All-tail}
use Rattle.std.proofs.lemmas.List.Folds.{list_any_at}
use Rattle.fb_graph.specs.Parity.{is_in}
use Rattle.fb_graph.specs.Certificate.{AreDistinct}
use Rattle.fb_graph.specs.Covers.{AreRoles}
use Rattle.fb_graph.specs.Dual.{IsCrossed, Node, is_live, no_node, top_at}
use Rattle.fb_graph.specs.Laws.{HasNoOddClosed}
use Rattle.fb_graph.specs.Limits.{no_shot}
use Rattle.fb_graph.proofs.Among.{live_among, top_among}
use Rattle.fb_graph.proofs.ClosedSets.{edge_leaves}
use Rattle.fb_graph.proofs.Floods.{is_in-left, is_in-right}
use Rattle.fb_graph.proofs.Members.{distinct_left}
use Rattle.fb_graph.proofs.NestParts.{top_is_odd}
use Rattle.fb_graph.proofs.Unions.{distinct_append}
use Rattle.fb_links.specs.declared.walk.Step.{Step}
use Rattle.fb_laws.specs.Forests.{AnyTree, IsForest, from_each, forest_minus, forest_names, forest_paired, forest_plus, forest_roles, forest_roots}
use Rattle.fb_laws.specs.ForestStates.{IsForestState}
use Rattle.fb_laws.specs.Searches.{IsOuterNode}
use Rattle.fb_laws.specs.Trees.{minus_names, plus_names, tree_names}
use Rattle.fb_laws.specs.Works.{IsSetOf}
use Rattle.fb_laws.proofs.ForestStates.{IsHeld, forest_tree, held_by}
use Rattle.fb_laws.proofs.ForestSteps.{forest_roles_are, minus_in_forest, plus_in_forest}
use Rattle.fb_laws.proofs.HalvesKept.{odd_of_part}
use Rattle.fb_laws.proofs.JoinedThree.{root_plus}
use Rattle.fb_laws.proofs.MergedParts.{distinct_across}
use Rattle.fb_laws.proofs.SearchStates.{named_set}
use Rattle.fb_laws.proofs.SearchTrees.{minus_in_tree, plus_in_tree}
use Rattle.fb_laws.proofs.TreePaths.{distinct_right}
use Rattle.fb_plan.specs.Laws.{IsJob}
use Rattle.fb_plan.proofs.ShotPlans.{shot_even}
use Rattle.fb_regions.specs.declared.roles.Role.TheVariants.{Plus, Minus, Out}
use Rattle.fb_half.specs.Parts.{PartValue, problem_in, shot_of}
use Rattle.fb_half.specs.Translations.{link_by}
use Rattle.fb_trees.specs.Branches.{Grown}
use Rattle.fb_trees.specs.Forests.{all_minus, all_plus, all_roles, trees_in}
use Rattle.fb_trees.specs.TreesOver.{AreTreesOver}
use Rattle.fb_trees.proofs.Mapped as mapped
use Rattle.fb_regions.specs.Paces.{grows, shrinks}
use Rattle.fb_obstacles.specs.Obstacles.{roles_by}
use Rattle.fb_search.specs.InternalGrowing.{GrowingValue, forest_state_at, roles_among, roots_in, tree_by, waiting_in}
use Rattle.fb_search.proofs.SearchRoles.{distinct_roles}
use Rattle.fb_search.proofs.WaitingNames.{linked_roots}

-- the trees with their links in the place of the numbers of these
abbrev pub linked_trees : GrowingValue → List AnyTree
linked_trees w = map (tree_by w.part.links) (trees_in w.forest)

module _ (table : List (Option (List Step))) where
  pub plus_numbers : (gs : List Grown) → forest_plus (map (tree_by table) gs) ≡ all_plus gs
  plus_numbers [] = refl
  plus_numbers (g ∷ gs) =
      ap (λ l. l ++ forest_plus (map (tree_by table) gs)) (mapped.plus_moved (link_by table) g.root g.branches)
      ∙ ap (λ l. plus_names g.root g.branches ++ l) (plus_numbers gs)

  pub minus_numbers : (gs : List Grown) → forest_minus (map (tree_by table) gs) ≡ all_minus gs
  minus_numbers [] = refl
  minus_numbers (g ∷ gs) =
      ap (λ l. l ++ forest_minus (map (tree_by table) gs)) (mapped.minus_moved (link_by table) g.branches)
      ∙ ap (λ l. minus_names g.branches ++ l) (minus_numbers gs)

  -- the roles by the trees' links or by their numbers
  pub roles_numbers : (gs : List Grown) → forest_roles (map (tree_by table) gs) ≡ all_roles gs
  roles_numbers gs i = record { is_plus = is_in (plus_numbers gs i); is_minus = is_in (minus_numbers gs i) }

-- roles of which none is both plus and minus, as one of three for each name
module _ (plus minus : ℕ → Bool) (none : (name : ℕ) → plus name ≡ true → minus name ≡ false) where
  shrinks_there : (p m : Bool) → (p ≡ true → m ≡ false) → shrinks (if p then Plus else (if m then Minus else Out)) ≡ m
  shrinks_there true m none = sym (none refl)
  shrinks_there false true none = refl
  shrinks_there false false none = refl

  grows_there : (p m : Bool) → grows (if p then Plus else (if m then Minus else Out)) ≡ p
  grows_there true m = refl
  grows_there false true = refl
  grows_there false false = refl

  pub roles_of_three : roles_by (λ name. if plus name then Plus else (if minus name then Minus else Out))
      ≡ record { is_plus = plus; is_minus = minus }
  roles_of_three i = record {
    is_plus = λ name. grows_there (plus name) (minus name) i;
    is_minus = λ name. shrinks_there (plus name) (minus name) (none name) i;
  }

-- no sub-problem of a shot that has a correction has an odd closed set
pub part_even : (part : PartValue) → IsJob part.job → part.slot < length part.job.shots → HasNoOddClosed (problem_in part)
part_even part job slot =
    shot_even part.job.graph part.job.plan part.node (shot_of part) job.graph (job.shots part.slot no_shot slot)
    (job.even part.slot no_shot slot)

-- the names of either role are distinct
apart_from : (f : AnyTree → List ℕ) → ((t : AnyTree) (n : ℕ) → is_in (f t) n ≡ true → is_in (tree_names t.root t.branches) n ≡ true)
    → ((ts : List AnyTree) (n : ℕ) → is_in (from_each f ts) n ≡ true → is_in (forest_names ts) n ≡ true)
    → ((t : AnyTree) → AreDistinct (tree_names t.root t.branches) → AreDistinct (f t))
    → (ts : List AnyTree) → AreDistinct (forest_names ts) → AreDistinct (from_each f ts)
apart_from f one all each [] distinct = tt
apart_from f one all each (t ∷ ts) distinct =
    distinct_append (f t) (from_each f ts)
    (each t (distinct_left (tree_names t.root t.branches) (forest_names ts) distinct))
    (apart_from f one all each ts (distinct_right (tree_names t.root t.branches) (forest_names ts) distinct))
    (λ n here.
    false_from_ne_true (is_in (from_each f ts) n)
    (λ there.
    both_ways (is_in (forest_names ts) n)
    (distinct_across (tree_names t.root t.branches) (forest_names ts) n distinct (one t n here)) (all ts n there)))

-- a root is an outer node, and plus
root_of : (nodes : List Node) (ts : List AnyTree) → All (λ t. IsOuterNode nodes t.root) ts → (n : ℕ)
    → is_in (forest_roots ts) n ≡ true → IsOuterNode nodes n × (is_in (forest_plus ts) n ≡ true)
root_of nodes [] outer n has = absurd (both_ways false refl has)
root_of nodes (t ∷ ts) outer n has =
    by (or_cases (t.root == n) (is_in (forest_roots ts) n) has)
    (root_of nodes ts (All-tail (λ u. IsOuterNode nodes u.root) t ts outer) n)
  where
    by : ((t.root == n) ≡ true) ⊎ (is_in (forest_roots ts) n ≡ true)
        → (is_in (forest_roots ts) n ≡ true → IsOuterNode nodes n × (is_in (forest_plus ts) n ≡ true))
        → IsOuterNode nodes n × (is_in (forest_plus (t ∷ ts)) n ≡ true)
    by (inl here) rest =
        let same : t.root ≡ n = eqb-true t.root n here in (
          subst (IsOuterNode nodes) same (All-head (λ u. IsOuterNode nodes u.root) t ts outer),
          is_in-left (plus_names t.root t.branches) (forest_plus ts) n
              (subst (λ x. is_in (plus_names t.root t.branches) x ≡ true) same (root_plus t.root t.branches)),
        )
    by (inr there) rest = ((rest there).0, is_in-right (plus_names t.root t.branches) (forest_plus ts) n (rest there).1)

first_in : (names : List ℕ) → 1 ≤ length names → (n : ℕ) × (is_in names n ≡ true)
first_in [] some = absurd (omega (arith, some))
first_in (n ∷ ns) some = (n, ap (λ b. b || is_in ns n) (eq-eqb n n refl))

module _ (w : GrowingValue) (r : ℕ) (state : IsForestState (problem_in w.part) (forest_state_at w r)) where
  pub all_are : AreRoles (all_roles (trees_in w.forest)) w.part.nodes
  all_are =
      subst (λ roles. AreRoles roles w.part.nodes) (roles_numbers w.part.links (trees_in w.forest))
      (forest_roles_are (problem_in w.part) w.part.nodes (linked_trees w) (forest_state_at w r).rest w.part.matching.unmatched (waiting_in w) r state.forest)

  -- the roles that trees give are those of their plus and minus nodes
  pub roles_are_all : roles_among w.forest ≡ all_roles (trees_in w.forest)
  roles_are_all = roles_of_three (is_in (all_plus (trees_in w.forest))) (is_in (all_minus (trees_in w.forest))) all_are.exclusive

  named_live : (name : ℕ) → is_in (forest_names (linked_trees w)) name ≡ true → is_live w.part.nodes name ≡ true
  named_live name among = by (held_by (linked_trees w) name among)
    where
      live : IsSetOf w.part.nodes name (top_at w.part.nodes name) → is_live w.part.nodes name ≡ true
      live (i, less, outer, named, set) = list_any_at (λ n. n.name == name) w.part.nodes i no_node less (eq-eqb _ _ named)

      by : IsHeld (linked_trees w) name → is_live w.part.nodes name ≡ true
      by held =
          let moved : IsForest (problem_in w.part) w.part.nodes (held.before ++ held.tree ∷ held.after) (forest_state_at w r).rest w.part.matching.unmatched (waiting_in w) r =
          subst (λ ts. IsForest (problem_in w.part) w.part.nodes ts (forest_state_at w r).rest w.part.matching.unmatched (waiting_in w) r) held.there state.forest in
          let found =
          forest_tree (problem_in w.part) w.part.nodes held.before held.after held.tree (forest_state_at w r).rest w.part.matching.unmatched (waiting_in w) r moved in
          live (named_set (problem_in w.part) w.part.nodes held.tree.branches (forest_paired (held.before ++ held.after) ++ (forest_state_at w r).rest)
          w.part.matching.unmatched held.tree.root r found name held.has)

  pub plus_live : (name : ℕ) → is_in (all_plus (trees_in w.forest)) name ≡ true → is_live w.part.nodes name ≡ true
  plus_live name plus =
      named_live name (plus_in_forest (linked_trees w) name
      (ap (λ l. is_in l name) (plus_numbers w.part.links (trees_in w.forest)) ∙ plus))

  pub minus_live : (name : ℕ) → is_in (all_minus (trees_in w.forest)) name ≡ true → is_live w.part.nodes name ≡ true
  minus_live name minus =
      named_live name (minus_in_forest (linked_trees w) name
      (ap (λ l. is_in l name) (minus_numbers w.part.links (trees_in w.forest)) ∙ minus))

  crossed : HasNoOddClosed (problem_in w.part) → (name : ℕ) → is_live w.part.nodes name ≡ true
      → IsCrossed (problem_in w.part) (top_at w.part.nodes name)
  crossed even name live =
      let (m, among, named) = live_among w.part.nodes name live in
      subst (IsCrossed (problem_in w.part)) (sym (top_among w.part.nodes state.nest.dual.names m among) ∙ ap (top_at w.part.nodes) named)
      (edge_leaves (problem_in w.part) m.top even
      (odd_of_part (problem_in w.part) w.part.nodes m.top state.forest.matching.defects (top_is_odd (problem_in w.part) w.part.nodes state.nest m among)))

  -- what a step of all trees asks for
  pub trees_over : HasNoOddClosed (problem_in w.part) → AreTreesOver (problem_in w.part) (trees_in w.forest) w.part.nodes
  trees_over even = record {
    roles = all_are;
    plus_once = subst AreDistinct (plus_numbers w.part.links (trees_in w.forest))
        (apart_from (λ t. plus_names t.root t.branches) (λ t n. plus_in_tree t.root t.branches n) plus_in_forest
        (λ t distinct. (distinct_roles t.root t.branches distinct).0) (linked_trees w) state.forest.names);
    minus_once = subst AreDistinct (minus_numbers w.part.links (trees_in w.forest))
        (apart_from (λ t. minus_names t.branches) (λ t n. minus_in_tree t.root t.branches n) minus_in_forest
        (λ t distinct. (distinct_roles t.root t.branches distinct).1) (linked_trees w) state.forest.names);
    plus_live = plus_live;
    minus_live = minus_live;
    crossed = λ name plus. crossed even name (plus_live name plus);
  }

  -- a root is an outer node, and plus
  pub root_is_plus : (n : ℕ) → is_in (roots_in w.forest) n ≡ true
      → IsOuterNode w.part.nodes n × (is_in (all_plus (trees_in w.forest)) n ≡ true)
  root_is_plus n has =
      let (outer, plus) =
      root_of w.part.nodes (linked_trees w) state.forest.outer n (ap (λ l. is_in l n) (linked_roots w.part.links (trees_in w.forest)) ∙ has) in
      (outer, ap (λ l. is_in l n) (sym (plus_numbers w.part.links (trees_in w.forest))) ∙ plus)

  -- as long as a tree is left there is a plus node
  pub some_plus : 1 ≤ length (trees_in w.forest) → (n : ℕ) × IsOuterNode w.part.nodes n × (is_in (all_plus (trees_in w.forest)) n ≡ true)
  some_plus some =
      let (n, has) = first_in (roots_in w.forest) (subst (λ k. 1 ≤ k) (sym (length-map (trees_in w.forest) (λ g. g.root))) some) in
      let (outer, plus) = root_is_plus n has in (n, outer, plus)
