-- Several trees begin at unmatched nodes, and step together.
use Rattle.std.proofs.Common.{ℕ, ◌≡◌, ◌⊎◌, inl, inr, Bool, true, false, List, [], ◌∷◌, ◌++◌, map, All, Some, get_or, refl, sym, ap, ◌∙◌, subst}
use Rattle.std.proofs.lemmas.Bool.{both_ways, false≢true, false_from_ne_true, or_cases}
use Rattle.std.proofs.lemmas.List.Elements.{All-nil, All-head, All-tail, All-append, All-map}
use Rattle.fb_graph.specs.Parity.{is_in}
use Rattle.fb_graph.specs.Problem.{Problem}
use Rattle.fb_graph.specs.Certificate.{AreDistinct}
use Rattle.fb_graph.specs.Laws.{Link}
use Rattle.fb_graph.specs.Dual.{AreOuterApart, Node, all_cuts, cover_of, is_outer, leaves, top_at}
use Rattle.fb_graph.specs.Steps.{Roles, stepped_nodes}
use Rattle.fb_graph.specs.Covers.{AreRoles, is_covered_by}
use Rattle.fb_graph.specs.Links.{IsTightLink, pair}
use Rattle.fb_graph.proofs.Crossings.{level_outside, some_passes}
use Rattle.fb_graph.proofs.Floods.{is_in-left, is_in-right}
use Rattle.fb_graph.proofs.Members.{distinct_left, is_in-append}
use Rattle.fb_graph.proofs.StepHeights.{cover_stepped, leaves_stepped}
use Rattle.fb_graph.proofs.StepLoads.{tight_stepped}
use Rattle.fb_laws.specs.Fusion.{IsLinkOf}
use Rattle.fb_laws.specs.Opening.{EndAtDefects, EndsAtDefects}
use Rattle.fb_laws.specs.Works.{IsMatching, IsSetOf}
use Rattle.fb_laws.specs.Trees.{IsTree, grown_links, minus_names, paired_links, plus_names, tree_names}
use Rattle.fb_laws.specs.Searches.{IsOuterNode}
use Rattle.fb_laws.specs.Forests.{ForestBegins, ForestLevel, ForestRoles, ForestStepped, IsForest, TreeOf, bare_tree, forest_grown, forest_minus, forest_names, forest_paired, forest_plus, forest_roles, forest_roots, from_each}
use Rattle.fb_laws.proofs.ForestStates.{IsHeld, forest_tree, held_by, rest_beside}
use Rattle.fb_laws.proofs.HalvesKept.{matching_stepped}
use Rattle.fb_laws.proofs.MergedParts.{distinct_across}
use Rattle.fb_laws.proofs.PotentialParities.{other_parity_stepped, tree_parity_stepped}
use Rattle.fb_laws.proofs.SearchStates.{IsLevelBy, levels_in, named_set, tree_moved}
use Rattle.fb_laws.proofs.SearchTrees.{exclusive_names, minus_in_tree, plus_in_tree, tree_in_roles}
use Rattle.fb_laws.proofs.TreePaths.{distinct_right}

-- trees of the root alone
bare_names : (names : List ℕ) → forest_names (map bare_tree names) ≡ names
bare_names [] = refl
bare_names (n ∷ ns) = ap (λ l. n ∷ l) (bare_names ns)

bare_roots : (names : List ℕ) → forest_roots (map bare_tree names) ≡ names
bare_roots [] = refl
bare_roots (n ∷ ns) = ap (λ l. n ∷ l) (bare_roots ns)

bare_paired : (names : List ℕ) → forest_paired (map bare_tree names) ≡ []
bare_paired [] = refl
bare_paired (n ∷ ns) = bare_paired ns

bare_grown : (names : List ℕ) → forest_grown (map bare_tree names) ≡ []
bare_grown [] = refl
bare_grown (n ∷ ns) = bare_grown ns

pub forest_begins : ForestBegins
forest_begins p nodes links unmatched roots waiting work distinct are outer = record {
  matching = subst (λ l. IsMatching p nodes (l ++ links) unmatched) (sym (bare_paired roots)) work.matching;
  outer = All-map (λ t. IsOuterNode nodes t.root) bare_tree roots outer;
  roots = λ n. are n ∙ ap (λ l. is_in (l ++ waiting) n) (sym (bare_roots roots));
  apart = λ n waits.
      false_from_ne_true (is_in (forest_names (map bare_tree roots)) n)
      (λ root.
      both_ways (is_in waiting n)
      (distinct_across roots waiting n distinct (ap (λ l. is_in l n) (sym (bare_names roots)) ∙ root)) waits);
  even = λ d name leaf cover waits. work.even d name leaf cover (are name ∙ is_in-right roots waiting name waits);
  names = subst AreDistinct (sym (bare_names roots)) (distinct_left roots waiting distinct);
  joined = All-map (λ t. IsTree nodes t.root t.branches) bare_tree roots (λ i d less. tt);
  grown = record {
    tight = subst (All (IsTightLink p (all_cuts nodes))) (sym (bare_grown roots)) (All-nil (IsTightLink p (all_cuts nodes)));
    own = subst (All (IsLinkOf p)) (sym (bare_grown roots)) (All-nil (IsLinkOf p));
    at_defects = subst (EndAtDefects p (leaves nodes)) (sym (bare_grown roots)) (All-nil (EndsAtDefects p (leaves nodes)));
  };
  parity = λ d name leaf cover among.
      work.even d name leaf cover
      (are name ∙ is_in-left roots waiting name (ap (λ l. is_in l name) (sym (bare_names roots)) ∙ among));
}

-- what is in the one list of a tree is in the other one
each_within : (f g : TreeOf Link → List ℕ) → ((t : TreeOf Link) (n : ℕ) → is_in (f t) n ≡ true → is_in (g t) n ≡ true)
    → (trees : List (TreeOf Link)) (n : ℕ) → is_in (from_each f trees) n ≡ true → is_in (from_each g trees) n ≡ true
each_within f g within [] n has = has
each_within f g within (t ∷ ts) n has =
    by (or_cases (is_in (f t) n) (is_in (from_each f ts) n) (sym (is_in-append (f t) (from_each f ts) n) ∙ has))
    (each_within f g within ts n)
  where
    by : (is_in (f t) n ≡ true) ⊎ (is_in (from_each f ts) n ≡ true)
        → (is_in (from_each f ts) n ≡ true → is_in (from_each g ts) n ≡ true) → is_in (g t ++ from_each g ts) n ≡ true
    by (inl here) rest = is_in-left (g t) (from_each g ts) n (within t n here)
    by (inr there) rest = is_in-right (g t) (from_each g ts) n (rest there)

pub plus_in_forest : (trees : List (TreeOf Link)) (n : ℕ) → is_in (forest_plus trees) n ≡ true → is_in (forest_names trees) n ≡ true
plus_in_forest =
    each_within (λ t. plus_names t.root t.branches) (λ t. tree_names t.root t.branches) (λ t n. plus_in_tree t.root t.branches n)

pub minus_in_forest : (trees : List (TreeOf Link)) (n : ℕ) → is_in (forest_minus trees) n ≡ true → is_in (forest_names trees) n ≡ true
minus_in_forest =
    each_within (λ t. minus_names t.branches) (λ t. tree_names t.root t.branches) (λ t n. minus_in_tree t.root t.branches n)

-- each node of a tree has a role
roles_in_forest : (trees : List (TreeOf Link)) (n : ℕ) → is_in (forest_names trees) n ≡ true
    → (is_in (forest_plus trees) n ≡ true) ⊎ (is_in (forest_minus trees) n ≡ true)
roles_in_forest [] n has = absurd (false≢true has)
roles_in_forest (t ∷ ts) n has =
    by
    (or_cases (is_in (tree_names t.root t.branches) n) (is_in (forest_names ts) n)
    (sym (is_in-append (tree_names t.root t.branches) (forest_names ts) n) ∙ has))
    (roles_in_forest ts n)
  where
    Goal : Type 0
    Goal = (is_in (plus_names t.root t.branches ++ forest_plus ts) n ≡ true) ⊎ (is_in (minus_names t.branches ++ forest_minus ts) n ≡ true)

    here : (is_in (plus_names t.root t.branches) n ≡ true) ⊎ (is_in (minus_names t.branches) n ≡ true) → Goal
    here (inl plus) = inl (is_in-left (plus_names t.root t.branches) (forest_plus ts) n plus)
    here (inr minus) = inr (is_in-left (minus_names t.branches) (forest_minus ts) n minus)

    there : (is_in (forest_plus ts) n ≡ true) ⊎ (is_in (forest_minus ts) n ≡ true) → Goal
    there (inl plus) = inl (is_in-right (plus_names t.root t.branches) (forest_plus ts) n plus)
    there (inr minus) = inr (is_in-right (minus_names t.branches) (forest_minus ts) n minus)

    by : (is_in (tree_names t.root t.branches) n ≡ true) ⊎ (is_in (forest_names ts) n ≡ true)
        → (is_in (forest_names ts) n ≡ true → (is_in (forest_plus ts) n ≡ true) ⊎ (is_in (forest_minus ts) n ≡ true)) → Goal
    by (inl h) rest = here (tree_in_roles t.root t.branches n h)
    by (inr h) rest = there (rest h)

-- no node has both
pub exclusive_forest : (trees : List (TreeOf Link)) → AreDistinct (forest_names trees) → (n : ℕ) → is_in (forest_plus trees) n ≡ true
    → is_in (forest_minus trees) n ≡ true → ⊥
exclusive_forest [] distinct n plus minus = false≢true plus
exclusive_forest (t ∷ ts) distinct n plus minus =
    by
    (or_cases (is_in (plus_names t.root t.branches) n) (is_in (forest_plus ts) n)
    (sym (is_in-append (plus_names t.root t.branches) (forest_plus ts) n) ∙ plus))
    (or_cases (is_in (minus_names t.branches) n) (is_in (forest_minus ts) n)
    (sym (is_in-append (minus_names t.branches) (forest_minus ts) n) ∙ minus))
    (exclusive_forest ts (distinct_right (tree_names t.root t.branches) (forest_names ts) distinct) n)
  where
    twice : is_in (tree_names t.root t.branches) n ≡ true → is_in (forest_names ts) n ≡ true → ⊥
    twice here there =
        both_ways (is_in (forest_names ts) n)
        (distinct_across (tree_names t.root t.branches) (forest_names ts) n distinct here) there

    by : (is_in (plus_names t.root t.branches) n ≡ true) ⊎ (is_in (forest_plus ts) n ≡ true)
        → (is_in (minus_names t.branches) n ≡ true) ⊎ (is_in (forest_minus ts) n ≡ true)
        → (is_in (forest_plus ts) n ≡ true → is_in (forest_minus ts) n ≡ true → ⊥) → ⊥
    by (inl p) (inl m) rest =
        both_ways (is_in (minus_names t.branches) n)
        (exclusive_names t.root t.branches (distinct_left (tree_names t.root t.branches) (forest_names ts) distinct) n p) m
    by (inl p) (inr m) rest = twice (plus_in_tree t.root t.branches n p) (minus_in_forest ts n m)
    by (inr p) (inl m) rest = twice (minus_in_tree t.root t.branches n m) (plus_in_forest ts n p)
    by (inr p) (inr m) rest = rest p m

-- the links of trees whose roles are these
each_level : (roles : Roles) (nodes : List Node) → AreOuterApart nodes → AreRoles roles nodes → (trees : List (TreeOf Link))
    → All (λ t. IsTree nodes t.root t.branches) trees
    → ((n : ℕ) → is_in (forest_plus trees) n ≡ true → roles.is_plus n ≡ true)
    → ((n : ℕ) → is_in (forest_minus trees) n ≡ true → roles.is_minus n ≡ true)
    → All (IsLevelBy roles nodes) (forest_grown trees) × All (IsLevelBy roles nodes) (forest_paired trees)
each_level roles nodes apart are [] joined plus minus = (All-nil (IsLevelBy roles nodes), All-nil (IsLevelBy roles nodes))
each_level roles nodes apart are (t ∷ ts) joined plus minus =
    let here =
    levels_in roles nodes t.root apart are t.branches (All-head (λ s. IsTree nodes s.root s.branches) t ts joined)
    (λ n among. plus n (is_in-left (plus_names t.root t.branches) (forest_plus ts) n among))
    (λ n among. minus n (is_in-left (minus_names t.branches) (forest_minus ts) n among)) in
    let there =
    each_level roles nodes apart are ts (All-tail (λ s. IsTree nodes s.root s.branches) t ts joined)
    (λ n among. plus n (is_in-right (plus_names t.root t.branches) (forest_plus ts) n among))
    (λ n among. minus n (is_in-right (minus_names t.branches) (forest_minus ts) n among)) in (
      All-append (IsLevelBy roles nodes) (grown_links t.branches) (forest_grown ts) here.0 there.0,
      All-append (IsLevelBy roles nodes) (paired_links t.branches) (forest_paired ts) here.1 there.1,
    )

module _ (p : Problem) (nodes : List Node) (trees : List (TreeOf Link)) (rest : List Link) (unmatched waiting : List ℕ) (r : ℕ)
    (state : IsForest p nodes trees rest unmatched waiting r) where
  -- a name in a tree is that of an outer node
  pub name_set : (name : ℕ) → is_in (forest_names trees) name ≡ true → IsSetOf nodes name (top_at nodes name)
  name_set name among = by (held_by trees name among)
    where
      by : IsHeld trees name → IsSetOf nodes name (top_at nodes name)
      by held =
          let moved : IsForest p nodes (held.before ++ held.tree ∷ held.after) rest unmatched waiting r =
          subst (λ ts. IsForest p nodes ts rest unmatched waiting r) held.there state in
          let found = forest_tree p nodes held.before held.after held.tree rest unmatched waiting r moved in
          named_set p nodes held.tree.branches (forest_paired (held.before ++ held.after) ++ rest) unmatched held.tree.root r found name
          held.has

  name_outer : (name : ℕ) → is_in (forest_names trees) name ≡ true → is_outer nodes name ≡ true
  name_outer name among = (name_set name among).2

  pub are_forest_roles : AreRoles (forest_roles trees) nodes
  are_forest_roles = record {
    exclusive = λ n plus.
        false_from_ne_true (is_in (forest_minus trees) n) (λ minus. exclusive_forest trees state.names n plus minus);
    plus = λ i d less plus. name_outer (get_or nodes i d).name (plus_in_forest trees (get_or nodes i d).name plus);
    minus = λ i d less minus. name_outer (get_or nodes i d).name (minus_in_forest trees (get_or nodes i d).name minus);
  }

  tree_level : All (IsLevelBy (forest_roles trees) nodes) (forest_grown trees) × All (IsLevelBy (forest_roles trees) nodes) (forest_paired trees)
  tree_level =
      each_level (forest_roles trees) nodes state.matching.dual.apart are_forest_roles trees state.joined
      (λ n among. among) (λ n among. among)

  not_over : (test : ℕ → Bool) (v : ℕ) → ((n : ℕ) → test n ≡ true → is_in (forest_names trees) n ≡ true)
      → ((name : ℕ) → cover_of nodes v ≡ Some name → is_in (forest_names trees) name ≡ false) → is_covered_by test nodes v ≡ false
  not_over test v within away =
      false_from_ne_true (is_covered_by test nodes v)
      (λ over.
      let (name, cover, passing) = some_passes test (cover_of nodes v) over in
      both_ways (is_in (forest_names trees) name) (away name cover) (within name passing))

  rest_level : All (IsLevelBy (forest_roles trees) nodes) rest
  rest_level i d less =
      let away = rest_beside p nodes trees rest unmatched waiting r state i d less in
      level_outside (forest_roles trees) nodes (pair (get_or rest i d).from (get_or rest i d).to) state.matching.dual.apart
      state.matching.dual.names are_forest_roles
      (not_over (is_in (forest_plus trees)) (get_or rest i d).from (plus_in_forest trees) away.0)
      (not_over (is_in (forest_plus trees)) (get_or rest i d).to (plus_in_forest trees) away.1)
      (not_over (is_in (forest_minus trees)) (get_or rest i d).from (minus_in_forest trees) away.0)
      (not_over (is_in (forest_minus trees)) (get_or rest i d).to (minus_in_forest trees) away.1)

  matched_level : All (IsLevelBy (forest_roles trees) nodes) (forest_paired trees ++ rest)
  matched_level = All-append (IsLevelBy (forest_roles trees) nodes) (forest_paired trees) rest tree_level.1 rest_level

pub forest_roles_are : ForestRoles
forest_roles_are = are_forest_roles

pub forest_level : ForestLevel
forest_level p nodes trees rest unmatched waiting r state =
    All-append (IsLevelBy (forest_roles trees) nodes) (forest_grown trees) (forest_paired trees ++ rest)
    (tree_level p nodes trees rest unmatched waiting r state).0 (matched_level p nodes trees rest unmatched waiting r state)

pub forest_stepped : ForestStepped
forest_stepped p nodes trees rest unmatched waiting r k low dual state = record {
  matching =
      matching_stepped p roles nodes (forest_paired trees ++ rest) unmatched k are low dual
      (matched_level p nodes trees rest unmatched waiting r state) state.matching;
  outer = λ i d less.
      let is = state.outer i d less in (
        is.0,
        ap (λ l. is_in l is.0) (leaves_stepped roles nodes k) ∙ is.1,
        cover_stepped roles nodes k is.0 ∙ is.2,
      );
  roots = state.roots;
  apart = state.apart;
  even =
      other_parity_stepped roles (is_in waiting) nodes k 0 state.matching.dual.apart are low
      (λ n waits. (
        false_from_ne_true (is_in (forest_plus trees) n)
            (λ plus. both_ways (is_in (forest_names trees) n) (state.apart n waits) (plus_in_forest trees n plus)),
        false_from_ne_true (is_in (forest_minus trees) n)
            (λ minus. both_ways (is_in (forest_names trees) n) (state.apart n waits) (minus_in_forest trees n minus)),
      ))
      state.even;
  names = state.names;
  joined = λ i d less.
      tree_moved nodes (stepped_nodes roles k nodes) (get_or trees i d).root (get_or trees i d).branches
      (λ j e below. (
        cover_stepped roles nodes k (get_or (grown_links (get_or trees i d).branches) j e).from,
        cover_stepped roles nodes k (get_or (grown_links (get_or trees i d).branches) j e).to,
      ))
      (λ j e below. (
        cover_stepped roles nodes k (get_or (paired_links (get_or trees i d).branches) j e).from,
        cover_stepped roles nodes k (get_or (paired_links (get_or trees i d).branches) j e).to,
      ))
      (state.joined i d less);
  grown = record {
    tight = λ i d less. record {
      walk = (state.grown.tight i d less).walk;
      tight =
          tight_stepped p roles nodes k (get_or (forest_grown trees) i d) are.exclusive low
          ((tree_level p nodes trees rest unmatched waiting r state).0 i d less) (state.grown.tight i d less).tight;
    };
    own = state.grown.own;
    at_defects = subst (λ l. EndAtDefects p l (forest_grown trees)) (sym (leaves_stepped roles nodes k)) state.grown.at_defects;
  };
  parity =
      tree_parity_stepped roles (is_in (forest_names trees)) nodes k r state.matching.dual.apart are low (roles_in_forest trees)
      state.parity;
}
  where
    roles : Roles
    roles = forest_roles trees

    are : AreRoles (forest_roles trees) nodes
    are = are_forest_roles p nodes trees rest unmatched waiting r state
