-- The state of a search: what follows from it, and how steps and attached nodes keep it.
use Rattle.std.proofs.Common.{ℕ, ◌≡◌, ◌+◌, ◌%◌, ◌≤◌, ◌==◌, ◌&&◌, ◌⊎◌, inl, inr, not, Bool, true, false, cond, List, [], ◌∷◌, ◌++◌, reverse, All, Some, get_or, refl, sym, ap, ◌∙◌, subst, arith}
use Rattle.std.proofs.lemmas.Bool.{both_ways, false≢true, and_parts, eqb-true, eq-eqb, not_from_true, false_from_ne_true}
use Rattle.std.proofs.lemmas.List.Elements.{All-nil, All-cons, All-head, All-tail, All-append, All-map}
use Rattle.std.proofs.lemmas.List.Sorted.{All-permutation, IsPermutation-sym, IsPermutation-middle, IsPermutation-append_right}
use Rattle.fb_graph.specs.Parity.{is_in}
use Rattle.fb_graph.specs.Problem.{Problem, crosses}
use Rattle.fb_graph.specs.Laws.{Link}
use Rattle.fb_graph.specs.Dual.{Node, IsDual, AreOuterApart, all_cuts, leaves, cover_of, height_of, is_outer, top_at}
use Rattle.fb_graph.proofs.ParitySums.{differ_comm}
use Rattle.fb_graph.proofs.Sets.{is_in-cases, is_in-head, is_in-tail, is_in-filter}
use Rattle.fb_graph.proofs.Sums.{sum_same}
use Rattle.fb_graph.specs.Counts.{as_count}
use Rattle.fb_graph.specs.Steps.{AllowShrinking, Roles, gains, losses, stepped_nodes}
use Rattle.fb_graph.specs.Covers.{AreRoles, HaveParity, crossings_of, is_covered_by, passes}
use Rattle.fb_graph.specs.Ends.{ends_in}
use Rattle.fb_graph.specs.Links.{pair, AreEven, IsTightLink}
use Rattle.fb_laws.specs.Fusion.{IsLinkOf}
use Rattle.fb_laws.specs.Parities.{HaveOneParity}
use Rattle.fb_laws.specs.Opening.{EndAtDefects, EndsAtDefects}
use Rattle.fb_laws.specs.Works.{AreMatchedLinks, IsSetOf, IsBranchOf, names_without}
use Rattle.fb_laws.specs.Trees.{Entry, Connects, IsTree, grown_links, paired_links, plus_names, minus_names, tree_names, roles_of, path_to, branches_beside, branch_of, branches_of}
use Rattle.fb_laws.specs.Searches.{IsSearch, SearchBegins, SearchPermuted, SearchRoles, RestOutside, SearchLevel, SearchPath, SearchStepped, SearchAttached}
use Rattle.fb_graph.proofs.Crossings.{level_between, level_outside, some_passes}
use Rattle.fb_graph.proofs.EndSums.{ends_append, ends-cons, ends_of_one}
use Rattle.fb_laws.proofs.HalvesKept.{matching_stepped, matching_permuted}
use Rattle.fb_laws.proofs.PotentialParities.{linked_parity, tree_parity_stepped, other_parity_stepped}
use Rattle.fb_laws.proofs.SearchTrees.{cover_set, connects_sym, connected, path_leads, path_beside, entries_outer, tree_set, plus_in_tree, minus_in_tree, tree_in_roles, exclusive_names, used_end, matched_named, no_ends}
use Rattle.fb_graph.proofs.StepHeights.{cover_stepped, leaves_stepped}
use Rattle.fb_graph.proofs.StepLoads.{tight_stepped}
use Rattle.fb_graph.proofs.TightLinks.{turned_tight}
use Rattle.fb_graph.proofs.Nodes.{All-right, All-left}

pub search_begins : SearchBegins
search_begins p nodes links unmatched root work is open_ = record {
  matching = work.matching;
  root_is = is;
  open_root = open_;
  names = (refl, tt);
  joined = tt;
  grown = record {
    tight = All-nil (IsTightLink p (all_cuts nodes));
    own = All-nil (IsLinkOf p);
    at_defects = All-nil (EndsAtDefects p (leaves nodes));
  };
  parity = λ d name leaf cover among. step d name leaf cover (is_in-cases root [] name among);
}
  where
    step : (d name : ℕ) → is_in (leaves nodes) d ≡ true → cover_of nodes d ≡ Some name → (root ≡ name) ⊎ (is_in [] name ≡ true)
        → height_of (all_cuts nodes) d % 2 ≡ 0
    step d name leaf cover (inl same) = work.even d name leaf cover (ap (is_in unmatched) (sym same) ∙ open_)
    step d name leaf cover (inr none) = absurd (false≢true none)

-- a potential that is even for all unmatched nodes is so for all but the root
pub even_begins : (nodes : List Node) (unmatched : List ℕ) (root : ℕ) → HaveParity (is_in unmatched) nodes 0
    → HaveParity (is_in (names_without root unmatched)) nodes 0
even_begins nodes unmatched root even d name leaf cover among =
    even d name leaf cover
    (and_parts (is_in unmatched name) (not (name == root)) (sym (is_in-filter (λ n. not (n == root)) unmatched name) ∙ among)).0

pub search_permuted : SearchPermuted
search_permuted p nodes tree rest more unmatched root r moved state = record {
  matching =
      matching_permuted p nodes (paired_links tree ++ rest) (paired_links tree ++ more) unmatched
      (IsPermutation-append_right (paired_links tree) rest more moved) state.matching;
  root_is = state.root_is;
  open_root = state.open_root;
  names = state.names;
  joined = state.joined;
  grown = state.grown;
  parity = state.parity;
}

-- links of two lists
pub links_joined : (p : Problem) (nodes : List Node) (links more : List Link) → AreMatchedLinks p nodes links
    → AreMatchedLinks p nodes more → AreMatchedLinks p nodes (links ++ more)
links_joined p nodes links more one other = record {
  tight = All-append (IsTightLink p (all_cuts nodes)) links more one.tight other.tight;
  own = All-append (IsLinkOf p) links more one.own other.own;
  at_defects =
      All-append
      (EndsAtDefects p (leaves nodes))
      links more one.at_defects other.at_defects;
}

module _ (p : Problem) (nodes : List Node) (tree : List Entry) (rest : List Link) (unmatched : List ℕ) (root r : ℕ) (state : IsSearch p nodes tree rest unmatched root r) where
  pub root_set : IsSetOf nodes root (top_at nodes root)
  root_set = (cover_set nodes state.root_is.0 root state.matching.dual.names state.root_is.2).0

  pub named_set : (name : ℕ) → is_in (tree_names root tree) name ≡ true → IsSetOf nodes name (top_at nodes name)
  named_set = tree_set nodes root state.matching.dual.names root_set tree state.joined

  named_outer : (name : ℕ) → is_in (tree_names root tree) name ≡ true → is_outer nodes name ≡ true
  named_outer name among = (named_set name among).2

  pub are_roles : AreRoles (roles_of root tree) nodes
  are_roles = record {
    exclusive = exclusive_names root tree state.names;
    plus = λ i d less plus. named_outer (get_or nodes i d).name (plus_in_tree root tree (get_or nodes i d).name plus);
    minus = λ i d less minus. named_outer (get_or nodes i d).name (minus_in_tree root tree (get_or nodes i d).name minus);
  }

  -- a node of the tree has one end among the tree's matched links, or is the unmatched root
  pub used : (name : ℕ) → is_in (tree_names root tree) name ≡ true
      → (root ≡ name) × (is_in unmatched name ≡ true) ⊎ (1 ≤ ends_in (top_at nodes name) (paired_links tree))
  used name among = step (used_end nodes root state.matching.dual.names tree state.joined name among)
    where
      step : (root ≡ name) ⊎ (1 ≤ ends_in (top_at nodes name) (paired_links tree))
          → (root ≡ name) × (is_in unmatched name ≡ true) ⊎ (1 ≤ ends_in (top_at nodes name) (paired_links tree))
      step (inl same) = inl (same, ap (is_in unmatched) (sym same) ∙ state.open_root)
      step (inr some) = inr some

  one_end : (name : ℕ) → is_in (tree_names root tree) name ≡ true
      → ends_in (top_at nodes name) (paired_links tree) + ends_in (top_at nodes name) rest + as_count (is_in unmatched name) ≡ 1
  one_end name among =
      let one = matched_named p nodes (paired_links tree ++ rest) unmatched name (top_at nodes name) state.matching (named_set name among) in
      omega (arith, one, ends_append (top_at nodes name) (paired_links tree) rest)

  pub no_rest : (name : ℕ) → is_in (tree_names root tree) name ≡ true → ends_in (top_at nodes name) rest ≡ 0
  no_rest name among = step (used name among) (one_end name among)
    where
      step : (root ≡ name) × (is_in unmatched name ≡ true) ⊎ (1 ≤ ends_in (top_at nodes name) (paired_links tree))
          → ends_in (top_at nodes name) (paired_links tree) + ends_in (top_at nodes name) rest + as_count (is_in unmatched name) ≡ 1
          → ends_in (top_at nodes name) rest ≡ 0
      step (inl (same, among_)) one = omega (arith, one, ap as_count among_)
      step (inr some) one = omega (arith, one, some)

  pub outside : All
      (λ l. ((name : ℕ) → cover_of nodes l.from ≡ Some name → is_in (tree_names root tree) name ≡ false)
      × ((name : ℕ) → cover_of nodes l.to ≡ Some name → is_in (tree_names root tree) name ≡ false)) rest
  outside i d less = (
    λ name cover.
        false_from_ne_true (is_in (tree_names root tree) name)
        (λ among.
        both_ways (is_in (top_at nodes name) (get_or rest i d).from)
        (no_ends (top_at nodes name) rest (no_rest name among) i d less).0
        (cover_set nodes (get_or rest i d).from name state.matching.dual.names cover).1),
    λ name cover.
        false_from_ne_true (is_in (tree_names root tree) name)
        (λ among.
        both_ways (is_in (top_at nodes name) (get_or rest i d).to)
        (no_ends (top_at nodes name) rest (no_rest name among) i d less).1
        (cover_set nodes (get_or rest i d).to name state.matching.dual.names cover).1),
  )

  -- other unmatched nodes are not in the tree
  pub unmatched_outside : (name : ℕ) → is_in (names_without root unmatched) name ≡ true → is_in (tree_names root tree) name ≡ false
  unmatched_outside name among =
      false_from_ne_true (is_in (tree_names root tree) name) (λ within. step within (used name within) (one_end name within))
    where
      parts : (is_in unmatched name ≡ true) × (not (name == root) ≡ true)
      parts =
          and_parts (is_in unmatched name) (not (name == root)) (sym (is_in-filter (λ n. not (n == root)) unmatched name) ∙ among)

      step : is_in (tree_names root tree) name ≡ true
          → (root ≡ name) × (is_in unmatched name ≡ true) ⊎ (1 ≤ ends_in (top_at nodes name) (paired_links tree))
          → ends_in (top_at nodes name) (paired_links tree) + ends_in (top_at nodes name) rest + as_count (is_in unmatched name) ≡ 1 → ⊥
      step within (inl (same, open_)) one =
          both_ways (not (name == root)) (not_from_true (name == root) (eq-eqb name root (sym same))) parts.1
      step within (inr some) one = omega (arith, one, some, ap as_count parts.0)

pub search_roles : SearchRoles
search_roles = are_roles

pub rest_outside : RestOutside
rest_outside = outside

pub search_path : SearchPath
search_path p nodes tree rest unmatched root r name state among =
    let (on, tip) = path_leads nodes root state.matching.dual.names tree state.joined name among in
    (on, tip, branches, path_beside tree name)
  where
    branches : All (IsBranchOf nodes) (branches_of nodes (path_to tree name))
    branches =
        All-map (IsBranchOf nodes) (branch_of nodes) (path_to tree name)
        (All-left (λ e. IsBranchOf nodes (branch_of nodes e)) (path_to tree name) (branches_beside tree name)
        (All-permutation (λ e. IsBranchOf nodes (branch_of nodes e)) tree (path_to tree name ++ branches_beside tree name)
        (IsPermutation-sym _ _ (path_beside tree name))
        (entries_outer nodes root state.matching.dual.names tree state.joined)))

crossings_turned : (test : ℕ → Bool) (nodes : List Node) (u v : ℕ) → crossings_of test nodes (pair u v) ≡ crossings_of test nodes (pair v u)
crossings_turned test nodes u v =
    sum_same (λ n. cond (test n.name && crosses n.top.vertices (pair u v)) 1 0)
    (λ n. cond (test n.name && crosses n.top.vertices (pair v u)) 1 0) nodes
    (λ i d less.
    ap (λ b. as_count (test (get_or nodes i d).name && b))
    (differ_comm (is_in (get_or nodes i d).top.vertices u) (is_in (get_or nodes i d).top.vertices v)))

abbrev pub IsLevelBy : Roles → List Node → Link → Type 0
IsLevelBy roles nodes l = gains roles nodes (pair l.from l.to) ≡ losses roles nodes (pair l.from l.to)

level_connected : (roles : Roles) (nodes : List Node) (l : Link) (a b : ℕ) → AreOuterApart nodes → AreRoles roles nodes
    → roles.is_plus a ≡ true → roles.is_minus b ≡ true → Connects nodes l a b → IsLevelBy roles nodes l
level_connected roles nodes l a b apart are plus minus (inl (from, to)) =
    level_between roles nodes (pair l.from l.to) apart are (ap (passes roles.is_plus) from ∙ plus) (ap (passes roles.is_minus) to ∙ minus)
level_connected roles nodes l a b apart are plus minus (inr (to, from)) =
    crossings_turned roles.is_plus nodes l.from l.to
    ∙ (level_between roles nodes (pair l.to l.from) apart are (ap (passes roles.is_plus) to ∙ plus) (ap (passes roles.is_minus) from ∙ minus)
    ∙ crossings_turned roles.is_minus nodes l.to l.from)

pub levels_in : (roles : Roles) (nodes : List Node) (root : ℕ) → AreOuterApart nodes → AreRoles roles nodes → (tree : List Entry)
    → IsTree nodes root tree → ((n : ℕ) → is_in (plus_names root tree) n ≡ true → roles.is_plus n ≡ true)
    → ((n : ℕ) → is_in (minus_names tree) n ≡ true → roles.is_minus n ≡ true)
    → All (IsLevelBy roles nodes) (grown_links tree) × All (IsLevelBy roles nodes) (paired_links tree)
levels_in roles nodes root apart are [] joined plus minus = (All-nil (IsLevelBy roles nodes), All-nil (IsLevelBy roles nodes))
levels_in roles nodes root apart are (e ∷ es) (parent, tree, matched, joined) plus minus =
    let (grown, paired) =
    levels_in roles nodes root apart are es joined (λ n among. plus n (is_in-tail e.plus (plus_names root es) n among))
    (λ n among. minus n (is_in-tail e.minus (minus_names es) n among)) in
    let here : roles.is_minus e.minus ≡ true = minus e.minus (is_in-head e.minus (minus_names es)) in (
      All-cons (IsLevelBy roles nodes) e.tree (grown_links es)
          (level_connected roles nodes e.tree e.parent e.minus apart are
          (plus e.parent (is_in-tail e.plus (plus_names root es) e.parent parent)) here tree)
          grown,
      All-cons (IsLevelBy roles nodes) e.matched (paired_links es)
          (level_connected roles nodes e.matched e.plus e.minus apart are (plus e.plus (is_in-head e.plus (plus_names root es))) here
          (connects_sym nodes e.matched e.minus e.plus matched))
          paired,
    )

module _ (p : Problem) (nodes : List Node) (tree : List Entry) (rest : List Link) (unmatched : List ℕ) (root r : ℕ) (state : IsSearch p nodes tree rest unmatched root r) where
  tree_levels : All (IsLevelBy (roles_of root tree) nodes) (grown_links tree) × All (IsLevelBy (roles_of root tree) nodes) (paired_links tree)
  tree_levels =
      levels_in (roles_of root tree) nodes root state.matching.dual.apart (are_roles p nodes tree rest unmatched root r state) tree state.joined
      (λ n among. among) (λ n among. among)

  not_over : (test : ℕ → Bool) (v : ℕ) → ((n : ℕ) → test n ≡ true → is_in (tree_names root tree) n ≡ true)
      → ((name : ℕ) → cover_of nodes v ≡ Some name → is_in (tree_names root tree) name ≡ false) → is_covered_by test nodes v ≡ false
  not_over test v within away =
      false_from_ne_true (is_covered_by test nodes v)
      (λ over.
      let (name, cover, passing) = some_passes test (cover_of nodes v) over in
      both_ways (is_in (tree_names root tree) name) (away name cover) (within name passing))

  rest_levels : All (IsLevelBy (roles_of root tree) nodes) rest
  rest_levels i d less =
      let away = outside p nodes tree rest unmatched root r state i d less in
      level_outside (roles_of root tree) nodes (pair (get_or rest i d).from (get_or rest i d).to) state.matching.dual.apart
      state.matching.dual.names (are_roles p nodes tree rest unmatched root r state)
      (not_over (is_in (plus_names root tree)) (get_or rest i d).from (plus_in_tree root tree) away.0)
      (not_over (is_in (plus_names root tree)) (get_or rest i d).to (plus_in_tree root tree) away.1)
      (not_over (is_in (minus_names tree)) (get_or rest i d).from (minus_in_tree root tree) away.0)
      (not_over (is_in (minus_names tree)) (get_or rest i d).to (minus_in_tree root tree) away.1)

  matched_levels : All (IsLevelBy (roles_of root tree) nodes) (paired_links tree ++ rest)
  matched_levels = All-append (IsLevelBy (roles_of root tree) nodes) (paired_links tree) rest tree_levels.1 rest_levels

pub search_level : SearchLevel
search_level p nodes tree rest unmatched root r state =
    All-append (IsLevelBy (roles_of root tree) nodes) (grown_links tree) (paired_links tree ++ rest)
    (tree_levels p nodes tree rest unmatched root r state).0
    (matched_levels p nodes tree rest unmatched root r state)

-- a tree stays one where covers of the links' ends stay
pub tree_moved : (nodes others : List Node) (root : ℕ) (tree : List Entry)
    → All (λ l. (cover_of others l.from ≡ cover_of nodes l.from) × (cover_of others l.to ≡ cover_of nodes l.to)) (grown_links tree)
    → All (λ l. (cover_of others l.from ≡ cover_of nodes l.from) × (cover_of others l.to ≡ cover_of nodes l.to)) (paired_links tree)
    → IsTree nodes root tree → IsTree others root tree
tree_moved nodes others root [] grown paired joined = tt
tree_moved nodes others root (e ∷ es) grown paired (parent, tree, matched, joined) = (
  parent,
  moved e.tree e.parent e.minus (All-head Same e.tree (grown_links es) grown) tree,
  moved e.matched e.minus e.plus (All-head Same e.matched (paired_links es) paired) matched,
  tree_moved nodes others root es (All-tail Same e.tree (grown_links es) grown) (All-tail Same e.matched (paired_links es) paired) joined,
)
  where
    Same : Link → Type 0
    Same l = (cover_of others l.from ≡ cover_of nodes l.from) × (cover_of others l.to ≡ cover_of nodes l.to)

    moved : (l : Link) (a b : ℕ) → Same l → Connects nodes l a b → Connects others l a b
    moved l a b (same, alike) (inl (from, to)) = inl (same ∙ from, alike ∙ to)
    moved l a b (same, alike) (inr (to, from)) = inr (alike ∙ to, same ∙ from)

pub search_stepped : SearchStepped
search_stepped p nodes tree rest unmatched root r k low dual state = record {
  matching =
      matching_stepped p roles nodes (paired_links tree ++ rest) unmatched k are low dual
      (matched_levels p nodes tree rest unmatched root r state) state.matching;
  root_is = (
    state.root_is.0,
    ap (λ l. is_in l state.root_is.0) (leaves_stepped roles nodes k) ∙ state.root_is.1,
    cover_stepped roles nodes k state.root_is.0 ∙ state.root_is.2,
  );
  open_root = state.open_root;
  names = state.names;
  joined =
      tree_moved nodes (stepped_nodes roles k nodes) root tree
      (λ i d less. (cover_stepped roles nodes k (get_or (grown_links tree) i d).from, cover_stepped roles nodes k (get_or (grown_links tree) i d).to))
      (λ i d less. (cover_stepped roles nodes k (get_or (paired_links tree) i d).from, cover_stepped roles nodes k (get_or (paired_links tree) i d).to))
      state.joined;
  grown = record {
    tight = λ i d less. record {
      walk = (state.grown.tight i d less).walk;
      tight =
          tight_stepped p roles nodes k (get_or (grown_links tree) i d) are.exclusive low
          ((tree_levels p nodes tree rest unmatched root r state).0 i d less) (state.grown.tight i d less).tight;
    };
    own = state.grown.own;
    at_defects = subst (λ l. EndAtDefects p l (grown_links tree)) (sym (leaves_stepped roles nodes k)) state.grown.at_defects;
  };
  parity = tree_parity_stepped roles (is_in (tree_names root tree)) nodes k r state.matching.dual.apart are low (tree_in_roles root tree) state.parity;
}
  where
    roles : Roles
    roles = roles_of root tree

    are : AreRoles (roles_of root tree) nodes
    are = are_roles p nodes tree rest unmatched root r state

-- a step of the tree leaves the potentials of the other unmatched nodes
pub even_stepped : (p : Problem) (nodes : List Node) (tree : List Entry) (rest : List Link) (unmatched : List ℕ)
    (root r k : ℕ) → AllowShrinking (roles_of root tree) nodes k → IsSearch p nodes tree rest unmatched root r
    → HaveParity (is_in (names_without root unmatched)) nodes 0
    → HaveParity (is_in (names_without root unmatched)) (stepped_nodes (roles_of root tree) k nodes) 0
even_stepped p nodes tree rest unmatched root r k low state even =
    other_parity_stepped (roles_of root tree) (is_in (names_without root unmatched)) nodes k 0 state.matching.dual.apart
    (are_roles p nodes tree rest unmatched root r state) low
    (λ n among. (
      false_from_ne_true (is_in (plus_names root tree) n)
          (λ plus.
          both_ways (is_in (tree_names root tree) n) (unmatched_outside p nodes tree rest unmatched root r state n among)
          (plus_in_tree root tree n plus)),
      false_from_ne_true (is_in (minus_names tree) n)
          (λ minus.
          both_ways (is_in (tree_names root tree) n) (unmatched_outside p nodes tree rest unmatched root r state n among)
          (minus_in_tree root tree n minus)),
    ))
    even

-- a tight link between two nodes gives the one the parity of the other
pub connected_parity : (p : Problem) (nodes : List Node) (r : ℕ) (l : Link) (a b : ℕ) → IsDual p nodes → HaveOneParity nodes → AreEven p
    → IsTightLink p (all_cuts nodes) l → (a ≡ b → ⊥) → HaveParity (λ n. n == a) nodes r → Connects nodes l a b
    → HaveParity (λ n. n == b) nodes r
connected_parity p nodes r l a b dual one even tight other parity (inl (from, to)) =
    linked_parity p (λ n. n == a) nodes r l b dual one parity even tight
    (λ under. other (let h = under.1 in let k = under.2 in let same : a ≡ b = cc in same))
    (ap (passes (λ n. n == a)) from ∙ eq-eqb a a refl) to
connected_parity p nodes r l a b dual one even tight other parity (inr (to, from)) =
    linked_parity p (λ n. n == a) nodes r (record { from = l.to; to = l.from; walk = reverse l.walk }) b dual one parity even
    (turned_tight p (all_cuts nodes) l tight)
    (λ under. other (let h = under.1 in let k = under.2 in let same : a ≡ b = cc in same))
    (ap (passes (λ n. n == a)) to ∙ eq-eqb a a refl) from

pub search_attached : SearchAttached
search_attached p nodes tree e rest unmatched root r even state parent grown matched links = record {
  matching =
      matching_permuted p nodes (paired_links tree ++ e.matched ∷ rest) (e.matched ∷ (paired_links tree ++ rest)) unmatched
      (IsPermutation-middle (paired_links tree) e.matched rest) state.matching;
  root_is = state.root_is;
  open_root = state.open_root;
  names = (minus_new, (plus_new, state.names));
  joined = (parent, grown, matched, state.joined);
  grown = links_joined p nodes (e.tree ∷ []) (grown_links tree) links state.grown;
  parity = λ d name leaf cover among. by d name leaf cover (is_in-cases e.minus (e.plus ∷ tree_names root tree) name among);
}
  where
    dual : IsDual p nodes
    dual = state.matching.dual

    away : ((name : ℕ) → cover_of nodes e.matched.from ≡ Some name → is_in (tree_names root tree) name ≡ false)
        × ((name : ℕ) → cover_of nodes e.matched.to ≡ Some name → is_in (tree_names root tree) name ≡ false)
    away =
        All-head
        (λ l. ((name : ℕ) → cover_of nodes l.from ≡ Some name → is_in (tree_names root tree) name ≡ false)
        × ((name : ℕ) → cover_of nodes l.to ≡ Some name → is_in (tree_names root tree) name ≡ false)) e.matched rest
        (outside p nodes tree (e.matched ∷ rest) unmatched root r state)

    new : (a b : ℕ) → Connects nodes e.matched a b → is_in (tree_names root tree) a ≡ false
    new a b (inl (from, to)) = away.0 a from
    new a b (inr (to, from)) = away.1 a to

    plus_new : is_in (tree_names root tree) e.plus ≡ false
    plus_new = new e.plus e.minus (connects_sym nodes e.matched e.minus e.plus matched)

    -- a node has one end, not two
    both_ends : Connects nodes e.matched e.minus e.minus → ends_of_one (top_at nodes e.minus) e.matched ≡ 2
    both_ends (inl (from, to)) =
        omega (arith, ap as_count (cover_set nodes e.matched.from e.minus dual.names from).1, ap as_count (cover_set nodes e.matched.to e.minus dual.names to).1)
    both_ends (inr (to, from)) =
        omega (arith, ap as_count (cover_set nodes e.matched.from e.minus dual.names from).1, ap as_count (cover_set nodes e.matched.to e.minus dual.names to).1)

    two : e.minus ≡ e.plus → ⊥
    two same =
        let (v, cover) = connected nodes e.matched e.minus e.plus matched in
        let one =
        matched_named p nodes (paired_links tree ++ e.matched ∷ rest) unmatched e.minus (top_at nodes e.minus) state.matching
        (cover_set nodes v e.minus dual.names cover).0 in
        omega (
          arith,
          one,
          ends_append (top_at nodes e.minus) (paired_links tree) (e.matched ∷ rest),
          ends-cons (top_at nodes e.minus) e.matched rest,
          both_ends (subst (Connects nodes e.matched e.minus) (sym same) matched),
        )

    minus_new : is_in (e.plus ∷ tree_names root tree) e.minus ≡ false
    minus_new =
        false_from_ne_true (is_in (e.plus ∷ tree_names root tree) e.minus)
        (λ among. step (is_in-cases e.plus (tree_names root tree) e.minus among))
      where
        step : (e.plus ≡ e.minus) ⊎ (is_in (tree_names root tree) e.minus ≡ true) → ⊥
        step (inl same) = two (sym same)
        step (inr there) = both_ways (is_in (tree_names root tree) e.minus) (new e.minus e.plus matched) there

    parent_in : is_in (tree_names root tree) e.parent ≡ true
    parent_in = plus_in_tree root tree e.parent parent

    minus_parity : HaveParity (λ n. n == e.minus) nodes r
    minus_parity =
        connected_parity p nodes r e.tree e.parent e.minus dual state.matching.one_parity even (All-head (IsTightLink p (all_cuts nodes)) e.tree [] links.tight)
        (λ same.
        both_ways (is_in (tree_names root tree) e.minus) (new e.minus e.plus matched)
        (ap (is_in (tree_names root tree)) (sym same) ∙ parent_in))
        (λ d name leaf cover here.
        state.parity d name leaf cover (ap (is_in (tree_names root tree)) (eqb-true name e.parent here) ∙ parent_in))
        grown

    plus_parity : HaveParity (λ n. n == e.plus) nodes r
    plus_parity =
        connected_parity p nodes r e.matched e.minus e.plus dual state.matching.one_parity even
        (All-head (IsTightLink p (all_cuts nodes)) e.matched rest
        (All-right (IsTightLink p (all_cuts nodes)) (paired_links tree) (e.matched ∷ rest) state.matching.links_are.tight))
        two minus_parity matched

    by : (d name : ℕ) → is_in (leaves nodes) d ≡ true → cover_of nodes d ≡ Some name
        → (e.minus ≡ name) ⊎ (is_in (e.plus ∷ tree_names root tree) name ≡ true) → height_of (all_cuts nodes) d % 2 ≡ r
    by d name leaf cover (inl same) = minus_parity d name leaf cover (eq-eqb name e.minus (sym same))
    by d name leaf cover (inr there) = later (is_in-cases e.plus (tree_names root tree) name there)
      where
        later : (e.plus ≡ name) ⊎ (is_in (tree_names root tree) name ≡ true) → height_of (all_cuts nodes) d % 2 ≡ r
        later (inl same) = plus_parity d name leaf cover (eq-eqb name e.plus (sym same))
        later (inr among) = state.parity d name leaf cover among

pub links_left : (p : Problem) (nodes : List Node) (xs ys : List Link) → AreMatchedLinks p nodes (xs ++ ys) → AreMatchedLinks p nodes xs
links_left p nodes xs ys are = record {
  tight = All-left (IsTightLink p (all_cuts nodes)) xs ys are.tight;
  own = All-left (IsLinkOf p) xs ys are.own;
  at_defects = All-left
      (EndsAtDefects p (leaves nodes))
      xs ys are.at_defects;
}

pub links_right : (p : Problem) (nodes : List Node) (xs ys : List Link) → AreMatchedLinks p nodes (xs ++ ys) → AreMatchedLinks p nodes ys
links_right p nodes xs ys are = record {
  tight = All-right (IsTightLink p (all_cuts nodes)) xs ys are.tight;
  own = All-right (IsLinkOf p) xs ys are.own;
  at_defects = All-right
      (EndsAtDefects p (leaves nodes))
      xs ys are.at_defects;
}
