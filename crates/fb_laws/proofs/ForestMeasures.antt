-- Each move of several trees leaves less to do.
use Rattle.std.proofs.Common.{ℕ, ◌≡◌, ◌⊎◌, ◌≤◌, inl, inr, Bool, true, false, List, [], ◌∷◌, ◌++◌, map, length, refl, sym, ap, ◌∙◌, subst, arith}
use Rattle.std.proofs.lemmas.Bool.{both_ways, false_from_ne_true}
use Rattle.fb_graph.specs.Parity.{is_in}
use Rattle.fb_graph.specs.Problem.{Problem}
use Rattle.fb_graph.specs.Laws.{Link}
use Rattle.fb_graph.specs.Dual.{is_live}
use Rattle.fb_graph.proofs.Among.{among_right}
use Rattle.fb_graph.proofs.Floods.{is_in-both, is_in-left, is_in-right}
use Rattle.fb_graph.proofs.Sets.{is_in-head, is_in-tail}
use Rattle.fb_laws.specs.Forests.{AnyTree, attached_tree, forest_names, forest_paired, forest_plus, forest_roles}
use Rattle.fb_laws.specs.ForestMeasures.{ForestAbsorbedLess, ForestAttachedLess, ForestClosedLess, ForestOpenedLess, ForestRoundedLess, ForestSteppedLess, ForestUncoveredLess, forest_to_do}
use Rattle.fb_laws.specs.ForestStates.{IsForestState, among_trees, tree_of}
use Rattle.fb_laws.specs.Forming.{Child, names_of}
use Rattle.fb_laws.specs.Measures.{IsLower}
use Rattle.fb_laws.specs.OpenedCycles.{last_of, opened_tree, paired_of}
use Rattle.fb_laws.specs.PartStates.{SearchState}
use Rattle.fb_laws.specs.SearchBlossoms.{IsJoining, child_at, joined_tree, renamed_name}
use Rattle.fb_laws.specs.SearchLayers.{left_to_do}
use Rattle.fb_laws.specs.Searches.{IsSearch}
use Rattle.fb_laws.specs.StateBlossoms.{joined_state}
use Rattle.fb_laws.specs.TreeCycles.{cycle_links, cycle_nodes, last_plus}
use Rattle.fb_laws.specs.Trees.{minus_names, plus_names, tree_names}
use Rattle.fb_laws.proofs.ForestBlossoms.{formed_dual, named, not_joined}
use Rattle.fb_laws.proofs.ForestMoves.{forest_state_attached}
use Rattle.fb_laws.proofs.ForestStates.{each_first, forest_tree, tree_apart}
use Rattle.fb_laws.proofs.ForestSteps.{exclusive_forest, plus_in_forest}
use Rattle.fb_laws.proofs.JoinedTrees.{new_out, plus_kept}
use Rattle.fb_laws.proofs.LoweredParts.{blossom_lowers, free_lowers, plus_lowers, set_outer}
use Rattle.fb_laws.proofs.MoveBridges.{absorbed_lowers, some_minus, uncovered_lowers}
use Rattle.fb_laws.proofs.OpenedBlossoms.{same_permuted}
use Rattle.fb_laws.proofs.OpenedCycles.{still_plus}
use Rattle.fb_laws.proofs.SearchStates.{named_set}
use Rattle.fb_laws.proofs.SearchTrees.{exclusive_names, minus_in_tree, plus_in_tree}
use Rattle.fb_laws.proofs.StateBlossoms.{ring_joining, ring_some, rounded_joining}
use Rattle.fb_laws.proofs.StateMeasures.{split_lowers}
use Rattle.fb_laws.proofs.TreeCycles.{names_at}
use Rattle.fb_laws.proofs.TreePaths.{among_minus}

pub forest_stepped_less : ForestSteppedLess
forest_stepped_less p s k = free_lowers p s.nodes (forest_roles s.trees) k

pub forest_absorbed_less : ForestAbsorbedLess
forest_absorbed_less p s name k u v free freed limits may plus state =
    absorbed_lowers p s.nodes (forest_roles s.trees) name k u v free freed limits may state.nest plus

pub forest_uncovered_less : ForestUncoveredLess
forest_uncovered_less p s name free freed may minus state =
    uncovered_lowers p s.nodes (forest_roles s.trees) name free freed may state.nest minus
    (false_from_ne_true (is_in (forest_plus s.trees) name)
    (λ plus. exclusive_forest s.trees state.forest.names name plus minus))

-- the plus nodes of one tree, or of those beside it
plus_cases : (before after : List AnyTree) (t : AnyTree) (n : ℕ) → is_in (forest_plus (before ++ t ∷ after)) n ≡ true
    → (is_in (plus_names t.root t.branches) n ≡ true) ⊎ (is_in (forest_plus (before ++ after)) n ≡ true)
plus_cases before after t n plus =
    is_in-both (plus_names t.root t.branches) (forest_plus (before ++ after)) n
    (same_permuted (forest_plus (before ++ t ∷ after)) (plus_names t.root t.branches ++ forest_plus (before ++ after))
    (each_first (λ u. plus_names u.root u.branches) before after t) n
    ∙ plus)

plus_there : (before after : List AnyTree) (t : AnyTree) (n : ℕ)
    → (is_in (plus_names t.root t.branches) n ≡ true) ⊎ (is_in (forest_plus (before ++ after)) n ≡ true)
    → is_in (forest_plus (before ++ t ∷ after)) n ≡ true
plus_there before after t n which =
    sym
    (same_permuted (forest_plus (before ++ t ∷ after)) (plus_names t.root t.branches ++ forest_plus (before ++ after))
    (each_first (λ u. plus_names u.root u.branches) before after t) n)
    ∙ either which
  where
    either : (is_in (plus_names t.root t.branches) n ≡ true) ⊎ (is_in (forest_plus (before ++ after)) n ≡ true)
        → is_in (plus_names t.root t.branches ++ forest_plus (before ++ after)) n ≡ true
    either (inl here) = is_in-left (plus_names t.root t.branches) (forest_plus (before ++ after)) n here
    either (inr there) = is_in-right (plus_names t.root t.branches) (forest_plus (before ++ after)) n there

-- a tree whose plus nodes stay plus in another one in its place
plus_wider : (before after : List AnyTree) (t new : AnyTree)
    → ((n : ℕ) → is_in (plus_names t.root t.branches) n ≡ true → is_in (plus_names new.root new.branches) n ≡ true)
    → (n : ℕ) → is_in (forest_plus (before ++ t ∷ after)) n ≡ true → is_in (forest_plus (before ++ new ∷ after)) n ≡ true
plus_wider before after t new wider n plus = plus_there before after new n (either (plus_cases before after t n plus))
  where
    either : (is_in (plus_names t.root t.branches) n ≡ true) ⊎ (is_in (forest_plus (before ++ after)) n ≡ true)
        → (is_in (plus_names new.root new.branches) n ≡ true) ⊎ (is_in (forest_plus (before ++ after)) n ≡ true)
    either (inl here) = inl (wider n here)
    either (inr there) = inr there

-- a name of one tree that isn't plus there isn't plus elsewhere
not_plus : (p : Problem) (before after : List AnyTree) (waiting : List ℕ) (s : SearchState) (n : ℕ)
    → IsForestState p (among_trees before after waiting s) → is_in (tree_names s.root s.tree) n ≡ true
    → is_in (plus_names s.root s.tree) n ≡ false
    → is_in (forest_plus (before ++ tree_of s ∷ after)) n ≡ false
not_plus p before after waiting s n state within out =
    false_from_ne_true (is_in (forest_plus (before ++ tree_of s ∷ after)) n) (λ plus. by (plus_cases before after (tree_of s) n plus))
  where
    by : (is_in (plus_names s.root s.tree) n ≡ true) ⊎ (is_in (forest_plus (before ++ after)) n ≡ true) → ⊥
    by (inl here) = both_ways (is_in (plus_names s.root s.tree) n) out here
    by (inr there) =
        both_ways (is_in (forest_names (before ++ after)) n)
        (tree_apart p s.nodes before after (tree_of s) s.rest s.unmatched waiting s.parity state.forest n within)
        (plus_in_forest (before ++ after) n there)

pub forest_attached_less : ForestAttachedLess
forest_attached_less p before after waiting s e rest free freed even may state =
    plus_lowers p s.nodes (forest_roles (before ++ tree_of s ∷ after)) (forest_roles (before ++ new ∷ after)) e.plus free freed
    (set_outer p s.nodes e.plus later.nest.dual
    (named_set p s.nodes new.branches (forest_paired (before ++ after) ++ rest) s.unmatched s.root s.parity found e.plus e_plus_in))
    (false_from_ne_true (is_in (forest_plus (before ++ tree_of s ∷ after)) e.plus)
    (λ plus. by (plus_cases before after (tree_of s) e.plus plus)))
    (plus_there before after new e.plus (inl (is_in-head e.plus (plus_names s.root s.tree))))
    (plus_wider before after (tree_of s) new (λ n plus. is_in-tail e.plus (plus_names s.root s.tree) n plus))
  where
    new : AnyTree
    new = attached_tree (tree_of s) e

    later : IsForestState p (record {
      nodes = s.nodes;
      cycles = s.cycles;
      trees = before ++ attached_tree (tree_of s) e ∷ after;
      rest = rest;
      unmatched = s.unmatched;
      waiting = waiting;
      parity = s.parity;
    })
    later = forest_state_attached p before after waiting s e rest even may state

    found : IsSearch p s.nodes (e ∷ s.tree) (forest_paired (before ++ after) ++ rest) s.unmatched s.root s.parity
    found = forest_tree p s.nodes before after (attached_tree (tree_of s) e) rest s.unmatched waiting s.parity later.forest

    e_plus_in : is_in (tree_names s.root (e ∷ s.tree)) e.plus ≡ true
    e_plus_in = plus_in_tree s.root (e ∷ s.tree) e.plus (is_in-head e.plus (plus_names s.root s.tree))

    by : (is_in (plus_names s.root s.tree) e.plus ≡ true) ⊎ (is_in (forest_plus (before ++ after)) e.plus ≡ true) → ⊥
    by (inl here) = both_ways (is_in (tree_names s.root s.tree) e.plus) found.names.1.0 (plus_in_tree s.root s.tree e.plus here)
    by (inr there) =
        both_ways (is_in (forest_names (before ++ after)) e.plus)
        (tree_apart p s.nodes before after (attached_tree (tree_of s) e) rest s.unmatched waiting s.parity later.forest e.plus e_plus_in)
        (plus_in_forest (before ++ after) e.plus there)

-- branches of one tree joined, of which one has a minus node
forest_joined_less : (p : Problem) (before after : List AnyTree) (waiting : List ℕ) (s : SearchState) (name : ℕ) (base : Child)
    (others : List Child) (links : List Link) (free freed : Bool) → IsJoining s.nodes s.tree s.root name base others → 1 ≤ length others
    → is_live s.nodes name ≡ false → IsForestState p (among_trees before after waiting s)
    → IsLower (forest_to_do p (among_trees before after waiting (joined_state name (names_of (base ∷ others)) links s)) freed)
    (forest_to_do p (among_trees before after waiting s) free)
forest_joined_less p before after waiting s name base others links free freed joining some fresh state =
    let (minus, among, inner) = some_minus joins s.tree (omega (arith, some, joining.even)) in
    let within : is_in (tree_names s.root s.tree) minus ≡ true = minus_in_tree s.root s.tree minus among in
    subst
    (λ ns. IsLower (left_to_do p ns (forest_roles (before ++ new ∷ after)) freed)
    (left_to_do p s.nodes (forest_roles (before ++ tree_of s ∷ after)) free))
    (named p before after waiting s name base others joining some fresh state)
    (blossom_lowers p s.nodes (forest_roles (before ++ tree_of s ∷ after)) (forest_roles (before ++ new ∷ after)) name base others
    minus free freed joining.nodes_are state.nest.dual (formed_dual p before after waiting s name base others joining some fresh state)
    joining.fresh
    (λ n plus. plus_there before after new (renamed_name joins name n) (still n (plus_cases before after (tree_of s) n plus)))
    (plus_there before after (tree_of s) base.name (inl joining.plus))
    (set_outer p s.nodes minus state.nest.dual
    (named_set p s.nodes s.tree (forest_paired (before ++ after) ++ s.rest) s.unmatched s.root s.parity search minus within))
    (not_plus p before after waiting s minus state within
    (false_from_ne_true (is_in (plus_names s.root s.tree) minus)
    (λ plus. both_ways (is_in (minus_names s.tree) minus) (exclusive_names s.root s.tree search.names minus plus) among)))
    inner)
  where
    joins : ℕ → Bool
    joins = is_in (names_of (base ∷ others))

    new : AnyTree
    new =
        record {
          root = renamed_name (is_in (names_of (base ∷ others))) name s.root;
          branches = joined_tree (is_in (names_of (base ∷ others))) name s.tree;
        }

    search : IsSearch p s.nodes s.tree (forest_paired (before ++ after) ++ s.rest) s.unmatched s.root s.parity
    search = forest_tree p s.nodes before after (tree_of s) s.rest s.unmatched waiting s.parity state.forest

    still : (n : ℕ) → (is_in (plus_names s.root s.tree) n ≡ true) ⊎ (is_in (forest_plus (before ++ after)) n ≡ true)
        → (is_in (plus_names new.root new.branches) (renamed_name (is_in (names_of (base ∷ others))) name n) ≡ true)
        ⊎ (is_in (forest_plus (before ++ after)) (renamed_name (is_in (names_of (base ∷ others))) name n) ≡ true)
    still n (inl here) =
        inl (plus_kept (is_in (names_of (base ∷ others))) name base.name s.root s.nodes s.tree search.joined joining.branches n here)
    still n (inr there) =
        inr
        (ap (is_in (forest_plus (before ++ after)))
        (new_out (is_in (names_of (base ∷ others))) name base.name s.root n
        (not_joined p before after waiting s name base others joining some fresh state n (plus_in_forest (before ++ after) n there)))
        ∙ there)

pub forest_closed_less : ForestClosedLess
forest_closed_less p before after waiting s name a b closing shared up down free freed may paths state =
    let search = forest_tree p s.nodes before after (tree_of s) s.rest s.unmatched waiting s.parity state.forest in
    let rest : List Link = forest_paired (before ++ after) ++ s.rest in
    subst
    (λ names.
    IsLower
    (forest_to_do p
    (among_trees before after waiting (joined_state name (last_plus s.root shared ∷ names) (cycle_links up closing down) s)) freed)
    (forest_to_do p (among_trees before after waiting s) free))
    (names_at s.nodes (cycle_nodes up down))
    (forest_joined_less p before after waiting s name (child_at s.nodes (last_plus s.root shared))
    (map (child_at s.nodes) (cycle_nodes up down)) (cycle_links up closing down) free freed
    (ring_joining p s name a b closing shared up down may paths rest state.nest search)
    (ring_some p s name a b closing shared up down may paths rest state.nest search) may.fresh state)

pub forest_rounded_less : ForestRoundedLess
forest_rounded_less p before after waiting s name newer older e closing free freed tree_is closes tight fresh state =
    let search = forest_tree p s.nodes before after (tree_of s) s.rest s.unmatched waiting s.parity state.forest in
    forest_joined_less p before after waiting s name (child_at s.nodes e.parent) (child_at s.nodes e.minus ∷ child_at s.nodes e.plus ∷ [])
    (e.tree ∷ e.matched ∷ closing ∷ []) free freed
    (rounded_joining p s name newer older e closing tree_is closes tight fresh (forest_paired (before ++ after) ++ s.rest) state.nest
    search)
    (omega arith) fresh state

pub forest_opened_less : ForestOpenedLess
forest_opened_less p before after waiting s newer older e from way couples free freed tree_is may cycle state =
    split_lowers p s.nodes e.minus (last_of from way ∷ paired_of from way couples) (forest_roles (before ++ tree_of s ∷ after))
    (forest_roles (before ++ record { root = s.root; branches = opened_tree newer e older from way } ∷ after)) free freed state.nest
    may cycle.split
    (not_plus p before after waiting s e.minus state (minus_in_tree s.root s.tree e.minus minus)
    (false_from_ne_true (is_in (plus_names s.root s.tree) e.minus)
    (λ plus. both_ways (is_in (minus_names s.tree) e.minus) (exclusive_names s.root s.tree search.names e.minus plus) minus)))
    (plus_wider before after (tree_of s) (record { root = s.root; branches = opened_tree newer e older from way })
    (λ n plus. still_plus newer older e s.root from n way (ap (λ t. is_in (plus_names s.root t) n) (sym tree_is) ∙ plus)))
  where
    search : IsSearch p s.nodes s.tree (forest_paired (before ++ after) ++ s.rest) s.unmatched s.root s.parity
    search = forest_tree p s.nodes before after (tree_of s) s.rest s.unmatched waiting s.parity state.forest

    minus : is_in (minus_names s.tree) e.minus ≡ true
    minus =
        ap (λ t. is_in (minus_names t) e.minus) tree_is
        ∙ among_minus (newer ++ e ∷ older) e (among_right newer (e ∷ older) e (inl refl))
