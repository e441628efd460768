-- Trees that begin at some of the unmatched nodes keep what is kept while they grow.
use Rattle.std.proofs.Common.{ℕ, ◌≡◌, ◌<◌, ◌⊎◌, inl, inr, Bool, true, false, List, [], ◌∷◌, ◌++◌, map, length, All, Option, refl, sym, ap, ◌∙◌, subst, le_refl, arith, if◌then◌else◌}
use Rattle.fb_graph.specs.Parity.{is_in}
use Rattle.fb_graph.specs.Problem.{Problem, edge_at, touches}
use Rattle.fb_graph.specs.Certificate.{AreDistinct}
use Rattle.fb_graph.specs.Limits.{IsWithinLimits}
use Rattle.fb_graph.specs.Covers.{is_covered_by}
use Rattle.fb_links.specs.declared.walk.Step.{Step}
use Rattle.fb_graph.proofs.Sets.{is_in-All}
use Rattle.fb_graph.proofs.Unions.{distinct_append}
use Rattle.fb_laws.specs.Forests.{bare_tree}
use Rattle.fb_laws.specs.ForestStates.{IsForestState, with_trees}
use Rattle.fb_laws.proofs.ForestParts.{forest_state_begins}
use Rattle.fb_laws.proofs.SearchTrees.{cover_set}
use Rattle.fb_half.specs.Matchings.{IsMatchingOf}
use Rattle.fb_half.specs.Parts.{AreLinksOf, IsPart, PartValue, kept_links, problem_in, state_of}
use Rattle.fb_regions.specs.Paces.{grows}
use Rattle.fb_obstacles.specs.Obstacles.{slack_at}
use Rattle.fb_obstacles.specs.Watched.{Watched}
use Rattle.fb_regions.specs.declared.roles.Role.TheVariants.{Plus, Minus, Out}
use Rattle.fb_trees.specs.Branches.{Grown}
use Rattle.fb_trees.specs.Forests.{all_minus, all_plus, bare_trees, trees_in}
use Rattle.fb_search.specs.InternalGrowing.{GrowingValue, IsGrowing, all_along, grown_ids, roles_among, roots_in, tree_by, waiting_in}
use Rattle.fb_search.specs.InternalGrowingEnds.{WatchesEach}
use Rattle.fb_search.proofs.BegunSearches.{touches_first, touches_second}
use Rattle.fb_search.proofs.GrowingMinus.{minus_bare}
use Rattle.fb_search.proofs.TakenVertices.{plus_over}
use Rattle.fb_search.proofs.WaitingNames.{root_apart, roots_or_wait, waiting_distinct}

-- trees of their roots alone
bare_linked : (table : List (Option (List Step))) (names : List ℕ)
    → map (tree_by table) (trees_in (bare_trees names)) ≡ map bare_tree names
bare_linked table [] = refl
bare_linked table (n ∷ ns) = ap (λ l. bare_tree n ∷ l) (bare_linked table ns)

bare_ids : (names : List ℕ) → grown_ids (trees_in (bare_trees names)) ≡ []
bare_ids [] = refl
bare_ids (n ∷ ns) = bare_ids ns

bare_along : (names : List ℕ) → all_along (trees_in (bare_trees names)) ≡ []
bare_along [] = refl
bare_along (n ∷ ns) = bare_along ns

pub bare_names : (names : List ℕ) → roots_in (bare_trees names) ≡ names
bare_names [] = refl
bare_names (n ∷ ns) = ap (λ l. n ∷ l) (bare_names ns)

pub bare_plus : (names : List ℕ) → all_plus (trees_in (bare_trees names)) ≡ names
bare_plus [] = refl
bare_plus (n ∷ ns) = ap (λ l. n ∷ l) (bare_plus ns)

-- a node that the roles let grow is a plus node
pub plus_named : (forest : List (Option Grown)) (name : ℕ) → (roles_among forest).is_plus name ≡ true
    → is_in (all_plus (trees_in forest)) name ≡ true
plus_named forest name h = by (is_in (all_plus (trees_in forest)) name) (is_in (all_minus (trees_in forest)) name) h
  where
    by : (plus minus : Bool) → grows (if plus then Plus else (if minus then Minus else Out)) ≡ true → plus ≡ true
    by true minus h = refl
    by false true h = h
    by false false h = h

abbrev pub begun_growing : List ℕ → PartValue → Watched → GrowingValue
begun_growing names part watched = record { part = part; forest = bare_trees names; watched = watched }

pub growing_begun : (names : List ℕ) (part : PartValue) (old new : Watched) → AreDistinct names
    → All (λ n. is_in part.matching.unmatched n ≡ true) names → IsPart part → IsWithinLimits (problem_in part)
    → All (λ e. e < new.edge_count) new.edges → old.edge_count ≡ length (problem_in part).edges → old.edges ≡ []
    → WatchesEach (problem_in part) part.nodes names old new → IsGrowing (begun_growing names part new)
growing_begun names part old new distinct unmatched are limits within room empty watched = record {
  job = are.job;
  slot = are.slot;
  node = are.node;
  state = (
    0,
    subst (λ ts. IsForestState p (with_trees ts (waiting_in w) 0 (state_of part))) (sym (bare_linked part.links names))
        (forest_state_begins p (state_of part) names (waiting_in w) are.state once outside),
  );
  agreed = are.agreed;
  links = subst (λ ids. AreLinksOf p part.links (ids ++ kept_links part)) (sym (bare_ids names)) are.links;
  matching = subst (λ others. IsMatchingOf p part.nodes part.links part.matching others) (sym (bare_along names)) are.matching;
  room = watched.room ∙ room;
  watch = record {
    within = rw (← watched.room ∙ room) within;
    near = λ k less over apart. near k less over;
  };
  bounds = watched.bounds slack slack (λ k away. le_refl (slack k)) (λ i less. absurd (omega (arith, ap length empty, less)));
  minus = minus_bare names part.nodes new;
}
  where
    p : Problem
    p = problem_in part

    w : GrowingValue
    w = begun_growing names part new

    rooted : (n : ℕ) → is_in (roots_in w.forest) n ≡ true → is_in part.matching.unmatched n ≡ true
    rooted n h = is_in-All (λ m. is_in part.matching.unmatched m ≡ true) names unmatched n (ap (λ l. is_in l n) (sym (bare_names names)) ∙ h)

    outside : (n : ℕ) → is_in part.matching.unmatched n ≡ is_in (names ++ waiting_in w) n
    outside n = roots_or_wait w rooted n ∙ ap (λ l. is_in (l ++ waiting_in w) n) (bare_names names)

    once : AreDistinct (names ++ waiting_in w)
    once =
        distinct_append names (waiting_in w) distinct (waiting_distinct w are.state.names.distinct)
        (λ n here. root_apart w n (ap (λ l. is_in l n) (bare_names names) ∙ here))

    slack : ℕ → ℕ
    slack = slack_at p (roles_among (bare_trees names)) part.nodes

    at : (v k : ℕ) → is_covered_by (roles_among (bare_trees names)).is_plus part.nodes v ≡ true → k < length p.edges
        → touches v (edge_at p.edges k) ≡ true → is_in new.edges k ≡ true
    at v k over less touch =
        let (name, covered, plus) = plus_over (roles_among (bare_trees names)).is_plus part.nodes v over in
        watched.near name v k (ap (λ l. is_in l name) (sym (bare_plus names)) ∙ plus_named (bare_trees names) name plus)
        (cover_set part.nodes v name are.state.work.nest.dual.names covered).1 less touch

    near : (k : ℕ) → k < length p.edges
        → (is_covered_by (roles_among (bare_trees names)).is_plus part.nodes (edge_at p.edges k).first ≡ true)
        ⊎ (is_covered_by (roles_among (bare_trees names)).is_plus part.nodes (edge_at p.edges k).second ≡ true) → is_in new.edges k ≡ true
    near k less (inl over) = at (edge_at p.edges k).first k over less (touches_first p k limits less)
    near k less (inr over) = at (edge_at p.edges k).second k over less (touches_second p k limits less)
