-- A step of all trees keeps what is kept while they grow.
use Rattle.std.proofs.Common.{ℕ, ◌≡◌, ◌+◌, ◌%◌, ◌^◌, ◌≤◌, length, List, ◌++◌, refl, sym, ap, ◌∙◌, subst, arith}
use Rattle.std.proofs.lemmas.List.Elements.{All-weaker}
use Rattle.fb_graph.specs.Problem.{Problem}
use Rattle.fb_graph.specs.Limits.{DecodingGraph, IsWithinLimits, no_shot}
use Rattle.fb_graph.specs.Covers.{is_covered_by, passes}
use Rattle.fb_graph.specs.Dual.{Node, all_cuts, height_of}
use Rattle.fb_graph.specs.Steps.{MayStep, Roles, stepped_node, stepped_nodes}
use Rattle.fb_graph.proofs.MappedNodes.{mapped_live, mapped_outer}
use Rattle.fb_graph.proofs.StepHeights.{height_stepped}
use Rattle.fb_laws.specs.ForestMoves.{ForestStateStepped}
use Rattle.fb_laws.specs.ForestStates.{IsForestState}
use Rattle.fb_half.specs.Matchings.{IsMatchOf, IsMatchingOf, MatchingValue, match_links}
use Rattle.fb_half.specs.Parts.{AreLinksOf, graph_in, problem_in}
use Rattle.fb_half.specs.Translations.{link_by}
use Rattle.fb_obstacles.specs.Obstacles.{AreMinusBounded, slack_at}
use Rattle.fb_obstacles.specs.Watched.{AreBounded}
use Rattle.fb_plan.specs.Plans.{PlanTree, problem_at}
use Rattle.fb_regions.proofs.Readings.{height-le}
use Rattle.fb_trees.specs.Forests.{all_roles, trees_in}
use Rattle.fb_trees.specs.TreesOver.{AreTreesOver}
use Rattle.fb_search.specs.InternalGrowing.{GrowingValue, IsGrowing, all_along, forest_state_at, grown_ids, roles_among}
use Rattle.fb_search.specs.InternalGrowth.{grown_by}
use Rattle.fb_search.specs.InternalGrowth.{lowered_by}
use Rattle.fb_search.proofs.GrowingRoles.{all_are, part_even, roles_are_all, roles_numbers, some_plus}
use Rattle.fb_search.proofs.KeptBounds.{bounded_stepped}
use Rattle.fb_search.proofs.MinusBounds.{minus_stepped}
use Rattle.fb_search.proofs.Relayered.{agreed_relayered, ring_relayered}
use Rattle.fb_search.proofs.SteppedSearches.{kept_stepped, match_stepped, risen-le, watch_stepped}

-- matches stay those of the same nodes
pub listed_stepped : (roles : Roles) (k : ℕ) (nodes : List Node) (p : Problem) (table : List _) (m : MatchingValue) (others : List ℕ)
    → IsMatchingOf p nodes table m others → IsMatchingOf p (stepped_nodes roles k nodes) table m others
listed_stepped roles k nodes p table m others are = record {
  distinct = are.distinct;
  live = λ x listed. (
    mapped_live (stepped_node roles k) (λ n. refl) nodes x ∙ (are.live x listed).0,
    mapped_outer (stepped_node roles k) (λ n. refl) nodes x ∙ (are.live x listed).1,
  );
  all = λ x live outer.
      are.all x (sym (mapped_live (stepped_node roles k) (λ n. refl) nodes x) ∙ live)
      (sym (mapped_outer (stepped_node roles k) (λ n. refl) nodes x) ∙ outer);
  connects =
      All-weaker (λ e. IsMatchOf p nodes (link_by table e.link) e.first e.second)
      (λ e. IsMatchOf p (stepped_nodes roles k nodes) (link_by table e.link) e.first e.second)
      (λ e is. match_stepped roles k nodes p (link_by table e.link) e.first e.second is)
      m.matches are.connects;
}

pub growing_stepped : ForestStateStepped → (w : GrowingValue) (k : ℕ) → IsGrowing w → IsWithinLimits (problem_in w.part)
    → MayStep (problem_in w.part) (all_roles (trees_in w.forest)) w.part.nodes k → IsGrowing (grown_by k w)
growing_stepped law w k are limits may =
    let roles : Roles = all_roles (trees_in w.forest) in
    let parity = are.state.0 in
    let same : roles_among w.forest ≡ roles = roles_are_all w parity are.state.1 in
    record {
      job = are.job;
      slot = are.slot;
      node = are.node;
      state = (
        (parity + k) % 2,
        subst (λ rs. IsForestState (problem_in w.part) (record (forest_state_at w ((parity + k) % 2)) { nodes = stepped_nodes rs k w.part.nodes }))
            (roles_numbers w.part.links (trees_in w.forest))
            (law (problem_in w.part) (forest_state_at w parity) k limits (part_even w.part are.job are.slot)
            (subst (λ rs. MayStep (problem_in w.part) rs w.part.nodes k) (sym (roles_numbers w.part.links (trees_in w.forest))) may) are.state.1),
      );
      agreed = agreed_relayered (stepped_node roles k) w.part.nodes (kept_stepped roles k w.part.nodes) w.part.store are.agreed;
      links =
          subst (λ rings. AreLinksOf (problem_in w.part) w.part.links (grown_ids (trees_in w.forest) ++ (match_links w.part.matching.matches ++ rings)))
          (sym (ring_relayered (stepped_node roles k) w.part.nodes (kept_stepped roles k w.part.nodes) w.part.store)) are.links;
      matching =
          listed_stepped roles k w.part.nodes (problem_in w.part) w.part.links w.part.matching (all_along (trees_in w.forest)) are.matching;
      room = are.room;
      watch = watch_stepped roles k w.part.nodes (problem_in w.part) (roles_among w.forest) w.watched.edges are.watch;
      bounds =
          subst (λ rs. AreBounded (slack_at (problem_in w.part) rs (stepped_nodes roles k w.part.nodes)) (lowered_by k w.watched)) (sym same)
          (bounded_stepped roles w.part.nodes k are.state.1.nest.dual.apart (all_are w parity are.state.1) may.tops (problem_in w.part)
          w.watched (subst (λ rs. AreBounded (slack_at (problem_in w.part) rs w.part.nodes) w.watched) same are.bounds));
      minus =
          subst (λ rs. AreMinusBounded rs (stepped_nodes roles k w.part.nodes) (lowered_by k w.watched)) (sym same)
          (minus_stepped roles k w.part.nodes w.watched (lowered_by k w.watched) (all_are w parity are.state.1).exclusive may.tops refl
          (subst (λ rs. AreMinusBounded rs w.part.nodes w.watched) same are.minus));
    }

-- A step is no longer than the greatest potential after it.
pub grown_fits : (w : GrowingValue) (k : ℕ) → 1 ≤ length (trees_in w.forest) → IsGrowing w → IsGrowing (grown_by k w)
    → MayStep (problem_in w.part) (all_roles (trees_in w.forest)) w.part.nodes k → k ≤ 2 ^ 52
grown_fits w k some are after may =
    let roles : Roles = all_roles (trees_in w.forest) in
    let over = all_are w are.state.0 are.state.1 in
    let (n, outer, plus) = some_plus w are.state.0 are.state.1 some in
    let (d, leaf, cover) = outer in
    let least =
    risen-le k (height_of (all_cuts w.part.nodes) d) (height_of (all_cuts (stepped_nodes roles k w.part.nodes)) d)
    (is_covered_by roles.is_minus w.part.nodes d) (is_covered_by roles.is_plus w.part.nodes d)
    (height_stepped roles w.part.nodes k d are.state.1.nest.dual.apart over may.tops)
    (ap (passes roles.is_minus) cover ∙ over.exclusive n plus) (ap (passes roles.is_plus) cover ∙ plus) in
    omega (arith, least, height-le (problem_in w.part) (stepped_nodes roles k w.part.nodes) d after.state.1.nest)

-- The problem of the part's scope has no defects; a step doesn't ask for them.
pub trees_in_scope : (w : GrowingValue) (g : DecodingGraph) (t : PlanTree) (n : ℕ) → g ≡ graph_in w.part
    → AreTreesOver (problem_in w.part) (trees_in w.forest) w.part.nodes
    → AreTreesOver (problem_at g t n no_shot) (trees_in w.forest) w.part.nodes
trees_in_scope w g t n eg over =
    rw eg (record {
      roles = over.roles;
      plus_once = over.plus_once;
      minus_once = over.minus_once;
      plus_live = over.plus_live;
      minus_live = over.minus_live;
      crossed = λ name plus. over.crossed name plus;
    })

pub grown_in_scope : (w : GrowingValue) (g : DecodingGraph) (t : PlanTree) (n k : ℕ) (roles : Roles) → g ≡ graph_in w.part
    → MayStep (problem_in w.part) roles w.part.nodes k → MayStep (problem_at g t n no_shot) roles w.part.nodes k
grown_in_scope w g t n k roles eg may = rw eg (record { edges = may.edges; tops = may.tops })

-- the step that is allowed by the roles of the trees
pub may_grow : (w : GrowingValue) (k : ℕ) → IsGrowing w → MayStep (problem_in w.part) (roles_among w.forest) w.part.nodes k
    → MayStep (problem_in w.part) (all_roles (trees_in w.forest)) w.part.nodes k
may_grow w k are may =
    subst (λ r. MayStep (problem_in w.part) r w.part.nodes k) (roles_are_all w are.state.0 are.state.1) may
