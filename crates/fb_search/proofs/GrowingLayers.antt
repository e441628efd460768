-- A vertex that a plus node absorbs, and an empty layer that is taken off a minus node, keep what is kept while trees grow, and
-- leave less to do.
use Rattle.std.proofs.Common.{ℕ, ◌≡◌, ◌+◌, ◌*◌, ◌<◌, ◌++◌, true, false, List, length, map, All, Some, None, IsSome, refl, sym, ap, ◌∙◌, inr, subst, le_refl, arith}
use Rattle.std.specs.List.{last_or}
use Rattle.fb_graph.specs.Problem.{Problem, edge_at}
use Rattle.fb_graph.specs.declared.parts.Edge.{Edge}
use Rattle.fb_graph.specs.Alike.{AreAlike}
use Rattle.fb_graph.specs.Limits.{IsWithinLimits}
use Rattle.fb_graph.specs.Dual.{Node, all_cuts, cover_of, height_of, is_outer, leaves, taller_node, top_at}
use Rattle.fb_graph.specs.Moves.{MayAbsorb, MayUncover, absorbed_nodes, uncovered_nodes, without_top}
use Rattle.fb_graph.specs.Steps.{Roles}
use Rattle.fb_graph.proofs.Among.{cover_among}
use Rattle.fb_graph.proofs.ChangedNodes.{change, first_taller, kept_by}
use Rattle.fb_graph.proofs.LoweredNests.{kept}
use Rattle.fb_graph.proofs.MappedNodes.{AreKept}
use Rattle.fb_graph.proofs.Nodes.{All-right}
use Rattle.fb_graph.proofs.TallerNodes.{taller_alike}
use Rattle.fb_graph.proofs.TightLinks.{all_even}
use Rattle.fb_laws.specs.ForestMeasures.{ForestAbsorbedLess, ForestUncoveredLess}
use Rattle.fb_laws.specs.ForestMoves.{ForestStateAbsorbed, ForestStateUncovered, relayered_forest}
use Rattle.fb_laws.specs.Forests.{forest_paired, forest_roles}
use Rattle.fb_laws.specs.ForestStates.{IsForestState}
use Rattle.fb_laws.specs.Measures.{IsLower}
use Rattle.fb_laws.specs.NestBridges.{IsGivenUp}
use Rattle.fb_laws.specs.Opening.{EndsAtDefects}
use Rattle.fb_laws.specs.SearchLayers.{left_to_do}
use Rattle.fb_laws.proofs.MoveBridges.{no_leaf}
use Rattle.fb_regions.specs.Moves.{absorbed_over, inner_end, outer_end}
use Rattle.fb_half.specs.Matchings.{match_links}
use Rattle.fb_half.specs.Parts.{AreLinksOf, problem_in}
use Rattle.fb_trees.specs.Forests.{role_among, trees_in}
use Rattle.fb_trees.proofs.TightWalks.{ends_told}
use Rattle.fb_obstacles.specs.InternalWatching.{WatchesTaken}
use Rattle.fb_obstacles.specs.Obstacles.{AreMinusBounded, IsAbsorb, IsWatched, slack_at}
use Rattle.fb_obstacles.specs.Watched.{AreBounded, Watched}
use Rattle.fb_search.specs.InternalGrowing.{GrowingValue, IsGrowing, all_along, forest_state_at, grown_ids, roles_among, waiting_in}
use Rattle.fb_search.specs.InternalGrowth.{GrowsOn, IsGrownFrom}
use Rattle.fb_search.specs.Progress as Progress
use Rattle.fb_search.proofs.GrowingRoles.{linked_trees, roles_are_all, roles_numbers}
use Rattle.fb_search.proofs.MinusBounds.{minus_changed}
use Rattle.fb_search.proofs.Relayered.{agreed_relayered, matching_relayered, ring_relayered}
use Rattle.fb_search.proofs.RolesInTree.{not_both}
use Rattle.fb_search.proofs.TakenVertices.{bounded_taken, near_taken, plus_over}
use Rattle.fb_search.proofs.UncoveredLayers.{bounded_freed, given_last, real_last, watch_freed}
use Rattle.fb_search.proofs.WaitingApart.{waiting_lower, waiting_taller}

-- the trees with their nodes in other layers, and with other edges watched
abbrev pub relayered_growing : (Node → Node) → Watched → GrowingValue → GrowingValue
relayered_growing f watched w = record w { part = record w.part { nodes = map f w.part.nodes }; watched = watched }

growing_relayered : (w : GrowingValue) (f : Node → Node) (watched : Watched) (are : IsGrowing w)
    → AreKept f w.part.nodes → AreAlike w.part.nodes (map f w.part.nodes)
    → IsForestState (problem_in w.part) (relayered_forest (map f w.part.nodes) (forest_state_at w are.state.0))
    → watched.edge_count ≡ w.watched.edge_count
    → IsWatched (problem_in w.part) (roles_among w.forest) (map f w.part.nodes) watched.edges
    → AreBounded (slack_at (problem_in w.part) (roles_among w.forest) (map f w.part.nodes)) watched
    → AreMinusBounded (roles_among w.forest) (map f w.part.nodes) watched
    → IsGrowing (relayered_growing f watched w)
growing_relayered w f watched are kept alike state room watch bounds minus = record {
  job = are.job;
  slot = are.slot;
  node = are.node;
  state = (are.state.0, state);
  agreed = agreed_relayered f w.part.nodes kept w.part.store are.agreed;
  links =
      subst (λ rings. AreLinksOf (problem_in w.part) w.part.links (grown_ids (trees_in w.forest) ++ (match_links w.part.matching.matches ++ rings)))
      (sym (ring_relayered f w.part.nodes kept w.part.store)) are.links;
  matching =
      matching_relayered (problem_in w.part) f w.part.nodes w.part.links w.part.matching (all_along (trees_in w.forest)) kept alike
      are.state.1.nest.dual
      (All-right (EndsAtDefects (problem_in w.part) (leaves w.part.nodes)) (forest_paired (linked_trees w)) (forest_state_at w are.state.0).rest
      are.state.1.forest.matching.links_are.at_defects)
      are.matching;
  room = room ∙ are.room;
  watch = watch;
  bounds = bounds;
  minus = minus;
}

-- No name changes with the layers.
layers_grown : (w : GrowingValue) (f : Node → Node) (watched : Watched) → Progress.AreKept (waiting_in w) w.part.nodes (map f w.part.nodes)
    → IsGrownFrom w (relayered_growing f watched w)
layers_grown w f watched kept = record {
  part = record { job = refl; slot = refl; node = refl };
  waits = λ n waits. waits;
  kept = kept;
  least = le_refl (length w.part.matching.unmatched + length (trees_in w.forest));
  most = le_refl (length w.part.matching.unmatched + 2 * length (trees_in w.forest));
}

-- the roles of the laws
plus_by_links : (w : GrowingValue) (name : ℕ) → IsGrowing w → (roles_among w.forest).is_plus name ≡ true
    → (forest_roles (linked_trees w)).is_plus name ≡ true
plus_by_links w name are plus =
    ap (λ rs. rs.is_plus name) (roles_numbers w.part.links (trees_in w.forest) ∙ sym (roles_are_all w are.state.0 are.state.1)) ∙ plus

minus_by_links : (w : GrowingValue) (name : ℕ) → IsGrowing w → (roles_among w.forest).is_minus name ≡ true
    → (forest_roles (linked_trees w)).is_minus name ≡ true
minus_by_links w name are minus =
    ap (λ rs. rs.is_minus name) (roles_numbers w.part.links (trees_in w.forest) ∙ sym (roles_are_all w are.state.0 are.state.1)) ∙ minus

-- the trees with the vertex in the node, and with these edges watched
abbrev pub growing_raised : ℕ → ℕ → Watched → GrowingValue → GrowingValue
growing_raised name v watched w = relayered_growing (change name (taller_node v)) watched w

pub growing_taller : ForestStateAbsorbed → (w : GrowingValue) (k u v name : ℕ) (new : Watched) → IsGrowing w
    → IsWithinLimits (problem_in w.part) → MayAbsorb (problem_in w.part) w.part.nodes name k u v
    → (roles_among w.forest).is_plus name ≡ true → All (λ j. j < new.edge_count) new.edges
    → WatchesTaken (problem_in w.part) (roles_among w.forest) (absorbed_nodes name v w.part.nodes) v w.watched new → IsGrowing (growing_raised name v new w)
growing_taller law w k u v name new are limits may plus within watched =
    let p : Problem = problem_in w.part in
    let roles : Roles = roles_among w.forest in
    let alike = (taller_alike w.part.nodes name v (no_leaf p w.part.nodes v are.state.1.nest.dual may.uncovered)).0 in
    growing_relayered w (change name (taller_node v)) new are
    (kept_by name (taller_node v) w.part.nodes (λ n. refl) (λ n. refl) (λ n a e. first_taller v n) outer) alike
    (law p (forest_state_at w are.state.0) name k u v (all_even p limits) may are.state.1)
    watched.room
    (record {
      within = subst (λ n. All (λ j. j < n) new.edges) (watched.room ∙ are.room) within;
      near = near_taken p roles w.part.nodes name v limits w.watched new watched are.watch;
    })
    (bounded_taken p roles w.part.nodes name v limits w.watched new watched are.watch alike.heights are.bounds)
    (minus_changed roles name (taller_node v) w.part.nodes w.watched new watched.minus (λ n. refl)
    (λ i d less same minus. absurd (not_both (role_among w.forest name) plus minus)) are.minus)
  where
    outer : is_outer w.part.nodes name ≡ true
    outer =
        let over = cover_among w.part.nodes u name may.covered in
        ap (is_outer w.part.nodes) (sym over.named) ∙ over.outer

pub grows_on_taller : ForestAbsorbedLess → (w : GrowingValue) (k u v name : ℕ) (new : Watched) → IsGrowing w
    → IsWithinLimits (problem_in w.part) → MayAbsorb (problem_in w.part) w.part.nodes name k u v
    → (roles_among w.forest).is_plus name ≡ true → GrowsOn w (growing_raised name v new w)
grows_on_taller law w k u v name new are limits may plus = record {
  grown = layers_grown w (change name (taller_node v)) new (waiting_taller w name v are plus);
  less = inr (
    le_refl (length w.part.matching.unmatched),
    subst (λ roles. IsLower (left_to_do (problem_in w.part) (absorbed_nodes name v w.part.nodes) roles true) (left_to_do (problem_in w.part) w.part.nodes roles false))
        (roles_numbers w.part.links (trees_in w.forest))
        (law (problem_in w.part) (forest_state_at w are.state.0) name k u v false true limits may (plus_by_links w name are plus) are.state.1),
  );
}

-- the edge's ends, as the dual state finds them
pub record AbsorbsAt (p : Problem) (roles : Roles) (nodes : List Node) (k : ℕ) : Type 0 where
  pub from : ℕ
  pub to : ℕ
  pub name : ℕ
  pub may : MayAbsorb p nodes name k from to
  pub plus : roles.is_plus name ≡ true
  pub inner : inner_end nodes (edge_at p.edges k) ≡ from
  pub outer : outer_end nodes (edge_at p.edges k) ≡ to
  pub absorbed : absorbed_over nodes (edge_at p.edges k) ≡ absorbed_nodes name to nodes

pub absorbs_at : (p : Problem) (roles : Roles) (nodes : List Node) (k : ℕ) → ((u v : ℕ) × IsAbsorb p roles nodes k u v) → AbsorbsAt p roles nodes k
absorbs_at p roles nodes k (u, v, is) =
    let (name, covered, plus) = plus_over roles.is_plus nodes u is.edge.plus in
    let ends = ends_told nodes (edge_at p.edges k) u v name is.edge.leads covered is.uncovered in
    record {
      from = u;
      to = v;
      name = name;
      may = record {
        within = is.edge.within;
        leads = is.edge.leads;
        tight = is.edge.tight;
        covered = covered;
        uncovered = is.uncovered;
        real = is.real;
      };
      plus = plus;
      inner = ends.0;
      outer = ends.1;
      absorbed = rw (ends.0, ends.1, covered) refl;
    }

-- the same by a list of edges that is known to be the problem's
module _ (p : Problem) (roles : Roles) (nodes : List Node) (k : ℕ) (a : AbsorbsAt p roles nodes k) (edges : List Edge)
    (same : edges ≡ p.edges) where
  pub inner_is_held : IsSome (cover_of nodes (inner_end nodes (edge_at edges k)))
  inner_is_held = rw same (subst IsSome (sym (ap (cover_of nodes) a.inner ∙ a.may.covered)) refl)

  pub outer_is_free : cover_of nodes (outer_end nodes (edge_at edges k)) ≡ None
  outer_is_free = rw same (ap (cover_of nodes) a.outer ∙ a.may.uncovered)

  pub absorbed_are : absorbed_over nodes (edge_at edges k) ≡ absorbed_nodes a.name a.to nodes
  absorbed_are = rw same a.absorbed

  pub taken_is : (taken : ℕ) → taken ≡ outer_end nodes (edge_at edges k) → taken ≡ a.to
  taken_is taken is = is ∙ (ap (λ es. outer_end nodes (edge_at es k)) same ∙ a.outer)

  pub taken_real : (taken vertices : ℕ) → IsWithinLimits p → taken ≡ a.to → vertices ≡ p.vertices → taken < vertices
  taken_real taken vertices limits at vs = rw (at, vs) (limits.real_below a.to a.may.real)

-- the trees without the layer, and with these edges watched
abbrev pub growing_lowered : ℕ → Watched → GrowingValue → GrowingValue
growing_lowered name watched w = relayered_growing (change name without_top) watched w

pub last_is_below : (w : GrowingValue) (name last vertices : ℕ) → IsGrowing w → MayUncover w.part.nodes name
    → last_or None (top_at w.part.nodes name) ≡ Some last → IsWithinLimits (problem_in w.part)
    → vertices ≡ (problem_in w.part).vertices → last < vertices
last_is_below w name last vertices are may is limits same =
    rw same (limits.real_below last (real_last (problem_in w.part) w.part.nodes name last may are.state.1.nest is))

pub growing_lower : ForestStateUncovered → (w : GrowingValue) (name last : ℕ) (new : Watched) → IsGrowing w
    → (roles_among w.forest).is_minus name ≡ true → MayUncover w.part.nodes name
    → last_or None (top_at w.part.nodes name) ≡ Some last → All (λ j. j < new.edge_count) new.edges
    → WatchesTaken (problem_in w.part) (roles_among w.forest) (uncovered_nodes name w.part.nodes) last w.watched new → IsGrowing (growing_lowered name new w)
growing_lower law w name last new are minus may is within taken =
    let p : Problem = problem_in w.part in
    let roles : Roles = roles_among w.forest in
    let nest = are.state.1.nest in
    let lower : List Node = uncovered_nodes name w.part.nodes in
    let given : IsGivenUp w.part.nodes name last = given_last p w.part.nodes name last may nest is in
    let alike : AreAlike w.part.nodes lower =
    subst (λ ns. AreAlike ns lower) given.back (taller_alike lower name last given.no_defect).1 in
    growing_relayered w (change name without_top) new are (kept p w.part.nodes name may nest) alike
    (law p (forest_state_at w are.state.0) name may are.state.1) taken.room
    (watch_freed roles lower name last (λ n. not_both (role_among w.forest n)) minus given.live given.outer given.free p
    w.watched new taken (subst (λ n. All (λ j. j < n) new.edges) (taken.room ∙ are.room) within)
    (subst (λ ns. IsWatched p roles ns w.watched.edges) (sym given.back) are.watch))
    (bounded_freed roles lower name last (λ n. not_both (role_among w.forest n)) minus given.live given.outer given.free p
    w.watched new taken (subst (λ ns. (u : ℕ) → height_of (all_cuts lower) u ≡ height_of (all_cuts ns) u) (sym given.back) alike.heights)
    (subst (λ ns. AreBounded (slack_at p roles ns) w.watched) (sym given.back) are.bounds))
    (minus_changed roles name without_top w.part.nodes w.watched new taken.minus (λ n. refl)
    (λ i d less same minus. omega (arith, (may.bare i d less same).1)) are.minus)

pub grows_on_lower : ForestUncoveredLess → (w : GrowingValue) (name : ℕ) (new : Watched) → IsGrowing w
    → (roles_among w.forest).is_minus name ≡ true → MayUncover w.part.nodes name → GrowsOn w (growing_lowered name new w)
grows_on_lower law w name new are minus may = record {
  grown = layers_grown w (change name without_top) new (waiting_lower w name are minus);
  less = inr (
    le_refl (length w.part.matching.unmatched),
    subst (λ roles. IsLower (left_to_do (problem_in w.part) (uncovered_nodes name w.part.nodes) roles true) (left_to_do (problem_in w.part) w.part.nodes roles false))
        (roles_numbers w.part.links (trees_in w.forest))
        (law (problem_in w.part) (forest_state_at w are.state.0) name false true may (minus_by_links w name are minus) are.state.1),
  );
}
