-- Trees that grow together may ask for their next obstacle.
use Rattle.std.proofs.Common.{ℕ, ◌≡◌, ◌≤◌, length, Option, Some, None, refl, sym, ap, ◌∙◌, subst}
use Rattle.std.specs.Prelude.{IfSome, MatchOption}
use Rattle.fb_graph.specs.Parity.{is_in}
use Rattle.fb_graph.specs.Problem.{with_defects}
use Rattle.fb_graph.specs.Laws.{HasNoOddClosed}
use Rattle.fb_graph.specs.Limits.{DecodingGraph, no_shot}
use Rattle.fb_graph.specs.Dual.{leaves}
use Rattle.fb_graph.specs.Steps.{Roles}
use Rattle.fb_graph.specs.Covers.{AreRoles}
use Rattle.fb_graph.proofs.ClosedSets.{part_has_no_odd_closed}
use Rattle.fb_laws.specs.Lengths.{HasPlus}
use Rattle.fb_laws.proofs.ForestSteps.{plus_in_forest}
use Rattle.fb_laws.proofs.SearchTrees.{cover_place}
use Rattle.fb_plan.specs.Plans.{PlanTree, problem_at}
use Rattle.fb_half.specs.Parts.{graph_in, problem_in, solved_shot}
use Rattle.fb_regions.specs.declared.roles.Role.{Role}
use Rattle.fb_trees.specs.Forests.{all_plus, all_roles, role_among, trees_in}
use Rattle.fb_obstacles.specs.declared.obstacle.Obstacle.{Obstacle}
use Rattle.fb_obstacles.specs.Obstacles.{AreMinusBounded, AreMinusLive, HavePlusParity, IsObstacle, IsWatched, Obstructs, roles_by, slack_at}
use Rattle.fb_obstacles.specs.Watched.{AreBounded, Watched}
use Rattle.fb_search.specs.InternalGrowing.{GrowingValue, IsGrowing, roles_among}
use Rattle.fb_search.proofs.ExchangedObstacles.{obstacle_exchanged, obstructs_exchanged}
use Rattle.fb_search.proofs.GrowingRoles.{all_are, linked_trees, minus_live, part_even, plus_numbers, roles_are_all, some_plus}
use Rattle.fb_search.proofs.RolesAmong.{minus_among}

-- with roles that are those of the trees
module _ (w : GrowingValue) (are : IsGrowing w) (role : ℕ → Role) (same : role ≡ role_among w.forest) where
  by_all : (P : Roles → Type 0) → P (all_roles (trees_in w.forest)) → P (roles_by role)
  by_all P is = subst P (sym (ap roles_by same ∙ roles_are_all w are.state.0 are.state.1)) is

  by_role : (P : Roles → Type 0) → P (roles_among w.forest) → P (roles_by role)
  by_role P is = subst P (sym (ap roles_by same)) is

  of_role : (P : Roles → Type 0) → P (roles_by role) → P (roles_among w.forest)
  of_role P is = subst P (ap roles_by same) is

  pub trees_plus : 1 ≤ length (trees_in w.forest) → HasPlus (roles_by role) w.part.nodes
  trees_plus some =
      let (n, outer, plus) = some_plus w are.state.0 are.state.1 some in
      let (d, leaf, cover) = outer in
      let (i, less, named, over, within) = cover_place w.part.nodes d n cover in
      by_all (λ roles. HasPlus roles w.part.nodes) (i, less, ap (is_in (all_plus (trees_in w.forest))) named ∙ plus)

  pub trees_roles : AreRoles (roles_by role) w.part.nodes
  trees_roles = by_all (λ roles. AreRoles roles w.part.nodes) (all_are w are.state.0 are.state.1)

  pub trees_live : AreMinusLive (roles_by role) w.part.nodes
  trees_live =
      by_role (λ roles. AreMinusLive roles w.part.nodes)
      (λ name minus. minus_live w are.state.0 are.state.1 name (minus_among w.forest name minus))

  pub trees_minus : AreMinusBounded (roles_by role) w.part.nodes w.watched
  trees_minus = by_role (λ roles. AreMinusBounded roles w.part.nodes w.watched) are.minus

  pub trees_parity : HavePlusParity (roles_by role) w.part.nodes
  trees_parity =
      by_all (λ roles. HavePlusParity roles w.part.nodes) (
        are.state.0,
        λ d name leaf cover plus.
            are.state.1.forest.parity d name leaf cover
            (plus_in_forest (linked_trees w) name (ap (λ l. is_in l name) (plus_numbers w.part.links (trees_in w.forest)) ∙ plus)),
      )

  -- for the scope of the part, whose problem has no defects
  module _ (g : DecodingGraph) (t : PlanTree) (n : ℕ) (eg : g ≡ graph_in w.part) (et : t ≡ w.part.job.plan) (en : n ≡ w.part.node) where
    pub trees_even : HasNoOddClosed (with_defects (problem_at g t n no_shot) (leaves w.part.nodes))
    trees_even =
        rw (eg, et, en)
        (part_has_no_odd_closed (with_defects (problem_at (graph_in w.part) w.part.job.plan w.part.node no_shot) (leaves w.part.nodes))
        (problem_in w.part) (record {
          edges = refl;
          real = λ v real. real;
          defects = λ v real. sym (are.state.1.forest.matching.defects v real);
        }) (part_even w.part are.job are.slot))

    watched_among : IsWatched (problem_at g t n no_shot) (roles_among w.forest) w.part.nodes w.watched.edges
    watched_among = rw eg (record { within = are.watch.within; near = λ k less over apart. are.watch.near k less over apart })

    pub trees_watched : IsWatched (problem_at g t n no_shot) (roles_by role) w.part.nodes w.watched.edges
    trees_watched = by_role (λ roles. IsWatched (problem_at g t n no_shot) roles w.part.nodes w.watched.edges) watched_among

    bounded_among : AreBounded (slack_at (problem_at g t n no_shot) (roles_among w.forest) w.part.nodes) w.watched
    bounded_among = rw eg (λ i less. are.bounds i less)

    pub trees_bounded : AreBounded (slack_at (problem_at g t n no_shot) (roles_by role) w.part.nodes) w.watched
    trees_bounded = by_role (λ roles. AreBounded (slack_at (problem_at g t n no_shot) roles w.part.nodes) w.watched) bounded_among

    obstacle_among : (o : Obstacle) → IsObstacle (problem_at g t n no_shot) (roles_among w.forest) w.part.nodes o
        → IsObstacle (problem_in w.part) (roles_among w.forest) w.part.nodes o
    obstacle_among o is =
        let there : IsObstacle (problem_at (graph_in w.part) w.part.job.plan w.part.node no_shot) (roles_among w.forest) w.part.nodes o =
        subst (λ h. IsObstacle (problem_at h w.part.job.plan w.part.node no_shot) (roles_among w.forest) w.part.nodes o) eg (rw (← et, ← en) is) in
        obstacle_exchanged (problem_at (graph_in w.part) w.part.job.plan w.part.node no_shot) (is_in (solved_shot w.part).defects)
        (roles_among w.forest) w.part.nodes o there

    pub trees_obstacle : (o : Obstacle) → IsObstacle (problem_at g t n no_shot) (roles_by role) w.part.nodes o
        → IsObstacle (problem_in w.part) (roles_among w.forest) w.part.nodes o
    trees_obstacle o is =
        obstacle_among o (of_role (λ roles. IsObstacle (problem_at g t n no_shot) roles w.part.nodes o) is)

    trees_stand : (o : Obstacle) → Obstructs (problem_at g t n no_shot) (roles_among w.forest) w.part.nodes o
        → Obstructs (problem_in w.part) (roles_among w.forest) w.part.nodes o
    trees_stand o is =
        let there : Obstructs (problem_at (graph_in w.part) w.part.job.plan w.part.node no_shot) (roles_among w.forest) w.part.nodes o =
        subst (λ h. Obstructs (problem_at h w.part.job.plan w.part.node no_shot) (roles_among w.forest) w.part.nodes o) eg (rw (← et, ← en) is) in
        obstructs_exchanged (problem_at (graph_in w.part) w.part.job.plan w.part.node no_shot) (is_in (solved_shot w.part).defects)
        (roles_among w.forest) w.part.nodes o there

    pub trees_limiting : (N : Type 0) (found : Option Obstacle)
        → MatchOption found N (Obstructs (problem_at g t n no_shot) (roles_by role) w.part.nodes)
        → IfSome found (Obstructs (problem_in w.part) (roles_among w.forest) w.part.nodes)
    trees_limiting N None is = tt
    trees_limiting N (Some o) is = trees_stand o (of_role (λ roles. Obstructs (problem_at g t n no_shot) roles w.part.nodes o) is)

    -- the trees with a watch that is right, of the same edges or of others
    pub growing_rewatched : (now : Watched) → now.edge_count ≡ w.watched.edge_count
        → IsWatched (problem_at g t n no_shot) (roles_by role) w.part.nodes now.edges
        → AreBounded (slack_at (problem_at g t n no_shot) (roles_by role) w.part.nodes) now
        → AreMinusBounded (roles_by role) w.part.nodes now → IsGrowing (record w { watched = now })
    growing_rewatched now room watched bounded minus = record {
      minus = of_role (λ roles. AreMinusBounded roles w.part.nodes now) minus;
      job = are.job;
      slot = are.slot;
      node = are.node;
      state = are.state;
      agreed = are.agreed;
      links = are.links;
      matching = are.matching;
      room = room ∙ are.room;
      watch =
          let here : IsWatched (problem_at (graph_in w.part) t n no_shot) (roles_among w.forest) w.part.nodes now.edges =
          subst (λ h. IsWatched (problem_at h t n no_shot) (roles_among w.forest) w.part.nodes now.edges) eg
          (of_role (λ roles. IsWatched (problem_at g t n no_shot) roles w.part.nodes now.edges) watched) in
          record { within = here.within; near = λ k less over apart. here.near k less over apart };
      bounds =
          let here : AreBounded (slack_at (problem_at (graph_in w.part) t n no_shot) (roles_among w.forest) w.part.nodes) now =
          subst (λ h. AreBounded (slack_at (problem_at h t n no_shot) (roles_among w.forest) w.part.nodes) now) eg
          (of_role (λ roles. AreBounded (slack_at (problem_at g t n no_shot) roles w.part.nodes) now) bounded) in
          λ i less. here i less;
    }
