-- A vertex that a plus node absorbs keeps what every search keeps, and leaves less to do.
use Rattle.std.proofs.Common.{ℕ, ◌≡◌, ◌==◌, ◌<◌, ◌⊎◌, inl, inr, Bool, true, false, List, length, Option, Some, None, le_refl, refl, sym, ap, ◌∙◌, subst}
use Rattle.std.proofs.lemmas.Bool.{false≢true, eqb-true, ne_eqb}
use Rattle.fb_graph.specs.Parity.{is_in}
use Rattle.fb_graph.specs.Problem.{Problem, edge_at, touches}
use Rattle.fb_graph.specs.Limits.{DecodingGraph, IsWithinLimits, no_shot}
use Rattle.fb_graph.specs.Covers.{is_covered_by, passes}
use Rattle.fb_graph.specs.Dual.{AreUnderOne, Node, cover_of, all_cuts, height_of}
use Rattle.fb_graph.specs.Moves.{MayAbsorb, absorbed_nodes}
use Rattle.fb_graph.specs.Steps.{Roles}
use Rattle.fb_graph.proofs.TallerNodes.{taller_covers}
use Rattle.fb_regions.specs.Moves.{absorbed_over, inner_end, outer_end}
use Rattle.fb_regions.specs.declared.roles.Role.{Role}
use Rattle.fb_trees.proofs.TightWalks.{ends_told}
use Rattle.fb_plan.specs.Plans.{PlanTree, problem_at}
use Rattle.fb_half.specs.Parts.{PartValue, graph_in, problem_in}
use Rattle.fb_obstacles.specs.Obstacles.{IsAbsorb, IsWatched, roles_by, slack_at}
use Rattle.fb_obstacles.specs.InternalWatching.{WatchesTaken}
use Rattle.fb_obstacles.specs.Watched.{AreBounded, Watched}
use Rattle.fb_obstacles.proofs.LeftEdges.{watched_at, watched_elsewhere}
use Rattle.fb_search.specs.InternalSearching.{SearchValue, problem_of, roles_in}
use Rattle.fb_search.proofs.BegunSearches.{touches_first, touches_second}
use Rattle.fb_search.proofs.KeptBounds.{slack_beside}

pub plus_over : (test : ℕ → Bool) (nodes : List Node) (u : ℕ) → is_covered_by test nodes u ≡ true
    → (name : ℕ) × (cover_of nodes u ≡ Some name) × (test name ≡ true)
plus_over test nodes u over = by (cover_of nodes u) refl over
  where
    by : (c : Option ℕ) → cover_of nodes u ≡ c → passes test c ≡ true → (name : ℕ) × (cover_of nodes u ≡ Some name) × (test name ≡ true)
    by None e h = absurd (false≢true h)
    by (Some name) e h = (name, e, h)

-- the edges at the vertex come under watch, but for those within the node
module _ (p : Problem) (roles : Roles) (nodes : List Node) (name v : ℕ) (limits : IsWithinLimits p) (old new : Watched)
    (watched : WatchesTaken p roles (absorbed_nodes name v nodes) v old new) (watch : IsWatched p roles nodes old.edges) where
  pub near_taken : (k : ℕ) → k < length p.edges
      → (is_covered_by roles.is_plus (absorbed_nodes name v nodes) (edge_at p.edges k).first ≡ true)
      ⊎ (is_covered_by roles.is_plus (absorbed_nodes name v nodes) (edge_at p.edges k).second ≡ true)
      → (AreUnderOne (absorbed_nodes name v nodes) (edge_at p.edges k).first (edge_at p.edges k).second → ⊥) → is_in new.edges k ≡ true
  near_taken k less over not_one =
      by (v == (edge_at p.edges k).first) (v == (edge_at p.edges k).second) refl refl
    where
      at_v : (u : ℕ) → (v == u) ≡ true → touches u (edge_at p.edges k) ≡ true → is_in new.edges k ≡ true
      at_v u same touch =
          watched_at p roles (absorbed_nodes name v nodes) v old new watched k less
          (ap (λ x. touches x (edge_at p.edges k)) (eqb-true v u same) ∙ touch) not_one

      by : (a b : Bool) → (v == (edge_at p.edges k).first) ≡ a → (v == (edge_at p.edges k).second) ≡ b → is_in new.edges k ≡ true
      by true b ea eb = at_v (edge_at p.edges k).first ea (touches_first p k limits less)
      by false true ea eb = at_v (edge_at p.edges k).second eb (touches_second p k limits less)
      by false false ea eb =
          watched_elsewhere p roles (absorbed_nodes name v nodes) v old new watched k less (rw (ea, eb) refl)
          ∙ watch.near k less (before over) one
        where
          before : (is_covered_by roles.is_plus (absorbed_nodes name v nodes) (edge_at p.edges k).first ≡ true)
              ⊎ (is_covered_by roles.is_plus (absorbed_nodes name v nodes) (edge_at p.edges k).second ≡ true)
              → (is_covered_by roles.is_plus nodes (edge_at p.edges k).first ≡ true)
              ⊎ (is_covered_by roles.is_plus nodes (edge_at p.edges k).second ≡ true)
          before (inl h) = inl (sym (ap (passes roles.is_plus) (taller_covers nodes name v (edge_at p.edges k).first ea)) ∙ h)
          before (inr h) = inr (sym (ap (passes roles.is_plus) (taller_covers nodes name v (edge_at p.edges k).second eb)) ∙ h)

          one : AreUnderOne nodes (edge_at p.edges k).first (edge_at p.edges k).second → ⊥
          one (m, at_first, at_second) =
              not_one (
                m,
                taller_covers nodes name v (edge_at p.edges k).first ea ∙ at_first,
                taller_covers nodes name v (edge_at p.edges k).second eb ∙ at_second,
              )

  pub bounded_taken : ((u : ℕ) → height_of (all_cuts (absorbed_nodes name v nodes)) u ≡ height_of (all_cuts nodes) u)
      → AreBounded (slack_at p roles nodes) old → AreBounded (slack_at p roles (absorbed_nodes name v nodes)) new
  bounded_taken heights =
      watched.bounds (slack_at p roles nodes) (slack_at p roles (absorbed_nodes name v nodes))
      (λ k away.
      slack_beside roles nodes (absorbed_nodes name v nodes) v (edge_at p.edges k) heights
      (λ u other. taller_covers nodes name v u (ne_eqb v u other)) away)
      (λ k touch. le_refl (slack_at p roles (absorbed_nodes name v nodes) k))

pub may_take : (w : SearchValue) (k u v name : ℕ) → IsAbsorb (problem_of w) (roles_in w) w.part.nodes k u v
    → cover_of w.part.nodes u ≡ Some name → MayAbsorb (problem_of w) w.part.nodes name k u v
may_take w k u v name is covered = record {
  within = is.edge.within;
  leads = is.edge.leads;
  tight = is.edge.tight;
  covered = covered;
  uncovered = is.uncovered;
  real = is.real;
}

-- the edge's ends, as the dual state finds them
pub record Absorbs (w : SearchValue) (k : ℕ) : Type 0 where
  pub from : ℕ
  pub to : ℕ
  pub name : ℕ
  pub may : MayAbsorb (problem_of w) w.part.nodes name k from to
  pub plus : (roles_in w).is_plus name ≡ true
  pub inner : inner_end w.part.nodes (edge_at (problem_of w).edges k) ≡ from
  pub outer : outer_end w.part.nodes (edge_at (problem_of w).edges k) ≡ to
  pub nodes : absorbed_over w.part.nodes (edge_at (problem_of w).edges k) ≡ absorbed_nodes name to w.part.nodes

pub absorbs : (w : SearchValue) (k u v : ℕ) → IsAbsorb (problem_of w) (roles_in w) w.part.nodes k u v → Absorbs w k
absorbs w k u v is =
    let (name, covered, plus) = plus_over (roles_in w).is_plus w.part.nodes u is.edge.plus in
    let ends = ends_told w.part.nodes (edge_at (problem_of w).edges k) u v name is.edge.leads covered is.uncovered in
    record {
      from = u;
      to = v;
      name = name;
      may = may_take w k u v name is covered;
      plus = plus;
      inner = ends.0;
      outer = ends.1;
      nodes = rw (ends.0, ends.1, covered) refl;
    }

-- what is watched by the problem of the part, though that of its node's scope has no defects, and by the roles of the trees
pub kept_taken : (part : PartValue) (g : DecodingGraph) (t : PlanTree) (n taken v : ℕ) (role given : ℕ → Role) (now later nodes : List Node)
    (old new : Watched) → g ≡ graph_in part → taken ≡ v → role ≡ given → now ≡ later → later ≡ nodes
    → WatchesTaken (problem_at g t n no_shot) (roles_by role) now taken old new → WatchesTaken (problem_in part) (roles_by given) nodes v old new
kept_taken part g t n taken v role given now later nodes old new eg at paced same is watches =
    let w : WatchesTaken (problem_at (graph_in part) t n no_shot) (roles_by given) nodes v old new =
    subst (λ h. WatchesTaken (problem_at h t n no_shot) (roles_by given) nodes v old new) eg (rw (← at, ← is, ← same, ← paced) watches) in
    record { room = w.room; minus = w.minus; watched = w.watched; bounds = w.bounds }
