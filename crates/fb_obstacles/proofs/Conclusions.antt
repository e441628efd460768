-- What the looks at all minus nodes and all watched edges tell of the tree.
use Rattle.std.proofs.Common.{ℕ, ◌≡◌, ◌+◌, ◌≤◌, ◌<◌, ◌⊎◌, inl, inr, true, false, List, length, get_or, None, All, sym, ap, ◌∙◌, subst, arith}
use Rattle.std.proofs.lemmas.Bool.{both_ways, cases_Bool}
use Rattle.std.proofs.lemmas.List.Elements.{All-from_get_or}
use Rattle.fb_graph.specs.Parity.{is_in}
use Rattle.fb_graph.specs.Problem.{Problem, edge_at, no_edge, with_defects}
use Rattle.fb_graph.specs.Laws.{HasNoOddClosed}
use Rattle.fb_graph.specs.Certificate.{load_of}
use Rattle.fb_graph.specs.Components.{Leads}
use Rattle.fb_graph.specs.Dual.{Node, IsDual, AreUnderOne, all_cuts, cover_of, is_live, leaves, node_at, no_node}
use Rattle.fb_graph.specs.Steps.{Roles, MayStep}
use Rattle.fb_graph.specs.Covers.{AreRoles, HasNoObstacle, is_covered_by, passes}
use Rattle.fb_graph.specs.declared.parts.Edge.{Edge}
use Rattle.fb_graph.proofs.Crossings.{exclusive_over, under_or_not}
use Rattle.fb_graph.proofs.Sets.{All-from_is_in, is_in-All}
use Rattle.fb_laws.specs.Lengths.{HasPlus}
use Rattle.fb_laws.proofs.MetLinks.{uncovered_real}
use Rattle.fb_laws.proofs.StepBounds.{edge_allows, edge_within_allows, no_obstacle_before}
use Rattle.fb_laws.proofs.StepLengths.{no_length, greatest_step}
use Rattle.fb_obstacles.specs.declared.obstacle.Obstacle.{Obstacle}
use Rattle.fb_obstacles.specs.declared.obstacle.Obstacle.TheVariants as obstacle
use Rattle.fb_obstacles.specs.declared.looking.Look.{Look}
use Rattle.fb_obstacles.specs.declared.looking.Look.TheVariants.{Within}
use Rattle.fb_obstacles.specs.Obstacles.{BearsStep, IsFree, IsObstacle, IsTightFrom, IsWatched, Obstructs}
use Rattle.fb_obstacles.specs.InnerEdges.{LeavesInner}
use Rattle.fb_obstacles.specs.Watched.{Watched}
use Rattle.fb_obstacles.specs.InternalLooks.{IsAtMostEach, Limits, LimitsBoth, minus_tops}
use Rattle.fb_obstacles.proofs.LookLimits.{limits_same}
use Rattle.fb_obstacles.proofs.NodeLooks.{allow_tops, named_place, tops_allow}

-- an edge that isn't watched allows each step
unwatched_bears : (p : Problem) (roles : Roles) (nodes : List Node) (watched : List ℕ) (j k : ℕ) → IsDual p nodes
    → AreRoles roles nodes → IsWatched p roles nodes watched → k < length p.edges → is_in watched k ≡ false
    → BearsStep roles nodes j (edge_at p.edges k)
unwatched_bears p roles nodes watched j k dual are seen less absent = step (under_or_not nodes e.first e.second)
  where
    e : Edge
    e = edge_at p.edges k

    light : load_of (all_cuts nodes) e ≤ e.weight
    light = dual.packing.fits k no_edge less

    step : AreUnderOne nodes e.first e.second ⊎ (AreUnderOne nodes e.first e.second → ⊥) → BearsStep roles nodes j e
    step (inl under) = edge_within_allows p roles nodes j e dual are light under
    step (inr differs) =
        edge_allows p roles nodes j e dual are light differs (record {
          first = λ plus other free. absurd (both_ways (is_in watched k) absent (seen.near k less (inl plus) differs));
          second = λ plus other free. absurd (both_ways (is_in watched k) absent (seen.near k less (inr plus) differs));
          both = λ plus more. absurd (both_ways (is_in watched k) absent (seen.near k less (inl plus) differs));
        })

-- all that has to be watched still is, where only edges under one node have left
pub watched_without_inner : (p : Problem) (roles : Roles) (nodes : List Node) (old new : Watched) → LeavesInner p nodes old new
    → IsWatched p roles nodes old.edges → IsWatched p roles nodes new.edges
watched_without_inner p roles nodes old new leaves seen = record {
  within = All-from_is_in (λ k. k < length p.edges) new.edges
      (λ k watched. is_in-All (λ m. m < length p.edges) old.edges seen.within k (leaves.none_new k watched));
  near = λ k less over apart. leaves.kept k (seen.near k less over apart) apart;
}

-- the lengths that the minus nodes and the watched edges allow are those by which the tree may step
pub look_limits : (p : Problem) (roles : Roles) (nodes : List Node) (watched : List ℕ) (l : Look) → IsDual p nodes
    → AreRoles roles nodes → IsWatched p roles nodes watched
    → LimitsBoth p roles nodes (minus_tops roles nodes) watched l → Limits (MayStep p roles nodes) (Obstructs p roles nodes) l
look_limits p roles nodes watched l dual are seen limits =
    limits_same
    (λ j. IsAtMostEach j (minus_tops roles nodes) × All (λ k. BearsStep roles nodes j (edge_at p.edges k)) watched)
    (MayStep p roles nodes) (Obstructs p roles nodes) l may only limits
  where
    may : (j : ℕ) → IsAtMostEach j (minus_tops roles nodes) × All (λ k. BearsStep roles nodes j (edge_at p.edges k)) watched
        → MayStep p roles nodes j
    may j (shrink, bear) = record {
      edges = All-from_get_or (BearsStep roles nodes j) p.edges no_edge (λ k less. step k less (cases_Bool (is_in watched k)));
      tops = tops_allow roles nodes j shrink;
    }
      where
        step : (k : ℕ) → k < length p.edges → (is_in watched k ≡ true) ⊎ (is_in watched k ≡ false)
            → BearsStep roles nodes j (edge_at p.edges k)
        step k less (inl within) = is_in-All (λ m. BearsStep roles nodes j (edge_at p.edges m)) watched bear k within
        step k less (inr absent) = unwatched_bears p roles nodes watched j k dual are seen less absent

    only : (j : ℕ) → MayStep p roles nodes j
        → IsAtMostEach j (minus_tops roles nodes) × All (λ k. BearsStep roles nodes j (edge_at p.edges k)) watched
    only j allowed = (
      allow_tops roles nodes j allowed.tops,
      λ i d less. allowed.edges (get_or watched i d) no_edge (seen.within i d less),
    )

-- a tight edge from a plus node isn't clear
tight_is_not_clear : (p : Problem) (roles : Roles) (nodes : List Node) (k u v : ℕ) → HasNoObstacle p roles nodes
    → IsTightFrom p roles nodes k u v → (AreUnderOne nodes u v → ⊥) → is_covered_by roles.is_minus nodes v ≡ false → ⊥
tight_is_not_clear p roles nodes k u v clear edge differs free = by edge.leads
  where
    e : Edge
    e = edge_at p.edges k

    by : Leads e u v → ⊥
    by (inl (first, second)) =
        let here = clear.edges k no_edge edge.within
        (λ under. differs (subst (λ x. AreUnderOne nodes u x) second (subst (λ x. AreUnderOne nodes x e.second) first under))) in
        let less = here.first (subst (λ x. is_covered_by roles.is_plus nodes x ≡ true) (sym first) edge.plus)
        (subst (λ x. is_covered_by roles.is_minus nodes x ≡ false) (sym second) free) in
        absurd (omega (arith, less, edge.tight))
    by (inr (second, first)) =
        let here = clear.edges k no_edge edge.within
        (λ under. differs (let (name, a, b) = under in (name, ap (cover_of nodes) (sym second) ∙ b, ap (cover_of nodes) (sym first) ∙ a))) in
        let less = here.second (subst (λ x. is_covered_by roles.is_plus nodes x ≡ true) (sym second) edge.plus)
        (subst (λ x. is_covered_by roles.is_minus nodes x ≡ false) (sym first) free) in
        absurd (omega (arith, less, edge.tight))

minus_is_thick : (p : Problem) (roles : Roles) (nodes : List Node) (name : ℕ) → HasNoObstacle p roles nodes
    → is_live nodes name ≡ true → roles.is_minus name ≡ true → All (λ n. n.name ≡ name → n.top.value ≡ 0) nodes → ⊥
minus_is_thick p roles nodes name clear live minus thin =
    let (i, less, at, named) = named_place nodes name live in
    let same : (node_at nodes i).name ≡ name = ap (λ (m : Node). m.name) at ∙ named in
    let thick = clear.layers i no_node less (subst (λ x. roles.is_minus x ≡ true) (sym same) minus) in
    absurd (omega (arith, thick, thin i no_node less same))

-- where there is no obstacle, none stands in the way
pub nothing_obstructs : (p : Problem) (roles : Roles) (nodes : List Node) → IsDual p nodes → AreRoles roles nodes
    → HasNoObstacle p roles nodes → (o : Obstacle) → Obstructs p roles nodes o → ⊥
nothing_obstructs p roles nodes dual are clear (obstacle.Absorb k) (u, v, found) =
    tight_is_not_clear p roles nodes k u v clear found.edge (λ under. let (n, a, b) = under in let none = found.uncovered in cc)
    (ap (passes roles.is_minus) found.uncovered)
nothing_obstructs p roles nodes dual are clear (obstacle.Boundary k) (u, v, found) =
    let none : cover_of nodes v ≡ None = uncovered_real p nodes v dual found.real in
    tight_is_not_clear p roles nodes k u v clear found.edge (λ under. let (n, a, b) = under in cc)
    (ap (passes roles.is_minus) none)
nothing_obstructs p roles nodes dual are clear (obstacle.Meet k) (u, v, name, found) =
    tight_is_not_clear p roles nodes k u v clear found.edge
    (λ under.
    let (n, a, b) = under in
    both_ways (passes roles.is_plus (cover_of nodes u))
    (ap (passes roles.is_plus) (a ∙ (sym b ∙ found.covered)) ∙ found.not_plus) found.edge.plus)
    (ap (passes roles.is_minus) found.covered ∙ found.not_minus)
nothing_obstructs p roles nodes dual are clear (obstacle.PlusPair k) (u, v, found) =
    tight_is_not_clear p roles nodes k u v clear found.edge found.apart
    (exclusive_over roles (cover_of nodes v) are.exclusive found.other)
nothing_obstructs p roles nodes dual are clear (obstacle.LayerEmpty name) (minus, may) =
    minus_is_thick p roles nodes name clear may.live minus (λ i d less same. (may.bare i d less same).1)
nothing_obstructs p roles nodes dual are clear (obstacle.BlossomEmpty name) (minus, may) =
    minus_is_thick p roles nodes name clear may.live minus (λ i d less same. (may.bare i d less same).2)
nothing_obstructs p roles nodes dual are clear (obstacle.ZeroMinus name) (minus, may) =
    minus_is_thick p roles nodes name clear may.live minus (λ i d less same. (may.bare i d less same).2)
nothing_obstructs p roles nodes dual are clear (obstacle.Free k) none = none

-- a bound of the looks is the greatest length
pub bound_is_free : (p : Problem) (roles : Roles) (nodes : List Node) (k : ℕ) → IsDual p nodes → AreRoles roles nodes
    → Limits (MayStep p roles nodes) (Obstructs p roles nodes) (Within k) → IsFree p roles nodes k
bound_is_free p roles nodes k dual are (some, below, above) = record {
  none = nothing_obstructs p roles nodes dual are (no_obstacle_before p roles nodes k dual are some (below k (omega arith)));
  some = some;
  greatest =
      record { allowed = below k (omega arith); greatest = λ more. let h = above (k + 1) more in absurd (omega arith) };
}

-- an obstacle that stands is one
pub found_obstacle : (p : Problem) (roles : Roles) (nodes : List Node) (o : Obstacle) → Obstructs p roles nodes o
    → IsObstacle p roles nodes o
found_obstacle p roles nodes (obstacle.Free k) found = absurd found
found_obstacle p roles nodes (obstacle.Absorb k) found = found
found_obstacle p roles nodes (obstacle.Boundary k) found = found
found_obstacle p roles nodes (obstacle.Meet k) found = found
found_obstacle p roles nodes (obstacle.PlusPair k) found = found
found_obstacle p roles nodes (obstacle.LayerEmpty n) found = found
found_obstacle p roles nodes (obstacle.BlossomEmpty n) found = found
found_obstacle p roles nodes (obstacle.ZeroMinus n) found = found

-- some look bounds the step
pub some_bound : (p : Problem) (roles : Roles) (nodes : List Node) → IsDual p nodes → AreRoles roles nodes
    → HasPlus roles nodes → HasNoOddClosed (with_defects p (leaves nodes)) → ((j : ℕ) → MayStep p roles nodes j) → ⊥
some_bound p roles nodes dual are plus even may =
    let (k, more, greatest) =
    greatest_step (with_defects p (leaves nodes)) roles nodes 0 are.exclusive plus even dual.packing
    (no_length (with_defects p (leaves nodes)) roles nodes dual.packing) in
    greatest.greatest (record { edges = (may (k + 1)).edges; tops = (may (k + 1)).tops })
