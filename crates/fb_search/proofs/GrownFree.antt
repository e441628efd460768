-- A free step of several trees before an obstacle is removed, or none.
use Rattle.std.proofs.Common.{ℕ, ◌+◌, ◌≤◌, true, false, inl, inr, sym, subst, ◌∙◌, arith, le_refl, length}
use Rattle.fb_graph.specs.Parity.{is_in}
use Rattle.fb_graph.specs.Problem.{Problem, with_defects}
use Rattle.fb_graph.specs.Dual.{leaves}
use Rattle.fb_graph.specs.Steps.{Roles, stepped_nodes}
use Rattle.fb_graph.proofs.StepLoads.{steps_add}
use Rattle.fb_laws.specs.Measures.{IsLower}
use Rattle.fb_laws.proofs.LoweredParts.{free_lowers}
use Rattle.fb_laws.proofs.StepLengths.{greatest_bounds}
use Rattle.fb_half.specs.Parts.{problem_in}
use Rattle.fb_trees.specs.Forests.{all_roles, trees_in}
use Rattle.fb_obstacles.specs.declared.obstacle.Obstacle.{Obstacle}
use Rattle.fb_obstacles.specs.declared.obstacle.Obstacle.TheVariants.{Absorb, Boundary, Meet, PlusPair, LayerEmpty, BlossomEmpty, ZeroMinus, Free}
use Rattle.fb_obstacles.specs.Obstacles.{IsFree, IsObstacle}
use Rattle.fb_obstacles.specs.Watched.{Watched}
use Rattle.fb_search.specs.InternalGrowing.{GrowingValue, IsGrowing, roles_among}
use Rattle.fb_search.specs.InternalGrowth.{Blocks, HasGrownFree, IsGrowthRewatched, grown_by, still_to_do}
use Rattle.fb_search.proofs.ExchangedObstacles.{free_exchanged}
use Rattle.fb_search.proofs.GrowingRoles.{all_are, roles_are_all}
use Rattle.fb_search.proofs.Runs.{lower_trans}
use Rattle.fb_search.proofs.WaitingApart.{waiting_stepped}

-- trees that may not step next have less to do than trees that may
still_waits : (w : GrowingValue) → IsLower (still_to_do w false) (still_to_do w true)
still_waits w = inr (omega arith, inr (omega arith, inr (omega arith, inr (omega arith, inr (omega arith, inl (omega arith))))))

-- with no step, whatever edges are watched
pub grown_free_none : (w after : GrowingValue) → IsGrowthRewatched w after → HasGrownFree w after
grown_free_none w after same = subst (HasGrownFree w) (sym same.same) (by after.watched)
  where
    by : (watched : Watched) → HasGrownFree w (record w { watched = watched })
    by watched last goes = record {
      grown = record {
        part = goes.grown.part;
        waits = goes.grown.waits;
        kept = goes.grown.kept;
        least = goes.grown.least;
        most = goes.grown.most;
      };
      less = lower_trans (still_to_do last true) (still_to_do w false) (still_to_do w true) goes.less (still_waits w);
    }

-- with a step
pub grown_free_step : (w after : GrowingValue) (k : ℕ) → IsGrowing w → IsGrowthRewatched (grown_by k w) after → HasGrownFree w after
grown_free_step w after k are same = subst (HasGrownFree w) (sym same.same) (by after.watched)
  where
    lowers : IsLower (still_to_do (grown_by k w) false) (still_to_do w true)
    lowers = inr (
      le_refl (length w.part.matching.unmatched),
      free_lowers (problem_in w.part) w.part.nodes (all_roles (trees_in w.forest)) k,
    )

    by : (watched : Watched) → HasGrownFree w (record (grown_by k w) { watched = watched })
    by watched last goes = record {
      grown = record {
        part = record { job = goes.grown.part.job; slot = goes.grown.part.slot; node = goes.grown.part.node };
        waits = goes.grown.waits;
        kept = λ n waits. goes.grown.kept n waits ∙ waiting_stepped w k are n (goes.grown.waits n waits);
        least = goes.grown.least;
        most = goes.grown.most;
      };
      less = lower_trans (still_to_do last true) (still_to_do (grown_by k w) false) (still_to_do w true) goes.less lowers;
    }

-- no step is free after the greatest one
never_again : (w : GrowingValue) (k j : ℕ) → IsGrowing w → IsFree (problem_in w.part) (roles_among w.forest) w.part.nodes k
    → IsFree (problem_in w.part) (roles_among w.forest) (grown_by k w).part.nodes j → ⊥
never_again w k j are free again =
    let p : Problem = with_defects (problem_in w.part) (leaves w.part.nodes) in
    let roles : Roles = all_roles (trees_in w.forest) in
    let same = roles_are_all w are.state.0 are.state.1 in
    let exclusive = (all_are w are.state.0 are.state.1).exclusive in
    let first : IsFree p roles w.part.nodes k =
    free_exchanged (problem_in w.part) (is_in (leaves w.part.nodes)) roles w.part.nodes k
    (subst (λ r. IsFree (problem_in w.part) r w.part.nodes k) same free) in
    let next : IsFree p roles (stepped_nodes roles k w.part.nodes) j =
    free_exchanged (problem_in w.part) (is_in (leaves w.part.nodes)) roles (stepped_nodes roles k w.part.nodes) j
    (subst (λ r. IsFree (problem_in w.part) r (stepped_nodes roles k w.part.nodes) j) same again) in
    let most : k + j ≤ k =
    greatest_bounds p roles w.part.nodes k (k + j) exclusive are.state.1.nest.dual.packing first.greatest
    (steps_add p roles w.part.nodes k j exclusive first.greatest.allowed next.greatest.allowed) in
    absurd (omega (arith, most, next.some))

pub blocks_after : (w after : GrowingValue) (k : ℕ) (o : Obstacle) → IsGrowing w
    → IsFree (problem_in w.part) (roles_among w.forest) w.part.nodes k → IsGrowthRewatched (grown_by k w) after
    → IsObstacle (problem_in after.part) (roles_among after.forest) after.part.nodes o → Blocks after o
blocks_after w after k (Free j) are free same is =
    never_again w k j are free
    (subst (λ s. IsFree (problem_in s.part) (roles_among s.forest) s.part.nodes j) same.same is)
blocks_after w after k (Absorb e) are free same is = is
blocks_after w after k (Boundary e) are free same is = is
blocks_after w after k (Meet e) are free same is = is
blocks_after w after k (PlusPair e) are free same is = is
blocks_after w after k (LayerEmpty n) are free same is = is
blocks_after w after k (BlossomEmpty n) are free same is = is
blocks_after w after k (ZeroMinus n) are free same is = is
