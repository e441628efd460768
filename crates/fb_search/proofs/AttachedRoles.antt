-- One more node is plus, and whatever was minus is so still but for that one: what stays watched, and which bounds stay right.
use Rattle.std.proofs.Common.{ℕ, ◌≡◌, ◌≢◌, ◌<◌, ◌⊎◌, inl, inr, true, List, map, length, All, Some, refl, sym, ap, ◌∙◌}
use Rattle.fb_graph.specs.Parity.{is_in}
use Rattle.fb_graph.specs.Problem.{Problem, edge_at}
use Rattle.fb_graph.specs.Certificate.{AreDistinct}
use Rattle.fb_graph.specs.Limits.{IsWithinLimits}
use Rattle.fb_graph.specs.Covers.{is_covered_by, passes}
use Rattle.fb_graph.specs.Dual.{AreUnderOne, Node, cover_of, top_at}
use Rattle.fb_graph.specs.Steps.{Roles}
use Rattle.fb_laws.proofs.SearchTrees.{cover_set}
use Rattle.fb_obstacles.specs.Obstacles.{IsWatched, slack_at}
use Rattle.fb_obstacles.specs.Watched.{AreBounded, Watched}
use Rattle.fb_obstacles.specs.InternalWatching.{Watches}
use Rattle.fb_search.proofs.BegunSearches.{touches_first, touches_second}
use Rattle.fb_search.proofs.TakenVertices.{plus_over}
use Rattle.fb_search.proofs.KeptBounds.{IsMilder, slack_away}

-- the roles after it beside those before it
pub record TakesPlus (before after : Roles) (name : ℕ) : Type 0 where
  pub plus : (n : ℕ) → after.is_plus n ≡ true → (name ≡ n) ⊎ (before.is_plus n ≡ true)
  pub minus : (n : ℕ) → name ≢ n → before.is_minus n ≡ true → after.is_minus n ≡ true

module _ (p : Problem) (before after : Roles) (name : ℕ) (takes : TakesPlus before after name) (nodes : List Node) (limits : IsWithinLimits p)
    (distinct : AreDistinct (map (λ n. n.name) nodes)) (old new : Watched) (within : All (λ k. k < length p.edges) new.edges)
    (watched : Watches p (top_at nodes name) old new) (watch : IsWatched p before nodes old.edges) where
  over_before : (u : ℕ) → is_covered_by after.is_plus nodes u ≡ true
      → (is_in (top_at nodes name) u ≡ true) ⊎ (is_covered_by before.is_plus nodes u ≡ true)
  over_before u over =
      let (n, covered, plus) = plus_over after.is_plus nodes u over in
      by n covered (takes.plus n plus)
    where
      by : (n : ℕ) → cover_of nodes u ≡ Some n → (name ≡ n) ⊎ (before.is_plus n ≡ true)
          → (is_in (top_at nodes name) u ≡ true) ⊎ (is_covered_by before.is_plus nodes u ≡ true)
      by n covered (inl same) = inl (cover_set nodes u name distinct (covered ∙ ap (λ m. Some m) (sym same))).1
      by n covered (inr plus) = inr (ap (passes before.is_plus) covered ∙ plus)

  -- with the edges of the new plus node all are watched that have to be
  pub watch_taking : IsWatched p after nodes new.edges
  watch_taking = record { within = within; near = near }
    where
      near : (k : ℕ) → k < length p.edges
          → (is_covered_by after.is_plus nodes (edge_at p.edges k).first ≡ true)
          ⊎ (is_covered_by after.is_plus nodes (edge_at p.edges k).second ≡ true)
          → (AreUnderOne nodes (edge_at p.edges k).first (edge_at p.edges k).second → ⊥) → is_in new.edges k ≡ true
      near k less (inl over) not_one = by (over_before (edge_at p.edges k).first over)
        where
          by : (is_in (top_at nodes name) (edge_at p.edges k).first ≡ true)
              ⊎ (is_covered_by before.is_plus nodes (edge_at p.edges k).first ≡ true) → is_in new.edges k ≡ true
          by (inl here) = watched.near (edge_at p.edges k).first k here less (touches_first p k limits less)
          by (inr old_one) = watched.kept k (watch.near k less (inl old_one) not_one)
      near k less (inr over) not_one = by (over_before (edge_at p.edges k).second over)
        where
          by : (is_in (top_at nodes name) (edge_at p.edges k).second ≡ true)
              ⊎ (is_covered_by before.is_plus nodes (edge_at p.edges k).second ≡ true) → is_in new.edges k ≡ true
          by (inl here) = watched.near (edge_at p.edges k).second k here less (touches_second p k limits less)
          by (inr old_one) = watched.kept k (watch.near k less (inr old_one) not_one)

  -- no role is harder at a vertex that the new plus node doesn't hold
  milder_taking : (u : ℕ) → ¬ (is_in (top_at nodes name) u ≡ true) → IsMilder before after nodes nodes u
  milder_taking u away = record { plus = λ over. by (over_before u over); minus = under_after }
    where
      by : (is_in (top_at nodes name) u ≡ true) ⊎ (is_covered_by before.is_plus nodes u ≡ true) → is_covered_by before.is_plus nodes u ≡ true
      by (inl here) = absurd (away here)
      by (inr old_one) = old_one

      under_after : is_covered_by before.is_minus nodes u ≡ true → is_covered_by after.is_minus nodes u ≡ true
      under_after over =
          let (n, covered, minus) = plus_over before.is_minus nodes u over in
          ap (passes after.is_minus) covered
          ∙ takes.minus n (λ same. away (cover_set nodes u name distinct (covered ∙ ap (λ m. Some m) (sym same))).1) minus

  pub bounded_taking : AreBounded (slack_at p before nodes) old → AreBounded (slack_at p after nodes) new
  bounded_taking =
      watched.bounds (slack_at p before nodes) (slack_at p after nodes)
      (λ k away.
      slack_away before after nodes nodes (λ v. is_in (top_at nodes name) v ≡ true) (edge_at p.edges k) (λ v. refl) milder_taking
      (λ u v at_u at_v one. one) away)
