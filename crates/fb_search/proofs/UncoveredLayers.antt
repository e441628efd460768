-- A minus node's empty layer taken off keeps what every search keeps, and leaves less to do.
use Rattle.std.proofs.Common.{ℕ, ◌≡◌, ◌==◌, ◌<◌, ◌⊎◌, inl, inr, ◌||◌, Bool, true, false, List, [], ◌∷◌, ◌++◌, length, All, Option, Some, None, le_refl, refl, sym, ap, ◌∙◌, subst, if◌then◌else◌}
use Rattle.std.specs.List.{last_or}
use Rattle.std.proofs.lemmas.Bool.{cases_Bool, false≢true, eqb-true, ne_eqb}
use Rattle.fb_graph.specs.Parity.{is_in}
use Rattle.fb_graph.specs.Problem.{Problem, edge_at, touches}
use Rattle.fb_graph.specs.Nests.{IsNest}
use Rattle.fb_graph.specs.Covers.{is_covered_by, passes}
use Rattle.fb_graph.specs.Dual.{AreUnderOne, Node, all_cuts, cover_of, height_of, is_live, is_outer, taller_node, top_at}
use Rattle.fb_graph.specs.Moves.{MayUncover, absorbed_nodes, uncovered_nodes}
use Rattle.fb_graph.proofs.Members.{is_in_pushed}
use Rattle.fb_graph.proofs.Sets.{is_in-All}
use Rattle.fb_graph.proofs.TallerNodes.{taller_covers}
use Rattle.fb_laws.specs.NestBridges.{IsGivenUp}
use Rattle.fb_graph.specs.Steps.{Roles}
use Rattle.fb_laws.proofs.LayeredSearches.{taller_covered}
use Rattle.fb_laws.proofs.MoveBridges.{uncovered_back}
use Rattle.fb_obstacles.specs.InternalWatching.{WatchesTaken}
use Rattle.fb_obstacles.specs.Obstacles.{IsWatched, slack_at}
use Rattle.fb_obstacles.specs.Watched.{AreBounded, Watched}
use Rattle.fb_obstacles.proofs.LeftEdges.{watched_at, watched_elsewhere}
use Rattle.fb_obstacles.proofs.TopLayers.{top_real}
use Rattle.fb_regions.proofs.Listed.{last_push}
use Rattle.fb_search.proofs.KeptBounds.{slack_beside}

abbrev name_in : Option ℕ → ℕ
name_in None = 0
name_in (Some name) = name

-- a vertex that a minus node gives up
module _ (roles : Roles) (nodes : List Node) (name v : ℕ) (apart : (n : ℕ) → roles.is_plus n ≡ true → roles.is_minus n ≡ true → ⊥)
    (minus : roles.is_minus name ≡ true) (live : is_live nodes name ≡ true) (outer : is_outer nodes name ≡ true)
    (free : cover_of nodes v ≡ None) where
  -- it is not under a plus node any more
  other : (u : ℕ) → is_covered_by roles.is_plus nodes u ≡ true → (v == u) ≡ false
  other u over = by (v == u) refl
    where
      by : (b : Bool) → (v == u) ≡ b → b ≡ false
      by false e = refl
      by true e = absurd (false≢true (sym (ap (passes roles.is_plus) (ap (cover_of nodes) (sym (eqb-true v u e)) ∙ free)) ∙ over))

  still_over : (u : ℕ) → is_covered_by roles.is_plus nodes u ≡ true → is_covered_by roles.is_plus (absorbed_nodes name v nodes) u ≡ true
  still_over u over = ap (passes roles.is_plus) (taller_covers nodes name v u (other u over)) ∙ over

  under_one : (a b : ℕ) → is_covered_by roles.is_plus nodes a ≡ true → AreUnderOne (absorbed_nodes name v nodes) a b → AreUnderOne nodes a b
  under_one a b over (m, at_a, at_b) = by (v == b) refl
    where
      here : cover_of nodes a ≡ Some m
      here = sym (taller_covers nodes name v a (other a over)) ∙ at_a

      plus : roles.is_plus m ≡ true
      plus = sym (ap (passes roles.is_plus) here) ∙ over

      by : (c : Bool) → (v == b) ≡ c → AreUnderOne nodes a b
      by false e = (m, here, sym (taller_covers nodes name v b e) ∙ at_b)
      by true e =
          let same : m ≡ name = ap name_in (sym at_b ∙ (ap (cover_of (absorbed_nodes name v nodes)) (sym (eqb-true v b e)) ∙ taller_covered nodes name v live outer free)) in
          absurd (apart m plus (ap roles.is_minus same ∙ minus))

  swapped : (ns : List Node) (a b : ℕ) → AreUnderOne ns a b → AreUnderOne ns b a
  swapped ns a b (m, at_a, at_b) = (m, at_b, at_a)

  watch_lower : (p : Problem) (edges : List ℕ) → IsWatched p roles (absorbed_nodes name v nodes) edges → IsWatched p roles nodes edges
  watch_lower p edges watch = record {
    within = watch.within;
    near = λ k less over apart_ends. near k less over apart_ends;
  }
    where
      near : (k : ℕ) → k < length p.edges
          → (is_covered_by roles.is_plus nodes (edge_at p.edges k).first ≡ true) ⊎ (is_covered_by roles.is_plus nodes (edge_at p.edges k).second ≡ true)
          → (AreUnderOne nodes (edge_at p.edges k).first (edge_at p.edges k).second → ⊥) → is_in edges k ≡ true
      near k less (inl over) not_one =
          watch.near k less (inl (still_over (edge_at p.edges k).first over))
          (λ one. not_one (under_one (edge_at p.edges k).first (edge_at p.edges k).second over one))
      near k less (inr over) not_one =
          watch.near k less (inr (still_over (edge_at p.edges k).second over))
          (λ one.
          not_one (swapped nodes (edge_at p.edges k).second (edge_at p.edges k).first
          (under_one (edge_at p.edges k).second (edge_at p.edges k).first over
          (swapped (absorbed_nodes name v nodes) (edge_at p.edges k).first (edge_at p.edges k).second one))))

  module _ (p : Problem) (old new : Watched) (taken : WatchesTaken p roles nodes v old new) where
    -- its edges come under watch
    pub watch_freed : All (λ k. k < length p.edges) new.edges → IsWatched p roles (absorbed_nodes name v nodes) old.edges
        → IsWatched p roles nodes new.edges
    watch_freed within watch = record {
      within = within;
      near = λ k less over apart_ends. by k less over apart_ends (cases_Bool (touches v (edge_at p.edges k)));
    }
      where
        by : (k : ℕ) → k < length p.edges
            → (is_covered_by roles.is_plus nodes (edge_at p.edges k).first ≡ true)
            ⊎ (is_covered_by roles.is_plus nodes (edge_at p.edges k).second ≡ true)
            → ¬ AreUnderOne nodes (edge_at p.edges k).first (edge_at p.edges k).second
            → (touches v (edge_at p.edges k) ≡ true) ⊎ (touches v (edge_at p.edges k) ≡ false) → is_in new.edges k ≡ true
        by k less over apart_ends (inl touch) = watched_at p roles nodes v old new taken k less touch apart_ends
        by k less over apart_ends (inr away) =
            watched_elsewhere p roles nodes v old new taken k less away
            ∙ (watch_lower p old.edges watch).near k less over apart_ends

    pub bounded_freed : ((u : ℕ) → height_of (all_cuts nodes) u ≡ height_of (all_cuts (absorbed_nodes name v nodes)) u)
        → AreBounded (slack_at p roles (absorbed_nodes name v nodes)) old → AreBounded (slack_at p roles nodes) new
    bounded_freed heights =
        taken.bounds (slack_at p roles (absorbed_nodes name v nodes)) (slack_at p roles nodes)
        (λ k away.
        slack_beside roles (absorbed_nodes name v nodes) nodes v (edge_at p.edges k) heights
        (λ u other. sym (taller_covers nodes name v u (ne_eqb v u other))) away)
        (λ k touch. le_refl (slack_at p roles nodes k))

-- the vertices of a node with one more
top_taller : (name v : ℕ) (nodes : List Node) → is_live nodes name ≡ true
    → top_at (absorbed_nodes name v nodes) name ≡ top_at nodes name ++ v ∷ []
top_taller name v [] live = absurd (false≢true live)
top_taller name v (n ∷ ns) live = step (n.name == name) refl live (top_taller name v ns)
  where
    step : (b : Bool) → (n.name == name) ≡ b → (b || is_live ns name) ≡ true
        → (is_live ns name ≡ true → top_at (absorbed_nodes name v ns) name ≡ top_at ns name ++ v ∷ [])
        → top_at ((if b then taller_node v n else n) ∷ absorbed_nodes name v ns) name
        ≡ (if b then n.top.vertices else top_at ns name) ++ v ∷ []
    step true e here rest =
        ap (λ b. if b then n.top.vertices ++ v ∷ [] else top_at (absorbed_nodes name v ns) name) e
    step false e here rest =
        ap (λ b. if b then n.top.vertices else top_at (absorbed_nodes name v ns) name) e ∙ rest here

-- the last vertex of a node that gives one up
module _ (p : Problem) (nodes : List Node) (name last : ℕ) (may : MayUncover nodes name) (nest : IsNest p nodes)
    (is : last_or None (top_at nodes name) ≡ Some last) where
  given : IsGivenUp nodes name (uncovered_back p nodes name may nest).0
  given = (uncovered_back p nodes name may nest).1

  tops : top_at nodes name ≡ top_at (uncovered_nodes name nodes) name ++ (uncovered_back p nodes name may nest).0 ∷ []
  tops =
      ap (λ ns. top_at ns name) (sym given.back)
      ∙ top_taller name (uncovered_back p nodes name may nest).0 (uncovered_nodes name nodes) given.live

  last_given : last ≡ (uncovered_back p nodes name may nest).0
  last_given =
      ap name_in
      (sym is
      ∙ (ap (last_or None) tops
      ∙ last_push None (top_at (uncovered_nodes name nodes) name) (uncovered_back p nodes name may nest).0))

  -- it is given up
  pub given_last : IsGivenUp nodes name last
  given_last = subst (IsGivenUp nodes name) (sym last_given) given

  -- and is real
  pub real_last : p.is_real last ≡ true
  real_last =
      is_in-All (λ v. p.is_real v ≡ true) (top_at nodes name) (top_real p nodes name nest may.live) last
      (subst (λ v. is_in (top_at nodes name) v ≡ true) (sym last_given)
      (ap (λ vs. is_in vs (uncovered_back p nodes name may nest).0) tops
      ∙ is_in_pushed (top_at (uncovered_nodes name nodes) name) (uncovered_back p nodes name may nest).0))
