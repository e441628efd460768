-- The source walks over a tight edge are a tight link.
use Rattle.std.proofs.Common.{ℕ, ◌≡◌, ◌≢◌, ◌<◌, ◌≤◌, ◌^◌, inl, inr, true, false, List, [], ◌∷◌, ◌++◌, map, reverse, take, drop, length, All, Option, Some, None, is_some, if◌then◌else◌, refl, sym, ap, ◌∙◌, subst, append_assoc, arith}
use Rattle.std.specs.Option.{IsSome}
use Rattle.std.proofs.lemmas.List.{map-append, length-append}
use Rattle.std.proofs.lemmas.List.Elements.{All-append, All-push}
use Rattle.std.proofs.Math.Seq.{drop-append_seam, take-append_seam}
use Rattle.std.proofs.lemmas.List.Sums.{sum_by_push}
use Rattle.fb_graph.specs.Parity.{is_in}
use Rattle.fb_graph.specs.Problem.{Problem, crosses, edge_at}
use Rattle.fb_graph.specs.Certificate.{load_of}
use Rattle.fb_graph.specs.declared.parts.Edge.{Edge}
use Rattle.fb_graph.specs.Components.{Leads}
use Rattle.fb_graph.specs.Dual.{IsDual, Node, all_cuts, cover_of, height_of}
use Rattle.fb_graph.specs.Laws.{has_real_end}
use Rattle.fb_graph.proofs.CutSums.{weigh-le}
use Rattle.fb_laws.specs.MetLinks.{IsTightEdge, boundary_link, met_link}
use Rattle.fb_laws.specs.Searches.{LeavesNode}
use Rattle.fb_laws.specs.StepLinks.{link_of_steps}
use Rattle.fb_laws.specs.Trees.{Connects}
use Rattle.fb_laws.specs.Works.{AreMatchedLinks}
use Rattle.fb_laws.proofs.MetLinks.{covered_real, first_real, link_met, link_to_boundary, uncovered_real}
use Rattle.fb_links.specs.declared.walk.Step.{Step}
use Rattle.fb_links.specs.Walks.{IsChained, Runs, turned_walk, walk_weight}
use Rattle.fb_links.proofs.Turns.{Runs-append, Runs-chained, Runs-ends, Runs-turned_walk, weight-append, weight-turned_walk}
use Rattle.fb_regions.specs.Moves.{IsOver, IsSourceWalk, IsWalkFrom, inner_end, outer_end}
use Rattle.fb_regions.specs.Walks.{IsStep}
use Rattle.fb_trees.specs.InternalMetWalks.{IsAlong, IsBetween, IsMetWalk, IsOut, IsOutWalk, IsRealStep, step_parts}
use Rattle.fb_trees.proofs.SourceSteps.{edges_back, steps_real, turned_steps, walk_under}
use Rattle.fb_regions.proofs.ChainedWalks.{walk_runs}

-- an edge from a covered vertex to an uncovered one
pub ends_told : (nodes : List Node) (e : Edge) (u v name : ℕ) → Leads e u v → cover_of nodes u ≡ Some name → cover_of nodes v ≡ None
    → (inner_end nodes e ≡ u) × (outer_end nodes e ≡ v)
ends_told nodes e u v name (inl (first, second)) covered free =
    let at : is_some (cover_of nodes e.first) ≡ true = ap (λ x. is_some (cover_of nodes x)) first ∙ ap (λ (o : Option ℕ). is_some o) covered in (
      ap (λ b. if b then e.first else e.second) at ∙ first,
      ap (λ b. if b then e.second else e.first) at ∙ second,
    )
ends_told nodes e u v name (inr (second, first)) covered free =
    let at : is_some (cover_of nodes e.first) ≡ false = ap (λ x. is_some (cover_of nodes x)) first ∙ ap (λ (o : Option ℕ). is_some o) free in (
      ap (λ b. if b then e.first else e.second) at ∙ second,
      ap (λ b. if b then e.second else e.first) at ∙ first,
    )

-- no potential is above the value of all cuts
height_low : (p : Problem) (nodes : List Node) (v : ℕ) → IsDual p nodes → height_of (all_cuts nodes) v ≤ 2 ^ 52
height_low p nodes v dual = omega (arith, weigh-le (λ s. is_in s v) (all_cuts nodes), dual.total)

-- the step goes over a tight edge, from a vertex under the outer node
pub record IsTightStep (p : Problem) (nodes : List Node) (a : ℕ) (s : Step) : Type 0 where
  pub step : IsStep p s
  pub tight : load_of (all_cuts nodes) (edge_at p.edges s.edge) ≡ (edge_at p.edges s.edge).weight
  pub covered : cover_of nodes s.from ≡ Some a

module _ (p : Problem) (nodes : List Node) (a : ℕ) (s : Step) (dual : IsDual p nodes) (over : IsTightStep p nodes a s) where
  step_low : s.weight ≤ 2 ^ 52
  step_low = omega (
    arith,
    weigh-le (λ set. crosses set (edge_at p.edges s.edge)) (all_cuts nodes),
    dual.total,
    over.tight,
    over.step.weighs,
  )

  edge_is : IsTightEdge p nodes s.edge s.from s.to
  edge_is = record { within = over.step.within; leads = over.step.leads; tight = over.tight }

  real_end : has_real_end p (edge_at p.edges s.edge) ≡ true
  real_end =
      first_real p (edge_at p.edges s.edge) s.from s.to over.step.leads (covered_real p nodes s.from a dual over.covered)

  -- a source walk and the step
  module _ (walk : List Step) (d : ℕ) (source : IsWalkFrom p nodes walk d s.from) where
    pub out_runs : Runs (walk ++ s ∷ []) d s.to
    out_runs = Runs-append walk (s ∷ []) d s.from s.to (walk_runs p walk d s.from source.leads) (refl, refl)

    out_steps : All (IsRealStep p) (walk ++ s ∷ [])
    out_steps =
        All-push (IsRealStep p) walk s
        (steps_real p walk d s.from source.leads source.real) (over.step, real_end)

    out_weighs : walk_weight (walk ++ s ∷ []) ≤ 2 ^ 53
    out_weighs = omega (arith, sum_by_push (λ t. t.weight) walk s, source.weighs, height_low p nodes d dual, step_low)

    out_some : 0 < length (walk ++ s ∷ [])
    out_some = omega (arith, length-append {A = Step})

    out_link : link_of_steps step_parts (walk ++ s ∷ []) ≡ boundary_link d (map (λ t. t.edge) walk) s.edge s.to
    out_link =
        let ends = Runs-ends (walk ++ s ∷ []) d s.to out_some out_runs in
        rw (ends.0, ends.1, map-append (λ t. t.edge) walk (s ∷ [])) refl

    pub out_tight : p.is_real s.to ≡ false → IsOutWalk p nodes a s.to (walk ++ s ∷ [])
    out_tight unreal = record {
      walk_is = record {
        some = out_some;
        light = omega (arith, out_weighs);
        steps = out_steps;
        tight = subst (λ l. AreMatchedLinks p nodes (l ∷ [])) (sym out_link) link.0;
      };
      leaves = subst (λ l. LeavesNode nodes l a s.to) (sym out_link) link.1;
    }
      where
        link : AreMatchedLinks p nodes (boundary_link d (map (λ t. t.edge) walk) s.edge s.to ∷ [])
            × LeavesNode nodes (boundary_link d (map (λ t. t.edge) walk) s.edge s.to) a s.to
        link =
            link_to_boundary p nodes a (map (λ t. t.edge) walk) s.edge d s.from s.to dual unreal
            (walk_under p nodes walk d s.from a source over.covered) edge_is

    -- and a source walk gone back
    module _ (b : ℕ) (apart : a ≢ b) (back : List Step) (c : ℕ) (target : IsWalkFrom p nodes back c s.to)
        (at_end : cover_of nodes s.to ≡ Some b) where
      pub met_runs : Runs ((walk ++ s ∷ []) ++ turned_walk back) d c
      met_runs =
          Runs-append (walk ++ s ∷ []) (turned_walk back) d s.to c out_runs
          (Runs-turned_walk back c s.to (walk_runs p back c s.to target.leads))

      met_some : 0 < length ((walk ++ s ∷ []) ++ turned_walk back)
      met_some = omega (arith, length-append {A = Step})

      met_edges : map (λ t. t.edge) ((walk ++ s ∷ []) ++ turned_walk back)
          ≡ map (λ t. t.edge) walk ++ s.edge ∷ reverse (map (λ t. t.edge) back)
      met_edges =
          map-append (λ t. t.edge) (walk ++ s ∷ []) (turned_walk back)
          ∙ (λ k. map-append (λ t. t.edge) walk (s ∷ []) k ++ edges_back back k)
          ∙ append_assoc (map (λ t. t.edge) walk) (s.edge ∷ []) (reverse (map (λ t. t.edge) back))

      met_is : link_of_steps step_parts ((walk ++ s ∷ []) ++ turned_walk back)
          ≡ met_link d (map (λ t. t.edge) walk) s.edge (map (λ t. t.edge) back) c
      met_is =
          let ends = Runs-ends ((walk ++ s ∷ []) ++ turned_walk back) d c met_some met_runs in
          rw (ends.0, ends.1, met_edges) refl

      pub met_tight : IsMetWalk p nodes a b ((walk ++ s ∷ []) ++ turned_walk back)
      met_tight = record {
        walk_is = record {
          some = met_some;
          light = omega (
            arith,
            weight-append (walk ++ s ∷ []) (turned_walk back),
            weight-turned_walk back,
            out_weighs,
            target.weighs,
            height_low p nodes c dual,
          );
          steps =
              All-append (IsRealStep p) (walk ++ s ∷ []) (turned_walk back)
              out_steps (turned_steps p back (steps_real p back c s.to target.leads target.real));
          tight = subst (λ l. AreMatchedLinks p nodes (l ∷ [])) (sym met_is) link.0;
        };
        connects = subst (λ l. Connects nodes l a b) (sym met_is) link.1;
      }
        where
          link : AreMatchedLinks p nodes (met_link d (map (λ t. t.edge) walk) s.edge (map (λ t. t.edge) back) c ∷ [])
              × Connects nodes (met_link d (map (λ t. t.edge) walk) s.edge (map (λ t. t.edge) back) c) a b
          link =
              link_met p nodes a b (map (λ t. t.edge) walk) (map (λ t. t.edge) back) s.edge d s.from s.to c dual apart
              (walk_under p nodes walk d s.from a source over.covered) (walk_under p nodes back c s.to b target at_end)
              edge_is

pub between_held : (p : Problem) (nodes : List Node) (k a b : ℕ) (s : Step) → IsBetween p nodes k a b → IsAlong p k s
    → IsSome (cover_of nodes s.from) × IsSome (cover_of nodes s.to)
between_held p nodes k a b s is along = (rw (along.from, is.first) refl, rw (along.to, is.second) refl)

module _ (p : Problem) (nodes : List Node) (k a b : ℕ) (s : Step) (walk back : List Step) (dual : IsDual p nodes)
    (is : IsBetween p nodes k a b) (along : IsAlong p k s) (source : IsSourceWalk p nodes s.from walk)
    (target : IsSourceWalk p nodes s.to back) where
  between_over : IsTightStep p nodes a s
  between_over = record {
    step = record {
      within = rw along.edge is.within;
      leads = rw (along.edge, along.from, along.to) (inl (refl, refl));
      weighs = rw along.edge along.weight;
    };
    tight = rw along.edge is.tight;
    covered = rw along.from is.first;
  }

  pub between_walk : IsMetWalk p nodes a b ((walk ++ s ∷ []) ++ turned_walk back)
  between_walk =
      met_tight p nodes a s dual between_over walk source.0 source.1 b is.apart back target.0 target.1
      (rw along.to is.second)

  pub between_chained : IsChained ((walk ++ s ∷ []) ++ turned_walk back)
  between_chained =
      Runs-chained ((walk ++ s ∷ []) ++ turned_walk back) source.0 target.0
      (met_runs p nodes a s dual between_over walk source.0 source.1 b is.apart back target.0 target.1
      (rw along.to is.second))

module _ (p : Problem) (nodes : List Node) (k a v : ℕ) (s : Step) (dual : IsDual p nodes) (is : IsOut p nodes k a v)
    (over : IsOver p nodes k s) where
  told : (s.from ≡ is.inner) × (s.to ≡ v)
  told =
      let free = uncovered_real p nodes v dual is.boundary in
      let ends = ends_told nodes (edge_at p.edges k) is.inner v a is.leads is.covered free in
      (over.from ∙ ends.0, over.to ∙ ends.1)

  pub out_held : IsSome (cover_of nodes s.from)
  out_held = rw (told.0, is.covered) refl

  out_over : IsTightStep p nodes a s
  out_over = record {
    step = record {
      within = rw over.edge is.within;
      leads = rw (over.edge, told.0, told.1) is.leads;
      weighs = rw over.edge over.weight;
    };
    tight = rw over.edge is.tight;
    covered = rw told.0 is.covered;
  }

  module _ (walk : List Step) (source : IsSourceWalk p nodes s.from walk) where
    pub out_walk : IsOutWalk p nodes a v (walk ++ s ∷ [])
    out_walk =
        subst (λ u. IsOutWalk p nodes a u (walk ++ s ∷ [])) told.1
        (out_tight p nodes a s dual out_over walk source.0 source.1 (rw told.1 is.boundary))

    pub out_chained : IsChained (walk ++ s ∷ [])
    out_chained =
        Runs-chained (walk ++ s ∷ []) source.0 s.to (out_runs p nodes a s dual out_over walk source.0 source.1)

-- as the code adds the parts of a walk over sources to an empty list, and turns the last one
pub walk_over_sources : (none one two three whole up down : List Step) (step : Step) (back : ℕ) → none ≡ []
    → one ≡ none ++ up → two ≡ one ++ step ∷ [] → back ≡ length two → three ≡ two ++ down
    → whole ≡ take back three ++ turned_walk (drop back three) → whole ≡ (up ++ step ∷ []) ++ turned_walk down
walk_over_sources none one two three whole up down step back empty first over at last turned =
    turned ∙ (ap (λ n. take n three ++ turned_walk (drop n three)) at
    ∙ (ap (λ l. take (length two) l ++ turned_walk (drop (length two) l)) last
    ∙ (ap (λ l. l ++ turned_walk (drop (length two) (two ++ down))) (take-append_seam two down)
    ∙ (ap (λ l. two ++ turned_walk l) (drop-append_seam two down) ∙ ap (λ l. l ++ turned_walk down) whole_up))))
  where
    whole_up : two ≡ up ++ step ∷ []
    whole_up = over ∙ ap (λ l. l ++ step ∷ []) (first ∙ ap (λ l. l ++ up) empty)

pub walk_over_source : (none one two up : List Step) (step : Step) → none ≡ [] → one ≡ none ++ up → two ≡ one ++ step ∷ []
    → two ≡ up ++ step ∷ []
walk_over_source none one two up step empty first over = over ∙ ap (λ l. l ++ step ∷ []) (first ∙ ap (λ l. l ++ up) empty)
