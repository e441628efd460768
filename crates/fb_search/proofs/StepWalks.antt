-- Walks of links as the laws read them, and joined.
use Rattle.std.proofs.Common.{ℕ, ◌≡◌, ◌≢◌, ◌==◌, Option, None, Some, is_some, unwrap_or, false, true, List, [], ◌∷◌, cond, Bool, map, arith, refl}
use Rattle.std.proofs.lemmas.Bool.{false≢true}
use Rattle.std.proofs.lemmas.List.Elements.{All-append, All-head, All-tail}
use Rattle.std.proofs.lemmas.List.Sums.{sum_by-cons}
use Rattle.fb_graph.specs.Problem.{Problem, edge_at, weight_of}
use Rattle.fb_laws.specs.SingleDefects.{link_through}
use Rattle.fb_laws.proofs.StepLinks.{steps_through}
use Rattle.fb_links.specs.declared.walk.Step.{Step}
use Rattle.fb_links.specs.Table.{is_live, link_at, walk_at}
use Rattle.fb_links.specs.Walks.{end_from, ending_at, joined_walk, meeting_vertex, start_of, starting_at, turned_step, turned_walk, walk_weight}
use Rattle.fb_trees.specs.InternalMetWalks.{IsRealStep, step_parts}
use Rattle.fb_trees.proofs.SourceSteps.{turned_steps, turns}
use Rattle.fb_half.specs.Parts.{AreStepsOf}
use Rattle.fb_half.specs.Translations.{link_of}

-- two walks that are joined where they meet, as one link through that vertex
pub joined_through : (first second : List Step) → first ≢ [] → second ≢ []
    → link_of (joined_walk first second) ≡ link_through (meeting_vertex first second) (link_of first) (link_of second)
joined_through first second some others =
    steps_through Step step_parts turned_step (meeting_vertex first second) first second turns some others

either_steps : (p : Problem) (b : Bool) (walk : List Step) → AreStepsOf p walk → AreStepsOf p (cond b walk (turned_walk walk))
either_steps p true walk are = are
either_steps p false walk are = turned_steps p walk are

-- a joined walk goes over edges with a real end too
pub joined_steps : (p : Problem) (first second : List Step) → AreStepsOf p first → AreStepsOf p second
    → AreStepsOf p (joined_walk first second)
joined_steps p first second are others =
    All-append (IsRealStep p) (ending_at (meeting_vertex first second) first) (starting_at (meeting_vertex first second) second)
    (either_steps p (meeting_vertex first second == end_from 0 first) first are)
    (either_steps p (meeting_vertex first second == start_of second) second others)

-- the steps weigh what their edges weigh
pub steps_weigh : (p : Problem) (walk : List Step) → AreStepsOf p walk
    → walk_weight walk ≡ weight_of p (map (λ s. s.edge) walk)
steps_weigh p [] are = refl
steps_weigh p (s ∷ ss) are =
    omega (
      arith,
      sum_by-cons (λ (x : Step). x.weight) s ss,
      sum_by-cons (λ (k : ℕ). (edge_at p.edges k).weight) s.edge (map (λ x. x.edge) ss),
      (All-head (IsRealStep p) s ss are).0.weighs,
      steps_weigh p ss (All-tail (IsRealStep p) s ss are),
    )

-- the walk of a live number
pub walk_there : (links : List (Option (List Step))) (id : ℕ) → is_live links id ≡ true
    → link_at links id ≡ Some (walk_at links id)
walk_there links id live = by (link_at links id) live
  where
    by : (o : Option (List Step)) → is_some o ≡ true → o ≡ Some (unwrap_or o [])
    by None live = absurd (false≢true live)
    by (Some walk) live = refl
