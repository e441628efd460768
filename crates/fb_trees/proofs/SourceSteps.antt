-- Source walks step by step, as the laws have them, and walks gone back.
use Rattle.std.proofs.Common.{ℕ, ◌≡◌, ◌+◌, true, List, [], ◌∷◌, map, reverse, All, Some, refl, sym, ap, ◌∙◌, subst, arith}
use Rattle.std.proofs.lemmas.List.Elements.{All-cons, All-head, All-map, All-nil, All-push, All-tail}
use Rattle.std.proofs.lemmas.List.Sums.{sum_by-cons}
use Rattle.fb_graph.specs.Problem.{Problem, edge_at, weight_of}
use Rattle.fb_graph.specs.Components.{IsWalkBy, Leads}
use Rattle.fb_graph.specs.Dual.{Node, all_cuts, cover_of, height_of}
use Rattle.fb_graph.specs.Laws.{has_real_end}
use Rattle.fb_graph.proofs.Walks.{Leads_flip}
use Rattle.fb_laws.specs.MetLinks.{IsSourceUnder}
use Rattle.fb_laws.specs.StepLinks.{IsTurn}
use Rattle.fb_laws.proofs.StepLinks.{edges_turned}
use Rattle.fb_links.specs.declared.walk.Step.{Step}
use Rattle.fb_links.specs.Walks.{turned_step, turned_walk, walk_weight}
use Rattle.fb_links.proofs.Turns.{turned_walk-cons}
use Rattle.fb_regions.specs.Moves.{IsWalkFrom}
use Rattle.fb_regions.specs.Walks.{IsWalk}
use Rattle.fb_trees.specs.InternalMetWalks.{IsRealStep, step_parts}

-- they are a walk by their edges
edges_lead : (p : Problem) (walk : List Step) (from to : ℕ) → IsWalk p walk from to
    → IsWalkBy p (map (λ s. s.edge) walk) from to
edges_lead p [] from to same = same
edges_lead p (s ∷ ss) from to (begins, step, more) =
    (s.to, step.within, subst (λ v. Leads (edge_at p.edges s.edge) v s.to) begins step.leads, edges_lead p ss s.to to more)

-- which weighs the same
edges_weigh : (p : Problem) (walk : List Step) (from to : ℕ) → IsWalk p walk from to
    → weight_of p (map (λ s. s.edge) walk) ≡ walk_weight walk
edges_weigh p [] from to same = refl
edges_weigh p (s ∷ ss) from to (begins, step, more) = omega (
  arith,
  sum_by-cons (λ k. (edge_at p.edges k).weight) s.edge (map (λ t. t.edge) ss),
  sum_by-cons (λ t. t.weight) s ss,
  step.weighs,
  edges_weigh p ss s.to to more,
)

abbrev HasRealEnd : Problem → Step → Type 0
HasRealEnd p s = has_real_end p (edge_at p.edges s.edge) ≡ true

-- each of them has a real end
pub steps_real : (p : Problem) (walk : List Step) (from to : ℕ) → IsWalk p walk from to → All (HasRealEnd p) walk
    → All (IsRealStep p) walk
steps_real p [] from to same real = All-nil (IsRealStep p)
steps_real p (s ∷ ss) from to (begins, step, more) real =
    All-cons (IsRealStep p) s ss (step, All-head (HasRealEnd p) s ss real)
    (steps_real p ss s.to to more (All-tail (HasRealEnd p) s ss real))

pub turns : IsTurn step_parts turned_step
turns = record { from = λ s. refl; to = λ s. refl; edge = λ s. refl }

pub edges_back : (walk : List Step) → map (λ s. s.edge) (turned_walk walk) ≡ reverse (map (λ s. s.edge) walk)
edges_back walk = edges_turned Step step_parts turned_step walk turns

-- the source walk as the laws have it
pub walk_under : (p : Problem) (nodes : List Node) (walk : List Step) (d v name : ℕ) → IsWalkFrom p nodes walk d v
    → cover_of nodes v ≡ Some name → IsSourceUnder p nodes name (map (λ s. s.edge) walk) d v
walk_under p nodes walk d v name is covered = record {
  defect = is.defect;
  begins = is.together ∙ covered;
  ends = covered;
  real = All-map (λ k. has_real_end p (edge_at p.edges k) ≡ true) (λ s. s.edge) walk is.real;
  source = record {
    leads = edges_lead p walk d v is.leads;
    balance = ap (λ n. n + height_of (all_cuts nodes) v) (edges_weigh p walk d v is.leads) ∙ is.weighs;
  };
}

step_turned : (p : Problem) (s : Step) → IsRealStep p s → IsRealStep p (turned_step s)
step_turned p s (is, real) = (
  record { within = is.within; leads = Leads_flip (edge_at p.edges s.edge) s.from s.to is.leads; weighs = is.weighs },
  real,
)

-- and so has each of a walk gone back
pub turned_steps : (p : Problem) (walk : List Step) → All (IsRealStep p) walk → All (IsRealStep p) (turned_walk walk)
turned_steps p [] are = All-nil (IsRealStep p)
turned_steps p (s ∷ ss) are =
    subst (All (IsRealStep p)) (sym (turned_walk-cons s ss))
    (All-push (IsRealStep p) (turned_walk ss) (turned_step s) (turned_steps p ss (All-tail (IsRealStep p) s ss are))
    (step_turned p s (All-head (IsRealStep p) s ss are)))
