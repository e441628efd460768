-- The problem of a scope has no defects. What holds of walks over it holds for the part's own problem.
use Rattle.std.proofs.Common.{ℕ, ◌≡◌, ◌≢◌, ◌⊎◌, inl, inr, List, [], ◌∷◌, Some, refl, sym, ap, ◌∙◌, subst}
use Rattle.std.proofs.lemmas.List.Elements.{All-weaker}
use Rattle.fb_graph.specs.Components.{Leads}
use Rattle.fb_graph.specs.Dual.{Node, all_cuts, cover_of}
use Rattle.fb_graph.specs.Laws.{Link}
use Rattle.fb_graph.specs.Links.{IsTightLink}
use Rattle.fb_graph.specs.Limits.{no_shot}
use Rattle.fb_graph.specs.Problem.{Problem, edge_at, with_defects}
use Rattle.fb_laws.specs.Fusion.{IsLinkOf}
use Rattle.fb_laws.specs.MetLinks.{IsTightEdge}
use Rattle.fb_laws.specs.Works.{AreMatchedLinks}
use Rattle.fb_graph.proofs.Walks.{walk_same}
use Rattle.fb_links.specs.declared.walk.Step.{Step}
use Rattle.fb_plan.specs.Plans.{problem_at}
use Rattle.fb_plan.specs.declared.scope.NodeScope.{NodeScope}
use Rattle.fb_plan.specs.Scopes.{scope_problem}
use Rattle.fb_half.specs.Parts.{AreStepsOf, PartValue, graph_in, problem_in, solved_shot}
use Rattle.fb_half.specs.Translations.{link_of}
use Rattle.fb_half.specs.Values.{IsScopeOf}
use Rattle.fb_trees.specs.InternalMetWalks.{IsBetween, IsMetWalk, IsOut, IsOutWalk, IsRealStep, IsTightWalk}
use Rattle.fb_search.proofs.BegunSearches.{same_scope}
use Rattle.fb_laws.proofs.SearchTrees.{connects_sym}

module _ (p : Problem) (defects : List ℕ) (nodes : List Node) where
  tight_with : (l : Link) → IsTightLink p (all_cuts nodes) l → IsTightLink (with_defects p defects) (all_cuts nodes) l
  tight_with l is = record { walk = walk_same p (with_defects p defects) refl l.walk l.from l.to is.walk; tight = is.tight }

  own_with : (l : Link) → IsLinkOf p l → IsLinkOf (with_defects p defects) l
  own_with l is = record {
    walk = walk_same p (with_defects p defects) refl l.walk l.from l.to is.walk;
    moves = is.moves;
    real = is.real;
  }

  pub links_with : (links : List Link) → AreMatchedLinks p nodes links → AreMatchedLinks (with_defects p defects) nodes links
  links_with links are = record {
    tight = All-weaker (IsTightLink p (all_cuts nodes)) (IsTightLink (with_defects p defects) (all_cuts nodes)) tight_with links
        are.tight;
    own = All-weaker (IsLinkOf p) (IsLinkOf (with_defects p defects)) own_with links are.own;
    at_defects = are.at_defects;
  }

  pub steps_with : (walk : List Step) → AreStepsOf p walk → AreStepsOf (with_defects p defects) walk
  steps_with walk are =
      All-weaker (IsRealStep p) (IsRealStep (with_defects p defects))
      (λ s is. (record { within = is.0.within; leads = is.0.leads; weighs = is.0.weighs }, is.1)) walk are

  walk_with : (walk : List Step) → IsTightWalk p nodes walk → IsTightWalk (with_defects p defects) nodes walk
  walk_with walk is = record {
    some = is.some;
    light = is.light;
    steps = steps_with walk is.steps;
    tight = links_with (link_of walk ∷ []) is.tight;
  }

  met_with : (a b : ℕ) (walk : List Step) → IsMetWalk p nodes a b walk → IsMetWalk (with_defects p defects) nodes a b walk
  met_with a b walk is = record { walk_is = walk_with walk is.walk_is; connects = is.connects }

  out_with : (a v : ℕ) (walk : List Step) → IsOutWalk p nodes a v walk → IsOutWalk (with_defects p defects) nodes a v walk
  out_with a v walk is = record { walk_is = walk_with walk is.walk_is; leaves = is.leaves }

-- the edge is between the two nodes, whichever of them is over its first end
abbrev pub IsBetweenThem : Problem → List Node → ℕ → ℕ → ℕ → Type 0
IsBetweenThem p nodes k a b = IsBetween p nodes k a b ⊎ IsBetween p nodes k b a

pub between_them : (p : Problem) (nodes : List Node) (k u v a b : ℕ) → IsTightEdge p nodes k u v → cover_of nodes u ≡ Some a
    → cover_of nodes v ≡ Some b → a ≢ b → IsBetweenThem p nodes k a b
between_them p nodes k u v a b is at_u at_v apart = by is.leads
  where
    by : Leads (edge_at p.edges k) u v → IsBetweenThem p nodes k a b
    by (inl (first, second)) = inl (record {
      within = is.within;
      tight = is.tight;
      first = ap (cover_of nodes) first ∙ at_u;
      second = ap (cover_of nodes) second ∙ at_v;
      apart = apart;
    })
    by (inr (second, first)) = inr (record {
      within = is.within;
      tight = is.tight;
      first = ap (cover_of nodes) first ∙ at_v;
      second = ap (cover_of nodes) second ∙ at_u;
      apart = λ e. apart (sym e);
    })

-- the problem of the scope
abbrev pub scoped : NodeScope → Problem
scoped s = scope_problem s

module _ (w : PartValue) (s : NodeScope) (own : IsScopeOf s w) where
  scope_is : scoped s ≡ problem_at (graph_in w) w.job.plan w.node no_shot
  scope_is = same_scope _ _ _ _ _ _ own.graph own.plan own.node

  abbrev bare_problem : Problem
  bare_problem = problem_at (graph_in w) w.job.plan w.node no_shot

  between_bare : (k a b : ℕ) → IsBetween (problem_in w) w.nodes k a b → IsBetween (scoped s) w.nodes k a b
  between_bare k a b is =
      subst (λ p. IsBetween p w.nodes k a b) (sym scope_is)
      (record { within = is.within; tight = is.tight; first = is.first; second = is.second; apart = is.apart })

  pub between_scoped : (k a b : ℕ) → IsBetweenThem (problem_in w) w.nodes k a b
      → (a b : ℕ) × IsBetween (scoped s) w.nodes k a b
  between_scoped k a b (inl is) = (a, b, between_bare k a b is)
  between_scoped k a b (inr is) = (b, a, between_bare k b a is)

  met_bare : (k a b : ℕ) (walk : List Step) → IsBetween (problem_in w) w.nodes k a b
      → ((a b : ℕ) → IsBetween (scoped s) w.nodes k a b → IsMetWalk (scoped s) w.nodes a b walk)
      → IsMetWalk (problem_in w) w.nodes a b walk
  met_bare k a b walk is walks =
      met_with bare_problem (solved_shot w).defects w.nodes a b walk
      (subst (λ p. IsMetWalk p w.nodes a b walk) scope_is (walks a b (between_bare k a b is)))

  -- the walk that the code makes over the scope
  pub met_scoped : (k a b : ℕ) (walk : List Step) → IsBetweenThem (problem_in w) w.nodes k a b
      → ((a b : ℕ) → IsBetween (scoped s) w.nodes k a b → IsMetWalk (scoped s) w.nodes a b walk)
      → IsMetWalk (problem_in w) w.nodes a b walk
  met_scoped k a b walk (inl is) walks = met_bare k a b walk is walks
  met_scoped k a b walk (inr is) walks =
      let back = met_bare k b a walk is walks in
      record { walk_is = back.walk_is; connects = connects_sym w.nodes (link_of walk) b a back.connects }

  pub out_bare : (k a v : ℕ) → IsOut (problem_in w) w.nodes k a v → IsOut (scoped s) w.nodes k a v
  out_bare k a v is =
      subst (λ p. IsOut p w.nodes k a v) (sym scope_is)
      (record {
        inner = is.inner;
        within = is.within;
        leads = is.leads;
        tight = is.tight;
        covered = is.covered;
        boundary = is.boundary;
      })

  pub out_scoped : (k a v : ℕ) (walk : List Step) → IsOut (problem_in w) w.nodes k a v
      → ((a v : ℕ) → IsOut (scoped s) w.nodes k a v → IsOutWalk (scoped s) w.nodes a v walk)
      → IsOutWalk (problem_in w) w.nodes a v walk
  out_scoped k a v walk is walks =
      out_with bare_problem (solved_shot w).defects w.nodes a v walk
      (subst (λ p. IsOutWalk p w.nodes a v walk) scope_is (walks a v (out_bare k a v is)))
