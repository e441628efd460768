-- The two halves that a fusion is given: what they keep, read over the job and the slot of the left one.
use Rattle.std.proofs.Common.{ℕ, ◌≡◌, [], Some, refl, sym, ap, ◌∙◌, subst}
use Rattle.fb_graph.specs.Limits.{DecodingGraph, IsWithinLimits, no_shot}
use Rattle.fb_plan.specs.Plans.{JobValue, PlanTree, children_of, problem_at}
use Rattle.fb_plan.specs.Scopes.{scope_graph, scope_problem}
use Rattle.fb_plan.specs.declared.scope.NodeScope.{NodeScope}
use Rattle.fb_half.specs.declared.parts.Parts.{Parts}
use Rattle.fb_half.specs.Values.{HasScope, part_of}
use Rattle.fb_half.specs.InternalMerging.{AreHalves, AreSiblings}
use Rattle.fb_half.specs.Parts.{IsPart, PartValue, graph_in}
use Rattle.fb_half.proofs.MergedHalves.{same_part}

-- two halves as they are taken apart
pub halves_of : (j : JobValue) (n : ℕ) (g : DecodingGraph) (t : PlanTree) (left right first second : PartValue) → left ≡ first → right ≡ second
    → first.job ≡ j → second.job ≡ j → first.slot ≡ second.slot → children_of j.plan n ≡ Some (first.node, second.node)
    → g ≡ graph_in first → t ≡ j.plan → IsWithinLimits (problem_at g t n no_shot) → IsPart first → IsPart second
    → first.matching.unmatched ≡ [] → second.matching.unmatched ≡ [] → AreHalves j left right n
halves_of j n g t left right first second left_is right_is first_job second_job slot children graph plan limits one two matched also =
    subst (λ x. AreHalves j x right n) (sym left_is)
    (subst (λ x. AreHalves j first x n) (sym right_is)
    (record {
      job = first_job;
      same_job = second_job ∙ sym first_job;
      same_slot = sym slot;
      limits =
          subst (λ x. IsWithinLimits (problem_at (graph_in first) x.plan n no_shot)) (sym first_job)
          (subst (λ x. IsWithinLimits (problem_at (graph_in first) x n no_shot)) plan (subst (λ x. IsWithinLimits (problem_at x t n no_shot)) graph limits));
      children = ap (λ x. children_of x.plan n) first_job ∙ children;
      one = one;
      two = subst IsPart
          (same_part second (record second { job = first.job; slot = first.slot }) (second_job ∙ sym first_job) (sym slot) refl refl refl refl refl) two;
      matched = matched;
      also = also;
    }))

-- the pieces of two halves, and the scope of the node above them
pub siblings_of : (j : JobValue) (n : ℕ) (scope : NodeScope) (left right : Parts) (first second : PartValue) → part_of left ≡ first → part_of right ≡ second
    → HasScope left → HasScope right → first.job ≡ j → second.job ≡ j → first.slot ≡ second.slot → children_of j.plan n ≡ Some (first.node, second.node)
    → scope_graph scope ≡ graph_in first → scope.plan.now ≡ j.plan → scope.node ≡ n → IsWithinLimits (scope_problem scope)
    → IsPart first → IsPart second → first.matching.unmatched ≡ [] → second.matching.unmatched ≡ [] → AreSiblings scope left right
siblings_of j n scope left right first second left_is right_is mine theirs first_job second_job slot children graph plan node limits one two matched also =
    let h =
    halves_of j scope.node (scope_graph scope) scope.plan.now (part_of left) (part_of right) first second left_is right_is first_job second_job slot
    (ap (children_of j.plan) node ∙ children) graph plan limits one two matched also in
    record {
      halves = record {
        job = refl;
        same_job = h.same_job;
        same_slot = h.same_slot;
        limits = h.limits;
        children = h.children;
        one = h.one;
        two = h.two;
        matched = h.matched;
        also = h.also;
      };
      left_scope = mine;
      right_scope = theirs;
      graph = graph ∙ ap graph_in (sym left_is);
      plan = plan ∙ ap (λ x. x.plan) (sym h.job);
    }
