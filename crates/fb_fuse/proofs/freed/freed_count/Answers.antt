use Rattle.std.proofs.Common.{◌≡◌, ◌∙◌, true, length, All, ap, sym, subst, arith}
use Rattle.fb_graph.specs.Limits.{IsGraph}
use Rattle.fb_plan.specs.Scopes.{scope_graph}
use Rattle.fb_links.specs.Table.{is_live}
use Rattle.fb_fuse.proofs.MatchCounts.{few_matches}
use Rattle.fb_fuse.proofs.MatchEnds.{are_planned, matches_live}
use Rattle.fb_fuse.proofs.freed.freed_count.Goals as goal

pub leads_to_seam-requires-clause-live : goal.leads_to_seam-requires-clause-live
leads_to_seam-requires-clause-live c =
    subst (λ t. All (λ m. is_live t m.link ≡ true) c.matches-m-items.result.now) (sym c.links-links.ensures)
    (subst (All (λ m. is_live c.args.half.now.links m.link ≡ true))
    (sym (c.matches-m-items.ensures ∙ ap (λ m. m.matches) c.matching.ensures))
    (matches_live c.args.half.now c.keeps.ensures.part)) c.loop-m.m-index _ c.loop-m-test.true

pub leads_to_seam-requires-clause-ends : goal.leads_to_seam-requires-clause-ends
leads_to_seam-requires-clause-ends c =
    are_planned c.args.half.now c.keeps.ensures.part _ _ _ _ (c.graph.ensures ∙ ap (λ j. j.graph) c.job.ensures) c.limits.ensures
    (ap (λ s. s.plan.now) c.scope-scope.ensures ∙ c.regions.ensures.scope.plan) c.links-links.ensures c.keeps-2.ensures
    (c.matches-m-items.ensures ∙ ap (λ m. m.matches) c.matching.ensures) c.loop-m.m-index _ c.loop-m-test.true

pub leads_to_seam-requires-clause-vertices : goal.leads_to_seam-requires-clause-vertices
leads_to_seam-requires-clause-vertices c =
    ap (λ t. length t.owners) (ap (λ s. s.plan.now) c.scope-scope.ensures ∙ c.regions.ensures.scope.plan)
    ∙ (c.keeps.ensures.part.job.plan.count
    ∙ sym (ap (λ g. g.vertices) (ap scope_graph c.scope-scope.ensures ∙ c.regions.ensures.scope.graph)))

pub overflow_add-count : goal.overflow_add-count
overflow_add-count c =
    omega (
      arith,
      c.loop-m.invariant.1,
      c.loop-m-test.true,
      ap length (c.matches-m-items.ensures ∙ ap (λ m. m.matches) c.matching.ensures),
      few_matches c.args.half.now c.keeps.ensures.part (subst IsGraph (c.graph.ensures ∙ ap (λ j. j.graph) c.job.ensures) c.limits.ensures),
    )
