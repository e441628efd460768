-- The links of a part's matches are in the table, and their ends are vertices of the plan.
use Rattle.std.proofs.Common.{ℕ, ◌≡◌, ◌<◌, true, List, [], length, get_or, All, Option, Some, None, is_some, unwrap_or, refl, sym, ap, ◌∙◌, subst, arith}
use Rattle.std.proofs.lemmas.Bool.{false≢true, or_left}
use Rattle.std.proofs.lemmas.List.{get_or-map, length-map}
use Rattle.fb_graph.specs.Parity.{is_in}
use Rattle.fb_graph.specs.Limits.{DecodingGraph, IsGraph, no_shot}
use Rattle.fb_graph.proofs.Members.{is_in-append}
use Rattle.fb_graph.proofs.ShiftedShots.{shot_graph_is_graph}
use Rattle.fb_graph.proofs.Sets.{is_in_at}
use Rattle.fb_plan.specs.Plans.{PlanTree}
use Rattle.fb_links.specs.declared.walk.Step.{Step}
use Rattle.fb_links.specs.Table.{IsLink, is_live, link_at, walk_at}
use Rattle.fb_links.specs.Walks.{end_of, start_of}
use Rattle.fb_half.specs.declared.matches.Match.{Match}
use Rattle.fb_half.specs.Matchings.{match_links}
use Rattle.fb_half.specs.Parts.{IsPart, PartValue, graph_in, shot_of}
use Rattle.fb_half.specs.Translations.{link_by, ring_links}
use Rattle.fb_half.proofs.SeamOpenings.{step_below, walk_below}

-- both ends of each match's link are vertices of the plan
abbrev ArePlanned : PlanTree → List (Option (List Step)) → List Match → Type 0
ArePlanned t table matches =
    All (λ m. ((link_by table m.link).from < length t.owners) × ((link_by table m.link).to < length t.owners)) matches

module _ (w : PartValue) (part : IsPart w) where
  listed : (i : ℕ) (d : Match) → i < length w.matching.matches
      → is_in (match_links w.matching.matches) (get_or w.matching.matches i d).link ≡ true
  listed i d less =
      ap (is_in (match_links w.matching.matches)) (sym (get_or-map (λ m. m.link) w.matching.matches i d 0 less))
      ∙ is_in_at (match_links w.matching.matches) i 0 (omega (arith, less, length-map w.matching.matches (λ m. m.link)))

  pub matches_live : All (λ m. is_live w.links m.link ≡ true) w.matching.matches
  matches_live i d less =
      let id : ℕ = (get_or w.matching.matches i d).link in
      part.links.live id
      ∙ (is_in-append (match_links w.matching.matches) (ring_links w.nodes w.store) id
      ∙ or_left (is_in (match_links w.matching.matches) id) (is_in (ring_links w.nodes w.store) id) (listed i d less))

  matches_planned : IsGraph w.job.graph → ((id : ℕ) (walk : List Step) → link_at w.links id ≡ Some walk → IsLink walk)
      → ArePlanned w.job.plan w.links w.matching.matches
  matches_planned graph are i d less = step (link_at w.links id) refl (matches_live i d less)
    where
      id : ℕ
      id = (get_or w.matching.matches i d).link

      AreEndsBelow : ℕ → List Step → Type 0
      AreEndsBelow n walk = (start_of walk < n) × (end_of walk < n)

      step : (o : Option (List Step)) → link_at w.links id ≡ o → is_some o ≡ true → AreEndsBelow (length w.job.plan.owners) (walk_at w.links id)
      step None at live = absurd (false≢true live)
      step (Some walk) at live =
          subst (λ k. AreEndsBelow k (walk_at w.links id)) (sym part.job.plan.count)
          (subst (λ o. AreEndsBelow w.job.graph.vertices (unwrap_or o [])) (sym at)
          (walk_below w.job.graph.vertices walk (are id walk at).some
          (λ k e within.
          let is = (part.links.steps id walk at k e within).0 in
          step_below (graph_in w) (shot_graph_is_graph w.job.graph (shot_of w) graph (part.job.shots w.slot no_shot part.slot)).0 (get_or walk k e) is.within is.leads)))

  -- the same of what is read of the part
  pub are_planned : (g : DecodingGraph) (t : PlanTree) (table : List (Option (List Step))) (matches : List Match) → g ≡ w.job.graph → IsGraph g
      → t ≡ w.job.plan → table ≡ w.links → ((id : ℕ) (walk : List Step) → link_at table id ≡ Some walk → IsLink walk)
      → matches ≡ w.matching.matches → ArePlanned t table matches
  are_planned g t table matches graph is plan links are same =
      subst (λ x. ArePlanned x table matches) (sym plan)
      (subst (λ x. ArePlanned w.job.plan x matches) (sym links)
      (subst (ArePlanned w.job.plan w.links) (sym same)
      (matches_planned (subst IsGraph graph is)
      (subst (λ x. (id : ℕ) (walk : List Step) → link_at x id ≡ Some walk → IsLink walk) links are))))
