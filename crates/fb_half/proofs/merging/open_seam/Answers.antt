use Rattle.std.proofs.Common.{◌≡◌, ◌≢◌, ◌∙◌, ℕ, true, None, Some, All, ap, refl, sym, subst}
use Rattle.std.specs.List.Sorted.{IsStrictlyIncreasing}
use Rattle.fb_graph.specs.Certificate.{AreDistinct}
use Rattle.fb_graph.specs.Dual.{cover_of}
use Rattle.fb_graph.specs.Limits.{IsGraph, no_shot}
use Rattle.fb_plan.specs.Plans.{problem_at}
use Rattle.fb_plan.specs.Scopes.{scope_graph}
use Rattle.fb_blossoms.specs.Nodes as blossoms
use Rattle.fb_half.specs.InternalUnions.{IsRisingUnion}
use Rattle.fb_half.specs.Merged.{IsPlanned}
use Rattle.fb_half.specs.Translations.{link_by}
use Rattle.fb_half.specs.Parts.{graph_in}
use Rattle.fb_half.specs.Values.{part_of}
use Rattle.fb_half.proofs.DoneSteps.{always_ok, on_ok}
use Rattle.fb_half.proofs.ListedHalves.{met_listed, opened_listed}
use Rattle.fb_half.proofs.SeamOpenings.{freed_unlisted, given_rises, live_matches, own_links, planned, seam_bare, seam_distinct, seam_leafless, seam_opened, seam_real}
use Rattle.fb_half.proofs.merging.open_seam.Goals as goal

pub free_nodes-requires-clause-links : goal.free_nodes-requires-clause-links
free_nodes-requires-clause-links c = own_links (part_of c.args.parts.now) c.keeps.ensures (subst IsGraph c.graph.ensures c.limits.ensures) c.requires.beside.beside

pub free_nodes-requires-clause-live : goal.free_nodes-requires-clause-live
free_nodes-requires-clause-live c = live_matches (part_of c.args.parts.now) c.keeps.ensures (subst IsGraph c.graph.ensures c.limits.ensures) c.requires.beside.beside

pub free_nodes-requires-clause-ends : goal.free_nodes-requires-clause-ends
free_nodes-requires-clause-ends c =
    subst (λ t. All (λ m. IsPlanned t (link_by c.args.parts.now.links m.link)) c.args.parts.now.matching.matches) (sym c.plan-plan.ensures)
    (planned (part_of c.args.parts.now) c.keeps.ensures (subst IsGraph c.graph.ensures c.limits.ensures) c.requires.beside.beside c.keeps-2.ensures)

pub add_leaves-requires-clause-distinct : goal.add_leaves-requires-clause-distinct
add_leaves-requires-clause-distinct c =
    subst AreDistinct
    (sym (c.deref-3.ensures.value ∙ c.in_ok-own.ensures.shifted))
    (seam_distinct (part_of c.args.parts.now) c.keeps.ensures (subst IsGraph c.graph.ensures c.limits.ensures) c.requires.beside.beside)

pub add_leaves-requires-clause-real : goal.add_leaves-requires-clause-real
add_leaves-requires-clause-real c =
    subst (λ g. All (λ v. (problem_at g c.args.parts.now.regions.scope.plan.now c.args.parts.now.regions.scope.node no_shot).is_real v ≡ true) c.deref-3.result.now) (sym c.requires.scope.graph)
    (subst (λ t. All (λ v. (problem_at (graph_in (part_of c.args.parts.now)) t c.args.parts.now.regions.scope.node no_shot).is_real v ≡ true) c.deref-3.result.now) (sym c.requires.scope.plan)
    (subst (λ n. All (λ v. (problem_at (graph_in (part_of c.args.parts.now)) c.args.parts.now.job.0.now.plan n no_shot).is_real v ≡ true) c.deref-3.result.now) (sym c.requires.scope.node)
    (subst (All (λ v. (problem_at (graph_in (part_of c.args.parts.now)) c.args.parts.now.job.0.now.plan c.args.parts.now.node no_shot).is_real v ≡ true))
    (sym (c.deref-3.ensures.value ∙ c.in_ok-own.ensures.shifted))
    (seam_real (part_of c.args.parts.now) c.keeps.ensures (subst IsGraph c.graph.ensures c.limits.ensures) c.requires.beside.beside))))

pub add_leaves-requires-clause-uncovered : goal.add_leaves-requires-clause-uncovered
add_leaves-requires-clause-uncovered c =
    subst (All (λ v. cover_of c.args.parts.now.regions.nodes v ≡ None))
    (sym (c.deref-3.ensures.value ∙ c.in_ok-own.ensures.shifted))
    (seam_bare (part_of c.args.parts.now) c.keeps.ensures (subst IsGraph c.graph.ensures c.limits.ensures) c.requires.beside.beside)

pub add_leaves-requires-clause-leafless : goal.add_leaves-requires-clause-leafless
add_leaves-requires-clause-leafless c =
    subst (All (λ v. (x : ℕ) → blossoms.node_at c.args.parts.now.blossoms x ≢ Some (blossoms.leaf v)))
    (sym (c.deref-3.ensures.value ∙ c.in_ok-own.ensures.shifted))
    (seam_leafless (part_of c.args.parts.now) c.keeps.ensures (subst IsGraph c.graph.ensures c.limits.ensures) c.requires.beside.beside)

pub add_leaves-requires-clause-listed : goal.add_leaves-requires-clause-listed
add_leaves-requires-clause-listed c = freed_unlisted (part_of c.args.parts.now) c.keeps.ensures (subst IsGraph c.graph.ensures c.limits.ensures) c.requires.beside.beside _ _ _ c.in_ok-free_nodes.ensures

pub free_nodes-requires-clause-listed : goal.free_nodes-requires-clause-listed
free_nodes-requires-clause-listed c =
    met_listed (part_of c.args.parts.now) c.args.parts.now.seams c.plan-plan.result.now c.args.parts.now.node c.deref.result.now c.requires.beside c.plan-plan.ensures refl
    (c.deref.ensures.value ∙ c.take-listed.ensures.taken)

pub returns-clause-opened : goal.returns-clause-opened
returns-clause-opened c =
    seam_opened _ (part_of c.args.parts.now) _ _ _ _ _ _ _ c.plan-plan.ensures
    (c.deref-3.ensures.value ∙ c.in_ok-own.ensures.shifted)
    c.in_ok-free_nodes.ensures c.add_leaves.ensures.singles_added

pub returns-clause-scope : goal.returns-clause-scope
returns-clause-scope c =
    on_ok c.add_leaves.result
    (λ (same : c.add_leaves.new.regions.scope ≡ c.args.parts.now.regions.scope). record {
      graph = ap scope_graph same ∙ c.requires.scope.graph;
      plan = ap (λ s. s.plan.now) same ∙ c.requires.scope.plan;
      node = ap (λ s. s.node) same ∙ c.requires.scope.node;
    }) c.add_leaves.ensures.scope

pub returns-clause-listed : goal.returns-clause-listed
returns-clause-listed c =
    on_ok c.add_leaves.result
    (λ opened. opened_listed _ (part_of c.args.parts.now) _ c.args.parts.now.seams c.take-listed.new.self c.requires.beside opened c.take-listed.ensures.others)
    (seam_opened _ (part_of c.args.parts.now) _ _ _ _ _ _ _ c.plan-plan.ensures
    (c.deref-3.ensures.value ∙ c.in_ok-own.ensures.shifted)
    c.in_ok-free_nodes.ensures c.add_leaves.ensures.singles_added)

pub add_rising-requires-clause-others : goal.add_rising-requires-clause-others
add_rising-requires-clause-others c =
    subst IsStrictlyIncreasing
    (sym (c.deref-2.ensures.value ∙ c.in_ok-own.ensures.given))
    (given_rises (part_of c.args.parts.now) c.keeps.ensures (subst IsGraph c.graph.ensures c.limits.ensures) c.requires.beside.beside)

pub returns-clause-defects : goal.returns-clause-defects
returns-clause-defects c =
    always_ok c.add_leaves.result
    (subst (λ l. IsRisingUnion c.args.parts.now.defects.items l c.add_rising.new.all.items)
    (c.deref-2.ensures.value ∙ c.in_ok-own.ensures.given)
    c.in_ok-add_rising.ensures)
