use Rattle.std.proofs.Common.{◌≡◌, ◌∙◌, true, All, sym, ap, subst, arith}
use Rattle.fb_graph.specs.Certificate.{AreDistinct}
use Rattle.fb_graph.specs.Limits.{no_shot}
use Rattle.fb_plan.specs.Plans.{problem_at}
use Rattle.fb_half.specs.Beginnings.{IsBegun}
use Rattle.fb_half.specs.Parts.{IsPart}
use Rattle.fb_half.specs.Values.{HasScope, part_of}
use Rattle.fb_regions.specs.Paces.{IsAtRest}
use Rattle.fb_half.proofs.BegunParts.{begun_is, begun_of, given_in, own_distinct, own_real}
use Rattle.fb_half.proofs.ListedHalves.{scope_begun}
use Rattle.fb_half.proofs.work.Work.begin_on.Goals as goal

pub start-requires-clause-distinct : goal.start-requires-clause-distinct
start-requires-clause-distinct c =
    subst AreDistinct
    (sym (c.deref-2.ensures.value ∙ c.in_ok-own.ensures.shifted))
    (own_distinct c.args.job.now c.args.slot c.args.node)

pub start-requires-clause-real : goal.start-requires-clause-real
start-requires-clause-real c =
    subst (λ w. All (λ v. (problem_at w.job.graph w.job.plan w.node no_shot).is_real v ≡ true) c.deref-2.result.now)
    (sym (ap part_of c.deref_mut.ensures.value ∙ c.in_ok-parts.ensures.value))
    (subst (All (λ v. (problem_at c.args.job.now.graph c.args.job.now.plan c.args.node no_shot).is_real v ≡ true))
    (sym (c.deref-2.ensures.value ∙ c.in_ok-own.ensures.shifted))
    (own_real c.args.job.now c.args.slot c.args.node))

pub invariant_of-result : goal.invariant_of-result
invariant_of-result c =
    let empty = ap part_of c.deref_mut.ensures.value ∙ c.in_ok-parts.ensures.value in (
      subst (λ p. HasScope (record p { defects = c.in_ok-own.own.given })) (sym c.deref_mut-2.ensures.value)
          (scope_begun (record c.start.new.parts { defects = c.in_ok-own.own.given }) c.in_ok-start.ensures.scope
          c.in_ok-start.ensures.started.matches
          (given_in (part_of c.start.new.parts) c.args.job.now c.args.slot c.args.node c.in_ok-own.own.given.items
          (c.in_ok-start.ensures.job ∙ ap (λ w. w.job) empty)
          (c.in_ok-start.ensures.slot ∙ ap (λ w. w.slot) empty)
          (c.in_ok-start.ensures.node ∙ ap (λ w. w.node) empty)
          c.in_ok-own.ensures.given)
          (c.in_ok-start.ensures.rest (subst (λ p. IsAtRest p.regions) (sym c.deref_mut.ensures.value) c.in_ok-parts.ensures.rest))),
      subst (λ p. IsPart (part_of p)) (sym c.deref_mut-2.ensures.value)
          (begun_of (part_of c.start.new.parts) c.args.job.now c.args.slot c.args.node c.deref-2.result.now c.state_begins.ensures.part
          (c.in_ok-start.ensures.job ∙ ap (λ w. w.job) empty)
          (c.in_ok-start.ensures.slot ∙ ap (λ w. w.slot) empty)
          (c.in_ok-start.ensures.node ∙ ap (λ w. w.node) empty)
          c.keeps.ensures c.requires.slot (omega (arith, c.requires.unit))
          (c.deref-2.ensures.value ∙ c.in_ok-own.ensures.shifted)
          c.in_ok-start.ensures.started
          c.in_ok-start.ensures.links),
    )

pub returns : goal.returns
returns c =
    let empty = ap part_of c.deref_mut.ensures.value ∙ c.in_ok-parts.ensures.value in
    subst (λ p. IsBegun c.args.job.now c.args.slot c.args.node (part_of p)) (sym c.deref_mut-2.ensures.value)
    (begun_is (part_of c.start.new.parts) c.args.job.now c.args.slot c.args.node c.deref-2.result.now
    (c.in_ok-start.ensures.job ∙ ap (λ w. w.job) empty)
    (c.in_ok-start.ensures.slot ∙ ap (λ w. w.slot) empty)
    (c.in_ok-start.ensures.node ∙ ap (λ w. w.node) empty)
    (c.deref-2.ensures.value ∙ c.in_ok-own.ensures.shifted)
    c.in_ok-start.ensures.started)
