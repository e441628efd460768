use Rattle.std.proofs.Common.{◌∙◌, arith}
use Rattle.std.proofs.lemmas.Result.{MatchResult-from_err}
use Rattle.fb_links.proofs.Spans.{grown_by, kept_stored, walks_in-unstored}
use Rattle.fb_links.proofs.links.Links.put.Goals as goal

pub returns-in_err-id-clause-err : goal.returns-in_err-id-clause-err
returns-in_err-id-clause-err c =
    MatchResult-from_err _ _ _ c.from_residual-in_err-id.ensures.0
    (λ _. walks_in-unstored _ _ _ _
    (grown_by c.self.inside.steps.items c.extend_from_slice.new.self.items c.args.walk.now c.in_ok-extend_from_slice.ensures.items)
    c.self.invariant.entries c.in_err-id.ensures.err ∙ c.self.view_is)

pub invariant_of-self-2 : goal.invariant_of-self-2
invariant_of-self-2 c = record {
  entries =
      (kept_stored c.self.inside.steps.items c.extend_from_slice.new.self.items c.args.walk.now _ _ c.in_ok-id.id
      (record { start = c.len-start.result; end = c.len.result; weight = c.weight_of.result })
      c.self.invariant.entries c.in_ok-extend_from_slice.ensures.items (omega (arith, c.self.inside.steps.ok.0))
      (omega (arith, c.extend_from_slice.new.self.ok.0)) c.requires c.weight_of.ensures c.in_ok-id.ensures.ok).0;
  numbers = c.in_ok-id.ensures.numbers;
}

pub returns-clause-ok : goal.returns-clause-ok
returns-clause-ok c =
    rw (← c.self.view_is)
    (kept_stored c.self.inside.steps.items c.extend_from_slice.new.self.items c.args.walk.now _ _ c.in_ok-id.id
    (record { start = c.len-start.result; end = c.len.result; weight = c.weight_of.result })
    c.self.invariant.entries c.in_ok-extend_from_slice.ensures.items (omega (arith, c.self.inside.steps.ok.0))
    (omega (arith, c.extend_from_slice.new.self.ok.0)) c.requires c.weight_of.ensures c.in_ok-id.ensures.ok).1
