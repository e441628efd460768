use Rattle.std.proofs.Common.{◌∙◌, ◌+◌, arith}
use Rattle.std.proofs.lemmas.Result.{MatchResult-from_err}
use Rattle.fb_links.specs.InternalKept.{walk_in}
use Rattle.fb_links.specs.Walks.{joined_walk}
use Rattle.fb_links.proofs.Spans.{JoinsSpans, entries_grown, entries_unstored, joined_spans, kept_stored, walks_in-grown, walks_in-unstored}
use Rattle.fb_links.proofs.links.Links.put_joined.Goals as goal

pub invariant_of-self : goal.invariant_of-self
invariant_of-self c = record {
  entries = entries_grown _ _ _ c.push_joined.ensures.kept c.self.invariant.entries;
  numbers = c.self.invariant.numbers;
}

pub returns-in_err-push_joined-clause-err : goal.returns-in_err-push_joined-clause-err
returns-in_err-push_joined-clause-err c =
    MatchResult-from_err _ _ _ c.from_residual.ensures.0
    (λ _. walks_in-grown _ _ _ c.push_joined.ensures.kept c.self.invariant.entries ∙ c.self.view_is)

pub overflow_add-joined : goal.overflow_add-joined
overflow_add-joined c =
    let joins : JoinsSpans c.self.inside.steps.items c.args.self.now c.args.a c.args.b c.span_of-first.result c.span_of-second.result =
    joined_spans _ _ _ _ _ _ _ c.self.view_is c.self.invariant.entries (rw c.deref.ensures.value at c.span_of-first.ensures)
    (rw c.deref-2.ensures.value at c.span_of-second.ensures) c.requires.meet c.requires.light in
    omega (arith, joins.weighs, joins.link.light)

pub invariant_of-self-in_err-id : goal.invariant_of-self-in_err-id
invariant_of-self-in_err-id c = record {
  entries = entries_unstored _ _ _ _ c.push_joined.ensures.kept c.self.invariant.entries c.in_err-id.ensures.err;
  numbers = c.in_err-id.ensures.numbers;
}

pub returns-in_err-id-clause-err : goal.returns-in_err-id-clause-err
returns-in_err-id-clause-err c =
    MatchResult-from_err _ _ _ c.from_residual-in_err-id.ensures.0
    (λ _. walks_in-unstored _ _ _ _ c.push_joined.ensures.kept c.self.invariant.entries c.in_err-id.ensures.err ∙ c.self.view_is)

pub invariant_of-self-2 : goal.invariant_of-self-2
invariant_of-self-2 c =
    let joins : JoinsSpans c.self.inside.steps.items c.args.self.now c.args.a c.args.b c.span_of-first.result c.span_of-second.result =
    joined_spans _ _ _ _ _ _ _ c.self.view_is c.self.invariant.entries (rw c.deref.ensures.value at c.span_of-first.ensures)
    (rw c.deref-2.ensures.value at c.span_of-second.ensures) c.requires.meet c.requires.light in
    record {
      entries = (kept_stored c.self.inside.steps.items c.push_joined.new.steps.items
          (joined_walk (walk_in c.self.inside.steps.items c.span_of-first.result) (walk_in c.self.inside.steps.items c.span_of-second.result))
          _ _ c.in_ok-id.id
          (record { start = c.len-start.result; end = c.len.result; weight = c.span_of-first.result.weight + c.span_of-second.result.weight })
          c.self.invariant.entries c.in_ok-push_joined.ensures.ok (omega (arith, c.self.inside.steps.ok.0))
          (omega (arith, c.push_joined.new.steps.ok.0)) joins.link joins.weighs c.in_ok-id.ensures.ok).0;
      numbers = c.in_ok-id.ensures.numbers;
    }

pub returns-clause-ok : goal.returns-clause-ok
returns-clause-ok c =
    let joins : JoinsSpans c.self.inside.steps.items c.args.self.now c.args.a c.args.b c.span_of-first.result c.span_of-second.result =
    joined_spans _ _ _ _ _ _ _ c.self.view_is c.self.invariant.entries (rw c.deref.ensures.value at c.span_of-first.ensures)
    (rw c.deref-2.ensures.value at c.span_of-second.ensures) c.requires.meet c.requires.light in
    rw (← joins.same, ← c.self.view_is) (kept_stored c.self.inside.steps.items c.push_joined.new.steps.items
    (joined_walk (walk_in c.self.inside.steps.items c.span_of-first.result) (walk_in c.self.inside.steps.items c.span_of-second.result))
    _ _ c.in_ok-id.id
    (record { start = c.len-start.result; end = c.len.result; weight = c.span_of-first.result.weight + c.span_of-second.result.weight })
    c.self.invariant.entries c.in_ok-push_joined.ensures.ok (omega (arith, c.self.inside.steps.ok.0))
    (omega (arith, c.push_joined.new.steps.ok.0)) joins.link joins.weighs c.in_ok-id.ensures.ok).1
