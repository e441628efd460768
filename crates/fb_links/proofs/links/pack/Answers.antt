use Rattle.std.proofs.Common.{◌<◌, length, arith, refl}
use Rattle.fb_links.proofs.Spans.{packed_some, span_kept}
use Rattle.fb_links.proofs.links.pack.Goals as goal

pub loop-entry-preserved : goal.loop-entry-preserved
loop-entry-preserved c =
    let within : c.loop-entry.entry-index < length c.args.spans.now = omega arith in
    packed_some c.args.steps.now c.args.spans.now c.loop-entry.entry-index c.loop-entry.new_steps.items
    c.extend_from_slice.new.self.items c.loop-entry.new_spans.items c.push-in-loop-entry.new.self.items c.in-Some.span
    (record { start = c.len-start.result; end = c.len.result; weight = c.in-Some.span.weight })
    c.loop-entry.invariant within c.in-Some.is
    (span_kept c.args.steps.now c.args.spans.now c.loop-entry.entry-index c.in-Some.span c.requires.entries c.in-Some.is)
    (rw c.of.ensures at c.in_ok-extend_from_slice.ensures.items) (omega (arith, c.loop-entry.new_steps.ok.0))
    (omega (arith, c.extend_from_slice.new.self.ok.0)) refl c.in_ok-push-2.ensures.items
