use Rattle.std.proofs.Common.{◌∙◌, ◌<◌, arith, length}
use Rattle.fb_graph.specs.CutLists.{no_cut}
use Rattle.fb_report.proofs.Lines.{cuts_onward, cuts_prefix}
use Rattle.fb_report.proofs.pieces.put_cuts.Goals as goal

pub returns-in_default-clause-prefix : goal.returns-in_default-clause-prefix
returns-in_default-clause-prefix g c =
    let less : c.loop-place.place < length c.args.cuts.now = omega (arith, c.loop-place-test.true, c.len-place-end.ensures) in
    cuts_prefix _ _ _ _ _ _ no_cut less
    (λ k. record { value = c.value.ensures k; vertices = c.vertices.ensures k }) c.loop-place.invariant.0 c.in_default.ensures.prefix

pub loop-place-preserved : goal.loop-place-preserved
loop-place-preserved g c =
    let less : c.loop-place.place < length c.args.cuts.now = omega (arith, c.loop-place-test.true, c.len-place-end.ensures) in (
      cuts_onward _ _ _ _ _ _ no_cut less
          (λ k. record { value = c.value.ensures k; vertices = c.vertices.ensures k }) c.loop-place.invariant.0 c.in-Ok.ensures.all,
      c.in-Ok.ensures.cause ∙ c.loop-place.invariant.1,
    )
