use Rattle.std.proofs.Common.{arith, ◌+◌, ◌+ℤ◌, length, All, sym, subst, ap, ◌∙◌}
use Rattle.std.proofs.lemmas.Int.{ints}
use Rattle.std.proofs.lemmas.Slice.Zip.{AllZip-long}
use Rattle.fb_crew.specs.Windows.{AreRows, IsShotRow, defect_count}
use Rattle.fb_graph.specs.Limits.{IsShot}
use Rattle.fb_run.specs.Samples.{weights_in}
use Rattle.fb_run.specs.InternalSums.{HasLowWeight}
use Rattle.fb_run.proofs.LowWeights.{low_rows}
use Rattle.fb_run.proofs.Sampled.{more_sums, state_of_more}
use Rattle.fb_run.proofs.sampling.sample_with.Goals as goal

pub decode_window-requires-clause-shots : goal.decode_window-requires-clause-shots
decode_window-requires-clause-shots g c κs within =
    let graph = ap (λ crew. crew.graph) c.loop-drawn.invariant.crew ∙ c.requires.crew in
    let all : All (IsShot c.loop-drawn.crew.graph) c.as_slice.result.now = rw (graph, c.as_slice.ensures.value) c.in_ok-shots.ensures.each in
    all

pub with_window-sums-requires-clause-rows : goal.with_window-sums-requires-clause-rows
with_window-sums-requires-clause-rows g c = omega (
  arith,
  ap length c.as_slice-in-loop-drawn-2.ensures.value,
  AllZip-long (IsShotRow c.loop-drawn.crew.graph) c.as_slice.result.now c.in_ok-window.window.rows.items c.in_ok-window.ensures.rows,
  ap length c.as_slice.ensures.value,
  c.in_ok-shots.ensures.many,
  c.min-count.ensures,
  c.requires.ranges.window,
)

pub with_window-sums-requires-clause-low : goal.with_window-sums-requires-clause-low
with_window-sums-requires-clause-low g c =
    let graph = ap (λ crew. crew.graph) c.loop-drawn.invariant.crew ∙ c.requires.crew in
    let rows = c.in_ok-window.window.rows.items in
    let decoded : AreRows c.args.graph.now c.in_ok-shots.shots.items rows =
    rw (sym graph, sym c.as_slice.ensures.value) c.in_ok-window.ensures.rows in
    let low : All HasLowWeight c.as_slice-in-loop-drawn-2.result.now =
    subst (All HasLowWeight) (sym c.as_slice-in-loop-drawn-2.ensures.value)
    (low_rows c.args.graph.now c.in_ok-shots.shots.items rows c.limits.ensures c.in_ok-shots.ensures.each decoded) in
    low

pub loop-drawn-preserved : goal.loop-drawn-preserved
loop-drawn-preserved g c =
    let edges = length c.args.graph.now.edges in
    let start = c.args.request.now.start in
    let drawn = c.loop-drawn.drawn in
    let count = c.min-count.result in
    let shots = c.in_ok-shots.shots.items in
    let rows = c.in_ok-window.window.rows.items in
    let graph = ap (λ crew. crew.graph) c.loop-drawn.invariant.crew ∙ c.requires.crew in
    let decoded : AreRows c.args.graph.now shots rows = rw (sym graph, sym c.as_slice.ensures.value) c.in_ok-window.ensures.rows in
    let as_many = AllZip-long (IsShotRow c.args.graph.now) shots rows decoded in record {
      sums = more_sums c.args.graph.now c.args.request.now.rate start c.loop-drawn.draws drawn count c.loop-drawn.sums.defects
          c.loop-drawn.sums.weight c.with_window-sums.result.defects c.with_window-sums.result.weight shots rows c.loop-drawn.invariant.sums
          c.loop-drawn.invariant.state c.in_ok-shots.ensures.shots decoded
          (c.with_window-sums.ensures.defects ∙ ap (λ xs. c.loop-drawn.sums.defects + defect_count xs) c.as_slice-in-loop-drawn.ensures.value)
          (c.with_window-sums.ensures.weight ∙ ap (λ xs. c.loop-drawn.sums.weight +ℤ weights_in xs) c.as_slice-in-loop-drawn-2.ensures.value);
      state = state_of_more start c.loop-drawn.draws c.draw_window.new.draws edges drawn count c.loop-drawn.invariant.state c.in_ok-shots.ensures.state;
      crew = c.in_ok-window.ensures.same ∙ c.loop-drawn.invariant.crew;
      drawn = omega (arith, c.min-count.ensures, c.loop-drawn-test.true);
      defects = omega (
        arith,
        c.with_window-sums.ensures.few_defects,
        c.loop-drawn.invariant.defects,
        ap length c.as_slice-in-loop-drawn.ensures.value,
        c.in_ok-shots.ensures.many,
      );
      weight = record {
        above = omega (
          arith,
          ints,
          c.with_window-sums.ensures.weight,
          c.with_window-sums.ensures.low_weight.above,
          c.with_window-sums.ensures.low_weight.below,
          c.loop-drawn.invariant.weight.above,
          c.loop-drawn.invariant.weight.below,
          ap length c.as_slice-in-loop-drawn-2.ensures.value,
          as_many,
          c.in_ok-shots.ensures.many,
        );
        below = omega (
          arith,
          ints,
          c.with_window-sums.ensures.weight,
          c.with_window-sums.ensures.low_weight.above,
          c.with_window-sums.ensures.low_weight.below,
          c.loop-drawn.invariant.weight.above,
          c.loop-drawn.invariant.weight.below,
          ap length c.as_slice-in-loop-drawn-2.ensures.value,
          as_many,
          c.in_ok-shots.ensures.many,
        );
      };
    }
