use Rattle.std.proofs.Common.{◌≡◌, ◌+◌, ◌<◌, ◌≤◌, ◌^◌, ◌∙◌, sym, ap, length, get_or, take, eqb, arith, length-set}
use Rattle.std.proofs.lemmas.List.{get_or_read_under}
use Rattle.fb_plan.specs.InternalLoads.{bounded_at, place_of}
use Rattle.fb_plan.specs.declared.parts.OwnedRange.{OwnedRange}
use Rattle.fb_plan.proofs.Tallies.{place-le, sum_fits, sums_more}
use Rattle.fb_plan.proofs.loads.sums_at.Goals as goal

pub overflow_add-sum : goal.overflow_add-sum
overflow_add-sum c =
    let at : OwnedRange = get_or c.args.claims.now c.loop-claim.claim-index (record { node = 0; start = 0; end = 0 }) in
    let less : c.loop-claim.claim-index < length c.args.claims.now = omega arith in
    let low : place_of c.args.bound at ≤ c.args.vertices = place-le c.args.bound c.args.vertices at (c.requires c.loop-claim.claim-index _ less) in
    let here : c.place-at.result ≤ c.args.vertices = omega (arith, low, c.place-at.ensures) in
    let count : length c.args.claims.now < 2 ^ 64 = omega arith in
    let told : c.index.result.now ≡ bounded_at c.args.measure c.args.bound (take c.loop-claim.claim-index c.args.claims.now) c.place-at.result =
    get_or_read_under c.loop-claim.sums.items c.place-at.result _ c.index.result.now 0 c.index.ensures (omega (arith, here, c.loop-claim.invariant.0)) (sym c.loop-claim.invariant.0)
    ∙ c.loop-claim.invariant.1 c.place-at.result here in
    omega (arith, told, c.from.ensures, c.weight.ensures, sum_fits c.args.measure c.args.vertices c.loop-claim.claim-index (λ x. eqb (place_of c.args.bound x) c.place-at.result) c.args.claims.now (record { node = 0; start = 0; end = 0 }) c.requires less count)

pub loop-claim-preserved : goal.loop-claim-preserved
loop-claim-preserved c =
    let at : OwnedRange = get_or c.args.claims.now c.loop-claim.claim-index (record { node = 0; start = 0; end = 0 }) in
    let less : c.loop-claim.claim-index < length c.args.claims.now = omega arith in
    let low : place_of c.args.bound at ≤ c.args.vertices = place-le c.args.bound c.args.vertices at (c.requires c.loop-claim.claim-index _ less) in
    let here : c.place-at.result ≤ c.args.vertices = omega (arith, low, c.place-at.ensures) in
    let read : c.index.result.now ≡ get_or c.loop-claim.sums.items c.place-at.result 0 =
    get_or_read_under c.loop-claim.sums.items c.place-at.result _ c.index.result.now 0 c.index.ensures (omega (arith, here, c.loop-claim.invariant.0)) (sym c.loop-claim.invariant.0) in (
      length-set _ _ _ ∙ c.loop-claim.invariant.0,
      rw c.place-at.ensures (sums_more c.args.measure c.args.bound c.loop-claim.sums.items c.args.claims.now c.loop-claim.claim-index c.args.vertices _ _
          c.loop-claim.invariant.0 less low c.loop-claim.invariant.1
          (ap (λ x. x + c.from.result) (read ∙ ap (λ j. get_or c.loop-claim.sums.items j 0) c.place-at.ensures)
          ∙ ap (λ x. get_or c.loop-claim.sums.items (place_of c.args.bound at) 0 + x) (c.from.ensures ∙ c.weight.ensures))),
    )
