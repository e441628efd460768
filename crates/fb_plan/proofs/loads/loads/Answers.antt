use Rattle.std.proofs.Common.{◌≡◌, ◌+◌, ◌-◌, ◌<◌, ◌^◌, ◌∙◌, [], ◌∷◌, ap, get_or, length, sym, arith, length-append, rules}
use Rattle.fb_plan.specs.InternalLoads.{bounded_at, load_at}
use Rattle.fb_plan.specs.declared.loads.Bound.TheVariants.{Start, End}
use Rattle.fb_plan.proofs.Tallies.{closed_less, is_open_at, loads_more, open_first, open_next, opened_more, weigh_fits}
use Rattle.fb_plan.proofs.loads.loads.Goals as goal

pub loop-v-init : goal.loop-v-init
loop-v-init c = (sym (open_first c.args.measure c.args.claims.now), search rules, λ k less. absurd (omega arith))

pub overflow_add-running : goal.overflow_add-running
overflow_add-running c =
    let started : c.sum_at.result ≡ bounded_at c.args.measure Start c.args.claims.now c.loop-v.v =
    c.sum_at.ensures ∙ ap (λ s. get_or s c.loop-v.v 0) c.deref.ensures.value ∙ c.in_ok-opened.ensures.each c.loop-v.v (omega arith) in
    let few : length c.args.claims.now < 2 ^ 64 = c.in_ok-opened.ensures.few in
    omega (
      arith,
      c.loop-v.invariant.0,
      started,
      few,
      opened_more c.args.measure c.args.vertices c.loop-v.v c.args.claims.now c.requires,
      weigh_fits c.args.measure c.args.vertices (is_open_at c.loop-v.v) c.args.claims.now c.requires,
    )

pub overflow_sub-running : goal.overflow_sub-running
overflow_sub-running c =
    let started : c.sum_at.result ≡ bounded_at c.args.measure Start c.args.claims.now c.loop-v.v =
    c.sum_at.ensures ∙ ap (λ s. get_or s c.loop-v.v 0) c.deref.ensures.value ∙ c.in_ok-opened.ensures.each c.loop-v.v (omega arith) in
    let ended : c.sum_at-in-loop-v.result ≡ bounded_at c.args.measure End c.args.claims.now c.loop-v.v =
    c.sum_at-in-loop-v.ensures ∙ ap (λ s. get_or s c.loop-v.v 0) c.deref-in-loop-v.ensures.value ∙ c.in_ok-closed.ensures.each c.loop-v.v (omega arith) in
    omega (
      arith,
      c.loop-v.invariant.0,
      started,
      ended,
      opened_more c.args.measure c.args.vertices c.loop-v.v c.args.claims.now c.requires,
      closed_less c.args.measure c.args.vertices c.loop-v.v c.args.claims.now c.requires,
    )

pub loop-v-preserved : goal.loop-v-preserved
loop-v-preserved c =
    let started : c.sum_at.result ≡ bounded_at c.args.measure Start c.args.claims.now c.loop-v.v =
    c.sum_at.ensures ∙ ap (λ s. get_or s c.loop-v.v 0) c.deref.ensures.value ∙ c.in_ok-opened.ensures.each c.loop-v.v (omega arith) in
    let ended : c.sum_at-in-loop-v.result ≡ bounded_at c.args.measure End c.args.claims.now c.loop-v.v =
    c.sum_at-in-loop-v.ensures ∙ ap (λ s. get_or s c.loop-v.v 0) c.deref-in-loop-v.ensures.value ∙ c.in_ok-closed.ensures.each c.loop-v.v (omega arith) in
    let here : c.loop-v.running + c.sum_at.result - c.sum_at-in-loop-v.result ≡ load_at c.args.measure c.args.claims.now c.loop-v.v =
    omega (
      arith,
      c.loop-v.invariant.0,
      started,
      ended,
      opened_more c.args.measure c.args.vertices c.loop-v.v c.args.claims.now c.requires,
      closed_less c.args.measure c.args.vertices c.loop-v.v c.args.claims.now c.requires,
    ) in (
      here ∙ sym (open_next c.args.measure c.loop-v.v c.args.claims.now),
      omega (
        arith,
        ap length c.in_ok-push.ensures.items,
        length-append c.loop-v.sums.items ((c.loop-v.running + c.sum_at.result - c.sum_at-in-loop-v.result) ∷ []),
        c.loop-v.invariant.1,
      ),
      λ k below. ap (λ s. get_or s k 0) c.in_ok-push.ensures.items
          ∙ loads_more c.args.measure c.args.claims.now c.loop-v.sums.items c.loop-v.v _ c.loop-v.invariant.1 c.loop-v.invariant.2 here k below,
    )
