use Rattle.std.proofs.Common.{◌≡◌, length, sym, arith}
use Rattle.fb_regions.proofs.Backward.{back_after_end, back_after_more, back_after_start, back_smaller, back_within, back_within_list}
use Rattle.fb_regions.proofs.regions.Regions.push_source_walk.Goals as goal

pub loop-hop-init : goal.loop-hop-init
loop-hop-init g c =
    back_after_start _ _ _ c.self.invariant.0 c.args.v c.args.steps.now.items (rw (← c.self.view_is) at c.requires)

pub loop-hop-smaller : goal.loop-hop-smaller
loop-hop-smaller g c =
    back_smaller _ _ _ c.self.invariant.0 c.args.v c.loop-hop.at c.in-Some.hop c.loop-hop.invariant.back.marked
    (sym c.in-Some.ensures)

pub loop-hop-preserved : goal.loop-hop-preserved
loop-hop-preserved g c =
    back_after_more _ _ _ c.self.invariant.0 c.args.v _ c.loop-hop.at c.in-Some.hop c.loop-hop.steps.items _
    c.loop-hop.invariant (sym c.in-Some.ensures) (rw c.weight-weight.ensures at c.in_ok-push.ensures.items)

pub returns : goal.returns
returns g c =
    let first : c.len-first.result ≡ length c.args.steps.now.items = omega (arith, c.args.steps.now.ok.0) in
    rw (← c.self.view_is)
    (back_after_end _ _ _ c.self.invariant.0 c.args.v c.args.steps.now.items c.loop-hop.at c.loop-hop.steps.items _
    c.loop-hop.invariant (rw (← c.self.view_is) at c.requires) (sym c.in_default.ensures) (rw first at c.reverse_from.ensures))

pub reverse_from-requires : goal.reverse_from-requires
reverse_from-requires g c =
    let first : c.len-first.result ≡ length c.args.steps.now.items = omega (arith, c.args.steps.now.ok.0) in
    back_within_list _ _ _ c.self.invariant.0 c.args.v c.args.steps.now.items _ _ _ c.loop-hop.invariant first

pub weight-weight-requires : goal.weight-weight-requires
weight-weight-requires g c =
    back_within _ _ _ c.self.invariant.0 c.args.v c.loop-hop.at c.in-Some.hop c.loop-hop.invariant.back.marked
    (sym c.in-Some.ensures)
