use Rattle.std.proofs.Common.{◌≤◌, ◌≡◌, length, take, arith}
use Rattle.std.proofs.lemmas.List.{take_all}
use Rattle.fb_graph.proofs.SignSteps.{odd_ends_more, ends_are_odd}
use Rattle.fb_graph.proofs.signs.odd_ends.Goals as goal

pub loop-k-preserved : goal.loop-k-preserved
loop-k-preserved c =
    odd_ends_more c.args.virtuals.now c.args.edges.now c.args.listed.now c.loop-k.k-index c.loop-k.ends _ _ c.loop-k-test.true
    c.loop-k.invariant c.in_ok-push_if.ensures.ok c.in_ok-push_if-2.ensures.ok

pub returns : goal.returns
returns c =
    let high : length c.args.listed.now ≤ c.loop-k.k-index = omega arith in
    let all : take c.loop-k.k-index c.args.listed.now ≡ c.args.listed.now = take_all c.loop-k.k-index c.args.listed.now high in
    ends_are_odd c.args.virtuals.now c.args.edges.now c.args.listed.now c.loop-k.ends c.odd_ones.result c.requires.each c.requires.within
    (rw all at c.loop-k.invariant) c.odd_ones.ensures.rising (rw c.into_vec.ensures at c.odd_ones.ensures.parity)
