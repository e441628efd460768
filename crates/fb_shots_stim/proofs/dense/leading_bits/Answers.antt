use Rattle.std.proofs.Common.{◌-◌, ◌≤◌, drop, arith}
use Rattle.std.proofs.lemmas.List.{length-take}
use Rattle.fb_shots_stim.proofs.Lemmas01.{bits_more}
use Rattle.fb_shots_stim.proofs.dense.leading_bits.Goals as goal

pub loop-i-preserved : goal.loop-i-preserved
loop-i-preserved c =
    let i = c.loop-i.i in
    let n = c.min.result - i in
    let found = c.leading_bits_of-bits.ensures in
    let few : c.leading_bits_of-bits.result ≤ n = omega (arith, found.within, length-take n (drop i c.args.bytes.now)) in (
      omega (arith, few, c.min.ensures, c.loop-i-test.true),
      bits_more c.args.bytes.now i n c.leading_bits_of-bits.result few c.loop-i.invariant.1 found.bits,
    )

pub returns-then-bits-word-clause-bits : goal.returns-then-bits-word-clause-bits
returns-then-bits-word-clause-bits c =
    let i = c.loop-i.i in
    let n = c.min.result - i in
    let found = c.leading_bits_of-bits.ensures in
    let few : c.leading_bits_of-bits.result ≤ n = omega (arith, found.within, length-take n (drop i c.args.bytes.now)) in
    bits_more c.args.bytes.now i n c.leading_bits_of-bits.result few c.loop-i.invariant.1 found.bits
