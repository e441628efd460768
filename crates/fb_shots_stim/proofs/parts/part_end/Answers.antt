use Rattle.std.proofs.Common.{arith}
use Rattle.fb_records.proofs.PartLemmas.{part_holds_more}
use Rattle.fb_shots_stim.proofs.parts.part_end.Goals as goal

pub loop-i-preserved : goal.loop-i-preserved
loop-i-preserved c =
    let at = c.loop-i.invariant in
    record {
      onward = omega arith;
      within = omega arith;
      in_line = part_holds_more 10 c.args.bytes.now c.args.from c.loop-i.i at.onward (omega arith) c.if-bytes-i-ne10.true at.in_line;
      in_part = part_holds_more c.args.separator c.args.bytes.now c.args.from c.loop-i.i at.onward (omega arith) c.if-bytes-i.true at.in_part;
    }
