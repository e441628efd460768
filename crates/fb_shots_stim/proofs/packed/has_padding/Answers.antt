use Rattle.std.proofs.Common.{◌≡◌, ◌%◌, ◌-◌, length, sym, arith}
use Rattle.std.proofs.lemmas.Bool.{eq-eqb}
use Rattle.fb_shots_stim.proofs.LemmasB8.{has_padding_none, has_padding_some}
use Rattle.fb_shots_stim.proofs.packed.has_padding.Goals as goal

pub returns-then-taken-ne0 : goal.returns-then-taken-ne0
returns-then-taken-ne0 c =
    let block = c.args.block.now in
    sym (has_padding_some c.args.detectors block c.requires.size c.if-taken-ne0.true (omega (arith, c.type_inv.block (length block - 1))))

pub returns-else-taken-ne0 : goal.returns-else-taken-ne0
returns-else-taken-ne0 c =
    let e : c.args.detectors % 8 ≡ 0 = omega arith in
    rw (eq-eqb (c.args.detectors % 8) 0 e) (sym (has_padding_none c.args.detectors c.args.block.now c.requires.size e))
