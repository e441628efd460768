use Rattle.std.proofs.Common.{◌<◌, sym, ◌∙◌, arith}
use Rattle.std.proofs.lemmas.Bool.{eqb-false}
use Rattle.fb_shots_stim.proofs.LemmasB8.{none_fits, short_end, short_open}
use Rattle.fb_shots_stim.proofs.packed.unfilled.Goals as goal

pub returns-then-detectors-eq0-clause-refused : goal.returns-then-detectors-eq0-clause-refused
returns-then-detectors-eq0-clause-refused c =
    let some = eqb-false _ _ (sym c.is_empty.ensures ∙ c.if-is_empty.false) in
    none_fits c.args.detectors c.args.rest.now c.args.finished (omega arith) (omega arith)

pub returns-then-finished-2-clause-refused : goal.returns-then-finished-2-clause-refused
returns-then-finished-2-clause-refused c =
    let some = eqb-false _ _ (sym c.is_empty.ensures ∙ c.if-is_empty.false) in
    let any : 0 < c.args.detectors = omega arith in
    short_end c.args.detectors c.args.rest.now c.args.finished any (omega arith) (c.requires any) c.if-finished-2.true

pub returns-then-finished-2-clause-ok : goal.returns-then-finished-2-clause-ok
returns-then-finished-2-clause-ok c = tt

pub returns-else-finished-2-clause-ok : goal.returns-else-finished-2-clause-ok
returns-else-finished-2-clause-ok c =
    let any : 0 < c.args.detectors = omega arith in
    short_open c.args.detectors c.args.rest.now c.args.finished any (c.requires any) c.if-finished-2.false
