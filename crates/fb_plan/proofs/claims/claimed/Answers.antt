use Rattle.std.proofs.Common.{refl, sym}
use Rattle.std.proofs.lemmas.Bool.{le-ltb, lt-ltb}
use Rattle.fb_plan.proofs.claims.claimed.Goals as goal
use Rattle.fb_plan.proofs.claims.claimed.Goals.{then-end-start, else-end-start}

pub returns-then-from-end : goal.returns-then-from-end
returns-then-from-end c =
    elim c.if-end-start.branch [
      | then-end-start w ↦ rw (lt-ltb c.args.range.1 c.args.range.0 w.if-end-start.true) refl
      | else-end-start w ↦
          rw (
            le-ltb c.args.range.1 c.args.range.0 w.if-end-start.false,
            sym w.from.ensures,
            sym w.value-is,
            c.if-from-end.true,
          ) refl
    ]
