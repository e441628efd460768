use Rattle.std.proofs.Common.{◌≡◌, ◌∙◌, ℕ, ◌*◌, List, Option, length, inl, ap, subst, arith}
use Rattle.fb_plan.specs.Plans.{PlanTree}
use Rattle.fb_ports.specs.Causes.{Appends}
use Rattle.fb_report.specs.Texts.{done_text}
use Rattle.fb_run.specs.Decoding.{last_line}
use Rattle.fb_run.specs.Rows.{Counts}
use Rattle.fb_run.proofs.decoding.end_report.Goals as goal

-- the numbers of the last line
as_last_line : (t : PlanTree) (counts : Counts) (rows r units fusions : ℕ) (old new : Option (List ℕ)) → r ≡ rows → units ≡ counts.best * t.units
    → fusions ≡ counts.best * length t.joins → Appends old new (done_text r counts.odd units fusions) → Appends old new (last_line t rows counts)
as_last_line t counts rows r units fusions old new p q s written =
    subst (λ (f : ℕ). Appends old new (done_text rows counts.odd (counts.best * t.units) f)) s
    (subst (λ (u : ℕ). Appends old new (done_text rows counts.odd u fusions)) q
    (subst (λ (n : ℕ). Appends old new (done_text n counts.odd units fusions)) p written))

pub returns-in-Ok-clause-end : goal.returns-in-Ok-clause-end
returns-in-Ok-clause-end g c =
    let fused : c.from-in-End.result ≡ length c.args.plan.now.joins = omega (arith, c.from-in-End.ensures, c.nodes.ensures, c.units-in-End.ensures) in
    rw c.in-End.is
    (inl (
      as_last_line c.args.plan.now _ _ _ _ _ _ _ c.rows.ensures (ap (λ n. c.args.decoded.tally.best * n) (c.from.ensures ∙ c.units.ensures))
          (ap (λ n. c.args.decoded.tally.best * n) fused) c.in-Ok.ensures.all,
      c.cause.ensures,
    ))
