use mir.Syntax.{w128}
use mir.Val.{SFits}
use Rattle.std.proofs.Common.{rules}
use Rattle.std.proofs.lemmas.Int.{to_z-of_z}
use Rattle.fb_check.specs.Checks.{verdict_line}
use Rattle.fb_check.proofs.check_text.put_verdict.Goals as goal

pub returns-in-Two-clause-prefix : goal.returns-in-Two-clause-prefix
unfolding verdict_line
returns-in-Two-clause-prefix g c =
    let first : SFits w128 c.in-Two.first = search rules in
    let second : SFits w128 c.in-Two.second = search rules in
    rw (← c.in-Two.ensures) (rw (to_z-of_z _ _ first, to_z-of_z _ _ second, c.name-in-Two.ensures) at c.put_two.ensures.prefix)
