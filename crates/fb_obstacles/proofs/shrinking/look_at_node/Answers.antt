use Rattle.std.proofs.Common.{refl}
use Rattle.std.proofs.lemmas.Bool.{ne_eqb}
use Rattle.fb_obstacles.proofs.shrinking.look_at_node.Goals as goal

pub returns-else-value-eq0 : goal.returns-else-value-eq0
returns-else-value-eq0 g c = rw (← c.top_value-value.ensures, ne_eqb c.top_value-value.result 0 c.if-value-eq0.false) refl
