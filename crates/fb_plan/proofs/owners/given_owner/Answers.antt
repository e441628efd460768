use Rattle.std.proofs.Common.{◌∙◌, refl, sym}
use Rattle.std.proofs.lemmas.Bool.{lt-ltb}
use Rattle.fb_plan.proofs.owners.given_owner.Goals as goal

pub returns-else-is_virtual : goal.returns-else-is_virtual
returns-else-is_virtual c =
    rw (lt-ltb c.args.v c.args.graph.now.vertices c.requires.vertex, sym c.is_virtual.ensures ∙ c.if-is_virtual.false) refl
