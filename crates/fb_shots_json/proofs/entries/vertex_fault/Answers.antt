use Rattle.std.proofs.Common.{refl, sym, ◌∙◌, arith}
use Rattle.std.proofs.lemmas.Bool.{lt-leb}
use Rattle.fb_shots_json.proofs.entries.vertex_fault.Goals as goal

pub returns-then-is_virtual-clause-fault : goal.returns-then-is_virtual-clause-fault
returns-then-is_virtual-clause-fault c =
    rw (lt-leb c.args.graph.now.vertices c.args.entry (omega arith), sym c.is_virtual.ensures ∙ c.if-is_virtual.true) refl

pub returns-else-is_virtual-clause-fault : goal.returns-else-is_virtual-clause-fault
returns-else-is_virtual-clause-fault c =
    rw (lt-leb c.args.graph.now.vertices c.args.entry (omega arith), sym c.is_virtual.ensures ∙ c.if-is_virtual.false) refl
