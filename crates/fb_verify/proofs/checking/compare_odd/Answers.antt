use Rattle.std.proofs.Common.{Some, ◌∙◌, ap, sym}
use Rattle.std.proofs.lemmas.Option.{same_Some}
use Rattle.fb_verify.proofs.Certified.{odd_good, odd_wrong}
use Rattle.fb_verify.proofs.checking.compare_odd.Goals as goal

pub returns-then-found-vertex : goal.returns-then-found-vertex
returns-then-found-vertex c =
    odd_good c.args.graph.now c.args.shot.now c.args.vertex c.args.first c.requires
    (c.in-Some.is ∙ ap Some c.if-found-vertex.true)

pub returns-else-found-vertex : goal.returns-else-found-vertex
returns-else-found-vertex c =
    odd_wrong c.args.graph.now c.args.shot.now c.args.vertex c.args.first c.requires
    (λ same. c.if-found-vertex.false (same_Some c.in-Some.found c.args.vertex (sym c.in-Some.is ∙ same)))
