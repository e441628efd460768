use Rattle.std.proofs.Common.{ap, ◌∙◌, rules}
use Rattle.std.proofs.lemmas.Int.{to_z-of_z}
use mir.Syntax.{w64}
use mir.Val.{SFits}
use Rattle.fb_graph.specs.ShotGraphs.{weight_by}
use Rattle.fb_graph.proofs.ShotGraphs.{signed_changed}
use Rattle.fb_graph.proofs.shot.Shot.weight.Goals as goal

pub returns : goal.returns
returns c =
    let fits : SFits w64 c.weight.result = search rules in
    let fits_too : SFits w64 c.weight-2.result = search rules in
    rw (← c.self.view_is)
    (to_z-of_z w64 _ fits_too
    ∙ (c.weight-2.ensures
    ∙ (ap (weight_by c.self.inside.changes c.args.e) (to_z-of_z w64 _ fits ∙ c.weight.ensures.value)
    ∙ signed_changed c.self.inside.changes c.args.graph.now c.args.e c.requires)))
