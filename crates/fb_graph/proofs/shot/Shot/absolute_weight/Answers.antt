use Rattle.std.proofs.Common.{pos, sym, ap, ◌∙◌, ◌≡◌, rules, arith}
use Rattle.std.proofs.lemmas.Int.{ints, to_z-of_z}
use Rattle.std.specs.Int.RustNames.{unsigned_abs}
use mir.Syntax.{w64}
use mir.Val.{SFits, to_z}
use Rattle.fb_graph.specs.ShotGraphs.{weight_by}
use Rattle.fb_graph.specs.declared.parts.Edge.{Edge}
use Rattle.fb_graph.proofs.ShotGraphs.{edge_changed}
use Rattle.fb_graph.proofs.shot.Shot.absolute_weight.Goals as goal

pub returns-else-is_empty : goal.returns-else-is_empty
returns-else-is_empty c =
    let fits : SFits w64 c.weight.result = search rules in
    let light = c.absolute_weight-weight.ensures.light in
    let wide : to_z w64 c.absolute_weight-weight.result ≡ pos c.absolute_weight-weight.result = omega (arith, ints, light) in
    rw (← c.self.view_is)
    (c.unsigned_abs.ensures.value
    ∙ (ap unsigned_abs (to_z-of_z w64 _ fits ∙ (c.weight.ensures ∙ ap (weight_by c.self.inside.changes c.args.e) (wide ∙ ap pos c.absolute_weight-weight.ensures.value)))
    ∙ sym (ap (λ (x : Edge). x.weight) (edge_changed c.self.inside.changes _ c.args.e c.requires))))
