use Rattle.std.proofs.Common.{◌≡◌, ◌+◌, ◌∙◌, subst, sym, arith}
use Rattle.std.proofs.lemmas.List.{get_or_default, length_push}
use Rattle.fb_gen.specs.TimePlan.{first_round}
use Rattle.fb_layers.proofs.Layering.{IsAt, next_unit, rounds_more, same_unit, seam_round, unit_round}
use Rattle.fb_layers.proofs.rounds.layer_nodes.Goals as goal
use Rattle.fb_layers.proofs.rounds.layer_nodes.Goals.{then-layer-firsts, else-layer-firsts}

pub index-node-requires : goal.index-node-requires
index-node-requires c =
    let at : IsAt c.args.rounds c.args.units c.loop-layer.layer c.loop-layer.unit = c.loop-layer.invariant.at c.loop-layer-test.true in
    let ends : c.loop-layer.layer + 1 ≡ first_round c.args.rounds c.args.units (c.loop-layer.unit + 1) =
    c.if-layer-firsts.true ∙ c.requires.each (c.loop-layer.unit + 1) (omega (arith, at.unit)) in
    omega (
      arith,
      c.in_ok-seams.ensures.len,
      (next_unit c.args.rounds c.args.units c.loop-layer.layer c.loop-layer.unit c.requires.shared c.loop-layer-test.true at ends).0,
    )

pub loop-layer-preserved : goal.loop-layer-preserved
loop-layer-preserved c =
    let t = c.args.rounds in
    let u = c.args.units in
    let k = c.loop-layer.layer in
    let j = c.loop-layer.unit in
    let at : IsAt c.args.rounds c.args.units c.loop-layer.layer c.loop-layer.unit = c.loop-layer.invariant.at c.loop-layer-test.true in
    elim c.if-layer-firsts.branch [
      | then-layer-firsts w ↦
          let ends : c.loop-layer.layer + 1 ≡ first_round c.args.rounds c.args.units (c.loop-layer.unit + 1) =
          w.if-layer-firsts.true ∙ c.requires.each (c.loop-layer.unit + 1) (omega (arith, at.unit)) in
          let (more, next) = next_unit t u k j c.requires.shared c.loop-layer-test.true at ends in
          rw c.in_ok-push.ensures.items (record {
            count = omega (arith, length_push c.loop-layer.nodes.items c.if-layer-firsts.node, c.loop-layer.invariant.count);
            at = λ less. subst (IsAt t u (k + 1)) (sym w.unit-is) next;
            each =
                rounds_more t u k c.loop-layer.nodes.items c.if-layer-firsts.node c.loop-layer.invariant.count c.loop-layer.invariant.each
                (seam_round t u k j c.if-layer-firsts.node c.in_ok-seams.seams.items c.requires.shared more c.in_ok-seams.ensures.each ends
                (w.node-is
                ∙ (w.index-node.ensures
                ∙ get_or_default c.in_ok-seams.seams.items (c.loop-layer.unit + 1) w.index-node.result.now 0
                (omega (arith, more, c.in_ok-seams.ensures.len)))));
          })
      | else-layer-firsts w ↦
          let goes_on : c.loop-layer.layer + 1 ≡ first_round c.args.rounds c.args.units (c.loop-layer.unit + 1) → ⊥ =
          λ ends. w.if-layer-firsts.false (ends ∙ sym (c.requires.each (c.loop-layer.unit + 1) (omega (arith, at.unit)))) in
          rw c.in_ok-push.ensures.items (record {
            count = omega (arith, length_push c.loop-layer.nodes.items c.if-layer-firsts.node, c.loop-layer.invariant.count);
            at = λ less. subst (IsAt t u (k + 1)) (sym w.unit-is) (same_unit t u k j at goes_on);
            each =
                rounds_more t u k c.loop-layer.nodes.items c.if-layer-firsts.node c.loop-layer.invariant.count c.loop-layer.invariant.each
                (unit_round t u k j c.if-layer-firsts.node at goes_on w.node-is);
          })
    ]
