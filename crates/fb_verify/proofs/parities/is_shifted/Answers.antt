use Rattle.std.proofs.Common.{◌≡◌, Bool, refl, sym, ap, ◌∙◌}
use Rattle.fb_graph.specs.Parity.{differ, is_in}
use Rattle.fb_graph.proofs.SignTurns.{shifted_by_turns}
use Rattle.fb_verify.proofs.parities.is_shifted.Goals as goal

three_differ : (a b c x y z : Bool) → a ≡ x → b ≡ y → c ≡ z → differ a (differ b c) ≡ differ x (differ y z)
three_differ a b c x y z p q r = rw (p, q, r) refl

pub returns : goal.returns
returns c =
    three_differ c.is_listed-3.result c.is_listed.result c.is_listed-2.result _ _ _
    (c.is_listed-3.ensures ∙ ap (λ xs. is_in xs c.args.vertex) c.as_slice.ensures.defects)
    (c.is_listed.ensures ∙ ap (λ xs. is_in xs c.args.vertex) c.turned.ensures.vertices)
    (c.is_listed-2.ensures ∙ ap (λ xs. is_in xs c.args.vertex) c.turned-2.ensures.vertices)
    ∙ sym (shifted_by_turns c.args.graph.now c.args.shot.now c.limits.ensures c.requires c.args.vertex)
