use Rattle.std.proofs.Common.{refl}
use Rattle.fb_desk.proofs.desk.Desk.turn.Goals as goal

pub fusion-requires-clause-children : goal.fusion-requires-clause-children
fusion-requires-clause-children g c κs within =
    rw (c.item_of-in-Fusion.ensures.slot, c.item_of-in-Fusion.ensures.node)
    (c.in-Fusion.ensures.pieces c.in-Fusion.permit c.in-Fusion.left c.in-Fusion.right refl)
