use Rattle.std.specs.Prelude.{OnOk}
use Rattle.std.proofs.lemmas.Result.{IfOk-weaker}
use Rattle.fb_half.specs.Values.{part_of}
use Rattle.fb_search.specs.InternalGrowing.{GrowingValue}
use Rattle.fb_search.specs.InternalGrowth.{AreGrowing, GrowsOn}
use Rattle.fb_search.proofs.DoneSteps.{done_weaker}
use Rattle.fb_search.proofs.growing.Growing.join_or_match.Goals.{then-are_together, else-are_together}
use Rattle.fb_search.proofs.growing.Growing.join_or_match.Goals as goal

pub into_growing-requires : goal.into_growing-requires
into_growing-requires c =
    let w : GrowingValue = record { part = part_of c.self.inside.parts; forest = c.self.inside.forest; watched = c.self.inside.watch } in
    let both : OnOk c.if-are_together.done (AreGrowing w c.if-are_together.pieces) =
    elim c.if-are_together.branch [
      | then-are_together x ↦ rw (x.done-is, x.pieces-is) x.close-done.ensures
      | else-are_together x ↦ rw (x.done-is, x.pieces-is) x.match_trees-done.ensures
    ] in
    IfOk-weaker _ _ _ (λ _ (are : AreGrowing w c.if-are_together.pieces). (are.paced, are.keeps)) both

pub returns : goal.returns
returns c =
    let w : GrowingValue = record { part = part_of c.self.inside.parts; forest = c.self.inside.forest; watched = c.self.inside.watch } in
    let both : OnOk c.if-are_together.done (AreGrowing w c.if-are_together.pieces) =
    elim c.if-are_together.branch [
      | then-are_together x ↦ rw (x.done-is, x.pieces-is) x.close-done.ensures
      | else-are_together x ↦ rw (x.done-is, x.pieces-is) x.match_trees-done.ensures
    ] in
    rw (← c.self.view_is)
    (done_weaker (GrowsOn w) c.if-are_together.done _ _ c.into_growing.ensures
    (IfOk-weaker _ _ _ (λ _ (are : AreGrowing w c.if-are_together.pieces). are.grows_on) both))
