use Rattle.std.proofs.lemmas.Result.{IfOk-weaker}
use Rattle.fb_half.specs.Values.{part_of}
use Rattle.fb_search.specs.InternalGrowing.{GrowingValue}
use Rattle.fb_search.specs.InternalGrowth.{AreGrowing, GrowsOn}
use Rattle.fb_search.proofs.DoneSteps.{done_weaker}
use Rattle.fb_search.proofs.growing.Growing.end_at_boundary.Goals as goal

pub returns : goal.returns
returns c =
    let w : GrowingValue = record { part = part_of c.self.inside.parts; forest = c.self.inside.forest; watched = c.self.inside.watch } in
    rw (← c.self.view_is)
    (done_weaker (GrowsOn w) c.end_over-done.result _ _ c.into_growing.ensures
    (IfOk-weaker _ _ _ (λ _ (are : AreGrowing w c.end_over-done.new.pieces). are.grows_on) c.end_over-done.ensures))
