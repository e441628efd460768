use Rattle.std.proofs.lemmas.Result.{IfOk-weaker}
use Rattle.fb_half.specs.Values.{part_of}
use Rattle.fb_search.specs.InternalGrowing.{GrowingValue}
use Rattle.fb_search.specs.InternalGrowth.{AreGrowing, GrowsOn}
use Rattle.fb_search.proofs.DoneSteps.{done_weaker}
use Rattle.fb_search.proofs.growing.Growing.open.Goals as goal

pub open_node-done-requires-clause-empty : goal.open_node-done-requires-clause-empty
open_node-done-requires-clause-empty c = rw (← c.self.view_is) at c.requires

pub into_growing-requires : goal.into_growing-requires
into_growing-requires c =
    let w : GrowingValue = record { part = part_of c.self.inside.parts; forest = c.self.inside.forest; watched = c.self.inside.watch } in
    IfOk-weaker _ _ _ (λ _ (are : AreGrowing w c.open_node-done.new.pieces). (are.paced, are.keeps)) c.open_node-done.ensures

pub returns : goal.returns
returns c =
    let w : GrowingValue = record { part = part_of c.self.inside.parts; forest = c.self.inside.forest; watched = c.self.inside.watch } in
    rw (← c.self.view_is)
    (done_weaker (GrowsOn w) c.open_node-done.result _ _ c.into_growing.ensures
    (IfOk-weaker _ _ _ (λ _ (are : AreGrowing w c.open_node-done.new.pieces). are.grows_on) c.open_node-done.ensures))
