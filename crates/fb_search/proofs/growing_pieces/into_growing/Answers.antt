use Rattle.fb_search.specs.InternalPaces.{ArePaced}
use Rattle.fb_search.specs.declared.growing.GrowingPieces.{GrowingPieces}
use Rattle.fb_search.specs.InternalGrowing.{IsGrowing, growing_of}
use Rattle.fb_half.proofs.DoneSteps.{done_with}
use Rattle.fb_search.proofs.DoneSteps.{done_same}
use Rattle.fb_search.proofs.growing_pieces.into_growing.Goals as goal

pub invariant_of-result : goal.invariant_of-result
invariant_of-result c =
    done_with (λ (p : GrowingPieces). ArePaced p.parts p.forest × IsGrowing (growing_of p)) c.args.done c.args.pieces c.in_ok-pieces.pieces
    c.in_ok-pieces.ensures c.requires

pub returns : goal.returns
returns c = done_same growing_of c.args.done c.args.pieces c.in_ok-pieces.pieces c.in_ok-pieces.ensures
