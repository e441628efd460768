use Rattle.std.proofs.Common.{subst}
use Rattle.fb_half.specs.Parts.{PartValue, problem_in}
use Rattle.fb_half.specs.Values.{part_of}
use Rattle.fb_search.specs.InternalNear.{IsNear}
use Rattle.fb_search.proofs.near_ends.match_by.Goals as goal

pub reach_boundary-requires-clause-near : goal.reach_boundary-requires-clause-near
reach_boundary-requires-clause-near c =
    let part : PartValue = part_of c.args.parts.now in
    subst (IsNear (problem_in part) part.nodes part.matching.unmatched c.args.root) c.in-Boundary.is c.requires.near

pub join_pair-requires-clause-near : goal.join_pair-requires-clause-near
join_pair-requires-clause-near c =
    let part : PartValue = part_of c.args.parts.now in
    subst (IsNear (problem_in part) part.nodes part.matching.unmatched c.args.root) c.in-Pair.is c.requires.near
