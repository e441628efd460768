use Rattle.std.proofs.Common.{◌∙◌, sym}
use Rattle.fb_laws.proofs.NestedFusions.{cover_live}
use Rattle.fb_search.proofs.near.is_target.Goals as goal

pub is_single-requires : goal.is_single-requires
is_single-requires g c =
    cover_live c.args.regions.now.nodes c.args.reach.far c.in-Some.node (sym c.requires.covered ∙ c.in-Some.is)
