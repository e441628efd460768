use Rattle.std.proofs.Common.{map, sym, subst}
use Rattle.std.specs.List.{All}
use Rattle.fb_graph.specs.Certificate.{AreDistinct}
use Rattle.fb_regions.specs.InternalHeads.{IsInTime}
use Rattle.fb_regions.specs.InternalPlaces.{IsIndex}
use Rattle.fb_regions.proofs.Indexed.{index_adopted}
use Rattle.fb_regions.proofs.Joined.{adopted_names}
use Rattle.fb_regions.proofs.Rejoined.{adopted_in_time}
use Rattle.fb_regions.proofs.heads.rejoin.Goals as goal

pub relink-requires-clause-index : goal.relink-requires-clause-index
relink-requires-clause-index c =
    subst (λ l. IsIndex l c.args.places.now) (sym c.adopt.ensures)
    (index_adopted c.args.regions.now c.args.places.now c.args.names.now c.map-parent.result c.requires.index)

pub relink-requires-clause-distinct : goal.relink-requires-clause-distinct
relink-requires-clause-distinct c =
    subst (λ l. AreDistinct (map (λ r. r.name) l)) (sym c.adopt.ensures)
    (subst AreDistinct (sym (adopted_names c.args.names.now c.map-parent.result c.args.regions.now)) c.requires.distinct)

pub relink-requires-clause-time : goal.relink-requires-clause-time
relink-requires-clause-time c =
    subst (All (IsInTime c.args.clock)) (sym c.adopt.ensures)
    (adopted_in_time c.args.clock c.args.names.now c.map-parent.result c.args.regions.now c.requires.time)
