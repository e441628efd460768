use Rattle.std.proofs.Common.{get_or, set, ap, ◌∙◌, arith}
use Rattle.std.proofs.lemmas.List.{get_or_default}
use Rattle.std.proofs.lemmas.List.Edits.{map_over_more}
use Rattle.fb_links.specs.Names.{name_by}
use Rattle.fb_regions.proofs.merging.rename_all.Goals as goal

pub loop-i-preserved : goal.loop-i-preserved
loop-i-preserved c =
    let old = get_or c.loop-i.nodes c.loop-i.i 0 in
    ap (set c.loop-i.nodes c.loop-i.i) c.of.ensures
    ∙ map_over_more (name_by c.args.names.now) c.args.nodes.now c.loop-i.nodes c.loop-i.i old c.loop-i-test.true
    c.loop-i.invariant (get_or_default c.loop-i.nodes c.loop-i.i 0 old (omega (arith, c.loop-i.auto.nodes, c.loop-i-test.true)))
