use Rattle.std.proofs.Common.{◌∙◌, sym}
use Rattle.fb_layers.proofs.Searching.{edge_reached}
use Rattle.fb_layers.proofs.distances.reach_over.Goals as goal

pub returns-clause-searched : goal.returns-clause-searched
returns-clause-searched c =
    (edge_reached c.args.graph.now c.args.search.now c.reach.new.self c.args.place c.args.edge c.other_end-to.result
    c.reached_at-from.result c.limits.ensures c.requires.searched c.requires.place c.requires.edge c.reached_at-from.ensures
    c.other_end-to.ensures (sym c.is_virtual.ensures ∙ c.if-is_virtual.false) c.in_ok-reach.ensures).searched

pub returns-clause-grows : goal.returns-clause-grows
returns-clause-grows c =
    (edge_reached c.args.graph.now c.args.search.now c.reach.new.self c.args.place c.args.edge c.other_end-to.result
    c.reached_at-from.result c.limits.ensures c.requires.searched c.requires.place c.requires.edge c.reached_at-from.ensures
    c.other_end-to.ensures (sym c.is_virtual.ensures ∙ c.if-is_virtual.false) c.in_ok-reach.ensures).grows

pub returns-clause-near : goal.returns-clause-near
returns-clause-near c inner =
    (edge_reached c.args.graph.now c.args.search.now c.reach.new.self c.args.place c.args.edge c.other_end-to.result
    c.reached_at-from.result c.limits.ensures c.requires.searched c.requires.place c.requires.edge c.reached_at-from.ensures
    c.other_end-to.ensures (sym c.is_virtual.ensures ∙ c.if-is_virtual.false) c.in_ok-reach.ensures).near
