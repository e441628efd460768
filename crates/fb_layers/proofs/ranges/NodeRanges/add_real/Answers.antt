use Rattle.std.proofs.Common.{◌≡◌, Some}
use Rattle.fb_layers.specs.Layers.{layer_at}
use Rattle.fb_layers.specs.InternalCovers.{all_ranges}
use Rattle.fb_layers.proofs.Filling.{hold_real}
use Rattle.fb_layers.proofs.ranges.NodeRanges.add_real.Goals as goal

pub returns-clause-hold : goal.returns-clause-hold
returns-clause-hold c =
    let at : layer_at c.args.layers.now c.args.vertex ≡ Some c.in-Some.layer = cc (c.in-Some.ensures, c.layer.ensures, c.in-Some.is) in
    hold_real _ c.args.vertex c.in-Some.layer c.args.nodes.now c.args.layers.now (all_ranges c.args.self.now) (all_ranges c.add.new.self)
    c.requires.vertex
    (c.requires.nodes.below c.in-Some.layer (c.requires.nodes.within c.args.vertex c.in-Some.layer at)) at c.requires.hold
    c.in_ok-add.ensures.ranges
