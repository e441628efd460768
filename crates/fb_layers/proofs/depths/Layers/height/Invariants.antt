use Rattle.std.proofs.Common.{◌≡◌, take}
use Rattle.fb_layers.specs.Layers.{height_of}
use Rattle.fb_layers.proofs.depths.Layers.height.Given as goal

abbrev pub invariant-loop-layer : goal.invariant-loop-layer
invariant-loop-layer l = l.height ≡ height_of (take l.layer-index l.layer-items)
