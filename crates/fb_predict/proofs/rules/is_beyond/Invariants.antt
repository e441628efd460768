use Rattle.std.proofs.Common.{◌≡◌, drop}
use Rattle.fb_predict.specs.ObservableText.{is_beyond}
use Rattle.fb_predict.proofs.rules.is_beyond.Given as goal

abbrev pub invariant-loop-edge : goal.invariant-loop-edge
invariant-loop-edge l = is_beyond l.edge_count l.list ≡ is_beyond l.edge_count (drop l.edge-index l.list)
