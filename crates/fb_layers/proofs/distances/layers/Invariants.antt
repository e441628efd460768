use Rattle.std.proofs.Common.{ℕ, ◌<◌, ◌≡◌, true, is_some, length}
use Rattle.fb_graph.specs.Limits.{is_real_in}
use Rattle.fb_layers.specs.Layers.{layer_at}
use Rattle.fb_layers.specs.InternalSearch.{IsSearched}
use Rattle.fb_layers.proofs.distances.layers.Given as goal

abbrev pub invariant-loop-v : goal.invariant-loop-v
invariant-loop-v l = record {
  searched : IsSearched l.graph l.search (length l.search.order);
  passed : (u : ℕ) → u < l.v → is_real_in l.graph u ≡ true → is_some (layer_at l.search.layers u) ≡ true;
}
