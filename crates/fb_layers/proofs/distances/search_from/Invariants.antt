use Rattle.std.proofs.Common.{◌-◌, ◌≤◌, length}
use Rattle.fb_layers.specs.InternalSearch.{Grows, IsSearched}
use Rattle.fb_layers.proofs.distances.search_from.Given as goal

abbrev pub invariant-loop-place : goal.invariant-loop-place
invariant-loop-place l = record {
  within : l.place ≤ length l.search.order;
  searched : IsSearched l.graph l.search l.place;
  grows : Grows l.initial.search l.search;
}

abbrev pub decreases-loop-place : goal.decreases-loop-place
decreases-loop-place l = l.graph.vertices - l.place
