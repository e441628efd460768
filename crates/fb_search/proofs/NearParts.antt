-- Between searches an unmatched node may grow by an even length: a search that begins there, steps, and is given up again.
use Rattle.std.proofs.Common.{ℕ, ◌≡◌, ◌+◌, ◌%◌, true, List, [], length, filter, refl, subst, arith}
use Rattle.std.specs.List.{range_with_len}
use Rattle.fb_graph.specs.Dual.{Node}
use Rattle.fb_graph.specs.Limits.{DecodingGraph, IsWithinLimits, no_shot}
use Rattle.fb_graph.specs.Parity.{is_in}
use Rattle.fb_graph.specs.Steps.{MayStep, stepped_nodes}
use Rattle.fb_graph.proofs.Ranges.{filter-range_below, is_in-filter-range}
use Rattle.fb_laws.specs.StateMoves.{search_from}
use Rattle.fb_laws.proofs.StateMoves.{search_from_root, state_stepped}
use Rattle.fb_half.specs.Parts.{IsPart, PartValue, graph_in, problem_in, state_of}
use Rattle.fb_plan.specs.Plans.{PlanTree, problem_at}
use Rattle.fb_trees.specs.Rooted.{bare}
use Rattle.fb_search.specs.declared.near.Near.{Near}
use Rattle.fb_search.specs.declared.near.Near.TheVariants.{Boundary, Pair}
use Rattle.fb_search.specs.InternalNear.{IsNear, IsNearBoundary, IsNearPair, alone}
use Rattle.fb_search.specs.InternalSearching.{stepped_by}
use Rattle.fb_search.specs.InternalSearching.{IsSearching, SearchValue}
use Rattle.fb_search.proofs.DissolvedStates.{even_dissolved}
use Rattle.fb_search.proofs.MinusBounds.{minus_begun}
use Rattle.fb_search.proofs.SearchRoles.{no_odd_closed}
use Rattle.fb_search.proofs.SteppedSearches.{searching_stepped}

-- the search of the part whose tree is the root alone, and which watches all edges
abbrev pub bare_search : ℕ → PartValue → SearchValue
bare_search root part = record {
  part = part;
  tree = bare root;
  watched = record {
    edge_count = length (problem_in part).edges;
    edges = filter (λ k. true) (range_with_len 0 (length (problem_in part).edges));
    bounds = [];
    queued = 0;
    nodes = [];
  };
}

pub searching_bare : (root : ℕ) (part : PartValue) → IsPart part → is_in part.matching.unmatched root ≡ true
    → IsSearching (bare_search root part)
searching_bare root part are within = record {
  job = are.job;
  slot = are.slot;
  node = are.node;
  state = (0, search_from_root (problem_in part) (state_of part) root are.state within);
  agreed = are.agreed;
  links = are.links;
  matching = are.matching;
  room = refl;
  watch = record {
    within = filter-range_below (λ k. true) (length (problem_in part).edges);
    near = λ k less over apart. is_in-filter-range (λ k. true) (length (problem_in part).edges) k less;
  };
  bounds = λ i less. omega arith;
  minus = minus_begun root part.nodes (bare_search root part).watched;
}

-- the part with a node grown
abbrev pub grown : ℕ → ℕ → PartValue → PartValue
grown name k part = record part { nodes = stepped_nodes (alone name) k part.nodes }

pub part_grown : (name k : ℕ) (part : PartValue) → IsPart part → IsWithinLimits (problem_in part)
    → is_in part.matching.unmatched name ≡ true → MayStep (problem_in part) (alone name) part.nodes k → k % 2 ≡ 0
    → IsPart (grown name k part)
part_grown name k part are limits within may even =
    let was : IsSearching (bare_search name part) = searching_bare name part are within in
    let now : IsSearching (stepped_by k (bare_search name part)) =
    searching_stepped (bare_search name part) k was limits may in
    record {
      job = are.job;
      slot = are.slot;
      node = are.node;
      state = even_dissolved (problem_in part)
          (record (search_from name (state_of part)) { nodes = stepped_nodes (alone name) k part.nodes; parity = (0 + k) % 2 })
          (state_stepped (problem_in part) (search_from name (state_of part)) k limits (no_odd_closed (bare_search name part) was) may
          (search_from_root (problem_in part) (state_of part) name are.state within))
          (omega (arith, even));
      agreed = now.agreed;
      links = now.links;
      matching = now.matching;
    }

-- what is found in the scope of a part's regions holds of the part's sub-problem too, since the defects don't matter
pub near_in_part : (g : DecodingGraph) (t : PlanTree) (n : ℕ) (w : PartValue) (nodes : List Node) (unmatched : List ℕ)
    (root : ℕ) (near : Near) → g ≡ graph_in w → t ≡ w.job.plan → n ≡ w.node → nodes ≡ w.nodes
    → unmatched ≡ w.matching.unmatched → IsNear (problem_at g t n no_shot) nodes unmatched root near
    → IsNear (problem_in w) w.nodes w.matching.unmatched root near
near_in_part g t n w nodes unmatched root (Boundary edge growth) eg et en es eu is =
    let here : IsNearBoundary (problem_at (graph_in w) w.job.plan w.node no_shot) w.nodes root edge growth =
    subst (λ h. IsNearBoundary (problem_at h w.job.plan w.node no_shot) w.nodes root edge growth) eg (rw (← et, ← en, ← es) is) in
    record {
      inner = here.inner;
      outer = here.outer;
      within = here.within;
      leads = here.leads;
      top = here.top;
      boundary = here.boundary;
      residue = here.residue;
      room = here.room;
    }
near_in_part g t n w nodes unmatched root (Pair pair) eg et en es eu is =
    let here : IsNearPair (problem_at (graph_in w) w.job.plan w.node no_shot) w.nodes w.matching.unmatched root pair =
    subst (λ h. IsNearPair (problem_at h w.job.plan w.node no_shot) w.nodes w.matching.unmatched root pair) eg (rw (← et, ← en, ← es, ← eu) is) in
    record {
      inner = here.inner;
      outer = here.outer;
      within = here.within;
      leads = here.leads;
      top = here.top;
      single = here.single;
      even = here.even;
      residue = here.residue;
      room = here.room;
      other_room = here.other_room;
    }
