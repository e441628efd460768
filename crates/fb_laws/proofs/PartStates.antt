-- What the links and the unmatched names of a half-solved part are.
use Rattle.std.proofs.Common.{◌++◌, Some, ap, ◌∙◌}
use Rattle.fb_graph.specs.Parity.{is_in}
use Rattle.fb_graph.specs.Dual.{is_outer, leaves}
use Rattle.fb_graph.proofs.Sets.{member_of_odd}
use Rattle.fb_laws.specs.PartStates.{LiveTight, SearchTight, UnmatchedOuter, all_cycle_links}
use Rattle.fb_laws.specs.Trees.{grown_links, paired_links}
use Rattle.fb_graph.proofs.Among.{covered_by, live_among}
use Rattle.fb_graph.proofs.NestParts.{top_is_odd}
use Rattle.fb_laws.proofs.SearchStates.{links_joined, links_right, links_left}

pub live_tight : LiveTight
live_tight p s state =
    links_joined p s.nodes s.matches (all_cycle_links s.nodes s.cycles) state.work.work.matching.links_are state.cycles.links

pub search_tight : SearchTight
search_tight p s state =
    let matched = state.search.search.matching.links_are in
    links_joined p s.nodes (grown_links s.tree) (paired_links s.tree ++ (s.rest ++ all_cycle_links s.nodes s.cycles))
    state.search.search.grown
    (links_joined p s.nodes (paired_links s.tree) (s.rest ++ all_cycle_links s.nodes s.cycles)
    (links_left p s.nodes (paired_links s.tree) s.rest matched)
    (links_joined p s.nodes s.rest (all_cycle_links s.nodes s.cycles)
    (links_right p s.nodes (paired_links s.tree) s.rest matched) state.cycles.links))

pub unmatched_outer : UnmatchedOuter
unmatched_outer p s name state within =
    let nest = state.work.nest in
    let (m, a, named) = live_among s.nodes name (state.names.live name within) in
    let (v, held, leaf) = member_of_odd (is_in (leaves s.nodes)) m.top.vertices (top_is_odd p s.nodes nest m a).odd in (
      v,
      leaf,
      covered_by s.nodes v nest.dual.apart m a (ap (is_outer s.nodes) named ∙ state.work.outer name within) held
          ∙ ap Some named,
    )
