-- The row of a shot whose plan is solved up to its root.
use Rattle.std.specs.Prelude.{ℕ, ◌≡◌, ◌==◌, List, [], ◌++◌, flat_map, map, pos, ◌+ℤ◌}
use Rattle.std.specs.List.Sorted.{IsStrictlyIncreasing}
use Rattle.fb_graph.specs.Parity.{is_odd_count}
use Rattle.fb_graph.specs.Answers.{IsRight}
use Rattle.fb_graph.specs.Certificate.{AreRising, total_value}
use Rattle.fb_graph.specs.Printed.{HasPositiveCuts}
use Rattle.fb_graph.specs.Dual.{all_cuts}
use Rattle.fb_graph.specs.Limits.{IsGraph}
use Rattle.fb_graph.specs.Signs.{base_of}
use Rattle.fb_graph.specs.declared.parts.Cut.{Cut}
use Rattle.fb_graph.specs.declared.parts.Row.TheVariants.{Best}
use Rattle.fb_plan.specs.Plans.{root_of}
use Rattle.fb_links.specs.Table.{walk_at}
use Rattle.fb_blossoms.specs.Nodes.{IsNested}
use Rattle.fb_half.specs.Parts.{IsPart, PartValue, graph_in, shot_of}
use Rattle.fb_resolve.specs.Openings.{numbers_of}

-- the edges of the walks of the links that solve the part, one walk after another
abbrev pub walked_edges : PartValue → List ℕ
walked_edges w = flat_map (λ id. map (λ s. s.edge) (walk_at w.links id)) (numbers_of w)

-- The edges that lie on an odd number of these walks or weigh less than 0, but not both, and the part's cuts of positive
-- value, are the right row of the part's shot, if the part is the root's and has nothing unmatched.
abbrev pub RootIsRight : Type 0
RootIsRight = (w : PartValue) (edges : List ℕ) (cuts : List Cut) → IsGraph w.job.graph → IsPart w → IsNested w.store
    → w.node ≡ root_of w.job.plan → w.matching.unmatched ≡ [] → IsStrictlyIncreasing edges
    → ((k : ℕ) → is_odd_count (λ j. j == k) edges
    ≡ is_odd_count (λ j. j == k) (walked_edges w ++ (graph_in w).negatives))
    → HasPositiveCuts (all_cuts w.nodes) cuts → AreRising cuts
    → IsRight w.job.graph (shot_of w) (Best edges (base_of w.job.graph (shot_of w))
    (base_of w.job.graph (shot_of w) +ℤ pos (total_value (all_cuts w.nodes))) cuts)
