-- The row of a root.
use Rattle.std.proofs.Common.{◌≡◌, ℕ, ◌==◌, Bool, true, None, List, ◌++◌, flat_map, length, sym, ◌∙◌, ap}
use Rattle.std.specs.List.Sorted.{IsStrictlyIncreasing}
use Rattle.std.proofs.lemmas.List.Folds.{flat_map-map}
use Rattle.fb_graph.specs.Parity.{differ, is_in, is_odd_count}
use Rattle.fb_graph.specs.Certificate.{IsCertified, total_value}
use Rattle.fb_graph.specs.Dual.{all_cuts}
use Rattle.fb_graph.specs.Laws.{Link, odd_edges}
use Rattle.fb_graph.specs.Limits.{no_shot}
use Rattle.fb_graph.specs.Signs.{solved_problem}
use Rattle.fb_graph.proofs.Matching.{steps_within}
use Rattle.fb_graph.proofs.OddOnes.{odd_ones_count, odd_ones_rise}
use Rattle.fb_graph.proofs.ParitySums.{odd-append}
use Rattle.fb_graph.proofs.ShotGraphs.{same_first_odd}
use Rattle.fb_graph.proofs.Sets.{distinct_from_rising, odd_equal}
use Rattle.fb_graph.proofs.ShiftedShots.{shot_graph_is_graph}
use Rattle.fb_graph.proofs.ShiftedRows.{unshifted_is_best}
use Rattle.fb_plan.specs.Plans.{problem_at}
use Rattle.fb_plan.proofs.SubProblems.{node_is_part, root_is_whole}
use Rattle.fb_laws.specs.OpenedLinks.{opened_links}
use Rattle.fb_laws.proofs.SolvedParts.{opened_perfect, part_is_best}
use Rattle.fb_laws.proofs.SolvedRows.{best_of_whole}
use Rattle.fb_half.specs.Translations.{link_by}
use Rattle.fb_half.specs.Parts.{graph_in, problem_in, shot_of, solved_shot, state_of}
use Rattle.fb_resolve.specs.Openings.{OpenedByNumber, numbers_of}
use Rattle.fb_resolve.specs.Rows.{RootIsRight, walked_edges}

pub root_right : OpenedByNumber → RootIsRight
root_right by_number w edges cuts graph part nested root matched rising parity positive in_order = (
  (same_first_odd w.job.graph (shot_of w) None).0 (part.job.even w.slot no_shot part.slot),
  unshifted_is_best w.job.graph (shot_of w) (odd_edges (problem_in w) (opened_links (state_of w))) edges (total_value (all_cuts w.nodes)) cuts graph
      (part.job.shots w.slot no_shot part.slot) certified (record { rising = rising; each = exchanged }),
)
  where
    real : (v : ℕ) → (solved_problem w.job.graph (shot_of w)).is_real v ≡ true → (problem_in w).is_real v ≡ true
    real v h =
        ap (λ n. (problem_at w.job.graph w.job.plan n (solved_shot w)).is_real v) root
        ∙ (root_is_whole w.job.graph w.job.plan v (solved_shot w) part.job.plan ∙ h)

    certified : IsCertified (solved_problem w.job.graph (shot_of w)) (odd_edges (problem_in w) (opened_links (state_of w))) (total_value (all_cuts w.nodes)) cuts
    certified =
        best_of_whole (problem_in w) (solved_problem w.job.graph (shot_of w)) (odd_edges (problem_in w) (opened_links (state_of w)))
        (total_value (all_cuts w.nodes)) cuts
        (node_is_part (graph_in w) w.job.plan w.node (solved_shot w)) real (part_is_best (problem_in w) (state_of w) cuts part.state matched positive in_order)

    walks : flat_map (λ l. l.walk) (opened_links (state_of w)) ≡ walked_edges w
    walks =
        ap (flat_map (λ (l : Link). l.walk)) (by_number w part nested)
        ∙ flat_map-map (λ (l : Link). l.walk) (link_by w.links) (numbers_of w)

    -- what was found has the parities of the walks
    found : (test : ℕ → Bool) → is_odd_count test (odd_edges (problem_in w) (opened_links (state_of w))) ≡ is_odd_count test (walked_edges w)
    found test =
        odd_ones_count (length (problem_in w).edges) (flat_map (λ l. l.walk) (opened_links (state_of w)))
        (steps_within (problem_in w) (opened_links (state_of w)) (opened_perfect (problem_in w) (state_of w) part.state matched).walks) test
        ∙ ap (is_odd_count test) walks

    -- an edge is in a rising list an odd number of times if and only if it is in it
    once : (ks : List ℕ) (k : ℕ) → IsStrictlyIncreasing ks → is_odd_count (λ j. j == k) ks ≡ is_in ks k
    once ks k up = odd_equal ks k (distinct_from_rising ks up)

    exchanged : (k : ℕ) → is_in edges k
        ≡ differ (is_in (odd_edges (problem_in w) (opened_links (state_of w))) k) (is_in (graph_in w).negatives k)
    exchanged k =
        sym (once edges k rising)
        ∙ (parity k
        ∙ (odd-append (λ j. j == k) (walked_edges w) (graph_in w).negatives
        ∙ (ap (λ b. differ b (is_odd_count (λ j. j == k) (graph_in w).negatives)) (sym (found (λ j. j == k)))
        ∙ (λ i. differ
        (once (odd_edges (problem_in w) (opened_links (state_of w))) k
        (odd_ones_rise (length (problem_in w).edges) (flat_map (λ l. l.walk) (opened_links (state_of w)))).0 i)
        (once (graph_in w).negatives k
        (shot_graph_is_graph w.job.graph (shot_of w) graph (part.job.shots w.slot no_shot part.slot)).0.negatives_rising i)))))
