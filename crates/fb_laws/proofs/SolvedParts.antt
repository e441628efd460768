-- A part with nothing unmatched is solved by its opened links.
use Rattle.std.proofs.Common.{◌≡◌, [], get_or, sym, ◌∙◌, subst}
use Rattle.fb_graph.specs.Problem.{Problem}
use Rattle.fb_graph.specs.Certificate.{IsCertified, total_value}
use Rattle.fb_graph.specs.Dual.{all_cuts, leaves}
use Rattle.fb_graph.specs.Links.{pair}
use Rattle.fb_laws.specs.OpenedLinks.{EndAtTurn, OpenedLevel, OpenedPerfect, PartSolved, PartIsBest, RowOfPart, opened_links}
use Rattle.fb_laws.specs.PartStates.{PartState, IsPartState}
use Rattle.fb_laws.specs.Works.{IsMatching, positive_cuts}
use Rattle.fb_graph.proofs.Matching.{resolving}
use Rattle.fb_laws.proofs.HalvesKept.{positive_loads, positive_packing}
use Rattle.fb_laws.proofs.OpenedLevels.{last_level}
use Rattle.fb_laws.proofs.OpenedParts.{end_at_turn, opened_level, opened_matched}
use Rattle.fb_laws.proofs.SolvedNests.{leaf_level}
use Rattle.fb_laws.proofs.SolvedRows.{best_of_whole, odd_edges_only, solved_is_best}

matching : (p : Problem) (s : PartState) → IsPartState p s → s.unmatched ≡ [] → IsMatching p s.nodes s.matches []
matching p s is none = subst (IsMatching p s.nodes s.matches) none is.work.work.matching

pub end_at_turns : EndAtTurn
end_at_turns p s before after n is none split some =
    end_at_turn p s.nodes s.cycles s.matches is.work.nest is.cycles (matching p s is none) before after n split some

pub level_opened : OpenedLevel
level_opened p s is none = (
  opened_level p s.nodes s.cycles s.matches is.work.nest is.cycles (matching p s is none),
  opened_matched p s.nodes s.cycles s.matches is.work.nest is.cycles (matching p s is none),
)

pub opened_perfect : OpenedPerfect
opened_perfect p s is none =
    let (level, are) = level_opened p s is none in
    last_level p (positive_cuts s.nodes) (leaves s.nodes) (opened_links s)
    (leaf_level p s.nodes (opened_links s) is.work.nest are.at_defects level)
    (λ i d less. record {
      walk = (are.tight i d less).walk;
      tight = (are.tight i d less).tight ∙ sym
          (positive_loads s.nodes (pair (get_or (opened_links s) i d).from (get_or (opened_links s) i d).to));
    })
    are.at_defects (matching p s is none).defects

pub part_solved : PartSolved
part_solved p s is none =
    resolving p (positive_cuts s.nodes) (opened_links s)
    (positive_packing p s.nodes is.work.nest.dual (matching p s is none).defects) (opened_perfect p s is none)

pub part_is_best : PartIsBest
part_is_best p s printed is none are rising =
    solved_is_best p s.nodes _ printed is.work.nest (matching p s is none).defects (part_solved p s is none) are rising

pub row_of_part : RowOfPart
row_of_part p whole s ones printed is none part all odd parity are rising =
    best_of_whole p whole ones _ printed part all
    (subst (λ l. IsCertified p l (total_value (all_cuts s.nodes)) printed)
    (sym (odd_edges_only p (opened_links s) ones (opened_perfect p s is none).walks odd parity))
    (part_is_best p s printed is none are rising))
