use Rattle.std.proofs.Common.{◌∙◌, ap, length, sym, arith}
use Rattle.fb_graph.proofs.ShotGraphs.{length_changed}
use Rattle.fb_half.specs.Parts.{shot_of}
use Rattle.fb_fuse.proofs.MergedCounts.{unmatched_counted}
use Rattle.fb_fuse.proofs.fusing.fuse_from.Goals as goal

pub returns-clause-most : goal.returns-clause-most
returns-clause-most g c = omega (arith, c.in_ok-work-2.ensures.most, unmatched_counted _ _ _ _ _ c.in_ok-work.ensures)

pub returns-clause-least : goal.returns-clause-least
returns-clause-least g c = omega (arith, c.in_ok-work-2.ensures.least, unmatched_counted _ _ _ _ _ c.in_ok-work.ensures)

pub match_all-requires : goal.match_all-requires
match_all-requires g c =
    let work = c.in_ok-work.work in
    record {
      room = c.requires.room
          ∙ (sym (ap (λ j. length j.graph.edges) c.in_ok-work.ensures.job)
          ∙ sym (length_changed (shot_of work).changes work.job.graph.edges));
    }
