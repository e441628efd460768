use Rattle.std.proofs.Common.{◌∙◌, ap, length, sym}
use Rattle.fb_graph.proofs.ShotGraphs.{length_changed}
use Rattle.fb_half.specs.Parts.{shot_of}
use Rattle.fb_unit.proofs.unit.solve_unit_from.Goals as goal

pub match_all_from-requires : goal.match_all_from-requires
match_all_from-requires g c =
    let work = c.in_ok-work.work in
    record {
      room = c.requires.room
          ∙ (sym (ap (λ j. length j.graph.edges) c.in_ok-work.ensures.begun.job)
          ∙ sym (length_changed (shot_of work).changes work.job.graph.edges));
    }
