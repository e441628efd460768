use Rattle.fb_blossoms.proofs.legs.ways_over.Goals as goal

pub way_from-requires : goal.way_from-requires
way_from-requires c = c.ends_of-exit.ensures.leaves

pub way_from-requires-2 : goal.way_from-requires-2
way_from-requires-2 c = c.ends_of-exit.ensures.enters

pub returns : goal.returns
returns c =
    record {
      over = rw (c.in_ok-from.ensures.defect, c.in_ok-to.ensures.defect) c.ends_of-exit.ensures;
      from = c.in_ok-from.ensures.way;
      to = c.in_ok-to.ensures.way;
    }
