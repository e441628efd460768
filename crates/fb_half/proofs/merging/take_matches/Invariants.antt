use Rattle.std.proofs.Common.{◌≡◌, ◌++◌, map, take}
use Rattle.fb_links.specs.Names.{name_by}
use Rattle.fb_half.specs.Merged.{renamed_match}
use Rattle.fb_half.proofs.merging.take_matches.Given as goal

abbrev pub invariant-loop-m : goal.invariant-loop-m
invariant-loop-m l =
    l.matching ≡ record {
      matches = l.initial.matching.matches ++ map (renamed_match (name_by l.links) (name_by l.nodes)) (take l.m-index l.others);
      unmatched = l.initial.matching.unmatched;
    }
