use Rattle.std.proofs.Common.{◌≡◌, ◌++◌, map, take}
use Rattle.fb_trees.specs.Branches.{entry_of}
use Rattle.fb_search.specs.InternalEndings.{beside_match}
use Rattle.fb_search.proofs.ending.push_beside.Given as goal

abbrev pub invariant-loop-branch : goal.invariant-loop-branch
invariant-loop-branch l =
    (l.end.matches.items ≡ l.initial.end.matches.items ++ map (λ b. beside_match (entry_of b)) (take l.branch-index l.others))
    × (l.end.gone.items ≡ l.initial.end.gone.items ++ map (λ b. b.tree) (take l.branch-index l.others))
