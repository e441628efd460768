use Rattle.std.proofs.Common.{◌≡◌, ◌+◌}
use Rattle.fb_search.proofs.growing_all.grow_from.Given as goal

-- the looks are counted in a book of their own
abbrev pub ghosts-grow_through : goal.ghosts-grow_through
ghosts-grow_through g a = record { name = a.looks.name; parts = a.looks.parts }

abbrev pub invariant-loop-root : goal.invariant-loop-root
invariant-loop-root g l = l.steps ≡ l.fn.steps + l._root
