use Rattle.std.proofs.Common.{◌≡◌, ◌+◌, ◌++◌, drop}
use Rattle.fb_shots_stim.specs.Text01.{is_one}
use Rattle.fb_shots_stim.specs.Shots.{places_from}
use Rattle.fb_shots_stim.proofs.dense.push_ones.Given as goal

abbrev pub invariant-loop-i : goal.invariant-loop-i
invariant-loop-i l =
    l.initial.places.items ++ places_from is_one l.first l.word ≡ l.places.items ++ places_from is_one (l.first + l.i) (drop l.i l.word)
