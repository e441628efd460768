use Rattle.std.proofs.Common.{List, ℕ, Some, sym, ap, subst}
use Rattle.std.specs.List.Sorted.{IsPermutation}
use Rattle.fb_shots_stim.specs.Shots.{IsShotOf}
use Rattle.fb_shots_stim.proofs.NamedLemmas.{sorted_rising}
use Rattle.fb_shots_stim.proofs.ShotLemmas.{rising_shot}
use Rattle.fb_shots_stim.proofs.record.SoFar.take.Goals as goal

pub returns-clause-taken : goal.returns-clause-taken
returns-clause-taken c =
    let named = c.self.inside.named.items in
    let same : IsPermutation named c.sort_unstable.new.self.items = rw (← c.replace-named.ensures.value) c.sort_unstable.ensures.permutation in
    let sorted = sorted_rising c.self.inside.detectors c.self.inside.marks.items named c.sort_unstable.new.self.items c.self.invariant.0 same c.sort_unstable.ensures.sorted in
    rw (← c.self.view_is, c.if-not-self.false, c.from_vec.ensures) (ap (λ (l : List ℕ). Some l) sorted)

pub returns-clause-shot : goal.returns-clause-shot
returns-clause-shot c =
    let n = c.self.inside.detectors in
    let named = c.self.inside.named.items in
    let same : IsPermutation named c.sort_unstable.new.self.items = rw (← c.replace-named.ensures.value) c.sort_unstable.ensures.permutation in
    let sorted = sorted_rising n c.self.inside.marks.items named c.sort_unstable.new.self.items c.self.invariant.0 same c.sort_unstable.ensures.sorted in
    rw (← c.self.view_is, c.from_vec.ensures) (subst (IsShotOf n) (sym sorted) (rising_shot n named))
