use Rattle.std.proofs.Common.{◌<◌, ◌∙◌, arith, sym, ap, subst}
use Rattle.std.specs.List.{swap_remove}
use Rattle.std.proofs.lemmas.List.Sorted.{IsPermutation-swap_remove}
use Rattle.fb_half.specs.InternalStandings.{standing_of}
use Rattle.fb_half.proofs.Taken.{same_read}
use Rattle.fb_half.proofs.Lookups.{unmatched_place}
use Rattle.fb_half.proofs.Listings.{moved_name_within, name_within, unmatched_at, unmatched_moved, unmatched_taken}
use Rattle.fb_half.proofs.matching.Matching.take_unmatched.Goals as goal

pub unreachable-requires : goal.unreachable-requires
unreachable-requires c =
    let listed = rw (← c.self.view_is) at c.requires in
    let place = unmatched_place _ _ _ c.args.name c.self.invariant.1 listed in
    c.in_default.not-Unmatched place.0 (c.standing_in.ensures ∙ (ap (λ l. standing_of l c.args.name) c.deref.ensures.value ∙ place.1))

pub swap_remove-requires : goal.swap_remove-requires
swap_remove-requires c =
    let at = sym (c.standing_in.ensures ∙ ap (λ l. standing_of l c.args.name) c.deref.ensures.value) ∙ c.in-Unmatched.is in
    let there = unmatched_at _ _ _ c.in-Unmatched.place c.args.name c.self.invariant.1 at in
    omega (arith, there.0)

pub set_name-requires : goal.set_name-requires
set_name-requires c =
    let at = sym (c.standing_in.ensures ∙ ap (λ l. standing_of l c.args.name) c.deref.ensures.value) ∙ c.in-Unmatched.is in
    let there = unmatched_at _ _ _ c.in-Unmatched.place c.args.name c.self.invariant.1 at in
    name_within _ _ _ c.in-Unmatched.place c.args.name c.self.invariant.1 there.0 there.1

pub set_name-requires-then-place-len : goal.set_name-requires-then-place-len
set_name-requires-then-place-len c =
    let at = sym (c.standing_in.ensures ∙ ap (λ l. standing_of l c.args.name) c.deref.ensures.value) ∙ c.in-Unmatched.is in
    let there = unmatched_at _ _ _ c.in-Unmatched.place c.args.name c.self.invariant.1 at in
    subst (λ n. c.index-moved.result.now < n) (sym c.set_name.ensures.count)
    (moved_name_within _ _ _ _ c.in-Unmatched.place c.swap_remove.result c.index-moved.result.now c.self.invariant.1 there.0 c.swap_remove.ensures.items
    (omega arith) c.index-moved.ensures)

pub invariant_of-self : goal.invariant_of-self
invariant_of-self c =
    let at = sym (c.standing_in.ensures ∙ ap (λ l. standing_of l c.args.name) c.deref.ensures.value) ∙ c.in-Unmatched.is in
    let there = unmatched_at _ _ _ c.in-Unmatched.place c.args.name c.self.invariant.1 at in
    let same = same_read c.self.inside.unmatched.items c.in-Unmatched.place c.swap_remove.result c.args.name there.0 c.swap_remove.ensures.value there.1 in (
      c.self.invariant.0,
      unmatched_moved _ _ _ _ _ _ c.in-Unmatched.place c.args.name c.index-moved.result.now c.self.invariant.1 there.0 there.1
          (c.swap_remove.ensures.items ∙ ap (swap_remove c.self.inside.unmatched.items c.in-Unmatched.place) same) (omega arith) c.index-moved.ensures
          c.set_name.ensures.entries c.set_name-then-place-len.ensures.entries,
    )

pub invariant_of-self-else-place-len : goal.invariant_of-self-else-place-len
invariant_of-self-else-place-len c =
    let at = sym (c.standing_in.ensures ∙ ap (λ l. standing_of l c.args.name) c.deref.ensures.value) ∙ c.in-Unmatched.is in
    let there = unmatched_at _ _ _ c.in-Unmatched.place c.args.name c.self.invariant.1 at in
    let same = same_read c.self.inside.unmatched.items c.in-Unmatched.place c.swap_remove.result c.args.name there.0 c.swap_remove.ensures.value there.1 in (
      c.self.invariant.0,
      unmatched_taken _ _ _ _ _ c.in-Unmatched.place c.args.name c.self.invariant.1 there.0 there.1
          (c.swap_remove.ensures.items ∙ ap (swap_remove c.self.inside.unmatched.items c.in-Unmatched.place) same) (omega arith) c.set_name.ensures.entries,
    )

pub returns-then-place-len-clause-unmatched : goal.returns-then-place-len-clause-unmatched
returns-then-place-len-clause-unmatched c =
    let at = sym (c.standing_in.ensures ∙ ap (λ l. standing_of l c.args.name) c.deref.ensures.value) ∙ c.in-Unmatched.is in
    let there = unmatched_at _ _ _ c.in-Unmatched.place c.args.name c.self.invariant.1 at in
    let same = same_read c.self.inside.unmatched.items c.in-Unmatched.place c.swap_remove.result c.args.name there.0 c.swap_remove.ensures.value there.1 in
    rw (← c.self.view_is, c.swap_remove.ensures.items, same)
    (IsPermutation-swap_remove c.self.inside.unmatched.items c.in-Unmatched.place c.args.name there.0 there.1)

pub returns-else-place-len-clause-unmatched : goal.returns-else-place-len-clause-unmatched
returns-else-place-len-clause-unmatched c =
    let at = sym (c.standing_in.ensures ∙ ap (λ l. standing_of l c.args.name) c.deref.ensures.value) ∙ c.in-Unmatched.is in
    let there = unmatched_at _ _ _ c.in-Unmatched.place c.args.name c.self.invariant.1 at in
    let same = same_read c.self.inside.unmatched.items c.in-Unmatched.place c.swap_remove.result c.args.name there.0 c.swap_remove.ensures.value there.1 in
    rw (← c.self.view_is, c.swap_remove.ensures.items, same)
    (IsPermutation-swap_remove c.self.inside.unmatched.items c.in-Unmatched.place c.args.name there.0 there.1)
