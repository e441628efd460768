use Rattle.std.proofs.Common.{◌∙◌, length, arith, ap, sym}
use Rattle.std.proofs.lemmas.List.{length-map}
use Rattle.std.proofs.lemmas.List.Sorted.{IsPermutation-swap_remove}
use Rattle.fb_half.specs.InternalStandings.{standing_of}
use Rattle.fb_half.proofs.Lookups.{names_of_match_at, matched_place}
use Rattle.fb_half.proofs.Listings.{links_taken, match_moved, match_taken, moved_names_within, names_within}
use Rattle.fb_half.proofs.matching.Matching.take_match.Goals as goal

pub unreachable-requires : goal.unreachable-requires
unreachable-requires c =
    let listed = rw (← c.self.view_is) at c.requires in
    let place = matched_place _ _ _ c.args.name c.self.invariant.1 listed in
    c.in_default.not-Matched place.0 (c.standing_in.ensures ∙ (ap (λ l. standing_of l c.args.name) c.deref.ensures.value ∙ place.1))

pub swap_remove-taken-requires : goal.swap_remove-taken-requires
swap_remove-taken-requires c =
    let at = sym (c.standing_in.ensures ∙ ap (λ l. standing_of l c.args.name) c.deref.ensures.value) ∙ c.in-Matched.is in
    let there = c.self.invariant.1.matched.true_to c.args.name c.in-Matched.place at in
    omega (arith, there.0)

pub swap_remove-requires : goal.swap_remove-requires
swap_remove-requires c =
    let at = sym (c.standing_in.ensures ∙ ap (λ l. standing_of l c.args.name) c.deref.ensures.value) ∙ c.in-Matched.is in
    let there = c.self.invariant.1.matched.true_to c.args.name c.in-Matched.place at in
    omega (arith, there.0, ap length c.self.invariant.0 ∙ length-map c.self.inside.matches.items (λ m. m.link))

pub set_names-requires : goal.set_names-requires
set_names-requires c =
    let at = sym (c.standing_in.ensures ∙ ap (λ l. standing_of l c.args.name) c.deref.ensures.value) ∙ c.in-Matched.is in
    let there = c.self.invariant.1.matched.true_to c.args.name c.in-Matched.place at in
    names_within _ _ _ c.in-Matched.place c.swap_remove-taken.result c.self.invariant.1 there.0 c.swap_remove-taken.ensures.value

pub set_names-requires-then-place-len : goal.set_names-requires-then-place-len
set_names-requires-then-place-len c =
    let at = sym (c.standing_in.ensures ∙ ap (λ l. standing_of l c.args.name) c.deref.ensures.value) ∙ c.in-Matched.is in
    let there = c.self.invariant.1.matched.true_to c.args.name c.in-Matched.place at in
    moved_names_within _ _ _ _ _ c.in-Matched.place c.swap_remove-taken.result c.index-moved.result.now c.self.invariant.1 there.0 c.swap_remove-taken.ensures.items
    (omega arith) c.index-moved.ensures c.set_names.ensures.count

pub invariant_of-self : goal.invariant_of-self
invariant_of-self c =
    let at = sym (c.standing_in.ensures ∙ ap (λ l. standing_of l c.args.name) c.deref.ensures.value) ∙ c.in-Matched.is in
    let there = c.self.invariant.1.matched.true_to c.args.name c.in-Matched.place at in (
      links_taken _ _ _ _ c.in-Matched.place c.swap_remove-taken.result c.swap_remove.result c.self.invariant.0 there.0 c.swap_remove-taken.ensures.items c.swap_remove.ensures.items,
      match_moved _ _ _ _ _ _ c.in-Matched.place c.swap_remove-taken.result c.index-moved.result.now c.self.invariant.1 there.0 c.swap_remove-taken.ensures.value
          c.swap_remove-taken.ensures.items (omega arith) c.index-moved.ensures c.set_names.ensures.entries c.set_names-then-place-len.ensures.entries,
    )

pub invariant_of-self-else-place-len : goal.invariant_of-self-else-place-len
invariant_of-self-else-place-len c =
    let at = sym (c.standing_in.ensures ∙ ap (λ l. standing_of l c.args.name) c.deref.ensures.value) ∙ c.in-Matched.is in
    let there = c.self.invariant.1.matched.true_to c.args.name c.in-Matched.place at in (
      links_taken _ _ _ _ c.in-Matched.place c.swap_remove-taken.result c.swap_remove.result c.self.invariant.0 there.0 c.swap_remove-taken.ensures.items c.swap_remove.ensures.items,
      match_taken _ _ _ _ _ c.in-Matched.place c.swap_remove-taken.result c.self.invariant.1 there.0 c.swap_remove-taken.ensures.value
          c.swap_remove-taken.ensures.items (omega arith) c.set_names.ensures.entries,
    )

pub returns-then-place-len-clause-name : goal.returns-then-place-len-clause-name
returns-then-place-len-clause-name c =
    let at = sym (c.standing_in.ensures ∙ ap (λ l. standing_of l c.args.name) c.deref.ensures.value) ∙ c.in-Matched.is in
    let there = c.self.invariant.1.matched.true_to c.args.name c.in-Matched.place at in
    names_of_match_at _ _ c.in-Matched.place c.args.name there.0 c.swap_remove-taken.ensures.value there.1

pub returns-then-place-len-clause-matches : goal.returns-then-place-len-clause-matches
returns-then-place-len-clause-matches c =
    let at = sym (c.standing_in.ensures ∙ ap (λ l. standing_of l c.args.name) c.deref.ensures.value) ∙ c.in-Matched.is in
    let there = c.self.invariant.1.matched.true_to c.args.name c.in-Matched.place at in
    rw (← c.self.view_is, c.swap_remove-taken.ensures.items)
    (IsPermutation-swap_remove c.self.inside.matches.items c.in-Matched.place c.swap_remove-taken.result there.0 c.swap_remove-taken.ensures.value)

pub returns-else-place-len-clause-name : goal.returns-else-place-len-clause-name
returns-else-place-len-clause-name c =
    let at = sym (c.standing_in.ensures ∙ ap (λ l. standing_of l c.args.name) c.deref.ensures.value) ∙ c.in-Matched.is in
    let there = c.self.invariant.1.matched.true_to c.args.name c.in-Matched.place at in
    names_of_match_at _ _ c.in-Matched.place c.args.name there.0 c.swap_remove-taken.ensures.value there.1

pub returns-else-place-len-clause-matches : goal.returns-else-place-len-clause-matches
returns-else-place-len-clause-matches c =
    let at = sym (c.standing_in.ensures ∙ ap (λ l. standing_of l c.args.name) c.deref.ensures.value) ∙ c.in-Matched.is in
    let there = c.self.invariant.1.matched.true_to c.args.name c.in-Matched.place at in
    rw (← c.self.view_is, c.swap_remove-taken.ensures.items)
    (IsPermutation-swap_remove c.self.inside.matches.items c.in-Matched.place c.swap_remove-taken.result there.0 c.swap_remove-taken.ensures.value)
