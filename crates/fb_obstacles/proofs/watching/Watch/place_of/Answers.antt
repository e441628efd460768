use Rattle.std.proofs.Common.{◌≡◌, ◌∙◌, ◌≤◌, length, ap, sym, false, true, arith}
use Rattle.std.specs.Prelude.{nat_eq, nat_lt}
use Rattle.std.specs.List.{position_or_len}
use Rattle.std.proofs.lemmas.Bool.Decides.{nat_tests}
use Rattle.std.proofs.lemmas.List.{get_or-take, length-take-le}
use Rattle.indexmap.specs.IndexMap.{keys}
use Rattle.fb_obstacles.proofs.FirstEntries.{among_first, found_at, found_nowhere, length-keys}
use Rattle.fb_obstacles.proofs.watching.Watch.place_of.Goals as goal

pub returns-then-place-self : goal.returns-then-place-self
returns-then-place-self c =
    let found = found_at (keys c.self.inside.known) c.args.edge c.in-Some.place c.in-Some.ensures.index in
    let most : c.self.inside.live ≤ length (keys c.self.inside.known) =
    omega (arith, c.self.invariant.0.within, length-keys c.self.inside.known.entries) in
    let count = length-take-le c.self.inside.live (keys c.self.inside.known) most in
    let first : nat_lt (position_or_len (nat_eq c.args.edge) (keys c.self.inside.known)) c.self.inside.live ≡ true =
    ap (λ i. nat_lt i c.self.inside.live) (sym found.0) ∙ grind (arith, nat_tests) in
    rw (← c.self.view_is)
    ((
      omega (arith, count, c.if-place-self.true),
      get_or-take c.self.inside.live (keys c.self.inside.known) c.in-Some.place 0 (omega (arith, c.if-place-self.true)) ∙ found.2,
      among_first (keys c.self.inside.known) c.args.edge c.self.inside.live most ∙ first,
    ))

pub returns-else-place-self : goal.returns-else-place-self
returns-else-place-self c =
    let found = found_at (keys c.self.inside.known) c.args.edge c.in-Some.place c.in-Some.ensures.index in
    let most : c.self.inside.live ≤ length (keys c.self.inside.known) =
    omega (arith, c.self.invariant.0.within, length-keys c.self.inside.known.entries) in
    let past : nat_lt (position_or_len (nat_eq c.args.edge) (keys c.self.inside.known)) c.self.inside.live ≡ false =
    ap (λ i. nat_lt i c.self.inside.live) (sym found.0) ∙ grind (arith, nat_tests) in
    rw (← c.self.view_is) (among_first (keys c.self.inside.known) c.args.edge c.self.inside.live most ∙ past)

pub returns-in-None : goal.returns-in-None
returns-in-None c =
    let past = found_nowhere (keys c.self.inside.known) c.args.edge c.in-None.ensures.index in
    let most : c.self.inside.live ≤ length (keys c.self.inside.known) =
    omega (arith, c.self.invariant.0.within, length-keys c.self.inside.known.entries) in
    let none : nat_lt (position_or_len (nat_eq c.args.edge) (keys c.self.inside.known)) c.self.inside.live ≡ false =
    grind (arith, nat_tests) in
    rw (← c.self.view_is) (among_first (keys c.self.inside.known) c.args.edge c.self.inside.live most ∙ none)
