use Rattle.std.proofs.Common.{ℕ, Option, Some, None, ◌≡◌, ◌∙◌, ◌*◌, ◌+◌, ◌-◌, ◌/◌, ◌<◌, ◌≤◌, ◌==◌, ◌&&◌, true, not, length, get_or, take, refl, sym, ap, subst, arith}
use Rattle.std.specs.Option.{MatchOption, SomeIff}
use Rattle.std.proofs.lemmas.Bool.{le-leb}
use Rattle.std.proofs.lemmas.List.Edits.{length-swap}
use Rattle.fb_graph.specs.Parity.{is_in}
use Rattle.fb_obstacles.specs.declared.looking.Look.{Look}
use Rattle.fb_obstacles.specs.declared.looking.Look.TheVariants.{Within}
use Rattle.fb_obstacles.specs.InternalLooks.{fits_within}
use Rattle.fb_obstacles.specs.InternalWatch.{IsNext}
use Rattle.fb_obstacles.specs.Watched.{Watched}
use Rattle.fb_obstacles.proofs.QueuedEdges.{left_last, left_swapped, reorders_exchanged, reorders_none}
use Rattle.fb_obstacles.proofs.bounding.next_place.Goals as goal
use Rattle.fb_obstacles.proofs.bounding.next_place.Goals.{in-Within, in_default}

-- an edge with at least this bound bears each step that the look allows
fits : (P : Type 0) (least : Look) (bound slack : ℕ) (r : Option ℕ) → least ≡ Within bound → SomeIff r P (bound * 2)
    → MatchOption r ⊥ (λ most. most ≤ slack) → fits_within least slack ≡ true
fits P least bound slack None is doubled low = absurd low
fits P least bound slack (Some limit) is doubled low = rw is (le-leb bound (slack / 2) (omega (arith, doubled.1, low)))

pub returns-then-queued-place-clause-next : goal.returns-then-queued-place-clause-next
returns-then-queued-place-clause-next c =
    let some : c.args.watch.now.queued < c.args.place = omega (arith, c.if-queued-place.true, c.queued.ensures) in
    let last : c.args.place - 1 + 1 ≡ c.args.place = omega (arith, some) in
    record {
      before = last;
      queued = omega (arith, some);
      within = omega (arith, some, c.requires.within);
      same = reorders_none c.args.watch.now;
      left = λ e.
          left_last c.args.watch.now.edges (c.args.place - 1) c.keeps.ensures.distinct (omega (arith, some, c.requires.within)) e
          ∙ ap (λ n. is_in (take n c.args.watch.now.edges) e && not (e == get_or c.args.watch.now.edges (c.args.place - 1) 0)) last;
    }

pub returns-then-pop_due-clause-next : goal.returns-then-pop_due-clause-next
returns-then-pop_due-clause-next c =
    let (i, less, is) = c.if-pop_due.ensures.found refl in
    let watch : Watched = c.args.watch.now in
    let here : watch.queued ≡ c.args.place = omega (arith, c.if-queued-place.false, c.queued.ensures, c.requires.queued) in
    let most : watch.queued ≤ length watch.edges = c.keeps.ensures.queued in
    subst (λ n. IsNext watch c.pop_due.new.self n (n - 1)) here
    (subst (λ w. IsNext watch w watch.queued (watch.queued - 1)) (sym is) (record {
      before = omega (arith, less);
      queued = omega arith;
      within = omega (arith, less, most, length-swap watch.edges i (watch.queued - 1));
      same = reorders_exchanged watch i (watch.queued - 1) c.keeps.ensures.bounds (omega (arith, less, most))
          (omega (arith, less, most)) (watch.queued - 1);
      left = left_swapped watch.edges i watch.queued c.keeps.ensures.distinct less most;
    }))

pub returns-else-pop_due-clause-rest : goal.returns-else-pop_due-clause-rest
returns-else-pop_due-clause-rest c i less =
    let here : c.pop_due.new.self.queued ≡ c.args.place =
    ap (λ w. w.queued) (c.if-pop_due.ensures.unchanged refl)
    ∙ omega (arith, c.if-queued-place.false, c.queued.ensures, c.requires.queued) in
    let waits = c.if-pop_due.ensures.none refl i (omega (arith, less, here)) in
    elim c.match-least.branch [
      | in-Within w ↦
          fits _ c.args.least w.in-Within.bound (get_or c.pop_due.new.self.bounds i 0) w.checked_mul-limit.result w.in-Within.is
          w.checked_mul-limit.ensures
          (subst (λ o. MatchOption o ⊥ (λ most. most ≤ get_or c.pop_due.new.self.bounds i 0)) w.limit-is waits)
      | in_default w ↦
          absurd (subst (λ o. MatchOption o ⊥ (λ most. most ≤ get_or c.pop_due.new.self.bounds i 0)) w.limit-is waits)
    ]
