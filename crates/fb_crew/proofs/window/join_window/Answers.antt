use Rattle.std.proofs.Common.{refl, sym, subst}
use Rattle.fb_book.specs.declared.entries.Entry.{Entry}
use Rattle.fb_graph.specs.declared.parts.Row.{Row}
use Rattle.std.proofs.Common.{All, List, ◌*◌, ◌<◌, ◌≤◌, length, ap, ◌∙◌}
use Rattle.fb_plan.specs.Plans.{node_count}
use Rattle.fb_hands.specs.Jobs.{IsCompleteOf}
use Rattle.fb_slots.specs.Ordered.{IsByItem}
use Rattle.fb_crew.specs.InternalWindows.{AreSolvedRoots, with_places}
use Rattle.fb_crew.specs.Windows.{AreRows, IsHistoryOf, most_seats}
use Rattle.fb_crew.proofs.Rooted.{at_roots_of, even_rows, history_fits, rows_for_even, window_made}
use Rattle.fb_crew.proofs.window.join_window.Goals as goal
use Rattle.fb_crew.proofs.window.join_window.Goals.{In_ok-solved}

solved_at : (c : In_ok-solved) → AreRows c.args.job.now.graph c.args.job.now.shots c.in_ok-solved.solved.items
solved_at c =
    even_rows c.args.job.now.graph c.args.job.now.plan c.requires.plan c.args.shots.now c.args.odd.now c.args.job.now.shots c.args.places.now
    c.requires.sorted c.args.job.now refl c.into_parts-roots.result.0.items c.in_ok-solved.solved.items (subst (AreSolvedRoots c.args.job.now) (sym c.into_parts-roots.ensures.0) c.requires.roots) c.in_ok-solved.ensures

pub rows_of-requires : goal.rows_of-requires
rows_of-requires c =
    at_roots_of c.args.job.now.graph c.args.job.now.plan c.requires.plan c.args.shots.now c.args.odd.now c.args.job.now.shots c.args.places.now
    c.requires.sorted c.args.job.now refl c.into_parts-roots.result.0.items (subst (AreSolvedRoots c.args.job.now) (sym c.into_parts-roots.ensures.0) c.requires.roots)

pub join_rows-requires : goal.join_rows-requires
join_rows-requires c =
    rows_for_even c.args.job.now.graph c.args.job.now.plan c.requires.plan c.args.shots.now c.args.odd.now c.args.job.now.shots c.args.places.now
    c.requires.sorted c.in_ok-solved.solved.items (solved_at (goal.at.join_rows-requires c).In_ok-solved)

pub renumber-requires : goal.renumber-requires
renumber-requires c =
    history_fits c.args.job.now.graph c.args.job.now.plan c.requires.plan c.args.shots.now c.args.odd.now c.args.job.now.shots c.args.places.now
    c.requires.sorted c.args.job.now refl c.into_parts-roots.result.1.items (subst (IsCompleteOf c.args.job.now) (sym c.into_parts-roots.ensures.1) c.requires.history)

pub returns-clause-made : goal.returns-clause-made
returns-clause-made c workers by seated =
    let own = sym c.into_parts-roots.ensures.1 in
    let made = window_made c.args.job.now.graph c.args.job.now.plan c.requires.plan c.args.shots.now c.args.odd.now c.args.job.now.shots c.args.places.now
    c.requires.sorted workers c.args.job.now refl c.in_ok-solved.solved.items c.into_parts-roots.result.1.items
    (solved_at (goal.at.returns-clause-made c).In_ok-solved) (subst (IsCompleteOf c.args.job.now) own c.requires.history)
    (subst (All (λ e. e.worker ≤ workers)) own by)
    (subst (All (λ e. e.worker < most_seats workers (length c.args.job.now.shots * c.args.job.now.plan.units))) own seated)
    (subst (IsByItem (node_count c.args.job.now.plan)) own c.requires.order) in (
      subst (AreRows c.args.job.now.graph c.args.shots.now) (sym c.in_ok-rows.ensures) made.0,
      subst (λ (history : List Entry). IsHistoryOf c.args.job.now.plan workers c.in_ok-rows.rows.items history) (sym c.renumber.ensures)
          (subst (λ (rows : List Row). IsHistoryOf c.args.job.now.plan workers rows (with_places c.args.places.now c.into_parts-roots.result.1.items))
          (sym c.in_ok-rows.ensures) made.1),
    )

pub returns-clause-places : goal.returns-clause-places
returns-clause-places c = c.renumber.ensures ∙ ap (with_places c.args.places.now) c.into_parts-roots.ensures.1
