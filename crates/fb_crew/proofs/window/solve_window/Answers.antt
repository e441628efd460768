use Rattle.std.proofs.Common.{ℕ, ◌≡◌, ◌<◌, All, IfOk, List, get_or, length, sym, subst}
use Rattle.fb_graph.specs.Limits.{DecodingGraph, IsShot}
use Rattle.fb_crew.specs.declared.window.Window.{Window}
use Rattle.fb_crew.specs.InternalWindows.{IsSorted, with_places}
use Rattle.fb_hands.specs.Gates.{HasPassed}
use Rattle.fb_crew.specs.Windows.{AreRows, IsHistoryOf}
use Rattle.fb_crew.proofs.Joined.{beside, passed_places, seated, window_of}
use Rattle.fb_crew.proofs.Rooted.{even_of_even, even_of_few, even_of_shots, history_fits}
use Rattle.fb_crew.proofs.window.solve_window.Goals as goal
use Rattle.fb_crew.proofs.window.solve_window.Goals.{In_ok-odd}

sorted_at : (g : _) (c : In_ok-odd g)
    → IsSorted c.args.graph.now c.args.shots.now c.in_ok-odd.field-0.odd.items c.in_ok-odd.field-0.even.items c.in_ok-odd.field-0.places.items
sorted_at g c = subst (λ (graph : DecodingGraph). IsSorted graph c.args.shots.now c.in_ok-odd.field-0.odd.items c.in_ok-odd.field-0.even.items
    c.in_ok-odd.field-0.places.items) c.requires.parts c.in_ok-odd.ensures.sorted

pub sort_out-requires-clause-shots : goal.sort_out-requires-clause-shots
sort_out-requires-clause-shots g c = subst (λ (graph : DecodingGraph). All (IsShot graph) c.args.shots.now) (sym c.requires.parts) c.requires.shots

pub new-job-requires-clause-count : goal.new-job-requires-clause-count
new-job-requires-clause-count g c =
    even_of_few c.args.graph.now c.args.plan.now c.requires.plan c.args.shots.now _ _ _ (sorted_at g c) c.requires.few

pub new-job-requires-clause-shots : goal.new-job-requires-clause-shots
new-job-requires-clause-shots g c =
    even_of_shots c.args.graph.now c.args.plan.now c.requires.plan c.args.shots.now _ _ _ (sorted_at g c) c.requires.shots

pub new-job-requires-clause-even : goal.new-job-requires-clause-even
new-job-requires-clause-even g c = even_of_even c.args.graph.now c.args.plan.now c.requires.plan c.args.shots.now _ _ _ (sorted_at g c)

pub returns-clause-rows : goal.returns-clause-rows
returns-clause-rows g c =
    beside (λ (w : Window). AreRows c.args.graph.now c.args.shots.now w.rows.items) c.join_window-window.result _ c.both.result c.both.ensures
    (window_of c.args.shots.now c.args.workers c.new-job.result _ c.join_window-window.result c.new-job.ensures
    (c.join_window-window.ensures.made c.args.workers c.in_ok-run.ensures.workers (seated c.args.workers _ _ _ _ c.in_ok-run.ensures.seats c.in_ok-run.ensures.numbers))).0

pub returns-clause-history : goal.returns-clause-history
returns-clause-history g c =
    beside (λ (w : Window). IsHistoryOf c.args.plan.now c.args.workers w.rows.items w.history.items) c.join_window-window.result _ c.both.result
    c.both.ensures (window_of c.args.shots.now c.args.workers c.new-job.result _ c.join_window-window.result c.new-job.ensures
    (c.join_window-window.ensures.made c.args.workers c.in_ok-run.ensures.workers (seated c.args.workers _ _ _ _ c.in_ok-run.ensures.seats c.in_ok-run.ensures.numbers))).1

pub returns-clause-passed : goal.returns-clause-passed
returns-clause-passed g c =
    let passed = g.G.Gate.passed c.args.gate.now in
    let history = c.in_ok-run.field-0.run.history in
    let came = subst (λ (ps : List ℕ). All (HasPassed (λ w s n. s < length ps → passed w (get_or ps s 0) n)) history)
    c.as_slice.ensures.value c.in_ok-run.ensures.passed in
    let placed = subst (λ (ps : List ℕ). IfOk c.join_window-window.result (λ (w : Window). w.history.items ≡ with_places ps history))
    c.as_slice-3.ensures.value c.join_window-window.ensures.places in
    beside (λ (w : Window). All (HasPassed passed) w.history.items) c.join_window-window.result _ c.both.result c.both.ensures
    (passed_places passed c.in_ok-odd.field-0.places.items c.in_ok-run.field-0.run.history c.join_window-window.result
    (history_fits c.args.graph.now c.args.plan.now c.requires.plan c.args.shots.now _ _ _
    (sorted_at g (goal.at.returns-clause-passed g c).In_ok-odd) c.new-job.result c.new-job.ensures
    c.in_ok-run.field-0.run.history c.in_ok-run.ensures.history) came placed)
