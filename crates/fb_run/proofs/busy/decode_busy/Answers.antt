use Rattle.std.proofs.Common.{◌≡◌, List, Bool, Vec, Global, filter, map, count_by, length, All, ap, sym, subst, ◌∙◌, arith}
use Rattle.std.proofs.lemmas.List.Elements.{All-filter}
use Rattle.std.proofs.lemmas.List.Sums.{length-filter, count_by-le-length}
use Rattle.fb_crew.proofs.Rooted.{ok_more}
use Rattle.fb_crew.specs.Windows.{AreRows}
use Rattle.fb_graph.specs.Limits.{DecodingGraph, IsGraph, IsShot, ShotValue}
use Rattle.fb_graph.specs.declared.parts.Row.{Row}
use Rattle.fb_run.specs.InternalBusy.{is_busy_for, rows_in_places}
use Rattle.fb_run.proofs.Emptied.{rows_for_busy, rows_of_all}
use Rattle.fb_run.proofs.busy.decode_busy.Goals as goal
use Rattle.fb_run.proofs.busy.decode_busy.Goals.{In_ok-busy}

busy_at : (g : _) (c : In_ok-busy g) → c.in_ok-busy.field-0.busy.items ≡ filter (is_busy_for c.args.crew.now.graph) c.args.shots.items
busy_at g c =
    c.in_ok-busy.ensures.busy ∙ ap (λ (graph : DecodingGraph). filter (is_busy_for graph) c.args.shots.items) c.graph-graph.ensures

each_at : (g : _) (c : In_ok-busy g) → c.in_ok-busy.field-0.is_busy.items ≡ map (is_busy_for c.args.crew.now.graph) c.args.shots.items
each_at g c =
    c.in_ok-busy.ensures.each ∙ ap (λ (graph : DecodingGraph). map (is_busy_for graph) c.args.shots.items) c.graph-graph.ensures

solved_at : (g : _) (c : In_ok-busy g) (given : List ShotValue) (solved : List Row) → given ≡ c.in_ok-busy.field-0.busy.items
    → AreRows c.args.crew.now.graph given solved
    → AreRows c.args.crew.now.graph (filter (is_busy_for c.args.crew.now.graph) c.args.shots.items) solved
solved_at g c given solved e right =
    subst (λ (shots : List ShotValue). AreRows c.args.crew.now.graph shots solved) (e ∙ busy_at g c) right

pub decode_some-requires-clause-shots : goal.decode_some-requires-clause-shots
decode_some-requires-clause-shots g c κs within =
    let graph = c.args.crew.now.graph in
    subst (All (IsShot graph)) (sym (c.as_slice.ensures.value ∙ busy_at g (goal.at.decode_some-requires-clause-shots g c).In_ok-busy))
    (All-filter (is_busy_for graph) (IsShot graph) c.args.shots.items c.requires.shots)

pub decode_some-requires-clause-few : goal.decode_some-requires-clause-few
decode_some-requires-clause-few g c κs within =
    let test = is_busy_for c.args.crew.now.graph in
    omega (
      arith,
      ap length (c.as_slice.ensures.value ∙ busy_at g (goal.at.decode_some-requires-clause-few g c).In_ok-busy),
      length-filter test c.args.shots.items,
      count_by-le-length test c.args.shots.items,
      c.requires.few,
    )

pub join_rows-requires : goal.join_rows-requires
join_rows-requires g c =
    let solved = c.in_ok-solved.solved.items in
    let right = solved_at g (goal.at.join_rows-requires g c).In_ok-busy c.as_slice.result.now solved c.as_slice.ensures.value
    c.in_ok-solved.ensures.rows in
    rows_for_busy c.args.crew.now.graph c.args.shots.items solved right
    ∙ ap (count_by (λ (b : Bool). b)) (sym (c.as_slice-2.ensures.value ∙ each_at g (goal.at.join_rows-requires g c).In_ok-busy))

pub returns-clause-rows : goal.returns-clause-rows
returns-clause-rows g c =
    let graph = c.args.crew.now.graph in
    let shots = c.args.shots.items in
    let solved = c.in_ok-solved.solved.items in
    let right = solved_at g (goal.at.returns-clause-rows g c).In_ok-busy c.as_slice.result.now solved c.as_slice.ensures.value
    c.in_ok-solved.ensures.rows in
    let all = rows_of_all graph shots solved (subst IsGraph c.graph-graph.ensures c.limits.ensures) c.requires.shots right in
    let flags = c.as_slice-2.ensures.value ∙ each_at g (goal.at.returns-clause-rows g c).In_ok-busy in
    let joined = λ (bs : List Bool). rows_in_places bs solved in
    ok_more (λ (rows : Vec Row Global). rows.items ≡ joined c.as_slice-2.result.now) (λ rows. AreRows graph shots rows.items)
    c.join_rows.result c.join_rows.ensures (λ rows e. subst (AreRows graph shots) (sym (e ∙ ap joined flags)) all)
