use Rattle.std.proofs.Common.{ℕ, ◌≡◌, length, get_or, ap, arith}
use Rattle.std.proofs.lemmas.List.{get_or_past}
use Rattle.fb_graph.specs.Problem.{edge_at}
use Rattle.fb_graph.specs.ShotGraphs.{shot_graph}
use Rattle.fb_verify.specs.InternalLoads.{load_in}
use Rattle.fb_verify.proofs.LoadTables.{least_over-same}
use Rattle.fb_verify.proofs.load_table.LoadTable.first_above.Goals as goal

pub returns-clause-least : goal.returns-clause-least
returns-clause-least c =
    let n = length c.args.graph.now.edges in
    let weight : ℕ → ℕ = λ k. (edge_at (shot_graph c.args.graph.now c.args.shot.now).edges k).weight in
    let loads = c.add_loads.new.loads in
    let size : length loads ≡ n = omega (arith, c.add_loads.auto.loads, ap length c.as_mut_slice-loads.ensures.value, c.self.view_is, c.requires.size) in
    least_over-same weight (λ k. get_or loads k 0) (load_in c.args.shares.now) n c.args.shares.now c.least_above-first.result c.requires.within
    (λ k less. c.add_loads.ensures k (omega (arith, less, size))) (λ k more. get_or_past loads k 0 (omega (arith, more, size))) c.least_above-first.ensures
