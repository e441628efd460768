use Rattle.std.proofs.Common.{ℕ, All, sym, subst}
use Rattle.fb_crew.specs.Windows.{AreRows, IsHistoryOf}
use Rattle.fb_graph.specs.Limits.{DecodingGraph, IsGraph, IsShot}
use Rattle.fb_run.proofs.batches.next_batch.Goals as goal

pub solve_batch-requires-clause-shots : goal.solve_batch-requires-clause-shots
solve_batch-requires-clause-shots g c κs within =
    subst (λ (graph : DecodingGraph). All (IsShot graph) c.in_ok-taken.taken.shots.items) (sym c.requires.graph)
    c.in_ok-taken.ensures.takes.gives.all

pub returns-clause-batch : goal.returns-clause-batch
returns-clause-batch g c =
    let batch = c.in_ok-batch.batch in record {
      shots = c.in_ok-taken.taken.shots.items;
      takes = c.in_ok-taken.ensures.takes;
      answers = record {
        is_graph = subst IsGraph c.requires.graph c.in_ok-batch.ensures.graph;
        of_graph = c.in_ok-taken.ensures.takes.gives.all;
        rows = subst (λ (graph : DecodingGraph). AreRows graph c.in_ok-taken.taken.shots.items batch.rows.items) c.requires.graph
            c.in_ok-batch.ensures.rows;
        history = λ traced. subst (λ (n : ℕ). IsHistoryOf c.args.crew.now.plan n batch.rows.items batch.history.items) c.requires.workers
            (c.in_ok-batch.ensures.history traced);
      };
    }
