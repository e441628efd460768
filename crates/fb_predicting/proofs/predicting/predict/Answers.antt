use Rattle.std.proofs.Common.{inl, inr, refl}
use Rattle.fb_files.specs.Moments.{moment}
use Rattle.fb_predicting.proofs.predicting.predict.Goals as goal

pub returns-in-Ok-clause-ends : goal.returns-in-Ok-clause-ends
returns-in-Ok-clause-ends g c = inr (record {
  g = c.in-Ok.graph;
  read = moment (g.F.Files.named c.graph_or_cause.new.files) (g.F.Files.left c.graph_or_cause.new.files) (g.F.Files.asked c.graph_or_cause.new.files)
      (g.F.Files.faults c.graph_or_cause.new.files) (g.O.Sink.taken c.args.out.now);
  graph = record {
    named = c.in-Ok.ensures.names;
    text = c.in-Ok.ensures.graph;
    asks = c.in-Ok.ensures.asked;
    unfailing = c.in-Ok.ensures.unfailing;
    written = refl;
  };
  ends = rw c.edge_count.ensures at c.predict_for_edges.ensures.ends;
})

pub returns-in-Err-clause-ends : goal.returns-in-Err-clause-ends
returns-in-Err-clause-ends g c = inl (c.in-Err.ensures.ends (g.O.Sink.taken c.args.out.now))
