use Rattle.std.proofs.Common.{rules, refl}
use Rattle.fb_run.proofs.sampling.sample_by.Goals as goal

pub returns-in-Err-WriteFault-clause-ends : goal.returns-in-Err-WriteFault-clause-ends
returns-in-Err-WriteFault-clause-ends g c = (
  _,
  record {
    graph = c.args.graph.now;
    plan = c.args.plan.now;
    defects = c.in-Ok.sums.defects;
    weight = c.in-Ok.sums.weight;
    lattice = c.requires.lattice;
    by_time = c.requires.by_time;
    sums = c.in-Ok.ensures;
    text_is = refl;
  },
  c.in-Err-WriteFault.ensures.prefix (search rules),
)
