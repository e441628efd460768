use Rattle.fb_graph.proofs.PrintedCuts.{printed-All, printed-load, printed-rising, printed-total}
use Rattle.fb_graph.proofs.printed.printed_cuts.Goals as goal

pub returns-clause-kept : goal.returns-clause-kept
returns-clause-kept c = record {
  resorted = c.sort_vertices.new.self;
  each = rw (← c.keep_positive.ensures) c.sort_vertices.ensures;
  moved = c.sort.ensures.moved;
}

pub returns-clause-odd : goal.returns-clause-odd
returns-clause-odd c = λ p. printed-All p _ _ (returns-clause-kept c)

pub returns-clause-rising : goal.returns-clause-rising
returns-clause-rising c = printed-rising _ _ (returns-clause-kept c) c.sort.ensures.sorted c.requires

pub returns-clause-loads : goal.returns-clause-loads
returns-clause-loads c = printed-load _ _ (returns-clause-kept c)

pub returns-clause-total : goal.returns-clause-total
returns-clause-total c = printed-total _ _ (returns-clause-kept c)
