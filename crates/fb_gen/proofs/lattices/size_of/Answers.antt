use Rattle.std.proofs.Common.{inl, inr, arith}
use Rattle.fb_gen.proofs.Walked.{AreWalked, walked_edges, walked_virtuals}
use Rattle.fb_gen.proofs.lattices.size_of.Goals.{then-distance-eq0, else-distance-eq0}
use Rattle.fb_gen.proofs.lattices.size_of.Goals as goal

walked : (c : goal.After-from-2) → AreWalked c.args.distance c.args.rounds c.if-distance-eq0.walked
walked c = elim c.if-distance-eq0.branch [
  | then-distance-eq0 w ↦ inl (omega arith, w.walked-is)
  | else-distance-eq0 w ↦ inr w.walked-is
]

pub returns-clause-edges : goal.returns-clause-edges
returns-clause-edges c = walked_edges _ _ _ _ _ c.from.ensures c.from-2.ensures (walked c)

pub returns-clause-virtuals : goal.returns-clause-virtuals
returns-clause-virtuals c = walked_virtuals _ _ _ _ _ c.from.ensures c.from-2.ensures (walked c)
