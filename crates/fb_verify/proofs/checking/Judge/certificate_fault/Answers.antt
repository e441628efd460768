use Rattle.std.proofs.Common.{sym, ◌∙◌}
use Rattle.fb_verify.proofs.Goods.{cuts_below, cuts_distinct}
use Rattle.fb_verify.proofs.checking.Judge.certificate_fault.Goals as goal

pub overloaded-requires-clause-distinct : goal.overloaded-requires-clause-distinct
overloaded-requires-clause-distinct c =
    cuts_distinct c.self.inside.graph.now c.args.shot.now c.args.cuts.now (sym c.first_cut_fault.ensures ∙ c.in_default.is)

pub overloaded-requires-clause-below : goal.overloaded-requires-clause-below
overloaded-requires-clause-below c =
    rw (← c.self.view_is) (cuts_below c.self.inside.graph.now c.args.shot.now c.args.cuts.now (sym c.first_cut_fault.ensures ∙ c.in_default.is))
