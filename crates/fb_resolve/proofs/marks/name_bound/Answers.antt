use Rattle.std.proofs.Common.{inl, inr, ◌≤◌, arith}
use Rattle.fb_resolve.proofs.marks.name_bound.Goals as goal
use Rattle.fb_resolve.proofs.marks.name_bound.Goals.{then-bound-name, else-bound-name}
use Rattle.fb_graph.proofs.Members.{is_in-take_more}

pub loop-name-preserved : goal.loop-name-preserved
loop-name-preserved c = λ x h.
    elim (is_in-take_more c.args.names.now c.loop-name.name-index x c.loop-name-test.true h) [
      | inl a ↦
          let low : x ≤ c.loop-name.bound = c.loop-name.invariant x a in
          elim c.if-bound-name.branch [ then-bound-name w ↦ omega arith | else-bound-name w ↦ omega arith ]
      | inr e ↦ elim c.if-bound-name.branch [ then-bound-name w ↦ omega arith | else-bound-name w ↦ omega arith ]
    ]
