use Rattle.fb_graph_in.proofs.TokenMembers.{numbers_of-object}
use Rattle.fb_graph_in.proofs.tokens.numbers_found.Goals as goal

pub returns : goal.returns
returns c = λ ms h. numbers_of-object ms _ _ _ (rw (c.in_ok-vertex_num.was, c.in_ok-edges.was, c.in_ok-virtuals.was) at h)
