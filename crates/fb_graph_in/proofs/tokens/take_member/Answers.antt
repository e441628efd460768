use Rattle.std.proofs.Common.{◌≡◌, ◌∙◌, sym, arith}
use Rattle.std.specs.Prelude.{codes}
use Rattle.std.proofs.lemmas.Slice.Eq.{bytes_eq-Decides}
use Rattle.fb_graph_in.proofs.TokenMembers.{holds_vertex_num, holds_edges, holds_virtuals}
use Rattle.fb_graph_in.proofs.tokens.take_member.Goals as goal

pub returns-in-Some-clause-taken : goal.returns-in-Some-clause-taken
returns-in-Some-clause-taken c = λ taken.
    let named : c.args.name.now ≡ codes "vertex_num" = (bytes_eq-Decides c.args.name.now (codes "vertex_num")).0 (sym c.eq.ensures ∙ c.if-eq.true) in
    (_, c.in-Some.ensures.value 126, λ ms h. rw named (holds_vertex_num ms _ _ _ h c.in-Some.vertex_num))

pub returns-in-Some-2-clause-taken : goal.returns-in-Some-2-clause-taken
returns-in-Some-2-clause-taken c = λ taken.
    let named : c.args.name.now ≡ codes "weighted_edges" = (bytes_eq-Decides c.args.name.now (codes "weighted_edges")).0 (sym c.eq-else-eq.ensures ∙ c.if-eq-2.true) in
    let read = rw c.in-Some-2.is at c.in_ok-edges.ensures.value in
    (_, read 126 (omega arith), λ ms h. rw named (holds_edges ms _ _ _ h c.in-Some-2.edges.items))

pub returns-in-Some-3-clause-taken : goal.returns-in-Some-3-clause-taken
returns-in-Some-3-clause-taken c = λ taken.
    let named : c.args.name.now ≡ codes "virtual_vertices" = (bytes_eq-Decides c.args.name.now (codes "virtual_vertices")).0 (sym c.eq-else-eq-2.ensures ∙ c.if-eq-3.true) in
    let read = rw c.in-Some-3.is at c.in_ok-virtuals.ensures.value in
    (_, read 126 (omega arith), λ ms h. rw named (holds_virtuals ms _ _ _ h c.in-Some-3.virtuals.items))
