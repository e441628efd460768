use Rattle.std.proofs.Common.{◌≡◌, ◌+◌, ◌-◌, ◌*◌, ◌<◌, true, Some, None, is_some, length, get_or, slice_get, sym, ap, subst, ◌∙◌}
use Rattle.std.proofs.lemmas.Option.{slice_get-get_or}
use Rattle.fb_plan.specs.Plans.{node_count}
use Rattle.fb_book.specs.Board.{is_finished, nodes_of}
use Rattle.fb_book.specs.Books.{course_of}
use Rattle.fb_book.proofs.Keeping.{root_pieces, root_waits, some_inside}
use Rattle.fb_book.proofs.book.Book.take_roots.Goals as goal

pub roots_of-requires-clause-waits : goal.roots_of-requires-clause-waits
roots_of-requires-clause-waits g c = λ s less.
    let b = c.self.invariant in
    let done = ap is_finished b.course ∙ subst (λ v. is_finished (course_of g.N.Board.job v.0) ≡ true) (sym c.self.view_is) c.requires in
    subst (λ n. is_some (get_or c.self.inside.parked.items (s * n + (n - 1)) None) ≡ true) (sym c.nodes-nodes.ensures)
    (root_waits b c.keeps.ensures done s (subst (λ x. s < x) c.slots-slots.ensures less))

pub returns-clause-roots : goal.returns-clause-roots
returns-clause-roots g c =
    let b = c.self.invariant in
    let slots = c.slots-slots.ensures ∙ ap (λ k. k.slots) b.course in
    let nodes = c.nodes-nodes.ensures ∙ ap nodes_of b.course in
    let done = ap is_finished b.course ∙ subst (λ v. is_finished (course_of g.N.Board.job v.0) ≡ true) (sym c.self.view_is) c.requires in (
      c.roots_of.ensures.count ∙ slots,
      λ s less.
          let inside = some_inside _ _ (root_waits b c.keeps.ensures done s (subst (λ x. s < x) (sym (ap (λ k. k.slots) b.course)) less)) in
          let each = c.roots_of.ensures.each s (subst (λ x. s < x) (sym slots) less) in
          subst (λ v. slice_get v.1 (s * node_count g.N.Board.job.plan + (node_count g.N.Board.job.plan - 1)) ≡ Some (slice_get c.roots_of.new.roots.items s)) c.self.view_is
          (subst (λ n. slice_get c.self.inside.parked.items (s * n + (n - 1)) ≡ Some (slice_get c.roots_of.new.roots.items s)) nodes
          (slice_get-get_or c.self.inside.parked.items (s * c.nodes-nodes.result + (c.nodes-nodes.result - 1)) None
          (subst (λ n. s * n + (n - 1) < length c.self.inside.parked.items) (sym c.nodes-nodes.ensures) inside)
          ∙ ap Some each)),
    )

pub returns-clause-pieces : goal.returns-clause-pieces
returns-clause-pieces g c =
    root_pieces c.self.invariant c.keeps.ensures _ _ _ c.slots-slots.ensures c.nodes-nodes.ensures
    c.roots_of.ensures.count c.roots_of.ensures.each
