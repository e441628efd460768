use Rattle.std.proofs.Common.{◌≡◌, ◌+◌, ◌<◌, length, sym, ap, get_or, arith}
use Rattle.std.proofs.lemmas.List.{get_or_read_under}
use Rattle.fb_plan.specs.Plans.{join_at}
use Rattle.fb_plan.specs.InternalLayout.{span_at, tree_of}
use Rattle.fb_plan.proofs.Tables.{place_more}
use Rattle.fb_plan.proofs.tree.place_children.Goals as goal

pub overflow_add-middle : goal.overflow_add-middle
overflow_add-middle c =
    let facts = c.requires.tree.joins c.args.i c.requires.below in
    let here : c.args.units + c.args.i < c.args.units + length c.args.joins.now = omega (arith, c.requires.below) in
    let left : (join_at c.args.joins.now c.args.i).0 < c.args.units + length c.args.joins.now = omega (arith, facts.left, c.requires.below) in
    let start : c.index.result.now.start ≡ (span_at c.args.spans.now.items (c.args.units + c.args.i)).start =
    ap (λ x. x.start) (get_or_read_under c.args.spans.now.items (c.args.units + c.args.i) _ c.index.result.now (record { start = 0; end = 0 })
    c.index.ensures here (sym c.requires.placed.count)) in
    omega (
      arith,
      start,
      c.requires.placed.width _ here,
      c.requires.placed.limit _ here,
      c.requires.each _ left,
      c.requires.placed.width _ left,
      c.requires.placed.limit _ left,
      c.requires.tree.count,
      c.requires.tree.limit,
    )

pub overflow_add-end : goal.overflow_add-end
overflow_add-end c =
    let facts = c.requires.tree.joins c.args.i c.requires.below in
    let here : c.args.units + c.args.i < c.args.units + length c.args.joins.now = omega (arith, c.requires.below) in
    let left : (join_at c.args.joins.now c.args.i).0 < c.args.units + length c.args.joins.now = omega (arith, facts.left, c.requires.below) in
    let start : c.index.result.now.start ≡ (span_at c.args.spans.now.items (c.args.units + c.args.i)).start =
    ap (λ x. x.start) (get_or_read_under c.args.spans.now.items (c.args.units + c.args.i) _ c.index.result.now (record { start = 0; end = 0 })
    c.index.ensures here (sym c.requires.placed.count)) in
    let right : (join_at c.args.joins.now c.args.i).1 < c.args.units + length c.args.joins.now = omega (arith, facts.right, c.requires.below) in
    omega (
      arith,
      start,
      c.requires.placed.width _ here,
      c.requires.placed.limit _ here,
      c.requires.each _ left,
      c.requires.placed.width _ left,
      c.requires.placed.limit _ left,
      c.requires.each _ right,
      c.requires.placed.width _ right,
      c.requires.placed.limit _ right,
      c.requires.tree.count,
      c.requires.tree.limit,
    )

pub returns : goal.returns
returns c =
    let facts = c.requires.tree.joins c.args.i c.requires.below in
    let left : (join_at c.args.joins.now c.args.i).0 < c.args.units + c.args.i = facts.left in
    let right : (join_at c.args.joins.now c.args.i).1 < c.args.units + c.args.i = facts.right in
    place_more (tree_of c.args.units c.args.joins.now) c.requires.tree c.args.spans.now.items c.args.i _ _ _ c.requires.below c.requires.placed
    (ap (λ x. x.start) (get_or_read_under c.args.spans.now.items (c.args.units + c.args.i) _ c.index.result.now (record { start = 0; end = 0 })
    c.index.ensures (omega (arith, c.requires.below, c.requires.placed.count)) (sym c.requires.placed.count)))
    (ap (λ x. c.index.result.now.start + x) (c.requires.each (join_at c.args.joins.now c.args.i).0 (omega (arith, left, c.requires.below))))
    (ap (λ x. c.index.result.now.start + get_or c.args.sizes.now (join_at c.args.joins.now c.args.i).0 0 + x) (c.requires.each (join_at c.args.joins.now c.args.i).1 (omega (arith, right, c.requires.below))))
