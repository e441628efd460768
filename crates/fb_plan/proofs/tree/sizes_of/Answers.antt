use Rattle.std.proofs.Common.{◌≡◌, ◌+◌, ◌<◌, ◌∙◌, sym, ap, length, get_or, arith, length-append, [], ◌∷◌}
use Rattle.std.proofs.lemmas.Grind.{common_steps}
use Rattle.std.proofs.lemmas.List.{get_or_read_under}
use Rattle.fb_plan.specs.Plans.{join_at}
use Rattle.fb_plan.specs.InternalLayout.{size_of, tree_of}
use Rattle.fb_plan.proofs.Tables.{size_fits, sizes_more, unit_size}
use Rattle.fb_plan.proofs.tree.sizes_of.Goals as goal

pub loop-join-init : goal.loop-join-init
loop-join-init c = grind (arith, unit_size)

pub index-requires : goal.index-requires
index-requires c =
    let facts = c.requires.joins c.loop-join.join-index (omega arith) in
    let left : (join_at c.args.joins.now c.loop-join.join-index).0 < c.args.units + c.loop-join.join-index = facts.left in
    omega (arith, left, c.loop-join.invariant.0)

pub index-requires-in-loop-join : goal.index-requires-in-loop-join
index-requires-in-loop-join c =
    let facts = c.requires.joins c.loop-join.join-index (omega arith) in
    let right : (join_at c.args.joins.now c.loop-join.join-index).1 < c.args.units + c.loop-join.join-index = facts.right in
    omega (arith, right, c.loop-join.invariant.0)

pub overflow_add-size : goal.overflow_add-size
overflow_add-size c =
    let facts = c.requires.joins c.loop-join.join-index (omega arith) in
    let left : (join_at c.args.joins.now c.loop-join.join-index).0 < c.args.units + c.loop-join.join-index = facts.left in
    let right : (join_at c.args.joins.now c.loop-join.join-index).1 < c.args.units + c.loop-join.join-index = facts.right in
    let first : c.index.result.now ≡ size_of (tree_of c.args.units c.args.joins.now) (join_at c.args.joins.now c.loop-join.join-index).0 =
    get_or_read_under c.loop-join.sizes.items _ _ c.index.result.now 0 c.index.ensures left (sym c.loop-join.invariant.0) ∙ c.loop-join.invariant.1 _ left in
    let second : c.index-in-loop-join.result.now ≡ size_of (tree_of c.args.units c.args.joins.now) (join_at c.args.joins.now c.loop-join.join-index).1 =
    get_or_read_under c.loop-join.sizes.items _ _ c.index-in-loop-join.result.now 0 c.index-in-loop-join.ensures right (sym c.loop-join.invariant.0) ∙ c.loop-join.invariant.1 _ right in
    omega (arith, first, second, c.requires.count, c.requires.limit, size_fits (tree_of c.args.units c.args.joins.now) c.requires c.loop-join.join-index (omega arith))

pub overflow_add-size-in-loop-join : goal.overflow_add-size-in-loop-join
overflow_add-size-in-loop-join c =
    let facts = c.requires.joins c.loop-join.join-index (omega arith) in
    let left : (join_at c.args.joins.now c.loop-join.join-index).0 < c.args.units + c.loop-join.join-index = facts.left in
    let right : (join_at c.args.joins.now c.loop-join.join-index).1 < c.args.units + c.loop-join.join-index = facts.right in
    let first : c.index.result.now ≡ size_of (tree_of c.args.units c.args.joins.now) (join_at c.args.joins.now c.loop-join.join-index).0 =
    get_or_read_under c.loop-join.sizes.items _ _ c.index.result.now 0 c.index.ensures left (sym c.loop-join.invariant.0) ∙ c.loop-join.invariant.1 _ left in
    let second : c.index-in-loop-join.result.now ≡ size_of (tree_of c.args.units c.args.joins.now) (join_at c.args.joins.now c.loop-join.join-index).1 =
    get_or_read_under c.loop-join.sizes.items _ _ c.index-in-loop-join.result.now 0 c.index-in-loop-join.ensures right (sym c.loop-join.invariant.0) ∙ c.loop-join.invariant.1 _ right in
    omega (arith, first, second, c.requires.count, c.requires.limit, size_fits (tree_of c.args.units c.args.joins.now) c.requires c.loop-join.join-index (omega arith))

pub returns-in_err-push-clause-count : goal.returns-in_err-push-clause-count
returns-in_err-push-clause-count c = grind (arith, common_steps)

pub returns-in_err-push-clause-each : goal.returns-in_err-push-clause-each
returns-in_err-push-clause-each c = grind (arith, common_steps)

pub loop-join-preserved : goal.loop-join-preserved
loop-join-preserved c =
    let facts = c.requires.joins c.loop-join.join-index (omega arith) in
    let left : (join_at c.args.joins.now c.loop-join.join-index).0 < c.args.units + c.loop-join.join-index = facts.left in
    let right : (join_at c.args.joins.now c.loop-join.join-index).1 < c.args.units + c.loop-join.join-index = facts.right in
    let first : c.index.result.now ≡ size_of (tree_of c.args.units c.args.joins.now) (join_at c.args.joins.now c.loop-join.join-index).0 =
    get_or_read_under c.loop-join.sizes.items _ _ c.index.result.now 0 c.index.ensures left (sym c.loop-join.invariant.0) ∙ c.loop-join.invariant.1 _ left in
    let second : c.index-in-loop-join.result.now ≡ size_of (tree_of c.args.units c.args.joins.now) (join_at c.args.joins.now c.loop-join.join-index).1 =
    get_or_read_under c.loop-join.sizes.items _ _ c.index-in-loop-join.result.now 0 c.index-in-loop-join.ensures right (sym c.loop-join.invariant.0) ∙ c.loop-join.invariant.1 _ right in
    let more = sizes_more (tree_of c.args.units c.args.joins.now) c.requires c.loop-join.sizes.items c.loop-join.join-index
    (c.index.result.now + c.index-in-loop-join.result.now + 1) (omega arith) c.loop-join.invariant.0 c.loop-join.invariant.1
    (ap (λ x. x + c.index-in-loop-join.result.now + 1) first ∙ ap (λ x. size_of (tree_of c.args.units c.args.joins.now) (join_at c.args.joins.now c.loop-join.join-index).0 + x + 1) second) in (
      omega (arith, ap length c.in_ok-push.ensures.items, length-append c.loop-join.sizes.items ((c.index.result.now + c.index-in-loop-join.result.now + 1) ∷ []), c.loop-join.invariant.0),
      λ n below. ap (λ xs. get_or xs n 0) c.in_ok-push.ensures.items ∙ more n below,
    )
