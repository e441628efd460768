use Rattle.std.proofs.Common.{ℕ, ◌<◌, ◌∙◌, ◌++◌, List, Some, ap, length, map, take, sym, arith}
use Rattle.std.specs.List.{list_any}
use Rattle.fb_plan.specs.Rules.{claim_of, claims_from, is_bad_node, is_bad_range, ranges_of}
use Rattle.fb_plan.specs.declared.faults.PlanFault.TheVariants.{BadRange}
use Rattle.std.specs.Prelude.{option_map}
use Rattle.fb_plan.proofs.Gathering.{claims_more, length-ranges_of}
use Rattle.fb_graph.proofs.Leasts.{least_none, least_some, none_more}
use Rattle.fb_plan.proofs.claims.gather.Goals as goal

pub returns-in-Err-clause-err : goal.returns-in-Err-clause-err
returns-in-Err-clause-err c not_memory =
    let ranges : List (List (ℕ × ℕ)) = ranges_of (map (λ u. u.items) c.args.units.now) c.args.fusions.now in
    ap (option_map BadRange) (least_some (length ranges) c.loop-node.node (is_bad_node c.args.vertices ranges)
    (omega (arith, c.loop-node-test.true, c.requires, length-ranges_of (λ u. u.items) c.args.units.now c.args.fusions.now))
    c.loop-node.invariant.2
    (ap (list_any (is_bad_range c.args.vertices)) (sym c.ranges_at-ranges.ensures) ∙ c.in-Err.ensures.bad not_memory))
    ∙ ap Some (sym (c.in-Err.ensures.err not_memory))

pub loop-node-preserved : goal.loop-node-preserved
loop-node-preserved c =
    let ranges : List (List (ℕ × ℕ)) = ranges_of (map (λ u. u.items) c.args.units.now) c.args.fusions.now in
    let less : c.loop-node.node < length ranges =
    omega (arith, c.loop-node-test.true, c.requires, length-ranges_of (λ u. u.items) c.args.units.now c.args.fusions.now) in (
      c.in-Ok.ensures.ok
          ∙ ap (λ xs. xs ++ map (claim_of c.loop-node.node) c.ranges_at-ranges.result.now) c.loop-node.invariant.0
          ∙ ap (λ rs. claims_from 0 (take c.loop-node.node ranges) ++ map (claim_of c.loop-node.node) rs) c.ranges_at-ranges.ensures
          ∙ sym (claims_more ranges c.loop-node.node less),
      c.in-Ok.ensures.each,
      none_more c.loop-node.node (is_bad_node c.args.vertices ranges) c.loop-node.invariant.2
          (ap (list_any (is_bad_range c.args.vertices)) (sym c.ranges_at-ranges.ensures) ∙ c.in-Ok.ensures.good),
    )

pub returns-clause-good : goal.returns-clause-good
returns-clause-good c =
    let ranges : List (List (ℕ × ℕ)) = ranges_of (map (λ u. u.items) c.args.units.now) c.args.fusions.now in
    ap (option_map BadRange) (least_none (length ranges) (is_bad_node c.args.vertices ranges)
    (λ k less. c.loop-node.invariant.2 k
    (omega (arith, less, c.loop-node-test.false, c.requires, length-ranges_of (λ u. u.items) c.args.units.now c.args.fusions.now))))
