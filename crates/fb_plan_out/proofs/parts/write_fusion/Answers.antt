use Rattle.std.proofs.Common.{ℕ, ◌≡◌, ◌+◌, ◌∙◌, ap, subst}
use Rattle.std.specs.Prelude.{codes}
use Rattle.json.specs.Tree.{json_tokens}
use Rattle.fb_plan.specs.Plans.{join_at}
use Rattle.fb_plan_out.specs.PlanWriting.{pair_json, unit_json}
use Rattle.fb_plan_out.specs.InternalWriting.{Added}
use Rattle.fb_plan_out.proofs.Entries.{fusion_children, object_of_two}
use Rattle.fb_plan_out.proofs.parts.write_fusion.Goals as goal

pub returns : goal.returns
returns c =
    let pair : c.unwrap_or-left.result ≡ join_at c.args.plan.now.joins c.args.fusion =
    cc (c.unwrap_or-left.ensures, c.children.ensures.value, c.units.ensures, fusion_children c.args.plan.now c.args.fusion) in
    let left : c.from.result ≡ (join_at c.args.plan.now.joins c.args.fusion).0 = c.from.ensures ∙ ap (λ (p : ℕ × ℕ). p.0) pair in
    let right : c.from-2.result ≡ (join_at c.args.plan.now.joins c.args.fusion).1 = c.from-2.ensures ∙ ap (λ (p : ℕ × ℕ). p.1) pair in
    let nodes : Added c.key.new.self c.write_pair.new.writer (json_tokens (pair_json (join_at c.args.plan.now.joins c.args.fusion))) =
    subst (λ b. Added c.key.new.self c.write_pair.new.writer (json_tokens (pair_json ((join_at c.args.plan.now.joins c.args.fusion).0, b)))) right
    (subst (λ a. Added c.key.new.self c.write_pair.new.writer (json_tokens (pair_json (a, c.from-2.result)))) left c.in_ok-write_pair.ensures) in
    let seam : Added c.key-2.new.self c.write_node.new.writer (json_tokens (unit_json c.args.plan.now (c.args.plan.now.units + c.args.fusion))) =
    subst (λ u. Added c.key-2.new.self c.write_node.new.writer (json_tokens (unit_json c.args.plan.now (u + c.args.fusion)))) c.units.ensures
    c.in_ok-write_node.ensures in
    object_of_two c.args.writer.now c.begin_object.new.self c.key.new.self c.write_pair.new.writer c.key-2.new.self
    c.write_node.new.writer c.end_object.new.self (codes "of") (codes "interface")
    (json_tokens (pair_json (join_at c.args.plan.now.joins c.args.fusion)))
    (json_tokens (unit_json c.args.plan.now (c.args.plan.now.units + c.args.fusion))) c.begin_object.ensures.room.0
    c.in_ok-begin_object.ensures.ok c.key.ensures.room.0 c.in_ok-key.ensures.ok nodes c.key-2.ensures.room.0 c.in_ok-key-2.ensures.ok
    seam c.end_object.ensures.room.0 c.in_ok-end_object.ensures.ok
