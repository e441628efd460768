use Rattle.std.proofs.Common.{◌≡◌, ◌++◌, ◌∷◌, [], ◌∙◌, ap}
use Rattle.std.proofs.lemmas.Bool.{false≢true}
use Rattle.json.specs.Print.{print}
use Rattle.json.specs.Tree.{json_tokens}
use Rattle.fb_plan_out.specs.PlanWriting.{plan_json, text_of_plan}
use Rattle.fb_plan_out.proofs.Finished.{newline_utf8, plan_reads_back}
use Rattle.fb_plan_out.proofs.writer.plan_text.Goals as goal

pub unreachable-requires : goal.unreachable-requires
unreachable-requires c =
    let bytes : c.push.new.self.items ≡ print c.write_plan.new.writer.tokens ++ 10 ∷ [] =
    c.in_ok-push.ensures.items
    ∙ ap (λ xs. xs ++ 10 ∷ []) (c.into_inner-bytes.ensures.items
    ∙ ap (λ xs. xs ++ print c.write_plan.new.writer.tokens)
    (c.in_ok-write_plan.ensures.before ∙ c.new-writer.ensures.before ∙ c.new.ensures.items)) in
    false≢true (c.in_default.ensures.succeeds (newline_utf8 _ c.push.new.self.items c.into_inner-bytes.ensures.utf8 bytes))

pub returns-clause-reads_back : goal.returns-clause-reads_back
returns-clause-reads_back c valid =
    let bytes : c.push.new.self.items ≡ print c.write_plan.new.writer.tokens ++ 10 ∷ [] =
    c.in_ok-push.ensures.items
    ∙ ap (λ xs. xs ++ 10 ∷ []) (c.into_inner-bytes.ensures.items
    ∙ ap (λ xs. xs ++ print c.write_plan.new.writer.tokens)
    (c.in_ok-write_plan.ensures.before ∙ c.new-writer.ensures.before ∙ c.new.ensures.items)) in
    let text : c.push.new.self.items ≡ text_of_plan c.args.plan.now =
    bytes
    ∙ ap (λ ts. print ts ++ 10 ∷ [])
    (c.in_ok-write_plan.ensures.tokens
    ∙ ap (λ ts. ts ++ json_tokens (plan_json c.args.plan.now)) c.new-writer.ensures.tokens) in
    rw (ap (λ v. v.items) c.in-Ok.ensures.ok)
    (plan_reads_back c.args.graph.now c.args.plan.now c.push.new.self.items c.limits.ensures valid
    (newline_utf8 _ c.push.new.self.items c.into_inner-bytes.ensures.utf8 bytes) text)
