use Rattle.std.proofs.Common.{◌≡◌, inr, ap, ◌∙◌}
use Rattle.fb_graph.specs.Parity.{is_in}
use Rattle.fb_links.specs.Names.{name_by}
use Rattle.fb_half.proofs.SeamLists.{merged_all, merged_step, names_in}
use Rattle.fb_half.proofs.seams.Seams.merged.Goals as goal

pub loop-owner-init : goal.loop-owner-init
loop-owner-init c =
    let whole : c.into_iter-owner-iterator.result ≡ c.args.right.names.entries = search in
    (λ o x h. h, λ o x h. inr (ap (λ l. is_in (names_in l o) x) whole ∙ h))

pub loop-owner-preserved : goal.loop-owner-preserved
loop-owner-preserved c =
    merged_step c.args.left c.args.right c.loop-owner.seams c.list_all.new.self (name_by c.args.names.now) (name_by c.in_ok-new_names.new_names)
    c.loop-owner.owner-iterator c.next.new.self c.in-Some.owner c.in-Some.listed c.deref.result.now c.in_ok-new_names.ensures c.in-Some.ensures.steps
    c.deref.ensures.value c.in_ok-list_all.ensures c.loop-owner.invariant

pub returns-clause-left : goal.returns-clause-left
returns-clause-left c = c.loop-owner.invariant.0

pub returns-clause-right : goal.returns-clause-right
returns-clause-right c =
    merged_all c.args.left c.args.right c.loop-owner.seams (name_by c.args.names.now) c.loop-owner.owner-iterator c.in-None.ensures.steps.0 c.loop-owner.invariant
