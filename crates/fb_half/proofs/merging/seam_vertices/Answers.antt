use Rattle.std.proofs.Common.{◌<◌, ◌∙◌, All, ap, length, subst, sym}
use Rattle.std.proofs.lemmas.List.{take_all}
use Rattle.std.proofs.lemmas.List.Elements.{All-filter}
use Rattle.std.specs.List.{filter}
use Rattle.fb_plan.specs.Reaches.{is_reached}
use Rattle.fb_plan.specs.Vertices.{is_node}
use Rattle.fb_half.specs.Merged.{is_owned_by}
use Rattle.fb_half.proofs.Reached.{filter_pushed, owner_read, seam_reached}
use Rattle.fb_half.proofs.merging.seam_vertices.Goals as goal

pub owner-requires : goal.owner-requires
owner-requires c =
    subst (All (λ v. v < length c.args.plan.now.owners)) (sym c.within-reached.ensures)
    (All-filter (is_reached c.reach.result) (λ v. v < length c.args.plan.now.owners) c.args.vertices.now c.requires.below)
    c.loop-v.v-index 0 c.loop-v-test.true

pub loop-v-preserved : goal.loop-v-preserved
loop-v-preserved c =
    filter_pushed (is_owned_by c.args.plan.now c.args.node) c.within-reached.result.now c.loop-v.v-index 0 c.loop-v.own _ _
    c.loop-v-test.true c.loop-v.invariant (c.eq-is_owned.ensures ∙ (owner_read c.args.node _ ∙ ap (is_node c.args.node) c.owner.ensures.value)) c.in_ok-push_if.ensures.ok

pub returns : goal.returns
returns c =
    c.into_vec.ensures
    ∙ (c.loop-v.invariant
    ∙ (ap (filter (is_owned_by c.args.plan.now c.args.node))
    (take_all c.loop-v.v-index c.within-reached.result.now c.loop-v-test.false ∙ c.within-reached.ensures)
    ∙ seam_reached c.args.plan.now c.args.node c.reach.result c.reach.ensures c.args.vertices.now))
